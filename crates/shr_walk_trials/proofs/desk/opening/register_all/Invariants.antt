-- SPDX-License-Identifier: GPL-2.0-only
use Rattle.std.proofs.Common.{◌≡◌}
use Rattle.shr_walk_trials.proofs.desk.opening.register_all.Given as goal

abbrev pub invariant-loop-decl : goal.invariant-loop-decl
invariant-loop-decl g l = l.worker.shared ≡ l.fn.worker.shared
