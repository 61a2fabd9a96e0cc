-- SPDX-License-Identifier: GPL-2.0-only
use Rattle.shr_audit_text.proofs.Common.{◌≡◌, map, drafted_pool}
use Rattle.shr_audit_text.proofs.finish.finish_units.Given as goal

abbrev pub invariant-loop-draft : goal.invariant-loop-draft
invariant-loop-draft l = l.ends.items ≡ map drafted_pool l.yielded
