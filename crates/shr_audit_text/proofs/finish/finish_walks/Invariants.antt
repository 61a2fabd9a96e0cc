-- SPDX-License-Identifier: GPL-2.0-only
use Rattle.shr_audit_text.proofs.Common.{◌≡◌, map, drafted_walk}
use Rattle.shr_audit_text.proofs.finish.finish_walks.Given as goal

abbrev pub invariant-loop-draft : goal.invariant-loop-draft
invariant-loop-draft l = l.walks.items ≡ map drafted_walk l.yielded
