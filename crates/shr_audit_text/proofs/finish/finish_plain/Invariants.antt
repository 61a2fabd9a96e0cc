-- SPDX-License-Identifier: GPL-2.0-only
use Rattle.shr_audit_text.proofs.Common.{◌≡◌, map, drafted_plain}
use Rattle.shr_audit_text.proofs.finish.finish_plain.Given as goal

abbrev pub invariant-loop-draft : goal.invariant-loop-draft
invariant-loop-draft l = l.walks.items ≡ map drafted_plain l.yielded
