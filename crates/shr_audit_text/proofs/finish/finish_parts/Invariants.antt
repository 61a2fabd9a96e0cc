-- SPDX-License-Identifier: GPL-2.0-only
use Rattle.shr_audit_text.proofs.Common.{◌≡◌, map, drafted_part}
use Rattle.shr_audit_text.proofs.finish.finish_parts.Given as goal

abbrev pub invariant-loop-draft : goal.invariant-loop-draft
invariant-loop-draft l = l.parts.items ≡ map drafted_part l.yielded
