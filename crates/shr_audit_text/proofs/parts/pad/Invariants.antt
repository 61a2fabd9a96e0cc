-- SPDX-License-Identifier: GPL-2.0-only
use Rattle.shr_audit_text.proofs.Common.{◌≡◌, ◌++◌, replicate, drafted_parts, no_part}
use Rattle.shr_audit_text.proofs.parts.pad.Given as goal

abbrev pub invariant-loop : goal.invariant-loop
invariant-loop l = drafted_parts l.parts.items ≡ drafted_parts l.initial.parts.items ++ replicate l.counter no_part
