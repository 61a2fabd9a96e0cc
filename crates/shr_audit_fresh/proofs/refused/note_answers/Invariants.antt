-- SPDX-License-Identifier: GPL-2.0-only
use Rattle.shr_audit_fresh.specs.Firsts.{AreLeastOfGroups, HasNoFirsts}
use Rattle.shr_audit_fresh.proofs.RefusedLaws.{ShownBefore}
use Rattle.shr_audit_fresh.proofs.refused.note_answers.Given as goal

abbrev pub invariant-loop-number : goal.invariant-loop-number
invariant-loop-number l = HasNoFirsts l.fn.firsts → AreLeastOfGroups (ShownBefore l.report l.worker l.number) l.firsts
