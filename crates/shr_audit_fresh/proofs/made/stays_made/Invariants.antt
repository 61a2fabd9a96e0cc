-- SPDX-License-Identifier: GPL-2.0-only
use Rattle.shr_audit_fresh.proofs.Common.{ℕ, ◌<◌, AreLeastOfGroups, StaysMadeAt}
use Rattle.shr_audit_fresh.proofs.MadeLaws.{MadeBefore}
use Rattle.shr_audit_fresh.proofs.made.stays_made.Given as goal

abbrev pub invariant-loop-number : goal.invariant-loop-number
invariant-loop-number l = record {
  firsts : AreLeastOfGroups (MadeBefore l.script l.report l.worker l.number) l.firsts;
  stays : (k : ℕ) → k < l.number → StaysMadeAt l.script l.report l.worker k;
}
