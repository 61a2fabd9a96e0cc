-- SPDX-License-Identifier: GPL-2.0-only
use Rattle.shr_audit_reasons.specs.Behind.{AreBehind, HasBehinds}
use Rattle.shr_audit_reasons.proofs.behind.behinds_of.Given as goal

abbrev pub invariant-loop-n : goal.invariant-loop-n
invariant-loop-n l = record {
  lasts : AreBehind l.pool l.n l.lasts.items;
  behinds : HasBehinds l.pool l.n l.behinds.items;
}
