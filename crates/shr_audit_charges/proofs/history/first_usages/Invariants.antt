-- SPDX-License-Identifier: GPL-2.0-only
use Rattle.shr_audit_charges.specs.History.{AreNone}
use Rattle.shr_audit_charges.proofs.history.first_usages.Given as goal

abbrev pub invariant-loop : goal.invariant-loop
invariant-loop l = AreNone l.counter l.usages.items
