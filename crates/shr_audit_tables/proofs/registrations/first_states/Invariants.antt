-- SPDX-License-Identifier: GPL-2.0-only
use Rattle.shr_audit_tables.specs.Registrations.{AreBlankStates}
use Rattle.shr_audit_tables.proofs.registrations.first_states.Given as goal

abbrev pub invariant-loop : goal.invariant-loop
invariant-loop l = AreBlankStates l.counter l.states.items
