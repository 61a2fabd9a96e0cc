-- SPDX-License-Identifier: GPL-2.0-only
use Rattle.shr_audit_tables.specs.Registrations.{NoneFree}
use Rattle.shr_audit_tables.proofs.registrations.lowest_free.Given as goal

abbrev pub invariant-loop-id : goal.invariant-loop-id
invariant-loop-id l = NoneFree l.id l.states
