-- SPDX-License-Identifier: GPL-2.0-only
use Rattle.shr_audit_tables.proofs.Common.{◌≡◌, take, on_from}
use Rattle.shr_audit_tables.proofs.lookups.decls_on.Given as goal

abbrev pub invariant-loop-decl : goal.invariant-loop-decl
invariant-loop-decl l = l.on.items ≡ on_from 0 (take l.decl l.caches)
