-- SPDX-License-Identifier: GPL-2.0-only
use Rattle.shr_audit_rows.proofs.Common.{◌≡◌, false, List, PoolEntry, is_live_below, Stands}
use Rattle.shr_audit_rows.proofs.pooled.Pooled.is_live.Given as goal

abbrev pub invariant-loop-id : goal.invariant-loop-id
invariant-loop-id l = (es : List PoolEntry) → Stands es l.self.phases.items l.self.decls.items → is_live_below l.decl l.id es ≡ false
