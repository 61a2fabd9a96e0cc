-- SPDX-License-Identifier: GPL-2.0-only
use Rattle.shr_audit_tables.proofs.Replay.{on_more}
use Rattle.shr_audit_tables.proofs.lookups.decls_on.Goals as goal

pub loop-decl-preserved : goal.loop-decl-preserved
loop-decl-preserved c = on_more c.args.caches.now c.loop-decl.decl _ c.loop-decl.on.items c.push_on.new.on.items c.loop-decl-test.true c.loop-decl.invariant c.in_ok-push_on.ensures
