-- SPDX-License-Identifier: GPL-2.0-only
use Rattle.std.proofs.Common.{◌∙◌, sym}
use Rattle.shr_audit_reasons.proofs.Phases.{next_found, next_more, next_past}
use Rattle.shr_audit_reasons.proofs.cites.next_of.Goals as goal

pub loop-n-preserved : goal.loop-n-preserved
loop-n-preserved c = next_more c.args.pool.now c.args.id c.args.from c.loop-n.n _ c.loop-n-test.true (λ same. c.if-id_of-id.false (c.id_of.ensures ∙ same)) c.loop-n.invariant

pub returns-then-id_of-id : goal.returns-then-id_of-id
returns-then-id_of-id c = next_found c.args.pool.now c.args.id c.args.from c.loop-n.n _ c.loop-n.auto.n c.loop-n-test.true (sym c.id_of.ensures ∙ c.if-id_of-id.true) c.loop-n.invariant

pub returns : goal.returns
returns c = next_past c.args.pool.now c.args.id c.args.from c.loop-n.n c.loop-n-test.false c.loop-n.invariant
