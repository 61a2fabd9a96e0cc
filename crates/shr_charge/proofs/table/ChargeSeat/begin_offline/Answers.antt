-- SPDX-License-Identifier: GPL-2.0-only
use Rattle.shr_charge.proofs.Common.{◌<◌, arith, ap, subst, ChargeSeated, ChargeToken, hierarchy_of, tree_of}
use Rattle.shr_charge.specs.Answers.{IfGiven, KnowsTree}
use Rattle.shr_charge.proofs.Giving.{begun_token, offline_knows}
use Rattle.shr_charge.proofs.table.ChargeSeat.begin_offline.Goals as goal

pub returns-clause-knows : goal.returns-clause-knows
returns-clause-knows g c = let apart = c.if-group-eq0.false in let above : 0 < c.args.group = omega (arith, apart) in let answer = c.begin_in-answer.result in let new = c.give_tree.new.token in
    subst (λ (v : ChargeSeated). IfGiven answer (KnowsTree (hierarchy_of v.charge.shape) (tree_of v) new.me.0.tree)) c.self.view_is
    (offline_knows (hierarchy_of c.self.inside.charge.now.shape) c.self.inside.token.me.0.tree new.me.0.tree c.take_tree-room.result c.args.group c.take_tree-room.ensures.shown above _ answer c.begin_in-answer.ensures.decides
    (ap (λ (t : ChargeToken). t.me.0.tree) (begun_token c.self.inside.token c.take_tree-room.new.token c.begin_in-answer.new.token new c.take_tree-room.result.items c.args.group answer c.take_tree-room.ensures.room c.begin_in-answer.ensures.view c.give_tree.ensures.given)))
