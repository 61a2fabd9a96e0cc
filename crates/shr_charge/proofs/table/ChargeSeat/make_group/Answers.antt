-- SPDX-License-Identifier: GPL-2.0-only
use Rattle.shr_charge.proofs.Common.{ap, subst, ChargeSeated, ChargeToken, hierarchy_of, tree_of}
use Rattle.shr_charge.specs.Answers.{KnowsTree, MakeTells}
use Rattle.shr_charge.proofs.Giving.{made_token, group_knows, group_tells}
use Rattle.shr_charge.proofs.table.ChargeSeat.make_group.Goals as goal

pub returns-clause-tells : goal.returns-clause-tells
returns-clause-tells g c = let answer = c.make_in-answer.result in let new = c.give_tree.new.token in
    subst (λ (v : ChargeSeated). MakeTells (hierarchy_of v.charge.shape) c.args.group answer (tree_of v) new.me.0.tree.known) c.self.view_is
    (group_tells (hierarchy_of c.self.inside.charge.now.shape) c.self.inside.token.me.0.tree new.me.0.tree c.take_tree-room.result c.args.group c.take_tree-room.ensures.shown _ answer c.make_in-answer.ensures.settles
    (ap (λ (t : ChargeToken). t.me.0.tree) (made_token c.self.inside.token c.take_tree-room.new.token c.make_in-answer.new.token new c.take_tree-room.result.items c.args.group answer c.take_tree-room.ensures.room c.make_in-answer.ensures.view c.give_tree.ensures.given)))

pub returns-clause-knows : goal.returns-clause-knows
returns-clause-knows g c = let answer = c.make_in-answer.result in let new = c.give_tree.new.token in
    subst (λ (v : ChargeSeated). KnowsTree (hierarchy_of v.charge.shape) (tree_of v) new.me.0.tree) c.self.view_is
    (group_knows (hierarchy_of c.self.inside.charge.now.shape) c.self.inside.token.me.0.tree new.me.0.tree c.take_tree-room.result c.args.group c.take_tree-room.ensures.shown _ answer c.make_in-answer.ensures.settles
    (ap (λ (t : ChargeToken). t.me.0.tree) (made_token c.self.inside.token c.take_tree-room.new.token c.make_in-answer.new.token new c.take_tree-room.result.items c.args.group answer c.take_tree-room.ensures.room c.make_in-answer.ensures.view c.give_tree.ensures.given)))
