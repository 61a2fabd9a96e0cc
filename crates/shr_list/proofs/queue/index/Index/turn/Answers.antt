-- SPDX-License-Identifier: GPL-2.0-only
use Rattle.shr_list.proofs.Common.{◌∷◌, ◌++◌, subst, Some, Index, TurnsName, IsIndexed, KnowsNames}
use Rattle.shr_list.proofs.Known.{made_moves, unmade_moves}
use Rattle.shr_list.proofs.queue.index.Index.turn.Goals as goal

pub returns-in-Made : goal.returns-in-Made
returns-in-Made c xs ys k o is knows =
    let old = c.in-Made.names.value in
    let indexed : IsIndexed old (xs ++ (k, o) ∷ ys) = subst (λ (i : Index). KnowsNames i (xs ++ (k, o) ∷ ys)) c.in-Made.is knows in
    let turns : TurnsName old c.turn.new.self (c.args.birth, c.args.key.now) (Some c.args.node) = rw c.deref_mut.ensures.value at c.turn.ensures in
    made_moves old c.turn.new.self (c.args.birth, c.args.key.now) c.args.node turns xs ys k o is indexed

pub returns-in_default : goal.returns-in_default
returns-in_default c = unmade_moves c.args.self.now (c.args.birth, c.args.key.now) c.args.node c.in_default.not-Made
