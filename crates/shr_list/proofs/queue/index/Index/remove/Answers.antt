-- SPDX-License-Identifier: GPL-2.0-only
use Rattle.shr_list.proofs.Common.{◌∷◌, ◌++◌, subst, None, Index, TurnsName, IsIndexed, KnowsNames}
use Rattle.shr_list.proofs.Known.{made_loses, unmade_loses}
use Rattle.shr_list.proofs.queue.index.Index.remove.Goals as goal

pub returns-in-Made : goal.returns-in-Made
returns-in-Made c xs ys k o is knows =
    let old = c.in-Made.names.value in
    let indexed : IsIndexed old (xs ++ (k, o) ∷ ys) = subst (λ (i : Index). KnowsNames i (xs ++ (k, o) ∷ ys)) c.in-Made.is knows in
    let turns : TurnsName old c.remove.new.self (c.args.birth, c.args.key.now) None = rw c.deref_mut.ensures.value at c.remove.ensures in
    made_loses old c.remove.new.self (c.args.birth, c.args.key.now) turns xs ys k o is indexed

pub returns-in_default : goal.returns-in_default
returns-in_default c = unmade_loses c.args.self.now (c.args.birth, c.args.key.now) c.in_default.not-Made
