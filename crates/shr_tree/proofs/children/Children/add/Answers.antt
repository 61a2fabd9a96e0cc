-- SPDX-License-Identifier: GPL-2.0-only
use Rattle.shr_tree.proofs.Common.{◌≡◌, ◌++◌, ◌∷◌, [], map, get_or, set, ap, ◌∙◌, List, ℕ, ChildrenOfAll}
use Rattle.shr_tree.proofs.ChildrenLaws.{seen_at, seen_more, seen_within}
use Rattle.shr_tree.proofs.children.Children.add.Goals as goal

pub returns : goal.returns
returns c =
    let old = c.self.inside.lists.items in
    let at = c.args.parent in
    let same : map (λ l. l.items) old ≡ c.args.self.now.lists = ap (λ (v : ChildrenOfAll). v.lists) c.self.view_is in
    let within = seen_within (λ l. l.items) old c.args.self.now.lists at same c.requires.there in
    let value = get_or c.args.self.now.lists at [] ++ c.args.group ∷ [] in
    let before = seen_at (λ l. l.items) old at c.index_mut.result.now [] within c.index_mut.ensures.value ∙ ap (λ (ys : List (List ℕ)). get_or ys at []) same in
    let pushed : c.push-2.new.self.items ≡ set old at c.push.new.self ++ c.new.result ∷ [] = rw c.unwrap.ensures at c.push-2.ensures.items in
    ap (map (λ l. l.items)) pushed
    ∙ seen_more (λ l. l.items) old at c.index_mut.result.now c.push.new.self c.new.result value [] [] within c.index_mut.ensures.value (c.push.ensures.items ∙ ap (λ (xs : List ℕ). xs ++ c.args.group ∷ []) before) c.new.ensures.items
    ∙ ap (λ (ys : List (List ℕ)). set ys at value ++ [] ∷ []) same
