-- SPDX-License-Identifier: GPL-2.0-only
use Rattle.shr_tree.proofs.Common.{◌≡◌, ℕ, Bool, true, false, List, sym, ap, subst, ◌∙◌, refl, None, is_later, Word, place_of, may_hold, not, ◌||◌, Option, Some, unwrap_or, is_parent}
use Rattle.std.specs.Option.{is_some}
use Rattle.std.specs.Cmp.Lexicographic.{same_text}
use Rattle.shr_model.specs.Paths.{root_path, parent_path}
use Rattle.shr_tree.proofs.TreeLaws.{is_hierarchy}
use Rattle.shr_tree.proofs.tree.Tree.parent_for.Goals as goal
use Rattle.shr_tree.proofs.tree.Tree.parent_for.Goals.{else-ne-via-then-ne+else-not-is_parent, else-ne-via-else-ne}
use Rattle.shr_model.proofs.Booleans.{or_true}

holds_some : (later : List Bool) (late : Bool) (o : Option ℕ) (p : ℕ) → true ≡ is_parent later late o → p ≡ unwrap_or o 0 → may_hold later late p ≡ true
holds_some later late None p t e = absurd (let c : true ≡ false = t in cc)
holds_some later late (Some g) p t e = subst (λ (k : ℕ). may_hold later late k ≡ true) (sym e) (sym t)

not_true : (b : Bool) → false ≡ not b → true ≡ b
not_true true e = refl
not_true false e = absurd (let c : false ≡ true = e in cc)

none_is : (o : Option ℕ) → false ≡ is_some o → o ≡ None
none_is None e = refl
none_is (Some x) e = absurd (let c : false ≡ true = e in cc)

root_parent : parent_path root_path ≡ root_path
unfolding parent_path
root_parent = refl

-- the root's path has no other parent, and is there
holds_root : (later : List Bool) (late : Bool) (paths : List Word) (path : Word) (o : Option ℕ) (p : ℕ) → path ≡ root_path → o ≡ place_of (parent_path path) paths → place_of path paths ≡ None → p ≡ unwrap_or o 0 → is_later later 0 ≡ false → may_hold later late p ≡ true
holds_root later late paths path o p root is none e first =
    let same : o ≡ None = is ∙ (ap (λ (w : Word). place_of (parent_path w) paths) root ∙ (ap (λ (w : Word). place_of w paths) root_parent ∙ (ap (λ (w : Word). place_of w paths) (sym root) ∙ none))) in
    let zero : p ≡ 0 = e ∙ ap (λ (x : Option ℕ). unwrap_or x 0) same in
    subst (λ (k : ℕ). may_hold later late k ≡ true) (sym zero) (or_true late (is_later later 0) first)

pub returns-clause-holds : goal.returns-clause-holds
returns-clause-holds c = elim c.else-ne.branch [
  | else-ne-via-then-ne+else-not-is_parent w ↦ holds_some c.args.self.now.later c.args.late c.place-parent.result c.unwrap_or.result w.if-not-is_parent.ensures c.unwrap_or.ensures
  | else-ne-via-else-ne w ↦ holds_root c.args.self.now.later c.args.late c.self.inside.paths c.args.path.now c.place-parent.result c.unwrap_or.result
      (same_text c.args.path.now root_path (not_true _ (w.if-ne.ensures ∙ ap (λ (l : List ℕ). not (Rattle.std.specs.Prelude.bytes_eq c.args.path.now l)) c.as_slice.ensures)))
      (c.place-parent.ensures.place ∙ ap (λ (w : Word). place_of w c.self.inside.paths) c.parent_path.ensures)
      (sym c.place.ensures.place ∙ none_is c.place.result c.if-is_some.ensures) c.unwrap_or.ensures
      (is_hierarchy c.self.inside.paths c.self.inside.groups.items c.self.inside.children.lists c.args.self.now c.self.invariant c.self.view_is).root
]
