-- SPDX-License-Identifier: GPL-2.0-only
-- Objects that are printed, gone through beside the nodes of a queue.
use Rattle.shr_audit_case.proofs.ReplayCommon.{◌≡◌, ◌≢◌, ℕ, Bool, true, false, List, [], ◌∷◌, ◌++◌, map, Option, Some, None, refl, sym, ap, ◌∙◌, subst, append_assoc, ◌↔◌, Decides, Object, Keyed, first_key, objects_of, IsAt, AtNode, is_none}

-- the nodes so far have the objects so far, the next one is here, and these are the objects that are left
pub record IsMatched (nodes : List Keyed) (at : Option ℕ) (printed walk : List Object) : Type 0 where
  pub before : List Keyed
  pub behind : List Keyed
  pub nodes_are : nodes ≡ before ++ behind
  pub next : at ≡ first_key behind
  pub same : (printed ≡ objects_of nodes) ↔ (walk ≡ objects_of behind)

pub matched_none : (nodes : List Keyed) (at : Option ℕ) (printed walk : List Object) → at ≡ first_key nodes → walk ≡ printed → IsMatched nodes at printed walk
matched_none nodes at printed walk e w = record { before = []; behind = nodes; nodes_are = refl; next = e; same = (λ h. w ∙ h, λ h. sym w ∙ h) }

module _ (nodes : List Keyed) (at : Option ℕ) (printed walk : List Object) (m : IsMatched nodes at printed walk) where
  pub matched_at : (k : ℕ) → at ≡ Some k → IsAt nodes k
  matched_at k is = by m.behind m.nodes_are m.next where
    by : (behind : List Keyed) → nodes ≡ m.before ++ behind → at ≡ first_key behind → IsAt nodes k
    by [] e h = cc
    by (n ∷ ns) e h = let same : k ≡ n.0 = cc in (m.before, n.1, ns, e ∙ ap (λ (key : ℕ). m.before ++ (key, n.1) ∷ ns) (sym same))

  -- an object more than there are nodes
  pub too_many : (items : List Object) → items ≡ objects_of nodes → (o : Object) (more : List Object) → walk ≡ o ∷ more → at ≡ None → Decides false (printed ≡ items)
  too_many items whole o more w none = (λ t. absurd cc, λ h. absurd (by m.behind m.next (m.same.0 (h ∙ whole)))) where
    by : (behind : List Keyed) → at ≡ first_key behind → walk ≡ objects_of behind → ⊥
    by [] e h = cc
    by (n ∷ ns) e h = cc

  -- the node here
  module _ (k : ℕ) (is : at ≡ Some k) (o : Object) (more : List Object) (w : walk ≡ o ∷ more) (b : Bool) (here : AtNode nodes k (λ xs x ys. Decides b (o ≡ x))) where
    record IsNext : Type 0 where
      object : Object
      rest : List Keyed
      nodes_are : nodes ≡ m.before ++ (k, object) ∷ rest
      behind_is : m.behind ≡ (k, object) ∷ rest

    next_node : IsNext
    next_node = by m.behind m.nodes_are m.next refl where
      by : (behind : List Keyed) → nodes ≡ m.before ++ behind → at ≡ first_key behind → m.behind ≡ behind → IsNext
      by [] e h all = cc
      by (n ∷ ns) e h all = let same : n.0 ≡ k = cc in
          let node : ◌≡◌ {A = Keyed} n (k, n.1) = ap (λ (key : ℕ). (key, n.1)) same in
          record {
            object = n.1;
            rest = ns;
            nodes_are = e ∙ ap (λ (x : Keyed). m.before ++ x ∷ ns) node;
            behind_is = all ∙ ap (λ (x : Keyed). x ∷ ns) node;
          }

    abbrev found : Decides b (o ≡ next_node.object)
    found = here m.before next_node.object next_node.rest next_node.nodes_are

    both : walk ≡ objects_of m.behind → o ∷ more ≡ next_node.object ∷ objects_of next_node.rest
    both h = sym w ∙ (h ∙ ap objects_of next_node.behind_is)

    pub other_object : (items : List Object) → items ≡ objects_of nodes → b ≡ false → Decides false (printed ≡ items)
    other_object items whole f = (λ t. absurd cc, λ h. let e = both (m.same.0 (h ∙ whole)) in let same : o ≡ next_node.object = cc in absurd (clash b (found.1 same) f)) where
      clash : (x : Bool) → x ≡ true → x ≡ false → ⊥
      clash x e f = cc

    pub matched_more : b ≡ true → (next : Option ℕ) → AtNode nodes k (λ xs x ys. next ≡ first_key ys) → IsMatched nodes next printed more
    matched_more t next follows = record {
      before = m.before ++ (k, next_node.object) ∷ [];
      behind = next_node.rest;
      nodes_are = next_node.nodes_are ∙ sym (append_assoc m.before ((k, next_node.object) ∷ []) next_node.rest);
      next = follows m.before next_node.object next_node.rest next_node.nodes_are;
      same = (
        λ h. let e = both (m.same.0 h) in (cc),
        λ h. m.same.1 (w ∙ (joined (found.0 t) h ∙ sym (ap objects_of next_node.behind_is))),
      );
    } where
      joined : {x : Object} {xs : List Object} → o ≡ x → more ≡ xs → o ∷ more ≡ x ∷ xs
      joined first rest = λ i. first i ∷ rest i

  -- no object is left
  pub matched_all : (items : List Object) → items ≡ objects_of nodes → walk ≡ [] → (b : Bool) → b ≡ is_none at → Decides b (printed ≡ items)
  matched_all items whole none b is = by m.behind m.next m.same where
    by : (behind : List Keyed) → at ≡ first_key behind → (printed ≡ objects_of nodes) ↔ (walk ≡ objects_of behind) → Decides b (printed ≡ items)
    by [] e h = (λ t. h.1 none ∙ sym whole, λ x. is ∙ ap is_none e)
    by (n ∷ ns) e h = (
      λ t. let f : b ≡ false = is ∙ ap is_none e in absurd (clash b t f),
      λ x. let y = h.0 (x ∙ whole) in let no : ◌≡◌ {A = List Object} [] (n.1 ∷ objects_of ns) = sym none ∙ y in cc,
    ) where
      clash : (x : Bool) → x ≡ true → x ≡ false → ⊥
      clash x e f = cc
