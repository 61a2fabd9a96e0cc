-- SPDX-License-Identifier: GPL-2.0-only
-- The nodes of a queue, gone through from the head.
use Rattle.shr_audit_case.proofs.ReplayCommon.{◌≡◌, ℕ, ◌+◌, ◌≤◌, ◌⊎◌, inl, inr, List, [], ◌∷◌, ◌++◌, map, length, Option, Some, None, refl, sym, ap, ◌∙◌, arith, append_assoc, append-nil, length-append, Keyed, first_key, objects_of, IsAt, AtNode, Tag, tag_of, map-append}

-- so many nodes were met, these are their tags, and the next one is here
pub record IsListed (nodes : List Keyed) (at : Option ℕ) (met : ℕ) (tags : List Tag) : Type 0 where
  pub before : List Keyed
  pub behind : List Keyed
  pub nodes_are : nodes ≡ before ++ behind
  pub count : length before ≡ met
  pub next : at ≡ first_key behind
  pub tags_are : tags ≡ map tag_of (objects_of before)

-- at the head
pub listed_none : (nodes : List Keyed) (at : Option ℕ) (tags : List Tag) → at ≡ first_key nodes → tags ≡ [] → IsListed nodes at 0 tags
listed_none nodes at tags e none = record { before = []; behind = nodes; nodes_are = refl; count = refl; next = e; tags_are = none }

-- the node that is next is at its key, and behind it stands the next one
pub node_here : (nodes : List Keyed) (k met : ℕ) (tags : List Tag) → IsListed nodes (Some k) met tags → IsAt nodes k
node_here nodes k met tags l = by l.behind l.nodes_are l.next where
  by : (behind : List Keyed) → nodes ≡ l.before ++ behind → Some k ≡ first_key behind → IsAt nodes k
  by [] e h = cc
  by (n ∷ ns) e h = let same : k ≡ n.0 = cc in (l.before, n.1, ns, e ∙ ap (λ (key : ℕ). l.before ++ (key, n.1) ∷ ns) (sym same))

-- one more node
pub listed_more : (nodes : List Keyed) (k met : ℕ) (tags : List Tag) (next : Option ℕ) (tag : Tag) → IsListed nodes (Some k) met tags → AtNode nodes k (λ xs o ys. next ≡ first_key ys) → AtNode nodes k (λ xs o ys. tag ≡ tag_of o)
    → IsListed nodes next (met + 1) (tags ++ tag ∷ [])
listed_more nodes k met tags next tag l follows here = by l.behind l.nodes_are l.next where
  by : (behind : List Keyed) → nodes ≡ l.before ++ behind → Some k ≡ first_key behind → IsListed nodes next (met + 1) (tags ++ tag ∷ [])
  by [] e h = cc
  by (n ∷ ns) e h = let same : k ≡ n.0 = cc in
      let split : nodes ≡ l.before ++ (k, n.1) ∷ ns = e ∙ ap (λ (key : ℕ). l.before ++ (key, n.1) ∷ ns) (sym same) in record {
        before = l.before ++ n ∷ [];
        behind = ns;
        nodes_are = e ∙ sym (append_assoc l.before (n ∷ []) ns);
        count = omega (arith, length-append l.before (n ∷ []), l.count);
        next = follows l.before n.1 ns split;
        tags_are = ap (λ (ts : List Tag). ts ++ tag ∷ []) l.tags_are ∙ (ap (λ (t : Tag). map tag_of (objects_of l.before) ++ t ∷ []) (here l.before n.1 ns split)
            ∙ sym (ap (map tag_of) (map-append (λ (m : Keyed). m.1) l.before (n ∷ [])) ∙ map-append tag_of (objects_of l.before) (n.1 ∷ [])));
      }

-- all nodes
pub listed_all : (nodes : List Keyed) (at : Option ℕ) (met : ℕ) (tags : List Tag) → IsListed nodes at met tags → (at ≡ None) ⊎ (length nodes ≤ met) → tags ≡ map tag_of (objects_of nodes)
listed_all nodes at met tags l done = l.tags_are ∙ ap (λ (ns : List Keyed). map tag_of (objects_of ns)) (sym (l.nodes_are ∙ (ap (λ (ns : List Keyed). l.before ++ ns) (none l.behind l.nodes_are l.next done) ∙ append-nil l.before))) where
  none : (behind : List Keyed) → nodes ≡ l.before ++ behind → at ≡ first_key behind → (at ≡ None) ⊎ (length nodes ≤ met) → behind ≡ []
  none [] e h d = refl
  none (n ∷ ns) e h (inl gone) = cc
  none (n ∷ ns) e h (inr long) = absurd (omega (arith, long, l.count, ap length e, length-append l.before (n ∷ ns)))
