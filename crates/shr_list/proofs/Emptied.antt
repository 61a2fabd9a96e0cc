-- SPDX-License-Identifier: GPL-2.0-only
-- A chain whose nodes are taken away from the head on, while their links stay.
use Rattle.shr_list.proofs.Common.{◌≡◌, ◌≢◌, ℕ, List, [], ◌∷◌, ◌++◌, Option, Some, None, refl, ap, subst, ◌∙◌, option_map, AllByRecursion, Slab, get, slab_len, Object, Node, Chain, IsOff, Keyed, next_in, stop_after, IsPath, stops_of, IsLinked}
use Rattle.shr_list.proofs.Linked.{Names}

-- from this stop on these nodes follow each other
abbrev pub Leads : Slab Node → Option ℕ → List Keyed → Type 0
Leads s at [] = at ≡ None
Leads s at (n ∷ ns) = (at ≡ Some n.0) × ((node : Node) × (get s n.0 ≡ Some node) × (node.object ≡ n.1) × Leads s node.next ns)

stored_node : (o : Object) (slot : Option Node) → option_map (λ (n : Node). n.object) slot ≡ Some o → (node : Node) × (slot ≡ Some node) × (node.object ≡ o)
stored_node o None is = absurd (cc)
stored_node o (Some node) is = (node, refl, cc)

-- a path leads along its nodes
pub leads_path : (c : Chain) (a : Option ℕ) (nodes : List Keyed) → IsPath c a (stops_of nodes ++ None ∷ []) → AllByRecursion (Names c) nodes → Leads c.nodes (stop_after c a) nodes
leads_path c a [] path stored = path.0.0
leads_path c a (n ∷ ns) path stored =
    let here = stored_node n.1 (get c.nodes n.0) stored.0 in
    (path.0.0, (here.0, here.1, here.2, subst (λ (next : Option ℕ). Leads c.nodes next ns) (ap next_in here.1) (leads_path c (Some n.0) ns path.1 stored.1)))

-- nodes under other keys lead on
pub leads_kept : (old new : Slab Node) (k : ℕ) (at : Option ℕ) (nodes : List Keyed) → ((j : ℕ) → j ≢ k → get new j ≡ get old j) → IsOff (Some k) (stops_of nodes)
    → Leads old at nodes → Leads new at nodes
leads_kept old new k at [] others off leads = leads
leads_kept old new k at (n ∷ ns) others off leads =
    let here = leads.1 in
    (leads.0, (here.0, others n.0 (λ e. off.0 (ap Some e)) ∙ here.1, here.2, leads_kept old new k here.0.next ns others off.1 here.3))

-- the node that comes first, and those after it
pub leads_some : (s : Slab Node) (k : ℕ) (nodes : List Keyed) → Leads s (Some k) nodes
    → (node : Node) × (rest : List Keyed) × (get s k ≡ Some node) × (nodes ≡ (k, node.object) ∷ rest) × Leads s node.next rest
leads_some s k [] leads = absurd (let e : Some k ≡ None = leads in cc)
leads_some s k (n ∷ ns) leads =
    let here = leads.1 in
    let same : k ≡ n.0 = let e = leads.0 in cc in
    (here.0, ns, rw same here.1, rw (same, here.2) refl, here.3)

-- none is left
pub leads_none : (s : Slab Node) (nodes : List Keyed) → Leads s None nodes → nodes ≡ []
leads_none s [] leads = refl
leads_none s (n ∷ ns) leads = absurd (let e = leads.0 in cc)

-- a chain without nodes
pub linked_none : (c : Chain) → c.head ≡ None → c.tail ≡ None → slab_len c.nodes ≡ 0 → IsLinked c []
linked_none c head tail none = record { ring = ((head, tail), tt); apart = (tt, tt); stored = tt; count = none }
