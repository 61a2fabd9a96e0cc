-- SPDX-License-Identifier: GPL-2.0-only
-- The index over the objects of another list: admitted, withdrawn again, and found at their new nodes.
use Rattle.shr_list.proofs.Common.{◌≡◌, ℕ, List, [], ◌∷◌, ◌++◌, length, take, Option, None, refl, sym, ap, subst, ◌∙◌, arith, append_assoc, append-nil, length-map, AllByRecursion, Object, Names, Keyed, objects_of, IsApart, name_by, name_in, names_of, in_nodes, KeepsFound, GainsName, TurnsName, IsIndexed, AreNewNames, Withdraws, Index, KnowsNames, MovesName, EntersNodes, take-append-le, take_all}
use Rattle.shr_list.proofs.Paths.{all_right}
use Rattle.shr_list.proofs.Indexed.{first_of, in_append, none_off, off_first, indexed_kept, indexed_pushed, indexed_removed}
use Rattle.shr_list.proofs.Known.{knows_swapped}

-- one node more, of those that come
pub admits_one : (old new : Names) (nodes kids xs ys : List Keyed) (k : ℕ) (o : Object) → kids ≡ xs ++ (k, o) ∷ ys → AreNewNames nodes kids → IsApart (names_of kids)
    → IsIndexed old (nodes ++ xs) → GainsName old new (name_by o) k → IsIndexed new (nodes ++ (xs ++ (k, o) ∷ []))
admits_one old new nodes kids xs ys k o split fresh unique indexed gains =
    let P : Keyed → Type 0 = λ n. in_nodes nodes (name_in n) ≡ None in
    let here : in_nodes nodes (name_by o) ≡ None = (all_right P xs ((k, o) ∷ ys) (subst (AllByRecursion P) split fresh)).0 in
    let off = off_first xs ys k o (subst (λ (ns : List Keyed). IsApart (names_of ns)) split unique) in
    let none : in_nodes (nodes ++ xs) (name_by o) ≡ None = in_append nodes xs (name_by o) ∙ ap (λ (found : Option ℕ). first_of found (in_nodes xs (name_by o))) here ∙ none_off xs (name_by o) off in
    rw (← append_assoc nodes xs ((k, o) ∷ [])) (indexed_pushed old new (nodes ++ xs) k o indexed none gains)

pub withdraws_none : (names : Names) → Withdraws names names []
withdraws_none names nodes rest indexed = indexed

-- one node less
pub withdraws_one : (old now new : Names) (front : List Keyed) (k : ℕ) (o : Object) → Withdraws old now front → TurnsName now new (name_by o) None
    → Withdraws old new (front ++ (k, o) ∷ [])
withdraws_one old now new front k o withdraws turns nodes rest indexed =
    let before = withdraws nodes ((k, o) ∷ rest) (subst (λ (ns : List Keyed). IsIndexed old (nodes ++ ns)) (append_assoc front ((k, o) ∷ []) rest) indexed) in
    indexed_removed now nodes rest k o before new turns

-- nodes that were admitted and withdrawn again
pub withdrawn : (old now new : Names) (nodes kids : List Keyed) → IsIndexed old (nodes ++ kids) → KeepsFound old now → Withdraws now new kids → IsIndexed new nodes
withdrawn old now new nodes kids indexed keeps withdraws =
    let kept = indexed_kept old now (nodes ++ kids) keeps indexed in
    rw append-nil at (withdraws nodes [] (rw append-nil kept))

-- the last of the objects that came to these nodes
last_moved : (front kids : List Keyed) (n : Keyed) → objects_of kids ≡ objects_of (front ++ n ∷ [])
    → (init : List Keyed) × (k : ℕ) × (kids ≡ init ++ (k, n.1) ∷ []) × (objects_of init ≡ objects_of front)
last_moved [] [] n same = absurd (cc)
last_moved [] (m ∷ []) n same = let is : m.1 ≡ n.1 = cc in ([], m.0, rw (← is) refl, refl)
last_moved [] (m ∷ l ∷ ms) n same = absurd (cc)
last_moved (f ∷ fs) [] n same = absurd (cc)
last_moved (f ∷ fs) (m ∷ ms) n same =
    let tail : objects_of ms ≡ objects_of (fs ++ n ∷ []) = cc in
    let first : m.1 ≡ f.1 = cc in
    let later = last_moved fs ms n tail in
    (m ∷ later.0, later.1, ap (λ (ns : List Keyed). m ∷ ns) later.2, rw (first, later.3) refl)

none_moved : (kids : List Keyed) → objects_of kids ≡ [] → kids ≡ []
none_moved [] none = refl
none_moved (n ∷ ns) none = absurd (cc)

pub enters_none : (index : Index) → EntersNodes index index []
enters_none index kids nodes rest same knows = rw (none_moved kids same) at knows

-- one node more is found by its name
pub enters_one : (old now new : Index) (front : List Keyed) (k : ℕ) (o : Object) → EntersNodes old now front → MovesName now new (name_by o) k → EntersNodes old new (front ++ (k, o) ∷ [])
enters_one old now new front k o enters moves kids nodes rest same knows =
    let last = last_moved front kids (k, o) same in
    let was = subst (λ (ns : List Keyed). KnowsNames old (nodes ++ ns)) (ap (λ (ks : List Keyed). ks ++ rest) last.2 ∙ append_assoc last.0 ((last.1, o) ∷ []) rest) knows in
    let before = subst (KnowsNames now) (sym (append_assoc nodes front ((last.1, o) ∷ rest))) (enters last.0 nodes ((last.1, o) ∷ rest) last.3 was) in
    let after = moves (nodes ++ front) rest last.1 o refl before in
    subst (KnowsNames new) (append_assoc nodes front ((k, o) ∷ rest) ∙ ap (λ (ns : List Keyed). nodes ++ ns) (sym (append_assoc front ((k, o) ∷ []) rest))) after

-- the objects of another list stand behind these, and are found by their names
pub knows_behind : (old new : Index) (nodes kids back : List Keyed) → objects_of back ≡ objects_of kids → KnowsNames old (nodes ++ kids) → EntersNodes old new back
    → KnowsNames new (nodes ++ back)
knows_behind old new nodes kids back same knows enters =
    let was = subst (λ (ns : List Keyed). KnowsNames old (nodes ++ ns)) (sym (append-nil kids)) knows in
    subst (λ (ns : List Keyed). KnowsNames new (nodes ++ ns)) (append-nil back) (enters kids nodes [] (sym same) was)

-- or before them
pub knows_before : (old new : Index) (nodes kids front : List Keyed) → objects_of front ≡ objects_of kids → KnowsNames old (nodes ++ kids) → EntersNodes old new front
    → KnowsNames new (front ++ nodes)
knows_before old new nodes kids front same knows enters = knows_swapped new nodes front (knows_behind old new nodes kids front same knows enters)

-- the moved nodes are the first
pub take_front : (front nodes kids : List Keyed) → objects_of front ≡ objects_of kids → take (length kids) (front ++ nodes) ≡ front
take_front front nodes kids same =
    let long : length kids ≡ length front = sym (length-map kids (λ (n : Keyed). n.1)) ∙ sym (ap length same) ∙ length-map front (λ (n : Keyed). n.1) in
    rw long (take-append-le (length front) front nodes (omega arith) ∙ take_all (length front) front (omega arith))
