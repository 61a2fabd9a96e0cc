-- SPDX-License-Identifier: GPL-2.0-only
-- Look-ups by birth group and key, and the index over the changes of a list.
use Rattle.shr_list.proofs.Common.{◌≡◌, ◌≢◌, ℕ, true, false, ◌==◌, List, [], ◌∷◌, ◌++◌, Option, Some, None, refl, sym, ap, subst, ◌∙◌, inl, inr, map-append, eqb-true, cases_Bool, IsSome, is_some, bytes_eq, if◌then◌else◌, bytes_decides, find, list_any, Object, is_named, Names, Keyed, objects_of, key_named, IsOff, IsApart, Name, name_by, name_in, names_of, is_same, in_nodes, PutsNode, KeepsFound, GainsName, TurnsName, IsIndexed, AreNewNames, AreStrangers, and_true, each_weaker, or_parts, change_first, without_first}
use Rattle.shr_list.proofs.Paths.{all_append, AreOff, apart_left, apart_right, apart_across, apart_append, off_each}
use Rattle.shr_list.proofs.Fitting.{fits_alike}
use Rattle.shr_model.proofs.Booleans.{itself}

-- an object is named so exactly where this is its name
pub named_is : (birth : ℕ) (key : List ℕ) (o : Object) → is_named birth key o ≡ true → name_by o ≡ (birth, key)
named_is birth key o named =
    let parts = and_true (o.birth == birth) (bytes_eq o.key key) named in
    rw (eqb-true o.birth birth parts.0, (bytes_decides o.key key).0 parts.1) refl

pub named_itself : (o : Object) → is_named o.birth o.key o ≡ true
named_itself o = rw (itself o.birth, (bytes_decides o.key o.key).1 refl) refl

-- an object that is not so named has another name
pub unnamed_is : (birth : ℕ) (key : List ℕ) (o : Object) → is_named birth key o ≡ false → name_by o ≢ (birth, key)
unnamed_is birth key o not e = let named = subst (λ (n : Name). is_named n.0 n.1 o ≡ true) e (named_itself o) in absurd (cc)

-- the first node that is named so: what a look, a change and a drop make of the objects
pub record FoundAt (birth : ℕ) (key : List ℕ) (nodes : List Keyed) (k : ℕ) : Type 0 where
  pub before : List Keyed
  pub object : Object
  pub after : List Keyed
  pub split : nodes ≡ before ++ (k, object) ∷ after
  pub named : is_named birth key object ≡ true
  pub found : find (is_named birth key) (objects_of nodes) ≡ Some object
  pub some : list_any (is_named birth key) (objects_of nodes) ≡ true
  pub changed : (change : Object → Object) → change_first (is_named birth key) change (objects_of nodes) ≡ objects_of (before ++ (k, change object) ∷ after)
  pub removed : without_first (is_named birth key) (objects_of nodes) ≡ objects_of (before ++ after)

-- a search by name finds a node with that name
pub found_at : (birth : ℕ) (key : List ℕ) (nodes : List Keyed) (k : ℕ) → key_named birth key nodes ≡ Some k → FoundAt birth key nodes k
found_at birth key [] k is = absurd (cc)
found_at birth key (n ∷ ns) k is = elim (cases_Bool (is_named birth key n.1)) [
  | inl hit ↦
      let first = rw hit at is in
      let same : n.0 ≡ k = cc in
      record {
        before = [];
        object = n.1;
        after = ns;
        split = rw (← same) refl;
        named = hit;
        found = rw hit refl;
        some = rw hit refl;
        changed = λ change. rw hit refl;
        removed = rw hit refl;
      }
  | inr miss ↦
      let later = found_at birth key ns k (rw miss at is) in
      record {
        before = n ∷ later.before;
        object = later.object;
        after = later.after;
        split = ap (λ (ms : List Keyed). n ∷ ms) later.split;
        named = later.named;
        found = rw miss later.found;
        some = rw miss later.some;
        changed = λ change. rw miss (ap (λ (os : List Object). n.1 ∷ os) (later.changed change));
        removed = rw miss (ap (λ (os : List Object). n.1 ∷ os) later.removed);
      }
]

-- and where none is
pub none_at : (birth : ℕ) (key : List ℕ) (nodes : List Keyed) → key_named birth key nodes ≡ None → list_any (is_named birth key) (objects_of nodes) ≡ false
none_at birth key [] is = refl
none_at birth key (n ∷ ns) is = elim (cases_Bool (is_named birth key n.1)) [
  | inl hit ↦ let first = rw hit at is in absurd (cc)
  | inr miss ↦ rw miss (none_at birth key ns (rw miss at is))
]

-- a name is found exactly where an object has it
pub held_at : (birth : ℕ) (key : List ℕ) (nodes : List Keyed) → is_some (key_named birth key nodes) ≡ list_any (is_named birth key) (objects_of nodes)
held_at birth key [] = refl
held_at birth key (n ∷ ns) = elim (cases_Bool (is_named birth key n.1)) [
  | inl hit ↦ rw hit refl
  | inr miss ↦ rw miss (held_at birth key ns)
]

some_is : (found : Option ℕ) → IsSome found → is_some found ≡ true
some_is None some = absurd (cc)
some_is (Some k) some = refl

-- a name that is found an object has
pub held_found : (nodes : List Keyed) (name : Name) → IsSome (in_nodes nodes name) → list_any (is_named name.0 name.1) (objects_of nodes) ≡ true
held_found nodes name some = sym (held_at name.0 name.1 nodes) ∙ some_is (in_nodes nodes name) some

-- a name that is not held is off the names
pub off_unheld : (birth : ℕ) (key : List ℕ) (nodes : List Keyed) → list_any (is_named birth key) (objects_of nodes) ≡ false → IsOff (birth, key) (names_of nodes)
off_unheld birth key [] none = tt
off_unheld birth key (n ∷ ns) none =
    let apart = or_parts (is_named birth key n.1) (list_any (is_named birth key) (objects_of ns)) none in
    (unnamed_is birth key n.1 apart.0, off_unheld birth key ns apart.1)

-- a name that is not found is off the names
pub off_none : (nodes : List Keyed) (name : Name) → in_nodes nodes name ≡ None → IsOff name (names_of nodes)
off_none nodes name none = off_unheld name.0 name.1 nodes (none_at name.0 name.1 nodes none)

-- a name that is off the names is not found
pub none_off : (nodes : List Keyed) (name : Name) → IsOff name (names_of nodes) → in_nodes nodes name ≡ None
none_off [] name off = refl
none_off (n ∷ ns) name off = elim (cases_Bool (is_named name.0 name.1 n.1)) [
  | inl hit ↦ absurd (off.0 (named_is name.0 name.1 n.1 hit))
  | inr miss ↦ rw miss (none_off ns name off.1)
]

-- an object with another name is not named so
pub unnamed : (o : Object) (other : Name) → other ≢ name_by o → is_named other.0 other.1 o ≡ false
unnamed o other ne = elim (cases_Bool (is_named other.0 other.1 o)) [
  | inl hit ↦ absurd (ne (sym (named_is other.0 other.1 o hit)))
  | inr miss ↦ miss
]

-- ---- what is found over changes of the nodes

-- a node of a new name at the tail
pub puts_last : (xs : List Keyed) (k : ℕ) (o : Object) → IsOff (name_by o) (names_of xs) → PutsNode (in_nodes xs) (in_nodes (xs ++ (k, o) ∷ [])) (name_by o) (Some k)
puts_last xs k o off = record { here = here xs off; others = others xs }
  where
    here : (ns : List Keyed) → IsOff (name_by o) (names_of ns) → in_nodes (ns ++ (k, o) ∷ []) (name_by o) ≡ Some k
    here [] off = rw (named_itself o) refl
    here (n ∷ ns) off = rw (unnamed n.1 (name_by o) (λ e. off.0 (sym e))) (here ns off.1)

    others : (ns : List Keyed) (other : Name) → other ≢ name_by o → in_nodes (ns ++ (k, o) ∷ []) other ≡ in_nodes ns other
    others [] other ne = rw (unnamed o other ne) refl
    others (n ∷ ns) other ne = ap (λ (rest : Option ℕ). if is_named other.0 other.1 n.1 then Some n.0 else rest) (others ns other ne)

-- a node that is gone
pub puts_gone : (xs ys : List Keyed) (k : ℕ) (o : Object) → IsOff (name_by o) (names_of (xs ++ ys)) → PutsNode (in_nodes (xs ++ (k, o) ∷ ys)) (in_nodes (xs ++ ys)) (name_by o) None
puts_gone xs ys k o off = record { here = none_off (xs ++ ys) (name_by o) off; others = others xs }
  where
    others : (ns : List Keyed) (other : Name) → other ≢ name_by o → in_nodes (ns ++ ys) other ≡ in_nodes (ns ++ (k, o) ∷ ys) other
    others [] other ne = rw (unnamed o other ne) refl
    others (n ∷ ns) other ne = ap (λ (rest : Option ℕ). if is_named other.0 other.1 n.1 then Some n.0 else rest) (others ns other ne)

-- another key for an object of the same name
pub puts_turned : (xs ys : List Keyed) (k m : ℕ) (o p : Object) → name_by p ≡ name_by o → IsOff (name_by o) (names_of xs)
    → PutsNode (in_nodes (xs ++ (k, o) ∷ ys)) (in_nodes (xs ++ (m, p) ∷ ys)) (name_by o) (Some m)
puts_turned xs ys k m o p same off = record { here = here xs off; others = others xs }
  where
    here : (ns : List Keyed) → IsOff (name_by o) (names_of ns) → in_nodes (ns ++ (m, p) ∷ ys) (name_by o) ≡ Some m
    here [] off = let named = subst (λ (n : Name). is_named n.0 n.1 p ≡ true) same (named_itself p) in rw named refl
    here (n ∷ ns) off = rw (unnamed n.1 (name_by o) (λ e. off.0 (sym e))) (here ns off.1)

    others : (ns : List Keyed) (other : Name) → other ≢ name_by o → in_nodes (ns ++ (m, p) ∷ ys) other ≡ in_nodes (ns ++ (k, o) ∷ ys) other
    others [] other ne = rw (unnamed o other ne, unnamed p other (λ e. ne (e ∙ same))) refl
    others (n ∷ ns) other ne = ap (λ (rest : Option ℕ). if is_named other.0 other.1 n.1 then Some n.0 else rest) (others ns other ne)

-- an object of the same name in its place
same_changed : (xs ys : List Keyed) (k : ℕ) (o p : Object) → name_by p ≡ name_by o → (other : Name) → in_nodes (xs ++ (k, p) ∷ ys) other ≡ in_nodes (xs ++ (k, o) ∷ ys) other
same_changed [] ys k o p same other = ap (λ (name : Name). if is_same name other then Some k else in_nodes ys other) same
same_changed (n ∷ ns) ys k o p same other = ap (λ (rest : Option ℕ). if is_named other.0 other.1 n.1 then Some n.0 else rest) (same_changed ns ys k o p same other)

-- the first that there is
abbrev pub first_of : Option ℕ → Option ℕ → Option ℕ
first_of None rest = rest
first_of (Some k) rest = Some k

first_none : (found : Option ℕ) → first_of found None ≡ found
first_none None = refl
first_none (Some k) = refl

-- what is found in the one list or else in the other
pub in_append : (xs ys : List Keyed) (name : Name) → in_nodes (xs ++ ys) name ≡ first_of (in_nodes xs name) (in_nodes ys name)
in_append [] ys name = refl
in_append (x ∷ xs) ys name = elim (cases_Bool (is_named name.0 name.1 x.1)) [
  | inl hit ↦ rw hit refl
  | inr miss ↦ rw miss (in_append xs ys name)
]

found_off : (xs : List Keyed) (zs : List Name) (name : Name) (k : ℕ) → AreOff (names_of xs) zs → in_nodes xs name ≡ Some k → IsOff name zs
found_off [] zs name k across is = absurd (cc)
found_off (x ∷ xs) zs name k across is = elim (cases_Bool (is_named name.0 name.1 x.1)) [
  | inl hit ↦ subst (λ (n : Name). IsOff n zs) (named_is name.0 name.1 x.1 hit) across.0
  | inr miss ↦ found_off xs zs name k across.1 (rw miss at is)
]

same_swapped : (xs ys : List Keyed) → IsApart (names_of (xs ++ ys)) → (name : Name) → in_nodes (ys ++ xs) name ≡ in_nodes (xs ++ ys) name
same_swapped xs ys unique name = rw (in_append xs ys name, in_append ys xs name) (go (in_nodes xs name) refl)
  where
    across : AreOff (names_of xs) (names_of ys)
    across = apart_across (names_of xs) (names_of ys) (rw (map-append name_in xs ys) at unique)

    go : (found : Option ℕ) → in_nodes xs name ≡ found → first_of (in_nodes ys name) found ≡ first_of found (in_nodes ys name)
    go None is = first_none (in_nodes ys name)
    go (Some k) is = rw (none_off ys name (found_off xs (names_of ys) name k across is)) refl

pub unique_swapped : (xs ys : List Name) → IsApart (xs ++ ys) → IsApart (ys ++ xs)
unique_swapped xs ys unique = apart_append ys xs (apart_right xs ys unique) (apart_left xs ys unique) (turned xs ys (apart_across xs ys unique))
  where
    none_left : (ns : List Name) → AreOff ns []
    none_left [] = tt
    none_left (n ∷ ns) = (tt, none_left ns)

    one_more : (n : Name) (ms ns : List Name) → IsOff n ms → AreOff ms ns → AreOff ms (n ∷ ns)
    one_more n [] ns off rest = tt
    one_more n (m ∷ ms) ns off rest = ((λ e. off.0 (sym e), rest.0), one_more n ms ns off.1 rest.1)

    turned : (ns ms : List Name) → AreOff ns ms → AreOff ms ns
    turned [] ms across = none_left ms
    turned (n ∷ ns) ms across = one_more n ms ns across.0 (turned ns ms across.1)

-- ---- the rule over changes of the nodes

-- an index of the same nodes in the other order
pub indexed_swapped : (names : Names) (xs ys : List Keyed) → IsIndexed names (xs ++ ys) → IsIndexed names (ys ++ xs)
indexed_swapped names xs ys indexed =
    record {
      unique = rw (map-append name_in ys xs) (unique_swapped (names_of xs) (names_of ys) (rw (map-append name_in xs ys) at indexed.unique));
      fits = fits_alike names (in_nodes (xs ++ ys)) (in_nodes (ys ++ xs)) (same_swapped xs ys indexed.unique) indexed.fits;
    }

-- an index that keeps what it found
pub indexed_kept : (old new : Names) (nodes : List Keyed) → KeepsFound old new → IsIndexed old nodes → IsIndexed new nodes
indexed_kept old new nodes keeps indexed = record { unique = indexed.unique; fits = keeps (in_nodes nodes) indexed.fits }

-- the name is apart from those before it
pub unique_last : (nodes : List Keyed) (k : ℕ) (o : Object) → IsApart (names_of nodes) → IsOff (name_by o) (names_of nodes) → IsApart (names_of (nodes ++ (k, o) ∷ []))
unique_last nodes k o unique off =
    rw (map-append name_in nodes ((k, o) ∷ [])) (apart_append (names_of nodes) (name_by o ∷ []) unique (tt, tt) (off_each (name_by o) (names_of nodes) off))

-- the name of a node is off those before it
pub off_first : (xs ys : List Keyed) (k : ℕ) (o : Object) → IsApart (names_of (xs ++ (k, o) ∷ ys)) → IsOff (name_by o) (names_of xs)
off_first xs ys k o unique =
    firsts (names_of xs) (apart_across (names_of xs) (name_by o ∷ names_of ys) (rw (map-append name_in xs ((k, o) ∷ ys)) at unique))
  where
    firsts : (ns : List Name) → AreOff ns (name_by o ∷ names_of ys) → IsOff (name_by o) ns
    firsts [] off = tt
    firsts (n ∷ ns) off = (λ e. off.0.0 (sym e), firsts ns off.1)

-- a node of a new name stands at the tail
pub indexed_pushed : (old new : Names) (nodes : List Keyed) (k : ℕ) (o : Object) → IsIndexed old nodes → in_nodes nodes (name_by o) ≡ None
    → GainsName old new (name_by o) k → IsIndexed new (nodes ++ (k, o) ∷ [])
indexed_pushed old new nodes k o indexed none gains =
    let off = off_none nodes (name_by o) none in
    record {
      unique = unique_last nodes k o indexed.unique off;
      fits = gains (in_nodes nodes) (in_nodes (nodes ++ (k, o) ∷ [])) indexed.fits none (puts_last nodes k o off);
    }

-- where no two of the nodes have one name
module _ (xs ys : List Keyed) (k : ℕ) (o : Object) (unique : IsApart (names_of (xs ++ (k, o) ∷ ys))) where
  unique_at : IsApart (names_of xs ++ name_by o ∷ names_of ys)
  unique_at = rw (map-append name_in xs ((k, o) ∷ ys)) at unique

  off_before : IsOff (name_by o) (names_of xs)
  off_before = off_first xs ys k o unique

  off_both : IsOff (name_by o) (names_of (xs ++ ys))
  off_both =
      rw (map-append name_in xs ys)
      (all_append (λ (t : Name). t ≢ name_by o) (names_of xs) (names_of ys) off_before (apart_right (names_of xs) (name_by o ∷ names_of ys) unique_at).0)

  pub unique_both : IsApart (names_of (xs ++ ys))
  unique_both =
      rw (map-append name_in xs ys)
      (apart_append (names_of xs) (names_of ys) (apart_left (names_of xs) (name_by o ∷ names_of ys) unique_at)
      (apart_right (names_of xs) (name_by o ∷ names_of ys) unique_at).1
      (each_weaker (λ (t : Name). IsOff t (name_by o ∷ names_of ys)) (λ (t : Name). IsOff t (names_of ys)) (λ t off. off.1) (names_of xs)
      (apart_across (names_of xs) (name_by o ∷ names_of ys) unique_at)))

  pub unique_changed : (m : ℕ) (p : Object) → name_by p ≡ name_by o → IsApart (names_of (xs ++ (m, p) ∷ ys))
  unique_changed m p same =
      rw (map-append name_in xs ((m, p) ∷ ys) ∙ ap (λ (n : Name). names_of xs ++ n ∷ names_of ys) same ∙ sym (map-append name_in xs ((k, o) ∷ ys))) unique

  pub unique_rotated : (p : Object) → name_by p ≡ name_by o → IsApart (names_of ((xs ++ ys) ++ (k, p) ∷ []))
  unique_rotated p same = unique_last (xs ++ ys) k p unique_both (rw same off_both)

module _ (names : Names) (xs ys : List Keyed) (k : ℕ) (o : Object) (indexed : IsIndexed names (xs ++ (k, o) ∷ ys)) where
  there : IsSome (in_nodes (xs ++ (k, o) ∷ ys) (name_by o))
  there = rw (puts_turned xs ys k k o o refl (off_before xs ys k o indexed.unique)).here refl

  -- the node and its name are gone
  pub indexed_removed : (new : Names) → TurnsName names new (name_by o) None → IsIndexed new (xs ++ ys)
  indexed_removed new turns =
      record {
        unique = unique_both xs ys k o indexed.unique;
        fits = turns (in_nodes (xs ++ (k, o) ∷ ys)) (in_nodes (xs ++ ys)) indexed.fits there (puts_gone xs ys k o (off_both xs ys k o indexed.unique));
      }

  -- an object of the same name has another node
  pub indexed_turned : (new : Names) (m : ℕ) (p : Object) → name_by p ≡ name_by o → TurnsName names new (name_by o) (Some m) → IsIndexed new (xs ++ (m, p) ∷ ys)
  indexed_turned new m p same turns =
      record {
        unique = unique_changed xs ys k o indexed.unique m p same;
        fits = turns (in_nodes (xs ++ (k, o) ∷ ys)) (in_nodes (xs ++ (m, p) ∷ ys)) indexed.fits there (puts_turned xs ys k m o p same (off_before xs ys k o indexed.unique));
      }

  -- the node has an object of the same name
  pub indexed_changed : (p : Object) → name_by p ≡ name_by o → IsIndexed names (xs ++ (k, p) ∷ ys)
  indexed_changed p same =
      record {
        unique = unique_changed xs ys k o indexed.unique k p same;
        fits = fits_alike names (in_nodes (xs ++ (k, o) ∷ ys)) (in_nodes (xs ++ (k, p) ∷ ys)) (same_changed xs ys k o p same) indexed.fits;
      }

  -- the node stands at the tail, with an object of the same name
  pub indexed_rotated : (p : Object) → name_by p ≡ name_by o → IsIndexed names ((xs ++ ys) ++ (k, p) ∷ [])
  indexed_rotated p same =
      record {
        unique = unique_rotated xs ys k o indexed.unique p same;
        fits = fits_alike names (in_nodes (xs ++ (k, o) ∷ ys)) (in_nodes ((xs ++ ys) ++ (k, p) ∷ [])) alike indexed.fits;
      }
    where
      both : IsOff (name_by o) (names_of (xs ++ ys))
      both = off_both xs ys k o indexed.unique

      alike : (other : Name) → in_nodes ((xs ++ ys) ++ (k, p) ∷ []) other ≡ in_nodes (xs ++ (k, o) ∷ ys) other
      alike other =
          let last = puts_last (xs ++ ys) k p (rw same both) in
          elim (cases_Bool (is_named other.0 other.1 o)) [
            | inl hit ↦
                let is = named_is other.0 other.1 o hit in
                rw (← is) (ap (in_nodes ((xs ++ ys) ++ (k, p) ∷ [])) (sym same) ∙ last.here ∙ sym (puts_turned xs ys k k o o refl (off_before xs ys k o indexed.unique)).here)
            | inr miss ↦
                let ne = unnamed_is other.0 other.1 o miss in
                last.others other (λ e. ne (sym (e ∙ same))) ∙ (puts_gone xs ys k o both).others other (λ e. ne (sym e))
          ]

-- nodes with the same objects have the same names
pub names_alike : (xs ys : List Keyed) → objects_of xs ≡ objects_of ys → names_of xs ≡ names_of ys
names_alike [] [] same = refl
names_alike [] (y ∷ ys) same = absurd (cc)
names_alike (x ∷ xs) [] same = absurd (cc)
names_alike (x ∷ xs) (y ∷ ys) same =
    let first : x.1 ≡ y.1 = cc in
    let others : objects_of xs ≡ objects_of ys = cc in
    rw (first, names_alike xs ys others) refl

-- nodes of two lists, no two of which have one name
module _ (nodes kids : List Keyed) (strangers : AreStrangers nodes kids) where
  across : (ms : List Keyed) → AreNewNames nodes ms → AreOff (names_of ms) (names_of nodes)
  across [] fresh = tt
  across (m ∷ ms) fresh = (off_none nodes (name_in m) fresh.0, across ms fresh.1)

  unique_names : IsApart (names_of kids ++ names_of nodes)
  unique_names = apart_append (names_of kids) (names_of nodes) strangers.others strangers.unique (across kids strangers.fresh)

  -- in one list, with other keys for the objects of the second, before or behind the first
  pub unique_before : (front : List Keyed) → objects_of front ≡ objects_of kids → IsApart (names_of (front ++ nodes))
  unique_before front same = rw (map-append name_in front nodes, names_alike front kids same) unique_names

  pub unique_behind : (back : List Keyed) → objects_of back ≡ objects_of kids → IsApart (names_of (nodes ++ back))
  unique_behind back same = rw (map-append name_in nodes back, names_alike back kids same) (unique_swapped (names_of kids) (names_of nodes) unique_names)
