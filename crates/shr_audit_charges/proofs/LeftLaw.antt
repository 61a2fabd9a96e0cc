-- SPDX-License-Identifier: GPL-2.0-only
-- The keys of operations and of objects that are left, counted by their groups.
use Rattle.shr_audit_charges.proofs.Common.{◌≡◌, ◌≢◌, ℕ, ◌+◌, ◌/◌, ◌<◌, ◌≤◌, ◌⊎◌, inl, inr, Bool, true, false, not, cond, List, [], ◌∷◌, ◌++◌, length, map, refl, sym, ap, subst, ◌∙◌, arith, ne_eqb, eq-eqb, ◌==◌, flat_map, sum_by, Decides, AllByRecursion, cases_eq, cases_lt, Decides-like, ints, sum_by-cons, PlaceEnd, UseStep, Object, Serial, ups, downs, is_at_or_above, born_below, IsTree, path_of, Report, journals_of, AreBalanced, group_uses, tag_keys, left_keys, AreFinal, own_key, keys_with, start_of, up_keys, down_keys, items_of, left_below, all_both}
use Rattle.shr_audit_case.specs.Tags.{tag_of}
use Rattle.shr_audit_charges.proofs.BalanceLaw.{none_of}
use Rattle.shr_audit_charges.proofs.PathsLaw.{times, times_cons, times_both, path_times, path_there, keyed_group, IsOfGroup}

abbrev nobody : Serial
nobody = record { worker = 0; command = 0 }

-- ---- keys of groups

key_times : (g : ℕ) (gs : List ℕ) → times (own_key g 0 0) (keys_with nobody gs) ≡ times g gs
key_times g [] = refl
key_times g (k ∷ gs) = by_eq (key_times g gs) (cases_eq k g)
  where
    by_eq : times (own_key g 0 0) (keys_with nobody gs) ≡ times g gs → (k ≡ g) ⊎ (k ≢ g) → times (own_key g 0 0) (keys_with nobody (k ∷ gs)) ≡ times g (k ∷ gs)
    by_eq more (inl e) =
        let a = times_cons (own_key g 0 0) (own_key k 0 0) (keys_with nobody gs) in let b = times_cons g k gs in
        let x = ap {B = ℕ} (λ (t : Bool). cond t 1 0) (eq-eqb (own_key k 0 0) (own_key g 0 0) (omega (arith, e))) in let y = ap {B = ℕ} (λ (t : Bool). cond t 1 0) (eq-eqb k g e) in omega (arith, a, b, x, y, more)
    by_eq more (inr ne) =
        let a = times_cons (own_key g 0 0) (own_key k 0 0) (keys_with nobody gs) in let b = times_cons g k gs in
        let x = ap {B = ℕ} (λ (t : Bool). cond t 1 0) (ne_eqb (own_key k 0 0) (own_key g 0 0) (λ q. ne (omega (arith, q)))) in let y = ap {B = ℕ} (λ (t : Bool). cond t 1 0) (ne_eqb k g ne) in omega (arith, a, b, x, y, more)

-- ---- operations

-- an operation gives its group what goes this way
abbrev pub way : Bool → UseStep → ℕ
way up o = cond up (cond o.up 1 0) (cond (not o.up) 1 0)

abbrev pub keys_of : Bool → Bool → UseStep → List ℕ
keys_of up own o = cond up (up_keys own o) (down_keys own o)

abbrev pub ways : Bool → List UseStep → ℕ
ways up ops = cond up (ups ops) (downs ops)

pub ways_cons : (up : Bool) (o : UseStep) (os : List UseStep) → ways up (o ∷ os) ≡ way up o + ways up os
ways_cons true o os = sum_by-cons (λ (x : UseStep). cond x.up 1 0) o os
ways_cons false o os = sum_by-cons (λ (x : UseStep). cond (not x.up) 1 0) o os

one_way : (up : Bool) (o : UseStep) (g : ℕ) → times (own_key g 0 0) (keys_of up false o) ≡ cond (o.group == g) (way up o) 0
one_way up o g = by_eq up o.up (cases_eq o.group g)
  where
    by_eq : (u v : Bool) → (o.group ≡ g) ⊎ (o.group ≢ g) → times (own_key g 0 0) (cond u (cond v (own_key o.group 0 0 ∷ []) []) (cond v [] (own_key o.group 0 0 ∷ []))) ≡ cond (o.group == g) (cond u (cond v 1 0) (cond (not v) 1 0)) 0
    by_eq true true (inl e) = let t = times_cons (own_key g 0 0) (own_key o.group 0 0) [] in let x = ap {B = ℕ} (λ (t : Bool). cond t 1 0) (eq-eqb (own_key o.group 0 0) (own_key g 0 0) (omega (arith, e))) in let y = ap {B = ℕ} (λ (t : Bool). cond t 1 0) (eq-eqb o.group g e) in omega (arith, t, x, y)
    by_eq true true (inr ne) = let t = times_cons (own_key g 0 0) (own_key o.group 0 0) [] in let x = ap {B = ℕ} (λ (t : Bool). cond t 1 0) (ne_eqb (own_key o.group 0 0) (own_key g 0 0) (λ q. ne (omega (arith, q)))) in let y = ap {B = ℕ} (λ (t : Bool). cond t 1 0) (ne_eqb o.group g ne) in omega (arith, t, x, y)
    by_eq false false (inl e) = let t = times_cons (own_key g 0 0) (own_key o.group 0 0) [] in let x = ap {B = ℕ} (λ (t : Bool). cond t 1 0) (eq-eqb (own_key o.group 0 0) (own_key g 0 0) (omega (arith, e))) in let y = ap {B = ℕ} (λ (t : Bool). cond t 1 0) (eq-eqb o.group g e) in omega (arith, t, x, y)
    by_eq false false (inr ne) = let t = times_cons (own_key g 0 0) (own_key o.group 0 0) [] in let x = ap {B = ℕ} (λ (t : Bool). cond t 1 0) (ne_eqb (own_key o.group 0 0) (own_key g 0 0) (λ q. ne (omega (arith, q)))) in let y = ap {B = ℕ} (λ (t : Bool). cond t 1 0) (ne_eqb o.group g ne) in omega (arith, t, x, y)
    by_eq true false e = sym (nothing (o.group == g))
      where
        nothing : (b : Bool) → ◌≡◌ {A = ℕ} (cond b 0 0) 0
        nothing true = refl
        nothing false = refl
    by_eq false true e = sym (nothing (o.group == g))
      where
        nothing : (b : Bool) → ◌≡◌ {A = ℕ} (cond b 0 0) 0
        nothing true = refl
        nothing false = refl

pub ways_times : (up : Bool) (uses : List UseStep) (g : ℕ) → times (own_key g 0 0) (flat_map (keys_of up false) uses) ≡ ways up (group_uses uses g)
ways_times true [] g = refl
ways_times false [] g = refl
ways_times up (o ∷ os) g = by_group (o.group == g) refl (ways_times up os g)
  where
    split : times (own_key g 0 0) (flat_map (keys_of up false) (o ∷ os)) ≡ cond (o.group == g) (way up o) 0 + times (own_key g 0 0) (flat_map (keys_of up false) os)
    split = times_both (own_key g 0 0) (keys_of up false o) (flat_map (keys_of up false) os) ∙ ap (λ (n : ℕ). n + times (own_key g 0 0) (flat_map (keys_of up false) os)) (one_way up o g)

    by_group : (b : Bool) → (o.group == g) ≡ b → times (own_key g 0 0) (flat_map (keys_of up false) os) ≡ ways up (group_uses os g) → times (own_key g 0 0) (flat_map (keys_of up false) (o ∷ os)) ≡ ways up (group_uses (o ∷ os) g)
    by_group true e more =
        let s = split in let x = ap {B = ℕ} (λ (t : Bool). cond t (way up o) 0) e in let w = ways_cons up o (group_uses os g) in
        let l = ap (λ (t : Bool). ways up (cond t (o ∷ group_uses os g) (group_uses os g))) e in omega (arith, s, x, w, l, more)
    by_group false e more =
        let s = split in let x = ap {B = ℕ} (λ (t : Bool). cond t (way up o) 0) e in
        let l = ap (λ (t : Bool). ways up (cond t (o ∷ group_uses os g) (group_uses os g))) e in omega (arith, s, x, l, more)

-- ---- objects

objects_times : (parents : List ℕ) (g : ℕ) (os : List Object) → IsTree parents → g < length parents → times (own_key g 0 0) (flat_map (tag_keys parents) (map tag_of os)) ≡ born_below parents g os
objects_times parents g [] tree lt = refl
objects_times parents g (o ∷ os) tree lt =
    let here = key_times g (path_of parents (start_of parents o.birth)) ∙ path_times parents g o.birth tree lt in
    let both = times_both (own_key g 0 0) (tag_keys parents (tag_of o)) (flat_map (tag_keys parents) (map tag_of os)) in
    let more = objects_times parents g os tree lt in
    let sum = sum_by-cons (λ (x : Object). cond (is_at_or_above parents g x.birth) 1 0) o os in omega (arith, here, both, more, sum)

left_times : (parents : List ℕ) (r : Report) (g : ℕ) (ends : List PlaceEnd) → IsTree parents → g < length parents → times (own_key g 0 0) (flat_map (λ (end : PlaceEnd). left_keys parents r end.place) ends) ≡ sum_by (λ place. born_below parents g (items_of parents (journals_of r) place)) (map (λ (end : PlaceEnd). end.place) ends)
left_times parents r g [] tree lt = refl
left_times parents r g (end ∷ ends) tree lt =
    let here = objects_times parents g (items_of parents (journals_of r) end.place) tree lt in
    let both = times_both (own_key g 0 0) (left_keys parents r end.place) (flat_map (λ (x : PlaceEnd). left_keys parents r x.place) ends) in
    let more = left_times parents r g ends tree lt in
    let sum = sum_by-cons (λ place. born_below parents g (items_of parents (journals_of r) place)) end.place (map (λ (x : PlaceEnd). x.place) ends) in omega (arith, here, both, more, sum)

-- ---- keys of no group

-- a key is that of a group that is there, alone
pub IsAlone : ℕ → ℕ → Type 0
IsAlone groups key = (key ≡ own_key (key / 281474976710656) 0 0) × (key / 281474976710656 < groups)

alone_or_not : (groups key : ℕ) → IsAlone groups key ⊎ (IsAlone groups key → ⊥)
unfolding IsAlone
alone_or_not groups key = by_both (cases_eq key (own_key (key / 281474976710656) 0 0)) (cases_lt (key / 281474976710656) groups)
  where
    by_both : (key ≡ own_key (key / 281474976710656) 0 0) ⊎ (key ≢ own_key (key / 281474976710656) 0 0) → (key / 281474976710656 < groups) ⊎ (groups ≤ key / 281474976710656) → IsAlone groups key ⊎ (IsAlone groups key → ⊥)
    by_both (inl e) (inl lt) = inl (e, lt)
    by_both (inl e) (inr ge) = inr (λ h. let low = h.1 in absurd (omega (arith, low, ge)))
    by_both (inr ne) lt = inr (λ h. ne h.0)

alone : (groups g : ℕ) → g < groups → IsAlone groups (own_key g 0 0)
unfolding IsAlone
alone groups g lt = let k : own_key g 0 0 / 281474976710656 ≡ g = omega arith in (omega (arith, k), omega (arith, k, lt))

uses_alone : (up : Bool) (groups : ℕ) (uses : List UseStep) → AllByRecursion (λ (o : UseStep). o.group < groups) uses → AllByRecursion (IsAlone groups) (flat_map (keys_of up false) uses)
uses_alone up groups [] h = tt
uses_alone up groups (o ∷ os) h = all_both (IsAlone groups) (keys_of up false o) (flat_map (keys_of up false) os) (one up o.up) (uses_alone up groups os h.1)
  where
    one : (u v : Bool) → AllByRecursion (IsAlone groups) (cond u (cond v (own_key o.group 0 0 ∷ []) []) (cond v [] (own_key o.group 0 0 ∷ [])))
    one true true = (alone groups o.group h.0, tt)
    one true false = tt
    one false true = tt
    one false false = (alone groups o.group h.0, tt)

groups_alone : (groups : ℕ) (gs : List ℕ) → AllByRecursion (IsOfGroup groups) (keys_with nobody gs) → AllByRecursion (IsAlone groups) (keys_with nobody gs)
groups_alone groups [] h = tt
groups_alone groups (g ∷ gs) h = (alone groups g (let k = keyed_group g 0 0 (omega arith) (omega arith) in let low = h.0 in omega (arith, k, low)), groups_alone groups gs h.1)

objects_alone : (parents : List ℕ) (os : List Object) → IsTree parents → AllByRecursion (IsAlone (length parents)) (flat_map (tag_keys parents) (map tag_of os))
objects_alone parents [] tree = tt
objects_alone parents (o ∷ os) tree = all_both (IsAlone (length parents)) (tag_keys parents (tag_of o)) (flat_map (tag_keys parents) (map tag_of os))
    (groups_alone (length parents) (path_of parents (start_of parents o.birth)) (path_there parents nobody o.birth tree (omega arith) (omega arith))) (objects_alone parents os tree)

left_alone : (parents : List ℕ) (r : Report) (ends : List PlaceEnd) → IsTree parents → AllByRecursion (IsAlone (length parents)) (flat_map (λ (end : PlaceEnd). left_keys parents r end.place) ends)
left_alone parents r [] tree = tt
left_alone parents r (end ∷ ends) tree = all_both (IsAlone (length parents)) (left_keys parents r end.place) (flat_map (λ (x : PlaceEnd). left_keys parents r x.place) ends) (objects_alone parents (items_of parents (journals_of r) end.place) tree) (left_alone parents r ends tree)

-- ---- the final usage

pub final_decided : (parents : List ℕ) (r : Report) (uses : List UseStep) (ends : List PlaceEnd) (us some ds : List ℕ) (b : Bool) → IsTree parents → AllByRecursion (λ (o : UseStep). o.group < length parents) uses → ends ≡ r.places.items
    → us ≡ [] ++ flat_map (up_keys false) uses → some ≡ [] ++ flat_map (down_keys false) uses → ds ≡ some ++ flat_map (λ (end : PlaceEnd). left_keys parents r end.place) ends → Decides b (AreBalanced us ds) → Decides b (AreFinal parents r uses)
final_decided parents r uses ends us some ds b tree there ends_are us_are some_are ds_are decided = Decides-like b to from decided
  where
    lefts : List ℕ
    lefts = flat_map (λ (end : PlaceEnd). left_keys parents r end.place) r.places.items

    downs_are : ds ≡ flat_map (down_keys false) uses ++ flat_map (λ (end : PlaceEnd). left_keys parents r end.place) r.places.items
    downs_are = ds_are ∙ ap (λ (l : List ℕ). l ++ flat_map (λ (end : PlaceEnd). left_keys parents r end.place) ends) some_are ∙ ap (λ (l : List PlaceEnd). flat_map (down_keys false) uses ++ flat_map (λ (end : PlaceEnd). left_keys parents r end.place) l) ends_are

    up_times : (g : ℕ) → times (own_key g 0 0) us ≡ ups (group_uses uses g)
    up_times g = ap (times (own_key g 0 0)) us_are ∙ ways_times true uses g

    down_times : (g : ℕ) → g < length parents → times (own_key g 0 0) ds ≡ downs (group_uses uses g) + left_below parents r g
    down_times g lt =
        ap (times (own_key g 0 0)) downs_are ∙ times_both (own_key g 0 0) (flat_map (down_keys false) uses) (flat_map (λ (end : PlaceEnd). left_keys parents r end.place) r.places.items)
        ∙ ap (λ (n : ℕ). n + times (own_key g 0 0) (flat_map (λ (end : PlaceEnd). left_keys parents r end.place) r.places.items)) (ways_times false uses g) ∙ ap (λ (n : ℕ). downs (group_uses uses g) + n) (left_times parents r g r.places.items tree lt)

    to : AreBalanced us ds → AreFinal parents r uses
    to law g lt = let u = up_times g in let d = down_times g lt in let e = law (own_key g 0 0) in let same : ups (group_uses uses g) ≡ downs (group_uses uses g) + left_below parents r g = omega (arith, u, d, e) in omega (arith, ints, same)

    from : AreFinal parents r uses → AreBalanced us ds
    from law key = by_kind (alone_or_not (length parents) key)
      where
        by_kind : IsAlone (length parents) key ⊎ (IsAlone (length parents) key → ⊥) → times key us ≡ times key ds
        by_kind (inl k) = unfold IsAlone in
            let g = key / 281474976710656 in
            let u = up_times g in let d = down_times g k.1 in let f = law g k.1 in
            let same : ups (group_uses uses g) ≡ downs (group_uses uses g) + left_below parents r g = omega (arith, ints, f) in
            subst (λ (q : ℕ). times q us ≡ times q ds) (sym k.0) (u ∙ same ∙ sym d)
        by_kind (inr not) =
            ap (times key) us_are ∙ none_of (IsAlone (length parents)) key (flat_map (up_keys false) uses) not (uses_alone true (length parents) uses there)
            ∙ sym (ap (times key) downs_are ∙ none_of (IsAlone (length parents)) key (flat_map (down_keys false) uses ++ flat_map (λ (end : PlaceEnd). left_keys parents r end.place) r.places.items) not
            (all_both (IsAlone (length parents)) (flat_map (down_keys false) uses) (flat_map (λ (end : PlaceEnd). left_keys parents r end.place) r.places.items) (uses_alone false (length parents) uses there) (left_alone parents r r.places.items tree)))
