-- SPDX-License-Identifier: GPL-2.0-only
-- What a legal journal takes in from the children, and what it gives to the parent.
use Rattle.shr_model.proofs.Common.{◌≡◌, ◌≢◌, ℕ, zero, suc, ◌+◌, ◌<◌, ◌≤◌, Bool, true, false, not, ◌==◌, cond, if◌then◌else◌, List, [], ◌∷◌, ◌++◌, length, take, slice_get, flat_map, Contains, refl, Some, AllByRecursion, prefix_len, ap, sym, ◌∙◌, subst, arith, inl, inr, append_assoc, ne_eqb, take_while-cons, Object, Place, Entry, Add, Look, Drop, Pin, Scan, MovedIn, Closed, Drained, at_group, IsTree, parent_of, is_child, first_moved, later_moved, step, is_closing, is_closed, IsOpenBeforeEach, Family, moved_in, before_closed, without_child, items_given, lists_moved_at, IsLegal}
use Rattle.std.proofs.Common.{append-nil}
use Rattle.std.proofs.lemmas.Option.{slice_get_cases}
use Rattle.std.proofs.lemmas.List.Elements.{Contains-append_left, Contains-push}
use Rattle.shr_model.specs.Items.{items_from}
use Rattle.shr_model.specs.Families.{lists_moved, items_within}
use Rattle.shr_model.proofs.GroupsLaws.{child_takes, child_again, child_higher}
use Rattle.shr_model.proofs.BagLaws.{AreApart, each_weaker}
use Rattle.shr_model.proofs.Weights.{given_by, taken_from, given_from}

-- ---- levels

-- what a cond gives where its test holds
pub cond_agree : {X : Type 0} (b : Bool) (x y z : X) → (b ≡ true → x ≡ y) → cond b x z ≡ cond b y z
cond_agree true x y z h = h refl
cond_agree false x y z h = refl

-- the items are the same within any number of levels that suffice
pub same_items_within : (parents : List ℕ) → IsTree parents → (family : Family) (k m : ℕ) (place : Place) (es : List Entry) → length parents ≤ place.group + k → length parents ≤ place.group + m → place.group < length parents
    → items_within k parents family place es ≡ items_within m parents family place es
unfolding items_within
same_items_within parents tree family zero m place es enough also within = absurd (omega arith)
same_items_within parents tree family (suc k) zero place es enough also within = absurd (omega arith)
same_items_within parents tree family (suc k) (suc m) place es enough also within =
    let given = λ (levels : ℕ) (c : ℕ). items_within levels parents family (at_group place c) (before_closed (family (at_group place c))) in
    let same : (λ (c : ℕ). cond (is_child parents place.group c) (given k c) []) ≡ (λ (c : ℕ). cond (is_child parents place.group c) (given m c) []) =
    λ i c. cond_agree (is_child parents place.group c) (given k c) (given m c) []
    (λ is.
    let child = child_takes parents place.group c is in
    let higher = child_higher parents place.group c tree child in
    same_items_within parents tree family k m (at_group place c) (before_closed (family (at_group place c))) (omega arith) (omega arith) child.there) i in
    ap (λ (took : ℕ → List Object). items_from (lists_moved took es) [] es) same

-- ---- lists that move in

-- what the first entries leave does not depend on lists that later ones move
pub items_from_take : (took : ℕ → List Object) (items : List Object) (es : List Entry) (n : ℕ) → items_from (lists_moved took es) items (take n es) ≡ items_from (lists_moved took (take n es)) items (take n es)
unfolding items_from lists_moved
items_from_take took items es zero = refl
items_from_take took items [] (suc n) = refl
items_from_take took items (Add by birth added key value ∷ es) (suc n) = items_from_take took (step [] items (Add by birth added key value)) es n
items_from_take took items (Look by birth key hit ∷ es) (suc n) = items_from_take took (step [] items (Look by birth key hit)) es n
items_from_take took items (Drop by birth key kind ∷ es) (suc n) = items_from_take took (step [] items (Drop by birth key kind)) es n
items_from_take took items (Pin by birth key pinned hit ∷ es) (suc n) = items_from_take took (step [] items (Pin by birth key pinned hit)) es n
items_from_take took items (Scan worker walk asked policy visits freed stopped ∷ es) (suc n) = items_from_take took (step [] items (Scan worker walk asked policy visits freed stopped)) es n
items_from_take took items (MovedIn child objects ∷ es) (suc n) = items_from_take (without_child child took) (took child ++ items) es n
items_from_take took items (Closed ∷ es) (suc n) = items_from_take took [] es n
items_from_take took items (Drained by objects ∷ es) (suc n) = items_from_take took [] es n

-- other children's lists are there after one was taken
others_there : (took : ℕ → List Object) (child : ℕ) (cs : List ℕ) → AllByRecursion (λ c. child ≢ c) cs → flat_map (without_child child took) cs ≡ flat_map took cs
others_there took child [] apart = refl
others_there took child (c ∷ cs) apart =
    let other : (c == child) ≡ false = ne_eqb c child (λ e. apart.0 (sym e)) in
    rw other (ap (λ (rest : List Object). took c ++ rest) (others_there took child cs apart.1))

-- a journal that moves no child's list twice takes in the list of each
pub taken_from_children : (took : ℕ → List Object) (es : List Entry) → AreApart (moved_in es) → taken_from (lists_moved took es) es ≡ flat_map took (moved_in es)
unfolding taken_from lists_moved
taken_from_children took [] apart = refl
taken_from_children took (Add by birth added key value ∷ es) apart = taken_from_children took es apart
taken_from_children took (Look by birth key hit ∷ es) apart = taken_from_children took es apart
taken_from_children took (Drop by birth key kind ∷ es) apart = taken_from_children took es apart
taken_from_children took (Pin by birth key pinned hit ∷ es) apart = taken_from_children took es apart
taken_from_children took (Scan worker walk asked policy visits freed stopped ∷ es) apart = taken_from_children took es apart
taken_from_children took (MovedIn child objects ∷ es) apart =
    ap (λ (rest : List Object). took child ++ rest) (taken_from_children (without_child child took) es apart.1 ∙ others_there took child (moved_in es) apart.0)
taken_from_children took (Closed ∷ es) apart = taken_from_children took es apart
taken_from_children took (Drained by objects ∷ es) apart = taken_from_children took es apart

-- ---- what is given away

-- what a journal gives away: what it leaves before its Closed
abbrev GivesBefore : List (List Object) → List Object → List Entry → Type 0
GivesBefore moved items es = given_from moved items es ≡ (if is_closed es then items_from moved items (before_closed es) else [])

gives_next : (moved : List (List Object)) (items : List Object) (e : Entry) (es : List Entry) → is_closing e ≡ false → given_by items e ≡ []
    → GivesBefore (later_moved e moved) (step (first_moved moved) items e) es → GivesBefore moved items (e ∷ es)
unfolding items_from given_from
gives_next moved items e es here none rest =
    let before : before_closed (e ∷ es) ≡ e ∷ before_closed es = take_while-cons (λ x. not (is_closing x)) e es ∙ ap (λ (b : Bool). cond (not b) (e ∷ before_closed es) []) here in
    let closed : is_closed (e ∷ es) ≡ is_closed es = rw here refl in
    let left = given_from (later_moved e moved) (step (first_moved moved) items e) es in
    ap (λ (os : List Object). os ++ left) none ∙ rest
    ∙ ap (λ (b : Bool). cond b (items_from moved items (e ∷ before_closed es)) []) (sym closed)
    ∙ ap (λ (xs : List Entry). cond (is_closed (e ∷ es)) (items_from moved items xs) []) (sym before)

-- nothing follows a Closed in what follows an entry that is none
open_next : (e : Entry) (es : List Entry) → is_closing e ≡ false → IsOpenBeforeEach (e ∷ es) → IsOpenBeforeEach es
open_next e es here each n within =
    let next : is_closed (e ∷ take n es) ≡ false = each (suc n) (omega arith) in
    rw here at next

-- a journal gives away what it leaves before its Closed
pub gives_before : (moved : List (List Object)) (items : List Object) (es : List Entry) → IsOpenBeforeEach es → GivesBefore moved items es
unfolding items_from given_from
gives_before moved items [] each = refl
gives_before moved items (Add by birth added key value ∷ es) each =
    let e = Add by birth added key value in gives_next moved items e es refl refl (gives_before (later_moved e moved) (step (first_moved moved) items e) es (open_next e es refl each))
gives_before moved items (Look by birth key hit ∷ es) each =
    let e = Look by birth key hit in gives_next moved items e es refl refl (gives_before (later_moved e moved) (step (first_moved moved) items e) es (open_next e es refl each))
gives_before moved items (Drop by birth key kind ∷ es) each =
    let e = Drop by birth key kind in gives_next moved items e es refl refl (gives_before (later_moved e moved) (step (first_moved moved) items e) es (open_next e es refl each))
gives_before moved items (Pin by birth key pinned hit ∷ es) each =
    let e = Pin by birth key pinned hit in gives_next moved items e es refl refl (gives_before (later_moved e moved) (step (first_moved moved) items e) es (open_next e es refl each))
gives_before moved items (Scan worker walk asked policy visits freed stopped ∷ es) each =
    let e = Scan worker walk asked policy visits freed stopped in gives_next moved items e es refl refl (gives_before (later_moved e moved) (step (first_moved moved) items e) es (open_next e es refl each))
gives_before moved items (MovedIn child objects ∷ es) each =
    let e = MovedIn child objects in gives_next moved items e es refl refl (gives_before (later_moved e moved) (step (first_moved moved) items e) es (open_next e es refl each))
gives_before moved items (Closed ∷ []) each = append-nil items
gives_before moved items (Closed ∷ e ∷ es) each =
    let after : true ≡ false = each 1 (omega arith) in
    absurd (cc)
gives_before moved items (Drained by objects ∷ es) each =
    let e = Drained by objects in gives_next moved items e es refl refl (gives_before (later_moved e moved) (step (first_moved moved) items e) es (open_next e es refl each))

-- ---- what a legal journal says

-- the children whose lists these entries move in are children, and were not moved in before
abbrev MovesEach : List ℕ → ℕ → List ℕ → List Entry → Type 0
MovesEach parents group seen es = (n child objects : ℕ) → slice_get es n ≡ Some (MovedIn child objects) → (is_child parents group child ≡ true) × (Contains (seen ++ moved_in (take n es)) child → ⊥)

-- a child that was not seen before
abbrev IsNewChild : List ℕ → ℕ → List ℕ → ℕ → Type 0
IsNewChild parents group seen child = (is_child parents group child ≡ true) × (Contains seen child → ⊥)

moved_in_apart : (parents : List ℕ) (group : ℕ) (seen : List ℕ) (es : List Entry) → MovesEach parents group seen es → AreApart (moved_in es) × AllByRecursion (IsNewChild parents group seen) (moved_in es)
moved_in_apart parents group seen [] h = (tt, tt)
moved_in_apart parents group seen (Add by birth added key value ∷ es) h = moved_in_apart parents group seen es (λ n. h (suc n))
moved_in_apart parents group seen (Look by birth key hit ∷ es) h = moved_in_apart parents group seen es (λ n. h (suc n))
moved_in_apart parents group seen (Drop by birth key kind ∷ es) h = moved_in_apart parents group seen es (λ n. h (suc n))
moved_in_apart parents group seen (Pin by birth key pinned hit ∷ es) h = moved_in_apart parents group seen es (λ n. h (suc n))
moved_in_apart parents group seen (Scan worker walk asked policy visits freed stopped ∷ es) h = moved_in_apart parents group seen es (λ n. h (suc n))
moved_in_apart parents group seen (MovedIn child objects ∷ es) h =
    let first = h 0 child objects refl in
    let rest = moved_in_apart parents group (seen ++ child ∷ []) es
    (λ n c os at.
    let one = h (suc n) c os at in
    (one.0, λ there. one.1 (rw (append_assoc seen (child ∷ []) (moved_in (take n es))) at there))) in (
      (
        each_weaker (IsNewChild parents group (seen ++ child ∷ [])) (λ c. child ≢ c) (λ c new e. new.1 (subst (Contains (seen ++ child ∷ [])) e (Contains-push seen child))) (moved_in es) rest.1,
        rest.0,
      ),
      (
        (first.0, λ there. first.1 (Contains-append_left seen [] child there)),
        each_weaker (IsNewChild parents group (seen ++ child ∷ [])) (IsNewChild parents group seen) (λ c new. (new.0, λ there. new.1 (Contains-append_left seen (child ∷ []) c there))) (moved_in es) rest.1,
      ),
    )
moved_in_apart parents group seen (Closed ∷ es) h = moved_in_apart parents group seen es (λ n. h (suc n))
moved_in_apart parents group seen (Drained by objects ∷ es) h = moved_in_apart parents group seen es (λ n. h (suc n))

-- a legal journal moves in the lists of children, and no list twice
pub moved_in_legal : (parents : List ℕ) (family : Family) (place : Place) → IsLegal parents family place → AreApart (moved_in (family place)) × AllByRecursion (λ c. is_child parents place.group c ≡ true) (moved_in (family place))
moved_in_legal parents family place legal =
    let both = moved_in_apart parents place.group [] (family place) (λ n child objects at. (legal.stands n (MovedIn child objects) at).allowed) in
    (both.0, each_weaker (IsNewChild parents place.group []) (λ c. is_child parents place.group c ≡ true) (λ c new. new.0) (moved_in (family place)) both.1)

-- nothing follows a Closed in a legal journal
pub open_legal : (parents : List ℕ) (family : Family) (place : Place) → IsLegal parents family place → IsOpenBeforeEach (family place)
open_legal parents family place legal n within = elim (slice_get_cases (family place) n).1 [
  | inl here ↦ (legal.stands n here.0 here.2).«open»
  | inr past ↦ absurd (omega (arith, past.0))
]

-- a Closed stands somewhere in a journal that has one
pub closed_at : (es : List Entry) → is_closed es ≡ true → (n : ℕ) × (slice_get es n ≡ Some Closed)
closed_at [] h = absurd (cc)
closed_at (Add by birth added key value ∷ es) h = let rest = closed_at es h in (suc rest.0, rest.1)
closed_at (Look by birth key hit ∷ es) h = let rest = closed_at es h in (suc rest.0, rest.1)
closed_at (Drop by birth key kind ∷ es) h = let rest = closed_at es h in (suc rest.0, rest.1)
closed_at (Pin by birth key pinned hit ∷ es) h = let rest = closed_at es h in (suc rest.0, rest.1)
closed_at (Scan worker walk asked policy visits freed stopped ∷ es) h = let rest = closed_at es h in (suc rest.0, rest.1)
closed_at (MovedIn child objects ∷ es) h = let rest = closed_at es h in (suc rest.0, rest.1)
closed_at (Closed ∷ es) h = (0, refl)
closed_at (Drained by objects ∷ es) h = let rest = closed_at es h in (suc rest.0, rest.1)

-- the root's journals have no Closed
pub closed_below_root : (parents : List ℕ) (family : Family) (place : Place) → IsLegal parents family place → is_closed (family place) ≡ true → place.group ≢ 0
closed_below_root parents family place legal closed =
    let at = closed_at (family place) closed in
    (legal.stands at.0 Closed at.1).allowed.0

-- the place of the parent
abbrev pub parent_place : List ℕ → Place → Place
parent_place parents place = at_group place (parent_of parents place.group)

-- what a closed journal gives away is what its parent's list takes in
pub given_to_parent : (parents : List ℕ) → IsTree parents → (family : Family) (place : Place) → 0 < place.group → place.group < length parents
    → items_from (lists_moved_at parents family place) [] (before_closed (family place)) ≡ items_given parents family (parent_place parents place) place.group
unfolding items_within
given_to_parent parents tree family place above within =
    let es = before_closed (family place) in
    let prefix = items_from_take (items_given parents family place) [] (family place) (prefix_len (λ e. not (is_closing e)) (family place)) in
    let levels = same_items_within parents tree family (suc (length parents)) (length parents) place es (omega arith) (omega arith) within in
    let is : is_child parents (parent_of parents place.group) place.group ≡ true =
    child_again parents (parent_of parents place.group) place.group (record { above = above; there = within; parent = refl }) in
    prefix ∙ levels ∙ ap (λ (b : Bool). cond b (items_within (length parents) parents family place es) []) (sym is)
