-- SPDX-License-Identifier: GPL-2.0-only
-- What a list held after some of its entries was freed later, or is listed at the end, in it or above it.
use Rattle.shr_lawful.proofs.Common.{◌≡◌, ℕ, zero, suc, ◌+◌, ◌<◌, ◌≤◌, inl, inr, ⊎_elim, Bool, true, false, ◌&&◌, ◌==◌, cond, List, [], ◌∷◌, ◌++◌, length, take, drop, sym, refl, ap, subst, ◌∙◌, arith, eq-eqb, ne_eqb, Contains, nat_lt, and_parts, and_from, eqb-true, ltb-true, lt-ltb, length_permutation, dite, ℕ_discrete, Object, Place, Serial, Entry, MovedIn, serials_of, added_in, freed_at, listed_in, Family, moved_in, before_closed, without_child, items_given, lists_moved_at, items_at, items_of, IsLegal, IsTree, parent_of, is_child, step, first_moved, later_moved, freed_by, is_closed, at_group, is_place, child_takes, child_higher, IsWhole, bag_of_legal, Has, Has_from_Contains, is_place_same, is_place_itself, weight, mass, weight_append, mass_append, given_by, mass_of_journal, total, total_both, gives_before, open_legal, closed_below_root, parent_place, given_to_parent, freed_in, no_test}
use Rattle.shr_lawful.proofs.Gathering.{weighs}
use Rattle.shr_lawful.proofs.Listed.{contains_among}
use Rattle.shr_model.specs.Families.{lists_moved, IsPaired}
use Rattle.shr_model.specs.Items.{items_from, freed_from, AreOutcomes}
use Rattle.shr_model.specs.MovedItems.{moved_from}
use Rattle.shr_model.proofs.Weights.{taken_from, given_from}

-- what a list held after the first entries, and what it took in later, is freed, given away or left
pub mid_weighs : (w : Serial → ℕ) (moved : List (List Object)) (items : List Object) (es : List Entry) (n : ℕ) → AreOutcomes moved items es
    → mass w (items_from moved items (take n es)) + mass w (taken_from (moved_from moved (take n es)) (drop n es)) ≤ mass w (freed_from moved items es) + mass w (given_from moved items es) + mass w (items_from moved items es)
unfolding items_from freed_from taken_from given_from moved_from AreOutcomes
mid_weighs w moved items es zero o = let all = mass_of_journal w moved items es o in omega (arith, all)
mid_weighs w moved items [] (suc n) o = omega arith
mid_weighs w moved items (e ∷ es) (suc n) o =
    let later = later_moved e moved in
    let after = step (first_moved moved) items e in
    omega (arith, mid_weighs w later after es n o.1, mass_append w (freed_by items e) (freed_from later after es), mass_append w (given_by items e) (given_from later after es))

-- the list of a child that is moved in after the first entries is among what is taken in after them
pub taken_later : (w : Serial → ℕ) (took : ℕ → List Object) (es : List Entry) (n child : ℕ) → Has (moved_in es) child → (Has (moved_in (take n es)) child → ⊥)
    → mass w (took child) ≤ mass w (taken_from (moved_from (lists_moved took es) (take n es)) (drop n es))
unfolding taken_from lists_moved moved_from
taken_later w took [] n child has not = absurd has
taken_later w took (MovedIn c objects ∷ es) zero child has not =
    let first = mass_append w (took c) (taken_from (lists_moved (without_child c took) es) es) in
    dite (ℕ_discrete c child) (λ e. let same : mass w (took c) ≡ mass w (took child) = ap (λ (d : ℕ). mass w (took d)) e in omega (arith, first, same))
    (λ ne. ⊎_elim (λ e. absurd (ne e))
    (λ rest. let same : mass w (without_child c took child) ≡ mass w (took child) = ap (λ (b : Bool). mass w (cond b [] (took child))) (ne_eqb child c (λ e. ne (sym e))) in
    omega (arith, first, same, taken_later w (without_child c took) es zero child rest (λ h. h))) has)
taken_later w took (MovedIn c objects ∷ es) (suc n) child has not =
    let same : mass w (without_child c took child) ≡ mass w (took child) = ap (λ (b : Bool). mass w (cond b [] (took child))) (ne_eqb child c (λ e. not (inl (sym e)))) in
    ⊎_elim (λ e. absurd (not (inl e))) (λ rest. omega (arith, same, taken_later w (without_child c took) es n child rest (λ h. not (inr h)))) has
taken_later w took (e ∷ es) zero child has not = taken_later w took es zero child has not
taken_later w took (e ∷ es) (suc n) child has not = taken_later w took es n child has not

-- sums term by term
terms_most : {A : Type 0} (f g : A → ℕ) → ((x : A) → f x ≤ g x) → (xs : List A) → total f xs ≤ total g xs
terms_most f g h [] = omega arith
terms_most f g h (x ∷ xs) = omega (arith, h x, terms_most f g h xs)

three : (a c d : Bool) (v : ℕ) → (a ≡ true → (c ≡ false) × (d ≡ true)) → (c ≡ true → d ≡ true) → cond a v 0 + cond c v 0 ≤ cond d v 0
three true true d v one other = absurd (let e : true ≡ false = (one refl).0 in cc)
three true false true v one other = omega arith
three true false false v one other = absurd (let e : false ≡ true = (one refl).1 in cc)
three false true true v one other = omega arith
three false true false v one other = absurd (let e : false ≡ true = other refl in cc)
three false false d v one other = omega arith

at_most : (d : Bool) (v : ℕ) → cond d v 0 ≤ v
at_most true v = omega arith
at_most false v = omega arith

module _ (w : Serial → ℕ) (parents : List ℕ) (tree : IsTree parents) (family : Family) (legal : (place : Place) → IsLegal parents family place) (paired : IsPaired parents family) (places : List Place) (whole : IsWhole parents family places) where
  -- what a place frees and leaves
  abbrev pub kept : Place → ℕ
  kept q = mass w (freed_at parents family q) + mass w (items_of parents family q)

  -- what it gives away besides
  abbrev gave : Place → List Object
  gave q = given_from (lists_moved_at parents family q) [] (family q)

  -- a place beside p, of a group below a bound
  abbrev near : Place → ℕ → Place → Bool
  near p bound q = (q.id == p.id) && ((q.node == p.node) && nat_lt q.group bound)

  abbrev below : Place → ℕ → ℕ
  below p bound = total (λ (q : Place). cond (near p bound q) (kept q) 0) places

  near_parts : (p : Place) (bound : ℕ) (q : Place) → near p bound q ≡ true → (q.id ≡ p.id) × (q.node ≡ p.node) × (q.group < bound)
  near_parts p bound q h = let a = and_parts (q.id == p.id) ((q.node == p.node) && nat_lt q.group bound) h in let b = and_parts (q.node == p.node) (nat_lt q.group bound) a.1 in
      (eqb-true q.id p.id a.0, eqb-true q.node p.node b.0, ltb-true q.group bound b.1)

  near_from : (p : Place) (bound : ℕ) (q : Place) → q.id ≡ p.id → q.node ≡ p.node → q.group < bound → near p bound q ≡ true
  near_from p bound q id node group = and_from (q.id == p.id) ((q.node == p.node) && nat_lt q.group bound) (eq-eqb q.id p.id id) (and_from (q.node == p.node) (nat_lt q.group bound) (eq-eqb q.node p.node node) (lt-ltb q.group bound group))

  kept_none : (q : Place) → family q ≡ [] → kept q ≡ 0
  unfolding freed_from items_from lists_moved
  kept_none q none = ap (λ (es : List Entry). mass w (freed_from (lists_moved (items_given parents family q) es) [] es) + mass w (items_from (lists_moved (items_given parents family q) es) [] es)) none

  -- the share of one place
  own_share : (q : Place) → kept q ≤ total (λ (z : Place). cond (is_place z q) (kept z) 0) places
  own_share q = ⊎_elim (λ none. let zero_is = kept_none q none in omega (arith, zero_is))
      (λ has. let same : cond (is_place q q) (kept q) 0 ≡ kept q = ap (λ (b : Bool). cond b (kept q) 0) (is_place_itself q) in
      omega (arith, same, weighs (λ (z : Place). cond (is_place z q) (kept z) 0) places q (contains_among places q has)))
      (whole.others q)

  with_own : (p : Place) (g b : ℕ) → b ≤ g → kept (at_group p g) + below p b ≤ below p (suc g)
  with_own p g b le = omega (
    arith,
    own_share (at_group p g),
    total_both (λ (z : Place). cond (is_place z (at_group p g)) (kept z) 0) (λ (z : Place). cond (near p b z) (kept z) 0) places,
    terms_most (λ (z : Place). cond (is_place z (at_group p g)) (kept z) 0 + cond (near p b z) (kept z) 0) (λ (z : Place). cond (near p (suc g) z) (kept z) 0)
        (λ z. three (is_place z (at_group p g)) (near p b z) (near p (suc g) z) (kept z)
        (λ e. let same = is_place_same z (at_group p g) e in let group : z.group ≡ g = ap (λ (y : Place). y.group) same in
        (no_test (near p b z) (λ h. let t = (near_parts p b z h).2 in omega (arith, t, group, le)), near_from p (suc g) z (ap (λ (y : Place). y.id) same) (ap (λ (y : Place). y.node) same) (omega (arith, group))))
        (λ h. let t = near_parts p b z h in let lt = t.2 in near_from p (suc g) z t.0 t.1 (omega (arith, lt, le)))) places,
  )

  below_all : (p : Place) (b : ℕ) → below p b ≤ total kept places
  below_all p b = terms_most (λ (q : Place). cond (near p b q) (kept q) 0) kept (λ q. at_most (near p b q) (kept q)) places

  -- what an open journal gives away, and a closed one
  gave_none : (q : Place) → is_closed (family q) ≡ false → gave q ≡ []
  gave_none q is_open = gives_before (lists_moved_at parents family q) [] (family q) (open_legal parents family q (legal q))
      ∙ ap (λ (b : Bool). cond b (items_from (lists_moved_at parents family q) [] (before_closed (family q))) []) is_open

  gave_up : (q : Place) → is_closed (family q) ≡ true → q.group < length parents → gave q ≡ items_given parents family (parent_place parents q) q.group
  gave_up q closes within = let root = closed_below_root parents family q (legal q) closes in
      gives_before (lists_moved_at parents family q) [] (family q) (open_legal parents family q (legal q))
      ∙ (ap (λ (b : Bool). cond b (items_from (lists_moved_at parents family q) [] (before_closed (family q))) []) closes
      ∙ given_to_parent parents tree family q (omega (arith, root)) within)

  -- what a list frees, gives away and leaves is freed and left by it and the lists above it
  climb : (p : Place) (fuel g : ℕ) → g < fuel → g < length parents → kept (at_group p g) + mass w (gave (at_group p g)) ≤ below p (suc g)
  climb p zero g lt within = absurd (omega (arith, lt))
  climb p (suc fuel) g lt within = choose (is_closed (family (at_group p g))) refl (climb p fuel) where
    choose : (b : Bool) → is_closed (family (at_group p g)) ≡ b → ((h : ℕ) → h < fuel → h < length parents → kept (at_group p h) + mass w (gave (at_group p h)) ≤ below p (suc h)) → kept (at_group p g) + mass w (gave (at_group p g)) ≤ below p (suc g)
    choose false is_open lower_ones = let none = ap (mass w) (gave_none (at_group p g) is_open) in let more = with_own p g 0 (omega arith) in omega (arith, none, more)
    choose true closes lower_ones =
        let root = closed_below_root parents family (at_group p g) (legal (at_group p g)) closes in
        let above : 0 < g = omega (arith, root) in
        let lower = tree.lower g above within in
        let up : ℕ = parent_of parents g in
        let higher : Place = at_group p up in
        let gave_is = ap (mass w) (gave_up (at_group p g) closes within) in
        let has = Has_from_Contains (moved_in (family higher)) g ((paired (at_group p g) above within).0 closes) in
        let taken = taken_later w (items_given parents family higher) (family higher) 0 g has (λ h. h) in
        let all = mid_weighs w (lists_moved_at parents family higher) [] (family higher) 0 (legal higher).outcomes in
        let rest = lower_ones up (omega (arith, lower, lt)) (omega (arith, lower, within)) in
        let more = with_own p g (suc up) (omega (arith, lower)) in
        omega (arith, gave_is, taken, all, rest, more)

  -- one list after some entries
  pub one_list : (p : Place) → p.group < length parents → (n : ℕ) → mass w (items_at parents family p n) ≤ total kept places
  one_list p within n = omega (
    arith,
    mid_weighs w (lists_moved_at parents family p) [] (family p) n (legal p).outcomes,
    climb p (suc p.group) p.group (omega arith) within,
    below_all p (suc p.group),
  )

  -- a list after some entries, and that of a child which was not moved in before them
  pub two_lists : (p : Place) → p.group < length parents → (child : ℕ) → is_child parents p.group child ≡ true → (n m : ℕ) → (Has (moved_in (take n (family p))) child → ⊥)
      → mass w (items_at parents family p n) + mass w (items_at parents family (at_group p child) m) ≤ total kept places
  two_lists p within child is n m not = choose (is_closed (family (at_group p child))) refl where
    own : mass w (items_at parents family p n) + mass w (taken_from (moved_from (lists_moved_at parents family p) (take n (family p))) (drop n (family p))) ≤ below p (suc p.group)
    own = omega (arith, mid_weighs w (lists_moved_at parents family p) [] (family p) n (legal p).outcomes, climb p (suc p.group) p.group (omega arith) within)

    lower : mass w (items_at parents family (at_group p child) m) ≤ kept (at_group p child) + mass w (gave (at_group p child))
    lower = omega (arith, mid_weighs w (lists_moved_at parents family (at_group p child)) [] (family (at_group p child)) m (legal (at_group p child)).outcomes)

    both : kept (at_group p child) + below p (suc p.group) ≤ total kept places
    both = let takes = child_takes parents p.group child is in let high = child_higher parents p.group child tree takes in omega (arith, with_own p child (suc p.group) (omega (arith, high)), below_all p (suc child))

    choose : (b : Bool) → is_closed (family (at_group p child)) ≡ b → mass w (items_at parents family p n) + mass w (items_at parents family (at_group p child) m) ≤ total kept places
    choose false is_open = let none = ap (mass w) (gave_none (at_group p child) is_open) in omega (arith, none, own, lower, both)
    choose true closes =
        let takes = child_takes parents p.group child is in
        let gave_is = ap (mass w) (gave_up (at_group p child) closes takes.there ∙ ap (λ (g : ℕ). items_given parents family (at_group p g) child) takes.parent) in
        let has = Has_from_Contains (moved_in (family p)) child (subst (λ (g : ℕ). Contains (moved_in (family (at_group p g))) child) takes.parent ((paired (at_group p child) takes.above takes.there).0 closes)) in
        let taken = taken_later w (items_given parents family p) (family p) n child has not in
        omega (arith, gave_is, taken, own, lower, both)

  -- what all places free and leave is what they add
  pub freed_total : (ps : List Place) → total kept ps ≡ weight w (freed_in ps parents family) + weight w (listed_in ps parents family)
  freed_total [] = refl
  freed_total (p ∷ ps) = omega (
    arith,
    freed_total ps,
    weight_append w (serials_of (freed_at parents family p)) (freed_in ps parents family),
    weight_append w (serials_of (items_of parents family p)) (listed_in ps parents family),
  )

abbrev one : Serial → ℕ
one s = 1

pub ones : (xs : List Serial) → weight (λ s. 1) xs ≡ length xs
ones [] = refl
ones (x ∷ xs) = omega (arith, ones xs)

pub ones_of : (xs : List Object) → mass (λ s. 1) xs ≡ length xs
ones_of [] = refl
ones_of (x ∷ xs) = omega (arith, ones_of xs)

module _ (parents : List ℕ) (tree : IsTree parents) (family : Family) (legal : (place : Place) → IsLegal parents family place) (paired : IsPaired parents family) (places : List Place) (whole : IsWhole parents family places) where
  all_added : total (λ (q : Place). mass one (freed_at parents family q) + mass one (items_of parents family q)) places ≡ length (added_in places family)
  all_added = freed_total one parents tree family legal paired places whole places
      ∙ (sym (weight_append one (freed_in places parents family) (listed_in places parents family))
      ∙ (ones (freed_in places parents family ++ listed_in places parents family) ∙ length_permutation (added_in places family) (freed_in places parents family ++ listed_in places parents family) (bag_of_legal places parents family tree whole legal paired)))

  -- a list holds no more objects than were added in all
  pub list_few : (p : Place) → p.group < length parents → (n : ℕ) → length (items_at parents family p n) ≤ length (added_in places family)
  list_few p within n = omega (arith, ones_of (items_at parents family p n), one_list one parents tree family legal paired places whole p within n, all_added)

  -- nor do a list and that of a child which was not moved in
  pub lists_few : (p : Place) → p.group < length parents → (child : ℕ) → is_child parents p.group child ≡ true → (n m : ℕ) → (Has (moved_in (take n (family p))) child → ⊥)
      → length (items_at parents family p n) + length (items_at parents family (at_group p child) m) ≤ length (added_in places family)
  lists_few p within child is n m not = omega (
    arith,
    ones_of (items_at parents family p n),
    ones_of (items_at parents family (at_group p child) m),
    two_lists one parents tree family legal paired places whole p within child is n m not,
    all_added,
  )
