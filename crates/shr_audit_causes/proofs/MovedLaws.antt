-- SPDX-License-Identifier: GPL-2.0-only
-- Sums of moved objects, one entry and one list after another.
use Rattle.shr_audit_causes.proofs.OfflinesCommon.{◌≡◌, ℕ, zero, suc, ◌+◌, ◌-◌, ◌*◌, ◌^◌, ◌<◌, ◌≤◌, Bool, cond, List, [], ◌∷◌, length, get_or, set, take, map, replicate, Some, refl, sym, ap, subst, ◌∙◌, arith, eq-eqb, ne_eqb, length-set, get_or-set_same, get_or-set_other, ◌==◌, min, slice_get, sum_by, get_or-replicate, length-replicate, take_all, sum_by-cons, dite, ℕ_discrete, PlaceEnd, Entry, Report, objects_moved_from, moved_of, AreCappedSums, sum_by_more, slice_get-get_or, journals_of, AreMoved}
use Rattle.shr_base.specs.declared.places.Place.{Place}
use Rattle.shr_model.proofs.Numbers.{kept_sum}
use Rattle.shr_audit_causes.proofs.CarriedLaws.{many_none}

-- ---- sums as far as they go

abbrev most : ℕ
most = 2 ^ 128 - 1

pub sums_same : (f g : ℕ → ℕ) (table : List ℕ) → ((k : ℕ) → f k ≡ g k) → AreCappedSums f table → AreCappedSums g table
sums_same f g table same are group lt = are group lt ∙ ap (λ (n : ℕ). min n most) (same group)

pub sums_none : (count : ℕ) (table : List ℕ) → table ≡ replicate count 0 → AreCappedSums (λ g. 0) table
sums_none count table is group lt = ap (λ (xs : List ℕ). get_or xs group 0) is ∙ get_or-replicate count group 0 0 (subst (λ (n : ℕ). group < n) (ap length is ∙ length-replicate count 0) lt) ∙ sym (zero_kept most)
  where
    zero_kept : (m : ℕ) → min 0 m ≡ 0
    zero_kept m = omega arith

module _ (table : List ℕ) (group objects times : ℕ) where
  here_is : (g : ℕ) → group ≡ g → times * cond {A = ℕ} (group == g) objects 0 ≡ times * objects
  here_is g same = ap (λ (b : Bool). times * cond {A = ℕ} b objects 0) (eq-eqb group g same)

  away_is : (g n : ℕ) → (group ≡ g → ⊥) → n + times * cond {A = ℕ} (group == g) objects 0 ≡ n
  away_is g n ne = ap (λ (b : Bool). n + times * cond {A = ℕ} b objects 0) (ne_eqb group g ne) ∙ (let e : n + times * 0 ≡ n = omega arith in e)

  pub sums_more : (part sum : ℕ) → group < length table → part ≡ min (objects * times) most → sum ≡ min (get_or table group 0 + part) most
      → (sums : ℕ → ℕ) → AreCappedSums sums table → AreCappedSums (λ g. sums g + times * cond (group == g) objects 0) (set table group sum)
  sums_more part sum there of is sums are g lt = dite (ℕ_discrete g group) here away
    where
      within : g < length table
      within = subst (λ (n : ℕ). g < n) (length-set table group sum) lt

      here : g ≡ group → get_or (set table group sum) g 0 ≡ min (sums g + times * cond (group == g) objects 0) most
      here same =
          let own : get_or (set table group sum) group 0 ≡ min (sums group + objects * times) most =
          get_or-set_same table group sum 0 there ∙ is ∙ ap (λ (n : ℕ). min (n + part) most) (are group there) ∙ ap (λ (n : ℕ). min (min (sums group) most + n) most) of ∙ kept_sum (sums group) (objects * times) most in
          let turned : sums group + objects * times ≡ sums group + times * cond (group == group) objects 0 = ap (λ (n : ℕ). sums group + n) ((let e : objects * times ≡ times * objects = omega arith in e) ∙ sym (here_is group refl)) in
          subst (λ (k : ℕ). get_or (set table group sum) k 0 ≡ min (sums k + times * cond (group == k) objects 0) most) (sym same) (own ∙ ap (λ (n : ℕ). min n most) turned)

      away : (g ≡ group → ⊥) → get_or (set table group sum) g 0 ≡ min (sums g + times * cond (group == g) objects 0) most
      away ne = get_or-set_other table group g sum 0 ne ∙ are g within ∙ ap (λ (n : ℕ). min n most) (sym (away_is g (sums g) (λ e. ne (sym e))))

-- ---- entries

pub entries_more : (es : List Entry) (n : ℕ) (d : Entry) (times : ℕ) (sums : ℕ → ℕ) (table : List ℕ) → n < length es
    → AreCappedSums (λ g. (sums g + times * sum_by (moved_of g) (take n es)) + times * moved_of g (get_or es n d)) table → AreCappedSums (λ g. sums g + times * sum_by (moved_of g) (take (n + 1) es)) table
entries_more es n d times sums table lt = sums_same (λ g. (sums g + times * sum_by (moved_of g) (take n es)) + times * moved_of g (get_or es n d)) (λ g. sums g + times * sum_by (moved_of g) (take (n + 1) es)) table
    (λ g. spread (sums g) (sum_by (moved_of g) (take n es)) (moved_of g (get_or es n d)) ∙ ap (λ (m : ℕ). sums g + times * m) (sym (sum_by_more (moved_of g) es n d lt)))
  where
    spread : (a b c : ℕ) → (a + times * b) + times * c ≡ a + times * (b + c)
    spread a b c = omega arith

-- ---- places

-- what a printed list moves from a group
abbrev pub moved_by : Report → ℕ → PlaceEnd → ℕ
moved_by r g end = sum_by (moved_of g) (journals_of r end.place)

module _ (f : PlaceEnd → ℕ) (ends : List PlaceEnd) (d : PlaceEnd) (k v : ℕ) where
  run_of : (n : ℕ) → k + n ≤ length ends → ((j : ℕ) → k ≤ j → j < k + n → f (get_or ends j d) ≡ v) → sum_by f (take (k + n) ends) ≡ sum_by f (take k ends) + n * v
  run_of zero most same = ap (λ (j : ℕ). sum_by f (take j ends)) (let e : k + 0 ≡ k = omega arith in e) ∙ (let e : sum_by f (take k ends) ≡ sum_by f (take k ends) + 0 * v = omega arith in e)
  run_of (suc n) most same =
      let before = run_of n (omega (arith, most)) (λ j low high. same j low (omega (arith, high))) in
      let last = same (k + n) (omega arith) (omega arith) in
      let next = sum_by_more f ends (k + n) d (omega (arith, most)) in
      ap (λ (j : ℕ). sum_by f (take j ends)) (let e : k + suc n ≡ (k + n) + 1 = omega arith in e) ∙ next ∙ joined (sum_by f (take k ends)) (sum_by f (take (k + n) ends)) (f (get_or ends (k + n) d)) n before last
    where
      joined : (a b x n : ℕ) → b ≡ a + n * v → x ≡ v → b + x ≡ a + suc n * v
      joined a b x n e g = omega (arith, e, g)

-- a run of lists of one place is added at once
module _ (r : Report) (ends : List PlaceEnd) (k next : ℕ) (d : PlaceEnd) (low : k < next) (high : next ≤ length ends)
    (same : (j : ℕ) (x : PlaceEnd) → k + 1 ≤ j → j < next → slice_get ends j ≡ Some x → x.place ≡ (get_or ends k d).place) where
  alike : (g j : ℕ) → k ≤ j → j < next → moved_by r g (get_or ends j d) ≡ moved_by r g (get_or ends k d)
  alike g j from to = dite (ℕ_discrete j k)
      (λ here. ap (λ (i : ℕ). moved_by r g (get_or ends i d)) here)
      (λ ne. ap (λ (p : Place). sum_by (moved_of g) (journals_of r p)) (same j (get_or ends j d) (omega (arith, from, ne)) to (slice_get-get_or ends j d (omega (arith, to, high)))))

  pub places_more : (table : List ℕ) → AreCappedSums (λ g. sum_by (moved_by r g) (take k ends) + (next - k) * moved_by r g (get_or ends k d)) table → AreCappedSums (λ g. sum_by (moved_by r g) (take next ends)) table
  places_more table = sums_same (λ g. sum_by (moved_by r g) (take k ends) + (next - k) * moved_by r g (get_or ends k d)) (λ g. sum_by (moved_by r g) (take next ends)) table
      (λ g. sym (ap (λ (j : ℕ). sum_by (moved_by r g) (take j ends)) (let e : next ≡ k + (next - k) = omega (arith, low) in e) ∙ run_of (moved_by r g) ends d k (moved_by r g (get_or ends k d)) (next - k) (omega (arith, low, high)) (λ j from to. alike g j from (omega (arith, to, low)))))

by_places : (r : Report) (g : ℕ) (ends : List PlaceEnd) → sum_by (moved_by r g) ends ≡ sum_by (λ (p : Place). sum_by (moved_of g) (journals_of r p)) (map (λ (end : PlaceEnd). end.place) ends)
by_places r g [] = refl
by_places r g (end ∷ ends) = sum_by-cons (moved_by r g) end ends ∙ ap (λ (n : ℕ). moved_by r g end + n) (by_places r g ends)
    ∙ sym (sum_by-cons (λ (p : Place). sum_by (moved_of g) (journals_of r p)) end.place (map (λ (x : PlaceEnd). x.place) ends))

pub all_moved : (r : Report) (ends : List PlaceEnd) (k : ℕ) (table : List ℕ) → ends ≡ r.places.items → length ends ≤ k → length table ≡ 65536 → AreCappedSums (λ g. sum_by (moved_by r g) (take k ends)) table → AreMoved r table
all_moved r ends k table is over many are = record {
  count = many;
  each = sums_same (λ g. sum_by (moved_by r g) (take k ends)) (objects_moved_from r) table (λ g. ap (sum_by (moved_by r g)) (take_all k ends over ∙ is) ∙ by_places r g r.places.items) are;
}
