-- SPDX-License-Identifier: GPL-2.0-only
-- The journals that are printed, by the numbers of their places.
use Rattle.shr_assemble.proofs.Common.{◌≡◌, ℕ, zero, suc, ◌<◌, ◌≤◌, ◌≢◌, ◌⊎◌, inl, inr, ⊎_elim, Bool, true, false, cond, List, [], ◌∷◌, ◌++◌, map, length, sym, refl, ap, subst, ◌∙◌, arith, Option, Some, None, find, dite, ℕ_discrete, some-injective, some-ne-none, Object, Place, PlaceEnd, Entry, place_number, is_place, is_place_same, is_place_itself, place_at, EndValue, end_value, place_ends, back, journal_of, IsAmong, find_back, find_front, ◌+◌, slice_get, AllByRecursion, same_Some, none-some, UseStep, total, only, some_term, only_yes, only_no, at_some}
use Rattle.shr_core.specs.Ending.{ends_below}
use Rattle.shr_lawful.proofs.Gathering.{among_cases}
use Rattle.shr_lawful.proofs.Listed.{PairsRec, same_by_slices}

-- a value of this place, and its journal
abbrev is_valued : Place → EndValue → Bool
is_valued place v = is_place v.place place

abbrev entries_of : Option EndValue → List Entry
entries_of None = []
entries_of (Some v) = v.entries

-- the journal that is printed for a place, by values
seen_journal : (ends : List PlaceEnd) (place : Place) → journal_of (find (λ (end : PlaceEnd). is_place end.place place) ends) ≡ entries_of (find (is_valued place) (map end_value ends))
seen_journal [] place = refl
seen_journal (end ∷ ends) place = choose (is_place end.place place) (seen_journal ends place) where
  choose : (b : Bool) → journal_of (find (λ (e : PlaceEnd). is_place e.place place) ends) ≡ entries_of (find (is_valued place) (map end_value ends))
      → journal_of (cond b (Some end) (find (λ (e : PlaceEnd). is_place e.place place) ends)) ≡ entries_of (cond b (Some (end_value end)) (find (is_valued place) (map end_value ends)))
  choose true others = refl
  choose false others = others

pub below_or : (k n : ℕ) → (k < n) ⊎ (n ≤ k)
below_or k zero = inr (omega arith)
below_or zero (suc n) = inl (omega arith)
below_or (suc k) (suc n) = ⊎_elim (λ a. inl (omega (arith, a))) (λ b. inr (omega (arith, b))) (below_or k n)

module _ (now : ℕ → List Entry) (items : ℕ → List Object) where
  none_one : (k : ℕ) (place : Place) → is_place (place_at k) place ≡ false → (es : List Entry) (os : List Object) → find (is_valued place) (place_ends k es os) ≡ None
  none_one k place never [] os = refl
  none_one k place never (e ∷ es) os = ap (λ b. cond b (Some (record { place = place_at k; entries = e ∷ es; items = os })) None) never

  -- no journal is found for a place that none of these is
  none_below : (n : ℕ) (place : Place) → ((j : ℕ) → j < n → is_place (place_at j) place ≡ false) → find (is_valued place) (ends_below n now items) ≡ None
  unfolding ends_below
  none_below zero place never = refl
  none_below (suc n) place never = find_back (is_valued place) (ends_below n now items) (place_ends n (now n) (items n)) (none_below n place (λ j lt. never j (omega (arith, lt)))) ∙ none_one n place (never n (omega arith)) (now n) (items n)

  differs : (j : ℕ) (place : Place) → (place_at j ≡ place → ⊥) → is_place (place_at j) place ≡ false
  differs j place never = (elim (is_place (place_at j) place) as (λ (b : Bool). (b ≡ true → place_at j ≡ place) → b ≡ false) [ true ↦ λ same. absurd (never (same refl)) | false ↦ λ same. refl ]) (is_place_same (place_at j) place)

  apart : (j k : ℕ) → j ≢ k → is_place (place_at j) (place_at k) ≡ false
  apart j k ne = differs j (place_at k) (λ e. ne (sym (back j) ∙ (ap place_number e ∙ back k)))

  own_one : (k : ℕ) (es : List Entry) (os : List Object) → entries_of (find (is_valued (place_at k)) (place_ends k es os)) ≡ es
  own_one k [] os = refl
  own_one k (e ∷ es) os = ap (λ b. entries_of (cond b (Some (record { place = place_at k; entries = e ∷ es; items = os })) None)) (is_place_itself (place_at k))

  at_below : (n k : ℕ) → k < n → entries_of (find (is_valued (place_at k)) (ends_below n now items)) ≡ now k
  unfolding ends_below
  at_below zero k lt = absurd (omega (arith, lt))
  at_below (suc n) k lt = dite (ℕ_discrete k n)
      (λ e. subst (λ (m : ℕ). entries_of (find (is_valued (place_at m)) (ends_below n now items ++ place_ends n (now n) (items n))) ≡ now m) (sym e)
      (ap entries_of (find_back (is_valued (place_at n)) (ends_below n now items) (place_ends n (now n) (items n)) (none_below n (place_at n) (λ j below. apart j n (λ q. absurd (omega (arith, below, q)))))) ∙ own_one n (now n) (items n)))
      (λ ne. ap entries_of (find_front (is_valued (place_at k)) (ends_below n now items) (place_ends n (now n) (items n)) (none_one n (place_at k) (apart n k (λ q. ne (sym q))) (now n) (items n))) ∙ at_below n k (omega (arith, lt, ne)))

  -- each value is of a place with a journal
  pub record IsBelow (n : ℕ) (v : EndValue) : Type 0 where
    pub k : ℕ
    pub near : k < n
    pub some_entry : 0 < length (now k)
    pub place : v.place ≡ place_at k
    pub entries : v.entries ≡ now k
    pub items_are : v.items ≡ items k

  one_of : (k : ℕ) (es : List Entry) (os : List Object) (v : EndValue) → IsAmong v (place_ends k es os) → (0 < length es) × (v ≡ record { place = place_at k; entries = es; items = os })
  one_of k [] os v (j, e) = absurd (some-ne-none v (sym e))
  one_of k (x ∷ es) os v (zero, e) = (omega arith, sym (some-injective (record { place = place_at k; entries = x ∷ es; items = os }) v e))
  one_of k (x ∷ es) os v (suc j, e) = absurd (some-ne-none v (sym e))

  pub among_below : (n : ℕ) (v : EndValue) → IsAmong v (ends_below n now items) → IsBelow n v
  unfolding ends_below
  among_below zero v (j, e) = absurd (some-ne-none v (sym e))
  among_below (suc n) v h = ⊎_elim
      (λ a. let b = among_below n v a in record { k = b.k; near = omega (arith, b.near); some_entry = b.some_entry; place = b.place; entries = b.entries; items_are = b.items_are })
      (λ a. let t = one_of n (now n) (items n) v a in record { k = n; near = omega arith; some_entry = t.0; place = ap (λ (w : EndValue). w.place) t.1; entries = ap (λ (w : EndValue). w.entries) t.1; items_are = ap (λ (w : EndValue). w.items) t.1 })
      (among_cases (ends_below n now items) (place_ends n (now n) (items n)) v h)

  module _ (n : ℕ) (ends : List PlaceEnd) (are : map end_value ends ≡ ends_below n now items) (placed : (k : ℕ) → 0 < length (now k) → k < n) where
    -- the journal that is printed for the place of a number
    pub printed_at : (k : ℕ) → journal_of (find (λ (end : PlaceEnd). is_place end.place (place_at k)) ends) ≡ now k
    printed_at k = seen_journal ends (place_at k) ∙ (ap (λ vs. entries_of (find (is_valued (place_at k)) vs)) are ∙ at_all (now k) refl) where
      none_of : (es : List Entry) → (0 < length es → ⊥) → es ≡ []
      none_of [] never = refl
      none_of (e ∷ es) never = absurd (never (omega arith))

      at_all : (es : List Entry) → now k ≡ es → entries_of (find (is_valued (place_at k)) (ends_below n now items)) ≡ now k
      at_all [] e = ⊎_elim (λ lt. at_below n k lt)
          (λ le. ap entries_of (none_below n (place_at k) (λ j below. apart j k (λ q. absurd (omega (arith, below, q, le))))) ∙ sym e) (below_or k n)
      at_all (x ∷ es) e = at_below n k (placed k (subst (λ (l : List Entry). 0 < length l) (sym e) (omega arith)))

    -- a place that is of no number has none
    pub printed_none : (place : Place) → ((k : ℕ) → place_at k ≡ place → ⊥) → journal_of (find (λ (end : PlaceEnd). is_place end.place place) ends) ≡ []
    printed_none place never = seen_journal ends place ∙ (ap (λ vs. entries_of (find (is_valued place) vs)) are ∙ ap entries_of (none_below n place (λ j below. differs j place (never j))))

-- operations by their numbers, one after another
abbrev pub IsSorted : List UseStep → Type 0
IsSorted os = PairsRec (λ o p. o.operation ≤ p.operation) os

abbrev pub numbers : ℕ → List UseStep → ℕ
numbers n os = total (λ (o : UseStep). only n o.operation) os

-- each number from the first up to the last is that of one operation, and no other is
pub record AreNumbered (low high : ℕ) (os : List UseStep) : Type 0 where
  pub ordered : low ≤ high
  pub once : (n : ℕ) → low ≤ n → n < high → numbers n os ≡ 1
  pub before : (n : ℕ) → n < low → numbers n os ≡ 0
  pub past : (n : ℕ) → high ≤ n → numbers n os ≡ 0

least : (o : UseStep) (os : List UseStep) (j : ℕ) (p : UseStep) → AllByRecursion (λ (q : UseStep). o.operation ≤ q.operation) os → slice_get (o ∷ os) j ≡ Some p → o.operation ≤ p.operation
least o os zero p all at = let e = ap (λ (q : UseStep). q.operation) (same_Some o p at) in omega (arith, e)
least o [] (suc j) p all at = absurd (none-some p at)
least o (q ∷ os) (suc zero) p all at = let e = ap (λ (u : UseStep). u.operation) (same_Some q p at) in omega (arith, e, all.0)
least o (q ∷ os) (suc (suc j)) p all at = least o os (suc j) p all.1 at

head_is : (low high : ℕ) (o : UseStep) (os : List UseStep) → IsSorted (o ∷ os) → AreNumbered low high (o ∷ os) → o.operation ≡ low
head_is low high o os sorted are =
    let own = only_yes o.operation o.operation refl in
    let below : o.operation < low → ⊥ = λ h. let z = are.before o.operation h in omega (arith, own, z) in
    let above : high ≤ o.operation → ⊥ = λ h. let z = are.past o.operation h in omega (arith, own, z) in
    dite (ℕ_discrete o.operation low) (λ e. e) (λ ne.
    let inside : low < high = inside_of low high o.operation below above in
    let one = are.once low (omega arith) inside in
    let t = some_term (λ (p : UseStep). only low p.operation) (o ∷ os) (omega (arith, one)) in
    let is : t.1.operation ≡ low = dite (ℕ_discrete t.1.operation low) (λ q. q) (λ q. absurd (let z = only_no low t.1.operation q in let w = t.3 in omega (arith, z, w))) in
    let le = least o os t.0 t.1 sorted.0 (at_some (o ∷ os) t.0 t.1 t.2) in
    absurd (between low o.operation ne below (omega (arith, le, is)))) where
      inside_of : (low high n : ℕ) → (n < low → ⊥) → (high ≤ n → ⊥) → low < high
      inside_of low high n a b = ⊎_elim (λ h. absurd (a h)) (λ h. ⊎_elim (λ l. omega (arith, h, l)) (λ l. absurd (b l)) (below_or n high)) (below_or n low)

      between : (low n : ℕ) → (n ≢ low) → (n < low → ⊥) → n ≤ low → ⊥
      between low n ne never le = never (omega (arith, ne, le))

tail_are : (low high : ℕ) (o : UseStep) (os : List UseStep) → o.operation ≡ low → low < high → AreNumbered low high (o ∷ os) → AreNumbered (suc low) high os
tail_are low high o os is lt are = record {
  ordered = omega (arith, lt);
  once = λ n a b. let all = are.once n (omega (arith, a)) b in let z = only_no n o.operation (λ e. absurd (omega (arith, e, is, a))) in omega (arith, all, z);
  before = λ n a. dite (ℕ_discrete n low)
      (λ e. let all = are.once n (omega (arith, e)) (omega (arith, e, lt)) in let y = only_yes n o.operation (is ∙ sym e) in omega (arith, all, y))
      (λ ne. let all = are.before n (omega (arith, a, ne)) in omega (arith, all));
  past = λ n a. let all = are.past n a in omega (arith, all);
}

-- the operations of a row have the numbers from the first on
record IsRowOf (low high : ℕ) (os : List UseStep) : Type 0 where
  many : low + length os ≡ high
  each : (i : ℕ) (o : UseStep) → slice_get os i ≡ Some o → o.operation ≡ low + i

row_of : (low high : ℕ) (os : List UseStep) → IsSorted os → AreNumbered low high os → IsRowOf low high os
row_of low high [] sorted are = record { many = none; each = λ i o h. absurd (none-some o h) } where
  none : low + 0 ≡ high
  none = dite (ℕ_discrete low high) (λ e. omega (arith, e)) (λ ne. absurd (let le = are.ordered in let one = are.once low (omega arith) (omega (arith, le, ne)) in omega (arith, one)))
row_of low high (o ∷ os) sorted are =
    let is : o.operation ≡ low = head_is low high o os sorted are in
    let own = only_yes low o.operation is in
    let lt : low < high = dite (ℕ_discrete low high) (λ e. absurd (let z = are.past low (omega (arith, e)) in omega (arith, z, own))) (λ ne. let le = are.ordered in omega (arith, le, ne)) in
    let rest = row_of (suc low) high os sorted.1 (tail_are low high o os is lt are) in
    let many = rest.many in
    record { many = omega (arith, many); each = λ i p h. at i p h is rest.each } where
      at : (i : ℕ) (p : UseStep) → slice_get (o ∷ os) i ≡ Some p → o.operation ≡ low → ((j : ℕ) (q : UseStep) → slice_get os j ≡ Some q → q.operation ≡ suc low + j) → p.operation ≡ low + i
      at zero p h is others = let e = ap (λ (u : UseStep). u.operation) (same_Some o p h) in omega (arith, e, is)
      at (suc j) p h is others = let e = others j p h in omega (arith, e)

-- sorted operations that each stand at their number in a history, each number once, are the history
pub sorted_history : (history os : List UseStep) → IsSorted os → AreNumbered 0 (length history) os → ((i : ℕ) (o : UseStep) → slice_get os i ≡ Some o → slice_get history o.operation ≡ Some o) → os ≡ history
sorted_history history os sorted are stands = let row = row_of 0 (length history) os sorted are in let many = row.many in
    sym (same_by_slices history os (omega (arith, many)) (λ i o h. let e : o.operation ≡ i = (let z = row.each i o h in omega (arith, z)) in ap (slice_get history) (sym e) ∙ stands i o h))
