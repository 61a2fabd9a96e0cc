-- SPDX-License-Identifier: GPL-2.0-only
-- The journals of pools that are printed, by their rooms.
use Rattle.shr_lawful.proofs.UnitsCommon.{◌≡◌, ℕ, zero, suc, ◌+◌, ◌<◌, ◌≤◌, ◌≢◌, ◌⊎◌, ⊎_elim, Bool, true, false, cond, List, [], ◌∷◌, ◌++◌, length, map, sym, refl, ap, subst, ◌∙◌, arith, slice_get, Option, Some, None, AllByRecursion, append-nil, map-append, same_Some, none-some, dite, ℕ_discrete, UnitsEnd, PlainEntry, Place, is_place, free_of, is_place_same, is_place_itself, Sizes, IsPlaceOf, row_of, row_count, place_of_row, row_low, UnitsEndValue, units_end_value, Report, units_journal, units_place, find, row_back, units_entries}
use Rattle.shr_plain.specs.Ending.{units_ends, units_ends_below}
use Rattle.shr_lawful.proofs.UnitLists.{IsIn, in_none, in_cases}
use Rattle.shr_lawful.proofs.UnitPooling.{place_back, row_there}
use Rattle.shr_model.proofs.Booleans.{no_test}

abbrev pub value_place : UnitsEndValue → Place
value_place v = record { id = v.pool; node = v.node; group = 0 }

abbrev is_valued : Place → UnitsEndValue → Bool
is_valued p v = is_place (value_place v) p

abbrev entries_in : Option UnitsEndValue → List PlainEntry
entries_in None = []
entries_in (Some v) = v.entries

-- the journal that is printed for a place, by values
seen_units : (us : List UnitsEnd) (p : Place) → units_entries (find (λ (u : UnitsEnd). is_place (units_place u) p) us) ≡ entries_in (find (is_valued p) (map units_end_value us))
seen_units [] p = refl
seen_units (u ∷ us) p = choose (is_place (units_place u) p) (seen_units us p) where
  choose : (b : Bool) → units_entries (find (λ (v : UnitsEnd). is_place (units_place v) p) us) ≡ entries_in (find (is_valued p) (map units_end_value us))
      → units_entries (cond b (Some u) (find (λ (v : UnitsEnd). is_place (units_place v) p) us)) ≡ entries_in (cond b (Some (units_end_value u)) (find (is_valued p) (map units_end_value us)))
  choose true others = refl
  choose false others = others

pub find_front : {A : Type 0} (p : A → Bool) (xs ys : List A) → find p ys ≡ None → find p (xs ++ ys) ≡ find p xs
find_front p [] ys none = none
find_front p (x ∷ xs) ys none = ap (λ o. cond (p x) (Some x) o) (find_front p xs ys none)

pub find_back : {A : Type 0} (p : A → Bool) (xs ys : List A) → find p xs ≡ None → find p (xs ++ ys) ≡ find p ys
find_back p [] ys none = refl
find_back {A} p (x ∷ xs) ys none = choose (p x) (λ h. find_back p xs ys h) none where
  some_none : Some x ≡ None → ⊥
  some_none h = cc

  choose : (b : Bool) → (find p xs ≡ None → find p (xs ++ ys) ≡ find p ys) → cond b (Some x) (find p xs) ≡ None → cond b (Some x) (find p (xs ++ ys)) ≡ find p ys
  choose true later h = absurd (some_none h)
  choose false later h = later h

pub slice_map : {A B : Type 0} (f : A → B) (xs : List A) (j : ℕ) (x : A) → slice_get xs j ≡ Some x → slice_get (map f xs) j ≡ Some (f x)
slice_map f [] j x e = absurd (none-some x e)
slice_map f (y ∷ xs) zero x e = ap (λ w. Some (f w)) (same_Some y x e)
slice_map f (y ∷ xs) (suc j) x e = slice_map f xs j x e

module _ (z : Sizes) (one : z.groups ≡ 1) (journal : ℕ → List PlainEntry) where
  -- the place of a row has group 0
  place_group : (row : ℕ) → row < row_count z → record { id = (place_of_row z row).id; node = (place_of_row z row).node; group = 0 } ≡ place_of_row z row
  place_group row lt = let g = (row_there z row one lt).group in ap (λ (n : ℕ). record { id = (place_of_row z row).id; node = (place_of_row z row).node; group = n }) (let e : 0 ≡ (place_of_row z row).group = omega (arith, g, one) in e)

  apart : (row : ℕ) (p : Place) → row < row_count z → IsPlaceOf z p → row ≢ row_of z p → is_place (record { id = (place_of_row z row).id; node = (place_of_row z row).node; group = 0 }) p ≡ false
  apart row p lt there ne = no_test _ (λ e. ne (sym (row_back z row) ∙ ap (row_of z) (sym (place_group row lt) ∙ is_place_same _ p e)))

  away : (row : ℕ) (p : Place) → row < row_count z → (IsPlaceOf z p → ⊥) → is_place (record { id = (place_of_row z row).id; node = (place_of_row z row).node; group = 0 }) p ≡ false
  away row p lt out = no_test _ (λ e. out (subst (IsPlaceOf z) (sym (place_group row lt) ∙ is_place_same _ p e) (row_there z row one lt)))

  none_one : (row : ℕ) (p : Place) (es : List PlainEntry) → is_place (record { id = (place_of_row z row).id; node = (place_of_row z row).node; group = 0 }) p ≡ false → find (is_valued p) (units_ends (place_of_row z row) es) ≡ None
  none_one row p [] never = refl
  none_one row p (e ∷ es) never = ap (λ b. cond b (Some (record { pool = (place_of_row z row).id; node = (place_of_row z row).node; entries = e ∷ es; free = free_of (e ∷ es) })) None) never

  none_below : (n : ℕ) (p : Place) → ((row : ℕ) → row < n → is_place (record { id = (place_of_row z row).id; node = (place_of_row z row).node; group = 0 }) p ≡ false) → find (is_valued p) (units_ends_below z n journal) ≡ None
  unfolding units_ends_below
  none_below zero p never = refl
  none_below (suc n) p never = find_back (is_valued p) (units_ends_below z n journal) (units_ends (place_of_row z n) (journal n)) (none_below n p (λ row lt. never row (omega (arith, lt)))) ∙ none_one n p (journal n) (never n (omega arith))

  own_one : (row : ℕ) (es : List PlainEntry) → row < row_count z → entries_in (find (is_valued (place_of_row z row)) (units_ends (place_of_row z row) es)) ≡ es
  own_one row [] lt = refl
  own_one row (e ∷ es) lt = ap (λ b. entries_in (cond b (Some (record { pool = (place_of_row z row).id; node = (place_of_row z row).node; entries = e ∷ es; free = free_of (e ∷ es) })) None))
      (ap (λ (q : Place). is_place q (place_of_row z row)) (place_group row lt) ∙ is_place_itself (place_of_row z row))

  at_below : (n row : ℕ) → n ≤ row_count z → row < n → entries_in (find (is_valued (place_of_row z row)) (units_ends_below z n journal)) ≡ journal row
  unfolding units_ends_below
  at_below zero row le lt = absurd (omega (arith, lt))
  at_below (suc n) row le lt = dite (ℕ_discrete row n)
      (λ e. subst (λ (m : ℕ). entries_in (find (is_valued (place_of_row z m)) (units_ends_below z n journal ++ units_ends (place_of_row z n) (journal n))) ≡ journal m) (sym e)
      (ap entries_in (find_back (is_valued (place_of_row z n)) (units_ends_below z n journal) (units_ends (place_of_row z n) (journal n)) (none_below n (place_of_row z n) (λ j low. differs j n (omega (arith, low, le)) (omega (arith, le)) (λ q. omega (arith, low, q))))) ∙ own_one n (journal n) (omega (arith, le))))
      (λ ne. ap entries_in (find_front (is_valued (place_of_row z row)) (units_ends_below z n journal) (units_ends (place_of_row z n) (journal n)) (none_one n (place_of_row z row) (journal n) (differs n row (omega (arith, le)) (omega (arith, lt, le)) (λ q. ne (sym q))))) ∙ at_below n row (omega (arith, le)) (omega (arith, lt, ne)))
    where
      differs : (j k : ℕ) → j < row_count z → k < row_count z → j ≢ k → is_place (record { id = (place_of_row z j).id; node = (place_of_row z j).node; group = 0 }) (place_of_row z k) ≡ false
      differs j k a b ne = apart j (place_of_row z k) a (row_there z k one b) (λ e. ne (e ∙ row_back z k))

  -- each value is of a row with a journal
  pub record IsBelow (n : ℕ) (v : UnitsEndValue) : Type 0 where
    pub row : ℕ
    pub near : row < n
    pub some_entry : 0 < length (journal row)
    pub pool : v.pool ≡ (place_of_row z row).id
    pub node : v.node ≡ (place_of_row z row).node
    pub entries : v.entries ≡ journal row
    pub free : v.free ≡ free_of (journal row)

  one_of : (row : ℕ) (es : List PlainEntry) (v : UnitsEndValue) → IsIn v (units_ends (place_of_row z row) es) → (0 < length es) × (v ≡ record { pool = (place_of_row z row).id; node = (place_of_row z row).node; entries = es; free = free_of es })
  one_of row [] v h = absurd (in_none v h)
  one_of row (x ∷ es) v (zero, e) = (omega arith, sym (same_Some _ v e))
  one_of row (x ∷ es) v (suc j, e) = absurd (none-some v e)

  pub among_below : (n : ℕ) (v : UnitsEndValue) → IsIn v (units_ends_below z n journal) → IsBelow n v
  unfolding units_ends_below
  among_below zero v h = absurd (in_none v h)
  among_below (suc n) v h = ⊎_elim
      (λ a. let b = among_below n v a in record { row = b.row; near = omega (arith, b.near); some_entry = b.some_entry; pool = b.pool; node = b.node; entries = b.entries; free = b.free })
      (λ a. let t = one_of n (journal n) v a in record { row = n; near = omega arith; some_entry = t.0; pool = ap (λ (w : UnitsEndValue). w.pool) t.1; node = ap (λ (w : UnitsEndValue). w.node) t.1; entries = ap (λ (w : UnitsEndValue). w.entries) t.1; free = ap (λ (w : UnitsEndValue). w.free) t.1 })
      (in_cases (units_ends_below z n journal) (units_ends (place_of_row z n) (journal n)) v h)

  -- the rows of the values rise
  abbrev pub value_row : UnitsEndValue → ℕ
  value_row v = row_of z (value_place v)

  abbrev pub Rises : List ℕ → Type 0
  Rises [] = Unit {0}
  Rises (x ∷ xs) = AllByRecursion (λ y. x < y) xs × Rises xs

  all_snoc : (n : ℕ) (m : ℕ) (xs : List ℕ) → AllByRecursion (λ y. m < y) xs → m < n → AllByRecursion (λ y. m < y) (xs ++ n ∷ [])
  all_snoc n m [] h lt = (lt, tt)
  all_snoc n m (x ∷ xs) h lt = (h.0, all_snoc n m xs h.1 lt)

  rises_snoc : (n : ℕ) (xs : List ℕ) → Rises xs → AllByRecursion (λ y. y < n) xs → Rises (xs ++ n ∷ [])
  rises_snoc n [] r b = (tt, tt)
  rises_snoc n (x ∷ xs) r b = (all_snoc n x xs r.0 b.0, rises_snoc n xs r.1 b.1)

  below_snoc : (n : ℕ) (xs : List ℕ) → AllByRecursion (λ y. y < n) xs → AllByRecursion (λ y. y < suc n) (xs ++ n ∷ [])
  below_snoc n [] h = (omega arith, tt)
  below_snoc n (x ∷ xs) h = (let q = h.0 in omega (arith, q), below_snoc n xs h.1)

  below_later : (n : ℕ) (xs : List ℕ) → AllByRecursion (λ y. y < n) xs → AllByRecursion (λ y. y < suc n) xs
  below_later n [] h = tt
  below_later n (x ∷ xs) h = (let q = h.0 in omega (arith, q), below_later n xs h.1)

  row_is : (n : ℕ) → n < row_count z → row_of z (record { id = (place_of_row z n).id; node = (place_of_row z n).node; group = 0 }) ≡ n
  row_is n lt = ap (row_of z) (place_group n lt) ∙ row_back z n

  rises_one : (n : ℕ) → n < row_count z → (es : List PlainEntry) (ns : List ℕ) → Rises ns × AllByRecursion (λ y. y < n) ns → Rises (ns ++ map value_row (units_ends (place_of_row z n) es)) × AllByRecursion (λ y. y < suc n) (ns ++ map value_row (units_ends (place_of_row z n) es))
  rises_one n lt [] ns h = subst (λ (l : List ℕ). Rises l × AllByRecursion (λ y. y < suc n) l) (sym (append-nil ns)) (h.0, below_later n ns h.1)
  rises_one n lt (e ∷ es) ns h = subst (λ (m : ℕ). Rises (ns ++ m ∷ []) × AllByRecursion (λ y. y < suc n) (ns ++ m ∷ [])) (sym (row_is n lt)) (rises_snoc n ns h.0 h.1, below_snoc n ns h.1)

  pub rises_below : (n : ℕ) → n ≤ row_count z → Rises (map value_row (units_ends_below z n journal)) × AllByRecursion (λ y. y < n) (map value_row (units_ends_below z n journal))
  unfolding units_ends_below
  rises_below zero le = (tt, tt)
  rises_below (suc n) le = subst (λ (l : List ℕ). Rises l × AllByRecursion (λ y. y < suc n) l) (sym (map-append value_row (units_ends_below z n journal) (units_ends (place_of_row z n) (journal n))))
      (rises_one n (omega (arith, le)) (journal n) (map value_row (units_ends_below z n journal)) (rises_below n (omega (arith, le))))

  -- in a list that rises one number stands once
  all_at : (P : ℕ → Type 0) (xs : List ℕ) (j : ℕ) (x : ℕ) → AllByRecursion P xs → slice_get xs j ≡ Some x → P x
  all_at P [] j x h e = absurd (none-some x e)
  all_at P (y ∷ xs) zero x h e = subst P (same_Some y x e) h.0
  all_at P (y ∷ xs) (suc j) x h e = all_at P xs j x h.1 e

  stands_once : (xs : List ℕ) → Rises xs → (i j n : ℕ) → slice_get xs i ≡ Some n → slice_get xs j ≡ Some n → i ≡ j
  stands_once [] r i j n a b = absurd (none-some n a)
  stands_once (x ∷ xs) r zero zero n a b = refl
  stands_once (x ∷ xs) r zero (suc j) n a b = absurd (let lt = all_at (λ y. x < y) xs j n r.0 b in let e = same_Some x n a in omega (arith, lt, e))
  stands_once (x ∷ xs) r (suc i) zero n a b = absurd (let lt = all_at (λ y. x < y) xs i n r.0 a in let e = same_Some x n b in omega (arith, lt, e))
  stands_once (x ∷ xs) r (suc i) (suc j) n a b = ap suc (stands_once xs r.1 i j n a b)

  module _ (r : Report) (are : map units_end_value r.units.items ≡ units_ends_below z (row_count z) journal) where
    -- the journal of a place of the tables, and of any other
    pub units_there : (p : Place) → IsPlaceOf z p → units_journal r p ≡ journal (row_of z p)
    units_there p there = seen_units r.units.items p ∙ (ap (λ vs. entries_in (find (is_valued p) vs)) are
        ∙ (ap (λ (q : Place). entries_in (find (is_valued q) (units_ends_below z (row_count z) journal))) (sym (place_back z p there)) ∙ at_below (row_count z) (row_of z p) (omega arith) (row_low z p there)))

    pub units_nowhere : (p : Place) → (IsPlaceOf z p → ⊥) → units_journal r p ≡ []
    units_nowhere p out = seen_units r.units.items p ∙ (ap (λ vs. entries_in (find (is_valued p) vs)) are ∙ ap entries_in (none_below (row_count z) p (λ row lt. away row p lt out)))

    -- each journal that is printed is that of a row
    pub printed : (j : ℕ) (u : UnitsEnd) → slice_get r.units.items j ≡ Some u → IsBelow (row_count z) (units_end_value u)
    printed j u at = among_below (row_count z) (units_end_value u) (j, subst (λ l. slice_get l j ≡ Some (units_end_value u)) are (slice_map units_end_value r.units.items j u at))

    pub printed_once : (i j : ℕ) (u v : UnitsEnd) → slice_get r.units.items i ≡ Some u → slice_get r.units.items j ≡ Some v → units_place u ≡ units_place v → i ≡ j
    printed_once i j u v a b same = stands_once (map value_row (units_ends_below z (row_count z) journal)) (rises_below (row_count z) (omega arith)).0 i j (row_of z (units_place u))
        (at i u a) (at j v b ∙ ap (λ (q : Place). Some (row_of z q)) (sym same))
      where
        at : (k : ℕ) (w : UnitsEnd) → slice_get r.units.items k ≡ Some w → slice_get (map value_row (units_ends_below z (row_count z) journal)) k ≡ Some (row_of z (units_place w))
        at k w e = slice_map value_row (units_ends_below z (row_count z) journal) k (units_end_value w) (subst (λ l. slice_get l k ≡ Some (units_end_value w)) are (slice_map units_end_value r.units.items k w e))
