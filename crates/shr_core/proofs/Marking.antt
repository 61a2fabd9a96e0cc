-- SPDX-License-Identifier: GPL-2.0-only
-- The marks keep their part of the rule.
use Rattle.shr_core.proofs.Common.{◌≡◌, ◌⊎◌, ℕ, ◌%◌, ◌<◌, ◌≤◌, ◌≢◌, List, [], ◌∷◌, ◌++◌, set, sym, refl, ap, subst, ◌∙◌, inl, inr, ⊎_elim, arith, bit_at, dite, ℕ_discrete, some, get_elem?, Each, total, times, without, total_same, total-set, Each-set, Each-push, Each-weaker, times-without_other, times-push_le, times-push_same, times-push_other, term_le, Marks, Mapped, places_in, group_of, map_of, place_bit, place_id, AreMarks, IsMapped, IsShown, HasOnlyIds}

abbrev cleared_at : ℕ → Marks → ℕ
cleared_at k m = times k m.cleared

-- the maps of all seats, once one seat has cleared no less
maps_stay : (places : ℕ) (ms : List Marks) (id : ℕ) (m w : Marks) → get_elem? ms id ≡ some m → ((k : ℕ) → times k m.cleared ≤ times k w.cleared) → Each (λ x. Each (IsMapped places ms) x.maps) ms → Each (IsMapped places (set ms id w)) w.maps → Each (λ x. Each (IsMapped places (set ms id w)) x.maps) (set ms id w)
maps_stay places ms id m w at more all mine = Each-set (λ x. Each (IsMapped places (set ms id w)) x.maps) ms id w mine
    (λ j x e. Each-weaker (IsMapped places ms) (IsMapped places (set ms id w))
    (λ y old k near same was none-now. old k near same was (omega (arith, total-set (cleared_at k) ms id m w at, more k, none-now))) x.maps (all j x e))

-- the seat's own maps
own_stay : (places : ℕ) (ms : List Marks) (id : ℕ) (m w : Marks) → get_elem? ms id ≡ some m → ((k : ℕ) → times k m.cleared ≤ times k w.cleared) → Each (IsMapped places ms) m.maps → Each (IsMapped places (set ms id w)) m.maps
own_stay places ms id m w at more = Each-weaker (IsMapped places ms) (IsMapped places (set ms id w)) (λ y old k near same was none-now. old k near same was (omega (arith, total-set (cleared_at k) ms id m w at, more k, none-now))) m.maps

abbrev set_at : ℕ → Marks → ℕ
set_at k m = times k m.sets

-- what was seen to be set, once one seat has set no less
shown_stay : (places : ℕ) (ms : List Marks) (id : ℕ) (m w : Marks) → get_elem? ms id ≡ some m → ((k : ℕ) → times k m.sets ≤ times k w.sets) → (l : List Mapped) → Each (IsShown places ms) l → Each (IsShown places (set ms id w)) l
shown_stay places ms id m w at more = Each-weaker (IsShown places ms) (IsShown places (set ms id w)) (λ y old k near same is-one. omega (arith, old k near same is-one, total-set (set_at k) ms id m w at, more k))

all_shown : (places : ℕ) (ms : List Marks) (id : ℕ) (m w : Marks) → get_elem? ms id ≡ some m → ((k : ℕ) → times k m.sets ≤ times k w.sets) → w.maps ≡ m.maps → Each (λ x. Each (IsShown places ms) x.maps) ms → Each (λ x. Each (IsShown places (set ms id w)) x.maps) (set ms id w)
all_shown places ms id m w at more same all = Each-set (λ x. Each (IsShown places (set ms id w)) x.maps) ms id w
    (subst (λ (l : List Mapped). Each (IsShown places (set ms id w)) l) (sym same) (shown_stay places ms id m w at more m.maps (all id m at)))
    (λ j x e. shown_stay places ms id m w at more x.maps (all j x e))

-- what all seats saw is of ids, once one seat has other maps that are
only_ids : (ids : ℕ) (ms : List Marks) (id : ℕ) (w : Marks) → Each (HasOnlyIds ids) w.maps → Each (λ x. Each (HasOnlyIds ids) x.maps) ms → Each (λ x. Each (HasOnlyIds ids) x.maps) (set ms id w)
only_ids ids ms id w mine all = Each-set (λ (x : Marks). Each (HasOnlyIds ids) x.maps) ms id w mine all

-- a set bit was set by some seat, once one seat has set no less
raised_stay : (ms : List Marks) (id : ℕ) (m w : Marks) → get_elem? ms id ≡ some m → (k : ℕ) → times k m.sets ≤ times k w.sets → 0 < total (set_at k) ms → 0 < total (set_at k) (set ms id w)
raised_stay ms id m w at k more was = omega (arith, was, total-set (set_at k) ms id m w at, more)

-- a seat comes to owe less where the place shows no items or is not live
pub owes_less : (ids : ℕ) (count bits phase : ℕ → ℕ) (ms : List Marks) (id : ℕ) (m : Marks) (owed : List ℕ) → get_elem? ms id ≡ some m → ((j : ℕ) → phase (place_id j) % 3 ≡ 1 → 0 < count j % 4294967296 → times j owed ≡ times j m.owed)
    → AreMarks ids count bits phase ms → AreMarks ids count bits phase (set ms id (record m { owed = owed }))
owes_less ids count bits phase ms id m owed at same o = let w : Marks = record m { owed = owed } in record {
  flagged = λ j near below live some-items. ⊎_elim inl (λ h. inr (omega (arith, h, total_same (λ (z : Marks). times j z.owed) ms id m w at (same j live some-items)))) (o.flagged j near below live some-items);
  settled = λ j near some-set none-cleared. o.settled j near (omega (arith, some-set, total_same (λ (z : Marks). times j z.sets) ms id m w at refl)) (omega (arith, none-cleared, total_same (cleared_at j) ms id m w at refl));
  mapped = maps_stay (places_in ids) ms id m w at (λ j. omega arith) o.mapped (own_stay (places_in ids) ms id m w at (λ j. omega arith) (o.mapped id m at));
  raised = λ j near is-one. raised_stay ms id m w at j (omega arith) (o.raised j near is-one);
  shown = all_shown (places_in ids) ms id m w at (λ j. omega arith) refl o.shown;
  none_else = o.none_else;
  none_shown = only_ids ids ms id w (o.none_shown id m at) o.none_shown;
}

-- the places set by now stand beside a map
pub maps : (ids : ℕ) (count bits phase : ℕ → ℕ) (ms : List Marks) (id b : ℕ) (m : Marks) → get_elem? ms id ≡ some m → b < places_in ids → AreMarks ids count bits phase ms → AreMarks ids count bits phase (set ms id (record m { maps = m.maps ++ record { map = b; bits = bits b; set = m.sets } ∷ [] }))
maps ids count bits phase ms id b m at inside o = let x : Mapped = record { map = b; bits = bits b; set = m.sets } in let w : Marks = record m { maps = m.maps ++ x ∷ [] } in
    let cleared : (k : ℕ) → total (cleared_at k) (set ms id w) ≡ total (cleared_at k) ms = λ k. total_same (cleared_at k) ms id m w at refl in record {
      flagged = λ j near below live some-items. ⊎_elim inl (λ h. inr (omega (arith, h, total_same (λ (z : Marks). times j z.owed) ms id m w at refl))) (o.flagged j near below live some-items);
      settled = λ j near some-set none-cleared. o.settled j near (omega (arith, some-set, total_same (λ (z : Marks). times j z.sets) ms id m w at refl)) (omega (arith, none-cleared, cleared j));
      mapped = maps_stay (places_in ids) ms id m w at (λ j. omega arith) o.mapped
          (Each-push (IsMapped (places_in ids) (set ms id w)) m.maps x
          (λ k near same was none-now. subst (λ (y : ℕ). bit_at (bits y) (place_bit k) ≡ 1) same (o.settled k near (omega (arith, was, term_le (λ (z : Marks). times k z.sets) ms id m at)) (omega (arith, none-now, cleared k))))
          (own_stay (places_in ids) ms id m w at (λ j. omega arith) (o.mapped id m at)));
      raised = λ j near is-one. raised_stay ms id m w at j (omega arith) (o.raised j near is-one);
      shown = Each-set (λ (z : Marks). Each (IsShown (places_in ids) (set ms id w)) z.maps) ms id w
          (Each-push (IsShown (places_in ids) (set ms id w)) m.maps x (λ k near same is-one. raised_stay ms id m w at k (omega arith) (o.raised k near (subst (λ (y : ℕ). bit_at (bits y) (place_bit k) ≡ 1) (sym same) is-one))) (shown_stay (places_in ids) ms id m w at (λ j. omega arith) m.maps (o.shown id m at)))
          (λ j z e. shown_stay (places_in ids) ms id m w at (λ q. omega arith) z.maps (o.shown j z e));
      none_else = o.none_else;
      none_shown = only_ids ids ms id w (Each-push (HasOnlyIds ids) m.maps x (λ c small is-one. o.none_else b c inside small is-one) (o.none_shown id m at)) o.none_shown;
    }

-- the bits change at one place alone
abbrev pub OnlyAt : ℕ → ℕ → (ℕ → ℕ) → (ℕ → ℕ) → Type 0
OnlyAt places k bits bits' = (m b : ℕ) → m < places → b < 64 → ((m ≡ map_of k) → (b ≡ place_bit k) → ⊥) → bit_at (bits' m) b ≡ bit_at (bits m) b

-- another place has another bit
pub elsewhere : (ids k : ℕ) (bits bits' : ℕ → ℕ) → OnlyAt (places_in ids) k bits bits' → (j : ℕ) → j < places_in ids → j ≢ k → bit_at (bits' (map_of j)) (place_bit j) ≡ bit_at (bits (map_of j)) (place_bit j)
elsewhere ids k bits bits' others j near n = others (map_of j) (place_bit j) (omega arith) (omega arith) (λ a b. n (omega (arith, a, b)))

-- the bits meet the rule after one was set
pub sets : (ids : ℕ) (count bits bits' phase : ℕ → ℕ) (ms : List Marks) (id k : ℕ) (m : Marks) → get_elem? ms id ≡ some m → k < places_in ids → OnlyAt (places_in ids) k bits bits' → bit_at (bits' (map_of k)) (place_bit k) ≡ 1 → AreMarks ids count bits phase ms
    → AreMarks ids count bits' phase (set ms id (record m { owed = without k m.owed; sets = m.sets ++ k ∷ [] }))
sets ids count bits bits' phase ms id k m at inside others is-set o = let w : Marks = record m { owed = without k m.owed; sets = m.sets ++ k ∷ [] } in
    let cleared : (j : ℕ) → total (cleared_at j) (set ms id w) ≡ total (cleared_at j) ms = λ j. total_same (cleared_at j) ms id m w at refl in
    let else-same = elsewhere ids k bits bits' others in
    let here-now : (j : ℕ) → j ≡ k → bit_at (bits' (map_of j)) (place_bit j) ≡ 1 = λ j e. subst (λ (x : ℕ). bit_at (bits' (map_of x)) (place_bit x) ≡ 1) (sym e) is-set in record {
      flagged = λ j near below live some-items. dite (ℕ_discrete j k) (λ e. inl (here-now j e))
          (λ n. ⊎_elim (λ h. inl (else-same j near n ∙ h)) (λ h. inr (omega (arith, h, total_same (λ (z : Marks). times j z.owed) ms id m w at (times-without_other j k m.owed n)))) (o.flagged j near below live some-items));
      settled = λ j near some-set none-cleared. dite (ℕ_discrete j k) (here-now j)
          (λ n. else-same j near n ∙ o.settled j near (omega (arith, some-set, total_same (λ (z : Marks). times j z.sets) ms id m w at (times-push_other j k m.sets (λ e. n (sym e))))) (omega (arith, none-cleared, cleared j)));
      mapped = maps_stay (places_in ids) ms id m w at (λ j. omega arith) o.mapped (own_stay (places_in ids) ms id m w at (λ j. omega arith) (o.mapped id m at));
      raised = λ j near is-one. dite (ℕ_discrete j k) (λ e. subst (λ (x : ℕ). 0 < total (set_at x) (set ms id w)) (sym e) (omega (arith, total-set (set_at k) ms id m w at, term_le (set_at k) ms id m at, times-push_same k m.sets)))
          (λ n. raised_stay ms id m w at j (times-push_le j k m.sets) (o.raised j near (sym (else-same j near n) ∙ is-one)));
      shown = all_shown (places_in ids) ms id m w at (λ j. times-push_le j k m.sets) refl o.shown;
      none_else = λ x b near small is-one. dite (ℕ_discrete x (map_of k))
          (λ e. dite (ℕ_discrete b (place_bit k)) (λ d. omega (arith, e, d, inside))
          (λ d. o.none_else x b near small (sym (others x b near small (λ _ q. d q)) ∙ is-one)))
          (λ n. o.none_else x b near small (sym (others x b near small (λ q _. n q)) ∙ is-one));
      none_shown = only_ids ids ms id w (o.none_shown id m at) o.none_shown;
    }

-- the bits meet the rule after one was cleared, which the seat then owes
pub clears : (ids : ℕ) (count bits bits' phase : ℕ → ℕ) (ms : List Marks) (id k : ℕ) (m : Marks) → get_elem? ms id ≡ some m → k < places_in ids → OnlyAt (places_in ids) k bits bits' → bit_at (bits' (map_of k)) (place_bit k) ≡ 0 → AreMarks ids count bits phase ms
    → AreMarks ids count bits' phase (set ms id (record m { owed = m.owed ++ k ∷ []; cleared = m.cleared ++ k ∷ [] }))
clears ids count bits bits' phase ms id k m at inside others is-clear o = let w : Marks = record m { owed = m.owed ++ k ∷ []; cleared = m.cleared ++ k ∷ [] } in
    let owed : Marks → ℕ = λ z. times k z.owed in
    let else-same = elsewhere ids k bits bits' others in
    let owes : 0 < total owed (set ms id w) = omega (arith, total-set owed ms id m w at, term_le owed ms id m at, times-push_same k m.owed) in
    let is-gone : 0 < total (cleared_at k) (set ms id w) = omega (arith, total-set (cleared_at k) ms id m w at, term_le (cleared_at k) ms id m at, times-push_same k m.cleared) in record {
      flagged = λ j near below live some-items. dite (ℕ_discrete j k) (λ e. inr (subst (λ (x : ℕ). 0 < total (λ (z : Marks). times x z.owed) (set ms id w)) (sym e) owes))
          (λ n. ⊎_elim (λ h. inl (else-same j near n ∙ h)) (λ h. inr (omega (arith, h, total_same (λ (z : Marks). times j z.owed) ms id m w at (times-push_other j k m.owed (λ e. n (sym e)))))) (o.flagged j near below live some-items));
      settled = λ j near some-set none-cleared. dite (ℕ_discrete j k) (λ e. absurd (omega (arith, is-gone, subst (λ (x : ℕ). total (cleared_at x) (set ms id w) ≡ 0) e none-cleared)))
          (λ n. else-same j near n ∙ o.settled j near (omega (arith, some-set, total_same (λ (z : Marks). times j z.sets) ms id m w at refl)) (omega (arith, none-cleared, total_same (cleared_at j) ms id m w at (times-push_other j k m.cleared (λ e. n (sym e))))));
      mapped = maps_stay (places_in ids) ms id m w at (λ j. times-push_le j k m.cleared) o.mapped (own_stay (places_in ids) ms id m w at (λ j. times-push_le j k m.cleared) (o.mapped id m at));
      raised = λ j near is-one. dite (ℕ_discrete j k) (λ e. absurd (omega (arith, is-clear, subst (λ (x : ℕ). bit_at (bits' (map_of x)) (place_bit x) ≡ 1) e is-one)))
          (λ n. raised_stay ms id m w at j (omega arith) (o.raised j near (sym (else-same j near n) ∙ is-one)));
      shown = all_shown (places_in ids) ms id m w at (λ j. omega arith) refl o.shown;
      none_else = λ x b near small is-one. dite (ℕ_discrete x (map_of k))
          (λ e. dite (ℕ_discrete b (place_bit k)) (λ d. omega (arith, e, d, inside))
          (λ d. o.none_else x b near small (sym (others x b near small (λ _ q. d q)) ∙ is-one)))
          (λ n. o.none_else x b near small (sym (others x b near small (λ q _. n q)) ∙ is-one));
      none_shown = only_ids ids ms id w (o.none_shown id m at) o.none_shown;
    }

-- the count of the place k changes, and the seat id owes it where its items come to be some
pub stores : (ids : ℕ) (count count' bits phase : ℕ → ℕ) (ms : List Marks) (id k : ℕ) (m : Marks) (owed : List ℕ) → get_elem? ms id ≡ some m → ((j : ℕ) → j ≢ k → count' j ≡ count j)
    → ((j : ℕ) → times j m.owed ≤ times j owed) → (0 < group_of k → count k % 4294967296 ≡ 0 → 0 < count' k % 4294967296 → 0 < times k owed)
    → AreMarks ids count bits phase ms → AreMarks ids count' bits phase (set ms id (record m { owed = owed }))
stores ids count count' bits phase ms id k m owed at others more rises o = let w : Marks = record m { owed = owed } in
    let weigh : ℕ → Marks → ℕ = λ j z. times j z.owed in
    let old : (j : ℕ) → j < places_in ids → 0 < group_of j → phase (place_id j) % 3 ≡ 1 → 0 < count j % 4294967296 → (bit_at (bits (map_of j)) (place_bit j) ≡ 1) ⊎ (0 < total (weigh j) (set ms id w)) =
    λ j near below live some-items. ⊎_elim inl (λ h. inr (omega (arith, h, more j, total-set (weigh j) ms id m w at))) (o.flagged j near below live some-items) in
    let cleared : (j : ℕ) → total (cleared_at j) (set ms id w) ≡ total (cleared_at j) ms = λ j. total_same (cleared_at j) ms id m w at refl in record {
      flagged = λ j near below live some-items. dite (ℕ_discrete j k)
          (λ e. dite (ℕ_discrete (count j % 4294967296) 0)
          (λ z. inr (subst (λ (x : ℕ). 0 < total (weigh x) (set ms id w)) (sym e) (omega (
            arith,
            total-set (weigh k) ms id m w at,
            term_le (weigh k) ms id m at,
            rises (subst (λ (x : ℕ). 0 < group_of x) e below) (subst (λ (x : ℕ). count x % 4294967296 ≡ 0) e z) (subst (λ (x : ℕ). 0 < count' x % 4294967296) e some-items),
          ))))
          (λ z. old j near below live (omega arith)))
          (λ n. old j near below live (omega (arith, some-items, ap (λ (x : ℕ). x % 4294967296) (others j n))));
      settled = λ j near some-set none-cleared. o.settled j near (omega (arith, some-set, total_same (λ (z : Marks). times j z.sets) ms id m w at refl)) (omega (arith, none-cleared, cleared j));
      mapped = maps_stay (places_in ids) ms id m w at (λ j. omega arith) o.mapped (own_stay (places_in ids) ms id m w at (λ j. omega arith) (o.mapped id m at));
      raised = λ j near is-one. raised_stay ms id m w at j (omega arith) (o.raised j near is-one);
      shown = all_shown (places_in ids) ms id m w at (λ j. omega arith) refl o.shown;
      none_else = o.none_else;
      none_shown = only_ids ids ms id w (o.none_shown id m at) o.none_shown;
    }

-- the phases change, where an id that comes to be live shows no items
pub turns : (ids : ℕ) (count bits phase phase' : ℕ → ℕ) (ms : List Marks) → ((k : ℕ) → k < places_in ids → phase' (place_id k) % 3 ≡ 1 → 0 < count k % 4294967296 → phase (place_id k) % 3 ≡ 1) → AreMarks ids count bits phase ms → AreMarks ids count bits phase' ms
turns ids count bits phase phase' ms same o = record {
  flagged = λ j near below live some-items. o.flagged j near below (same j near live some-items) some-items;
  settled = o.settled;
  mapped = o.mapped;
  raised = o.raised;
  shown = o.shown;
  none_else = o.none_else;
  none_shown = o.none_shown;
}
