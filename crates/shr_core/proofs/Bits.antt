-- SPDX-License-Identifier: GPL-2.0-only
-- Steps on bit words keep the rule.
use Rattle.shr_core.proofs.Common.{◌≡◌, ℕ, ◌+◌, ◌*◌, ◌%◌, ◌^◌, ◌<◌, ◌≢◌, true, false, List, map, length, set, get_or, sym, refl, ap, subst, ◌∙◌, arith, bit_or, bit_and, bit_at, bit_not, w64, dite, ℕ_discrete, some, get_elem?, State, keeps, Allows, View, Slot, Setting, Shape, Sizes, Claims, Turns, is_row, row_in, counts_in, locks_in, bits_in, looks_in, places_in, words_in, map_of, place_bit, sizes_of, Sound, IsInside, HasLastEnd, AreRoomsOf, AreLists, AreTraces, AreMarks, AreLookupsOf, AreOwned, AreTurns, AreDated, phases, holding_of, traces_of, marks_of, claims_of, turns_of, view_standing, AreSeats, Sat, with_set, with_clear, AreOrdered}
use Rattle.std.proofs.lemmas.Nat.Bits.{bit_at_set_same, bit_at_set_other, bit_at_clear_same, bit_at_clear_other}
use Rattle.shr_core.proofs.Ordering as ordering
use Rattle.shr_core.proofs.Frames.{here, state, on_bits, lists_stay, rooms_stay, traces_stay, lookups_stay, owned_stay, turns_stay, dated_stay, seats_stay}
use Rattle.shr_core.proofs.Laying.{row_yes, room_low, bits_read, bits_here, bits_else}
use Rattle.shr_core.proofs.Marking as marking
use Rattle.shr_core.proofs.Marking.{OnlyAt}

-- the bit word of the place k becomes n, in which only the place's bit may differ
one_bit : (z : Sizes) (places k n : ℕ) (ws : List ℕ) → is_row z (map_of k) ≡ true → 8 * row_in z (map_of k) + 2 < length ws
    → ((i : ℕ) → i < 64 → i ≢ place_bit k → bit_at n i ≡ bit_at (get_or ws (8 * row_in z (map_of k) + 2) 0) i) → OnlyAt places k (bits_in z ws) (bits_in z (set ws (8 * row_in z (map_of k) + 2) n))
one_bit z places k n ws is low others m b inside small apart = let word : ℕ = 8 * row_in z (map_of k) + 2 in dite (ℕ_discrete m (map_of k))
    (λ e. ap (λ (x : ℕ). bit_at (bits_in z (set ws word n) x) b) e ∙ (ap (λ (x : ℕ). bit_at x b) (bits_here z ws (map_of k) n is low)
    ∙ (others b small (λ d. apart e d) ∙ (ap (λ (x : ℕ). bit_at x b) (sym (bits_read z ws (map_of k) is)) ∙ ap (λ (x : ℕ). bit_at (bits_in z ws x) b) (sym e)))))
    (λ d. ap (λ (x : ℕ). bit_at x b) (bits_else z ws (map_of k) n is m d))

-- the bit word of a place of the shape has a row, and words in the table
map_is : (shape : Shape) (k : ℕ) → IsInside shape k → is_row (sizes_of shape) (map_of k) ≡ true
map_is shape k i = row_yes (sizes_of shape) (map_of k) (omega (arith, i.node)) (omega (arith, i.group))

pub map_low : (shape : Shape) (k : ℕ) → IsInside shape k → 8 * row_in (sizes_of shape) (map_of k) + 2 < words_in (sizes_of shape)
map_low shape k i = omega (arith, room_low shape (map_of k) (record { room = omega (arith, i.place); node = omega (arith, i.node); group = omega (arith, i.group) }))

module _ (key : Setting) (s : State Slot View) (o : Sound key s) (id k n : ℕ) (v w : View) (me : get_elem? s.views id ≡ some v) (present : w.standing.gone ≡ false) where
  -- a step on a bit word, from what it does to the marks
  bit_step : w.holding ≡ v.holding → w.traces ≡ v.traces → w.claims ≡ v.claims → w.turns ≡ v.turns → w.standing ≡ v.standing
      → AreMarks key.shape.ids (counts_in (sizes_of key.shape) s.words) (bits_in (sizes_of key.shape) (set s.words (8 * row_in (sizes_of key.shape) (map_of k) + 2) n)) (phases o.pool) (set (map marks_of s.views) id w.marks)
      → AreOrdered key.shape.ids key.first_lookup o.now o.pool (bits_in (sizes_of key.shape) (set s.words (8 * row_in (sizes_of key.shape) (map_of k) + 2) n)) (looks_in s.words) (set s.views id w)
      → Sound key (state (set s.words (8 * row_in (sizes_of key.shape) (map_of k) + 2) n) s.homes (set s.views id w))
  bit_step a b c d e marks ordered = on_bits key s o id w present (λ j h. subst (λ (t : Turns). HasLastEnd j o.pool t.made) (sym d) (o.ended id v me j (ap (λ (x : Claims). x.owner) (sym c) ∙ h))) (row_in (sizes_of key.shape) (map_of k)) n ordered record {
    counted = o.rules.counted;
    roomed = subst (λ x. AreRoomsOf key o.now o.after o.pool (locks_in (sizes_of key.shape) s.words) s.homes (set (map holding_of s.views) id x)) (sym a) (rooms_stay key s o id v me);
    listed = subst (λ x. AreLists key.shape.parents.items o.now o.after (set (map holding_of s.views) id x)) (sym a) (lists_stay key s o id v me);
    traced = subst (λ x. AreTraces o.now o.after (set (map traces_of s.views) id x)) (sym b) (traces_stay key s o id v me);
    marked = marks;
    looked = subst (λ x. AreLookupsOf key (looks_in s.words) o.pool (set (map claims_of s.views) id x)) (sym c) (lookups_stay key s o id v me);
    owned = subst (λ x. AreOwned key.shape o.now o.after o.pool (set (map claims_of s.views) id x)) (sym c) (owned_stay key s o id v me);
    turned = subst (λ x. AreTurns key.shape.ids key.shape.decls o.pool (set (map turns_of s.views) id x)) (sym d) (turns_stay key s o id v me);
    dated = subst (λ x. AreDated key.shape.ids (looks_in s.words) o.pool (set (map turns_of s.views) id x)) (sym d) (dated_stay key s o id v me);
    seated = subst (λ x. AreSeats (set (map view_standing s.views) id x)) (sym e) (seats_stay key s o id v me);
  }

-- the `fetch_or` of `set_bit` is a step that the rule allows
pub sets : (key : Setting) (n id : ℕ) (m : Sat) (k mask : ℕ) → IsInside key.shape k → mask ≡ 1 * 2 ^ place_bit k % 2 ^ 64 → m.0.standing.gone ≡ false → Allows (Sound key) n id m (8 * row_in (sizes_of key.shape) (map_of k) + 2) (λ y. bit_or y mask) (λ _ q. q ≡ (with_set m.0 k, m.1))
sets key n id m k mask inside is present s o deep me _ = let z : Sizes = sizes_of key.shape in let row = map_is key.shape k inside in let v : View = m.0 in let w : View = with_set v k in let word : ℕ = 8 * row_in z (map_of k) + 2 in let old : ℕ = get_or s.words word 0 in
    let within : place_bit k < 64 = omega arith in let new : ℕ = bit_or old mask in let low : word < length s.words = omega (arith, o.wide, map_low key.shape k inside) in
    let now-set : bit_at (bits_in (sizes_of key.shape) (set s.words (8 * row_in (sizes_of key.shape) (map_of k) + 2) new) (map_of k)) (place_bit k) ≡ 1 =
    ap (λ (x : ℕ). bit_at x (place_bit k)) (bits_here z s.words (map_of k) new row low) ∙ (ap (λ (x : ℕ). bit_at (bit_or old x) (place_bit k)) is ∙ bit_at_set_same w64 old (place_bit k) within) in
    let others = one_bit z (places_in key.shape.ids) k new s.words row low (λ i under ne. ap (λ (x : ℕ). bit_at (bit_or old x) i) is ∙ bit_at_set_other w64 old (place_bit k) within i ne) in
    (w, keeps, tt, bit_step key s o id k new v w me present refl refl refl refl refl (marking.sets key.shape.ids (counts_in (sizes_of key.shape) s.words) (bits_in (sizes_of key.shape) s.words) (bits_in (sizes_of key.shape) (set s.words (8 * row_in (sizes_of key.shape) (map_of k) + 2) new)) (phases o.pool) (map marks_of s.views) id k v.marks (here s.views id v me marks_of) inside.place others now-set o.rules.marked) (ordering.sets key.shape.ids key.first_lookup o.now o.pool (bits_in (sizes_of key.shape) s.words) (looks_in s.words) s.views id v me present o.ordered (bits_in (sizes_of key.shape) (set s.words (8 * row_in (sizes_of key.shape) (map_of k) + 2) new)) w k refl refl refl others now-set), refl)

-- the `fetch_and` of `clear_bit` is a step that the rule allows
pub clears : (key : Setting) (n id : ℕ) (m : Sat) (k mask : ℕ) → IsInside key.shape k → mask ≡ bit_not w64 (1 * 2 ^ place_bit k % 2 ^ 64) → m.0.standing.gone ≡ false → Allows (Sound key) n id m (8 * row_in (sizes_of key.shape) (map_of k) + 2) (λ y. bit_and y mask) (λ _ q. q ≡ (with_clear m.0 k, m.1))
clears key n id m k mask inside is present s o deep me _ = let z : Sizes = sizes_of key.shape in let row = map_is key.shape k inside in let v : View = m.0 in let w : View = with_clear v k in let word : ℕ = 8 * row_in z (map_of k) + 2 in let old : ℕ = get_or s.words word 0 in
    let within : place_bit k < 64 = omega arith in let new : ℕ = bit_and old mask in let low : word < length s.words = omega (arith, o.wide, map_low key.shape k inside) in
    let now-clear : bit_at (bits_in (sizes_of key.shape) (set s.words (8 * row_in (sizes_of key.shape) (map_of k) + 2) new) (map_of k)) (place_bit k) ≡ 0 =
    ap (λ (x : ℕ). bit_at x (place_bit k)) (bits_here z s.words (map_of k) new row low) ∙ (ap (λ (x : ℕ). bit_at (bit_and old x) (place_bit k)) is ∙ bit_at_clear_same w64 old (place_bit k) within) in
    let others = one_bit z (places_in key.shape.ids) k new s.words row low (λ i under ne. ap (λ (x : ℕ). bit_at (bit_and old x) i) is ∙ bit_at_clear_other w64 old (place_bit k) within i under ne) in
    (w, keeps, tt, bit_step key s o id k new v w me present refl refl refl refl refl (marking.clears key.shape.ids (counts_in (sizes_of key.shape) s.words) (bits_in (sizes_of key.shape) s.words) (bits_in (sizes_of key.shape) (set s.words (8 * row_in (sizes_of key.shape) (map_of k) + 2) new)) (phases o.pool) (map marks_of s.views) id k v.marks (here s.views id v me marks_of) inside.place others now-clear o.rules.marked) (ordering.clears key.shape.ids key.first_lookup o.now o.pool (bits_in (sizes_of key.shape) s.words) (looks_in s.words) s.views id v me present o.ordered (bits_in (sizes_of key.shape) (set s.words (8 * row_in (sizes_of key.shape) (map_of k) + 2) new)) w k refl refl refl others now-clear), refl)
