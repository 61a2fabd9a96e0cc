-- SPDX-License-Identifier: GPL-2.0-only
-- What is left of a finished core is that of its last state.
use Rattle.shr_core.proofs.Common.{◌≡◌, ℕ, zero, suc, ◌<◌, Bool, true, false, cond, List, [], ◌∷◌, ◌++◌, map, length, sym, refl, ap, ◌∙◌, arith, dite, ℕ_discrete, some, some-injective, get_elem?, State, Final, Seen, Object, Entry, IsWhole, total, Sizes, from_map, sole, total_zero, View, Slot, Setting, Hand, Holding, is_row, row_in, bits_in, looks_in, places_in, sizes_of, groups_in, Sound, IsRoom, IsRoomAtHome, spent, has_room, is_room, holding_of, view_standing, items_now, end_value, place_ends, lookups_below, nodes_below, units_in, entries_of, items_of_slot, entries_in, items_in, IsClosedOf}
use Rattle.shr_base.specs.declared.ends.Closed.{Closed}
use Rattle.shr_core.proofs.Laying.{across, lacking, inside_is, pool_room}
use Rattle.shr_core.specs.Ending.{ends_below}

-- the ends of places that have the same journals and items
ends_same : (n : ℕ) (es es' : ℕ → List Entry) (is is' : ℕ → List Object) → ((k : ℕ) → k < n → es k ≡ es' k) → ((k : ℕ) → k < n → is k ≡ is' k) → ends_below n es is ≡ ends_below n es' is'
unfolding ends_below
ends_same zero es es' is is' p q = refl
ends_same (suc n) es es' is is' p q = let more = ends_same n es es' is is' (λ k h. p k (omega (arith, h))) (λ k h. q k (omega (arith, h))) in let e = p n (omega arith) in let i = q n (omega arith) in λ j. more j ++ place_ends n (e j) (i j)

-- once all others were joined, no seat has a room
no_hands : (key : Setting) (s : State Slot View) (o : Sound key s) (id : ℕ) (v : View) → get_elem? s.views id ≡ some v → v.standing.first ≡ true → IsWhole v.standing → v.holding.hands ≡ [] → (r : ℕ) → total (has_room r) (map holding_of s.views) ≡ 0
no_hands key s o id v me first whole none r = total_zero (has_room r) (map holding_of s.views) (λ j h at. let t = from_map holding_of s.views j h at in
    let hands : (h.hands ≡ []) = ap (λ (x : Holding). x.hands) (sym t.2) ∙ dite (ℕ_discrete j id)
    (λ e. ap (λ (x : View). x.holding.hands) (some-injective t.0 v (sym t.1 ∙ (ap (get_elem? s.views) e ∙ me))) ∙ none)
    (λ n. ap (λ (x : View). x.holding.hands) (sole view_standing spent s.views id v me first whole o.rules.seated o.emptied j t.0 n t.1)) in
    ap (λ (l : List Hand). total (is_room r) l) hands)

-- what is read of a number is so where it has a row, and nothing where it has none
where_row : {A : Type 0} (b : Bool) (l m : List A) → (b ≡ true → l ≡ m) → (b ≡ false → m ≡ []) → ◌≡◌ {A = List A} (cond b l []) m
where_row true l m has lacks = has refl
where_row false l m has lacks = sym (lacks refl)

none_of : {A : Type 0} (l : List A) → (0 < length l → ⊥) → l ≡ []
none_of [] h = refl
none_of (x ∷ xs) h = absurd (h (omega arith))

not_both : (b : Bool) → b ≡ false → b ≡ true → ⊥
not_both b f t = let e : false ≡ true = sym f ∙ t in cc

-- what `finish` reads of a last state is what is left of it
pub closed_of : (key : Setting) (id : ℕ) (v : View) (ws : List ℕ) (xs : List Slot) (pool : Slot) (closed : Closed) → Final (Seen (Sound key) id v) ws xs → v.standing.first ≡ true → IsWhole v.standing → v.holding.hands ≡ []
    → closed.maps.items ≡ nodes_below (units_in key.shape.ids) (groups_in key.shape) key.shape.nodes (bits_in (sizes_of key.shape) ws)
    → closed.lookups.items ≡ lookups_below key.shape.ids (looks_in ws)
    → map end_value closed.places.items ≡ ends_below (places_in key.shape.ids) (entries_in (sizes_of key.shape) xs) (items_in (sizes_of key.shape) xs)
    → get_elem? xs (row_in (sizes_of key.shape) (places_in key.shape.ids)) ≡ some pool → closed.pool.items ≡ pool.pool.items
    → IsClosedOf key id v closed
closed_of key id v ws xs pool closed final first whole none maps lookups places last-slot is-pool =
    let s : State Slot View = final.0 in let o : Sound key s = final.1.0 in let me = final.1.1 in let words = final.2 in
    let z : Sizes = sizes_of key.shape in let sh = o.sized.shape in let home : (r : ℕ) → IsRoom key.shape r → (slot : Slot) × (get_elem? xs (row_in z r) ≡ some slot) × IsRoomAtHome key.shape o.now o.after o.pool r slot = λ r near.
    let t = o.rules.roomed.home r near (omega (arith, o.rules.roomed.locks r near, no_hands key s o id v me first whole none r)) in (t.0, final.4 (row_in z r) t.0 t.1, t.2) in
    let pooled = home (places_in key.shape.ids) (pool_room key.shape sh.some_nodes sh.tree.has_root) in
    let room : (k : ℕ) → k < places_in key.shape.ids → is_row z k ≡ true → IsRoom key.shape k = λ k low is. let t = across z k is in record { room = omega (arith, low); node = t.node; group = t.group } in
    let entries : (k : ℕ) → k < places_in key.shape.ids → entries_in z xs k ≡ o.now k = λ k low. where_row (is_row z k) (entries_of (get_elem? xs (row_in z k))) (o.now k)
    (λ is. let t = home k (room k low is) in ap entries_of t.1 ∙ t.2.fits.entries low)
    (λ lacks. none_of (o.now k) (λ some. not_both (is_row z k) lacks (inside_is key.shape k (o.rules.counted.placed k some)))) in
    let items : (k : ℕ) → k < places_in key.shape.ids → items_in z xs k ≡ items_now o.now o.after k = λ k low. where_row (is_row z k) (items_of_slot (get_elem? xs (row_in z k))) (items_now o.now o.after k)
    (λ is. let t = home k (room k low is) in ap items_of_slot t.1 ∙ t.2.fits.items low)
    (λ lacks. o.rules.owned.outside k (lacking z k lacks)) in record {
      last = s;
      sound = o;
      seat = me;
      pool = is-pool ∙ (ap (λ (x : Slot). x.pool.items) (some-injective pool pooled.0 (sym last-slot ∙ pooled.1)) ∙ pooled.2.fits.turns refl);
      places = places ∙ ends_same (places_in key.shape.ids) (entries_in z xs) o.now (items_in z xs) (items_now o.now o.after) entries items;
      maps = maps ∙ ap (λ (l : List ℕ). nodes_below (units_in key.shape.ids) (groups_in key.shape) key.shape.nodes (bits_in (sizes_of key.shape) l)) (sym words);
      lookups = lookups ∙ ap (λ (l : List ℕ). lookups_below key.shape.ids (looks_in l)) (sym words);
    }
