-- SPDX-License-Identifier: GPL-2.0-only
-- Steps on lock words keep the rule.
use Rattle.shr_core.proofs.Common.{◌≡◌, ℕ, ◌+◌, ◌*◌, ◌<◌, ◌≤◌, Bool, true, false, eqb, List, [], ◌∷◌, ◌++◌, map, length, set, get_or, sym, refl, ap, subst, ◌∙◌, ⊎_elim, arith, length-set, some, some-injective, get_elem?, State, Act, Valid, keeps, Allows, stepped, carried_after, exchanged, Entry, PoolEntry, Contains, Some, take, None, dite, ℕ_discrete, parent_of, is_child, is_closed, is_closing, HasJournal, moved_in, MayStand, child_takes, some_term, terms_le, Begins, Sizes, View, Slot, Shape, Setting, RoomContent, Claims, Holding, row_in, locks_in, homes_in, looks_in, places_in, rooms_in, group_of, above, beside, bits_in, sizes_of, groups_in, Sound, IsInside, IsRoom, AreBorn, Journals, Histories, Fits, IsRoomAtHome, list_content, has_room, half_of, holding_of, traces_of, claims_of, turns_of, Sat, with_taken, with_try, with_given, with_pool_given, in_hand, took, place_content, turns_content, PlaceTold, PoolTold, IsInHand, none, takes, gives, slice_get, ◌||◌, dying_in, slot_content}
use Rattle.shr_core.proofs.Options.{only_some_is, not_some}
use prog.Atomic.{either}
use Rattle.shr_core.proofs.Ordering as ordering
use Rattle.shr_core.proofs.Frames.{here, on_load, on_lock, unmoved, state, lists_stay, rooms_stay, traces_stay, marks_stay, lookups_stay, owned_stay, turns_stay, dated_stay, seats_stay}
use Rattle.shr_core.proofs.PoolLengths.{most_entries}
use Rattle.shr_core.proofs.Alone as alone
use Rattle.shr_core.proofs.Laying.{lock_read, lock_here, lock_else, home_here, home_else, place_room, pool_room, room_is, room_low}
use Rattle.shr_core.proofs.Rooming as rooming
use Rattle.shr_core.proofs.Listing as listing
use Rattle.shr_core.proofs.Listing.{back}
use Rattle.shr_core.proofs.Tracing as tracing
use Rattle.shr_core.proofs.Turning as turning
use Rattle.shr_core.proofs.Dating as dating
use Rattle.shr_core.proofs.Claiming as claiming
use Rattle.shr_core.proofs.Owning as owning

-- the step on the lock word, from what the room at home says and from the rule where it is missed
taken_by : (key : Setting) (n id : ℕ) (m : Sat) (missed : View) (r : ℕ) (of : Slot → RoomContent) (told : Slot → Type 0) → IsRoom key.shape r → m.0.standing.gone ≡ false
    → ((now : Journals) (after : Histories) (pool : List PoolEntry) (slot : Slot) → Fits key.shape now after pool r (slot_content slot) → Fits key.shape now after pool r (of slot))
    → ((s : State Slot View) (o : Sound key s) → get_elem? s.views id ≡ some m.0 → (slot : Slot) → IsRoomAtHome key.shape o.now o.after o.pool r slot → told slot)
    → ((s : State Slot View) (o : Sound key s) → get_elem? s.views id ≡ some m.0 → Sound key (state (set s.words (8 * row_in (sizes_of key.shape) r + 1) (get_or s.words (8 * row_in (sizes_of key.shape) r + 1) 0)) s.homes (set s.views id missed)))
    → Allows (Sound key) n id m (8 * row_in (sizes_of key.shape) r + 1) (λ y. either (eqb y 0) 1 y) (took m missed r (row_in (sizes_of key.shape) r) of told)
taken_by key n id m missed r of told near present fit tells misses s o deep me _ = let z : Sizes = sizes_of key.shape in let row : ℕ = row_in z r in let is = room_is key.shape r near in let low : row < rooms_in z = room_low key.shape r near in let v : View = m.0 in let i : ℕ = 8 * row + 1 in let wide = o.wide in let q = o.rules in
    let found : locks_in z s.words r ≡ get_or s.words i 0 = lock_read z s.words r is in
    let G : ℕ → Type 0 = λ k. (w : View) × (a : Act Slot) × Valid s.homes m.1 a × Sound key (stepped s i k id m.1 w a) × took m missed r row of told (get_or s.words i 0) (w, carried_after m.1 a) in
    exchanged (get_or s.words i 0) 0 1 G
    (λ hit. let t = q.roomed.home r near (found ∙ hit) in let slot : Slot = t.0 in let w : View = with_taken v r (of slot) in (
      w,
      takes row slot,
      t.1,
      on_lock key s o id w present (o.ended id v me) row 1 (set s.homes row none) (length-set s.homes row none) (ordering.stays key.shape.ids key.first_lookup o.now o.pool (bits_in (sizes_of key.shape) s.words) (looks_in s.words) s.views id v me present o.ordered w refl refl refl) record {
        counted = q.counted;
        roomed = rooming.takes (IsRoom key.shape) (locks_in z s.words) (locks_in z (set s.words i 1)) (homes_in z s.homes) (homes_in z (set s.homes row none)) (IsRoomAtHome key.shape o.now o.after o.pool) (Fits key.shape o.now o.after o.pool) (map holding_of s.views) id r v.holding (of slot) (here s.views id v me holding_of) near (found ∙ hit) (lock_here z s.words r 1 is (omega (arith, wide, low))) (lock_else z s.words r 1 is) (λ x other. home_else z s.homes r none is x (room_is key.shape x other)) (fit o.now o.after o.pool slot t.2.fits) q.roomed;
        listed = listing.rooms_change key.shape.parents.items o.now o.after (map holding_of s.views) id v.holding w.holding (here s.views id v me holding_of) refl (λ k half h. (omega (arith, h.own), omega (arith, h.parent))) q.listed;
        traced = traces_stay key s o id v me;
        marked = marks_stay key s o id v me;
        looked = lookups_stay key s o id v me;
        owned = owned_stay key s o id v me;
        turned = turns_stay key s o id v me;
        dated = dated_stay key s o id v me;
        seated = seats_stay key s o id v me;
      },
      ((λ _. (slot, refl, tells s o me slot t.2)), (λ miss. absurd (miss hit)), λ miss. absurd (miss hit)),
    ))
    (λ miss. (missed, keeps, tt, misses s o me, ((λ hit. absurd (miss hit)), (λ _. refl), λ _ first whole. alone.lock_alone key s o id v me first whole r near (λ e. miss (sym found ∙ e)))))

-- a beginning that is closed is of a closed journal
closed_begins : (xs more : List Entry) → is_closed xs ≡ true → is_closed (xs ++ more) ≡ true
closed_begins [] more h = absurd (false_true h) where
  false_true : false ≡ true → ⊥
  false_true e = cc
closed_begins (x ∷ xs) more h = (elim (is_closing x) as (λ b. (b || is_closed xs) ≡ true → (b || is_closed (xs ++ more)) ≡ true) [ true ↦ (λ _. refl) | false ↦ (λ t. closed_begins xs more t) ]) h

not_both : (b : Bool) → b ≡ false → b ≡ true → ⊥
not_both b f t = let e : false ≡ true = sym f ∙ t in cc

-- what is told of a place's room
place_told : (key : Setting) (id : ℕ) (v : View) (r : ℕ) → IsInside key.shape r → (s : State Slot View) (o : Sound key s) → get_elem? s.views id ≡ some v → (slot : Slot) → IsRoomAtHome key.shape o.now o.after o.pool r slot → PlaceTold key.shape v r slot
place_told key id v r inside s o me slot kept = let near = inside.place in let at = here s.views id v me traces_of in let q = o.rules in let f = kept.fits in let is = f.entries near in let long = ap (λ (l : List Entry). length l) is in let sh = o.sized.shape in let parents : List ℕ = key.shape.parents.items in
    -- the places of the parent and the child
    let up : (c : ℕ) → is_child parents (group_of r) c ≡ true → (above parents (beside r c) ≡ r) × (group_of (beside r c) ≡ c) × (0 < c) × (c < length parents) = λ c ch. let child = child_takes parents (group_of r) c ch in let small : c < 256 = omega (arith, child.there, sh.groups) in
    let group : group_of (beside r c) ≡ c = omega (arith, small) in (omega (arith, small, ap (parent_of parents) group, child.parent), group, child.above, child.there) in
    let closed-in : (c : ℕ) → is_child parents (group_of r) c ≡ true → is_closed (o.now (beside r c)) ≡ true → Contains (moved_in slot.list.entries) c = λ c ch cl. let t = up c ch in
    subst (λ (l : List Entry). Contains (moved_in l) c) (ap o.now t.0 ∙ sym is) (subst (Contains (moved_in (o.now (above parents (beside r c))))) t.1 (q.listed.closed (beside r c) (omega (arith, t.1, t.2)) (omega (arith, t.1, t.3)) cl)) in
    let in-place : (x : ℕ) → 0 < has_room x v.holding → x < places_in key.shape.ids → (in_hand v x).entries ≡ o.now x = λ x has inside. (rooming.mine (IsRoom key.shape) (locks_in (sizes_of key.shape) s.words) (homes_in (sizes_of key.shape) s.homes) (IsRoomAtHome key.shape o.now o.after o.pool) (Fits key.shape o.now o.after o.pool) (map holding_of s.views) q.roomed id x v.holding (here s.views id v me holding_of) has).1.entries inside in
    let low : (c : ℕ) → is_child parents (group_of r) c ≡ true → beside r c < places_in key.shape.ids = λ c ch. let t = up c ch in omega (arith, near, t.3, sh.groups) in
    let room : (c : ℕ) → is_child parents (group_of r) c ≡ true → IsRoom key.shape (beside r c) = λ c ch. let t = up c ch in record { room = omega (arith, low c ch); node = omega (arith, inside.node, t.3, sh.groups); group = omega (arith, t.1, t.3) } in record {
      known = λ j x e place. subst (λ (l : List Entry). Begins x.entries l) (ap o.now place ∙ sym is) (q.traced.known id v.traces at j x e);
      seen = λ j x e place. omega (arith, (q.traced.seen id v.traces at j x e).0, ap (λ (y : ℕ). length (o.now y)) place, long);
      made = λ j x e place. omega (arith, tracing.made_below o.now o.after (map traces_of s.views) id v.traces at q.traced j x e, ap (λ (y : ℕ). length (o.now y)) place, long);
      items = omega (arith, ap (λ l. length l) (f.items near), q.counted.items r);
      entries = omega (arith, long, q.counted.entries r);
      most_items = f.most_items near;
      most_entries = f.most_entries near;
      births = subst (AreBorn (groups_in key.shape)) (sym (f.items near)) (q.listed.births r (length (o.now r)) (omega arith));
      journal = subst (λ (l : List Entry). HasJournal l slot.list.items) (sym is) (subst (HasJournal (o.now r)) (sym (f.items near)) (listing.journal_here parents o.now o.after (map holding_of s.views) q.listed r));
      moved = λ j x e c ch place cl. closed-in c ch (let b = q.traced.known id v.traces at j x e in ap (λ (y : ℕ). is_closed (o.now y)) (sym place) ∙ (ap is_closed b.1 ∙ closed_begins x.entries b.0 cl));
      child_closed = λ c ch has cl. closed-in c ch (ap is_closed (sym (in-place (beside r c) has (low c ch))) ∙ cl);
      child_open = λ c ch has opened whole there. let t = up c ch in
          ⊎_elim (λ cl. not_both (is_closed (in_hand v (beside r c)).entries) opened (ap is_closed (in-place (beside r c) has (low c ch)) ∙ cl))
          (λ h. let p = some_term (half_of (beside r c)) (map holding_of s.views) h in let u : Holding = p.1 in let is-half : u.half ≡ Some (beside r c) = only_some_is (beside r c) u.half p.3 in
          let hf = q.listed.halves p.0 u p.2 (beside r c) is-half in
          let same : p.0 ≡ id = dite (ℕ_discrete p.0 id) (λ y. y) (λ n. absurd (omega (arith, q.roomed.locks (beside r c) (room c ch), q.roomed.one (beside r c) (room c ch), terms_le (has_room (beside r c)) (map holding_of s.views) id p.0 v.holding u n (here s.views id v me holding_of) p.2, has, hf.own))) in
          let mine : u ≡ v.holding = some-injective u v.holding (sym p.2 ∙ (ap (get_elem? (map holding_of s.views)) same ∙ here s.views id v me holding_of)) in not_some (beside r c) u.half (ap (λ (y : Holding). y.half) mine ∙ whole) is-half)
          (q.listed.taken (beside r c) (omega (arith, t.1, t.2)) (omega (arith, t.1, t.3)) (subst (λ (x : ℕ). Contains (moved_in (o.now (above parents (beside r c)))) x) (sym t.1) (subst (λ (l : List Entry). Contains (moved_in l) c) (is ∙ ap o.now (sym t.0)) there)));
      stands = subst (λ (l : List Entry). (n : ℕ) (e : Entry) → slice_get l n ≡ Some e → MayStand parents (group_of r) (take n l) e) (ap o.now (back r) ∙ sym is) (q.listed.legal r).stands;
    }

-- what a place's room says is what its list says
place_fits : (shape : Shape) (r : ℕ) → r < places_in shape.ids → (now : Journals) (after : Histories) (pool : List PoolEntry) (slot : Slot) → Fits shape now after pool r (slot_content slot) → Fits shape now after pool r (list_content slot.list)
place_fits shape r near now after pool slot f = record { entries = f.entries; items = f.items; most_items = f.most_items; most_entries = f.most_entries; turns = λ e. absurd (omega (arith, e, near)) }

-- `take_room`: nothing changes where it is missed
pub taken : (key : Setting) (n id : ℕ) (m : Sat) (r row : ℕ) → IsInside key.shape r → row ≡ row_in (sizes_of key.shape) r → m.0.standing.gone ≡ false → Allows (Sound key) n id m (8 * row + 1) (λ y. either (eqb y 0) 1 y) (took m m.0 r row place_content (PlaceTold key.shape m.0 r))
taken key n id m r row inside is present = subst (λ (x : ℕ). Allows (Sound key) n id m (8 * x + 1) (λ y. either (eqb y 0) 1 y) (took m m.0 r x place_content (PlaceTold key.shape m.0 r))) (sym is)
    (taken_by key n id m m.0 r place_content (PlaceTold key.shape m.0 r) (place_room key.shape r inside) present (place_fits key.shape r inside.place) (place_told key id m.0 r inside) (λ s o me. unmoved key s (8 * row_in (sizes_of key.shape) r + 1) id m.0 me o))

-- `try_room`: a try in vain is noted
pub tried : (key : Setting) (n id : ℕ) (m : Sat) (r row : ℕ) → IsInside key.shape r → row ≡ row_in (sizes_of key.shape) r → m.0.standing.gone ≡ false → Allows (Sound key) n id m (8 * row + 1) (λ y. either (eqb y 0) 1 y) (took m (with_try m.0 r) r row place_content (PlaceTold key.shape m.0 r))
tried key n id m r row inside is present = let v : View = m.0 in let w : View = with_try v r in subst (λ (x : ℕ). Allows (Sound key) n id m (8 * x + 1) (λ y. either (eqb y 0) 1 y) (took m w r x place_content (PlaceTold key.shape v r))) (sym is)
    (taken_by key n id m w r place_content (PlaceTold key.shape v r) (place_room key.shape r inside) present (place_fits key.shape r inside.place) (place_told key id v r inside)
    (λ s o me. on_load key s o id w present (o.ended id v me) (8 * row_in (sizes_of key.shape) r + 1) (ordering.stays key.shape.ids key.first_lookup o.now o.pool (bits_in (sizes_of key.shape) s.words) (looks_in s.words) s.views id v me present o.ordered w refl refl refl) record {
      counted = o.rules.counted;
      roomed = rooms_stay key s o id v me;
      listed = lists_stay key s o id v me;
      traced = tracing.tries o.now o.after (map traces_of s.views) id v.traces w.traces.tries (here s.views id v me traces_of) o.rules.traced;
      marked = marks_stay key s o id v me;
      looked = lookups_stay key s o id v me;
      owned = owned_stay key s o id v me;
      turned = turns_stay key s o id v me;
      dated = dated_stay key s o id v me;
      seated = seats_stay key s o id v me;
    }))

-- the compare and exchange of the pool's lock word is a step that the rule allows
pub pool_taken : (key : Setting) (n id : ℕ) (m : Sat) (row : ℕ) → row ≡ row_in (sizes_of key.shape) (places_in key.shape.ids) → 0 < key.shape.nodes → 0 < groups_in key.shape → m.0.standing.gone ≡ false
    → Allows (Sound key) n id m (8 * row + 1) (λ y. either (eqb y 0) 1 y) (took m m.0 (places_in key.shape.ids) row turns_content (PoolTold key.shape m.0))
pool_taken key n id m row is nodes groups present = let r : ℕ = places_in key.shape.ids in let v : View = m.0 in subst (λ (x : ℕ). Allows (Sound key) n id m (8 * x + 1) (λ y. either (eqb y 0) 1 y) (took m v r x turns_content (PoolTold key.shape v))) (sym is)
    (taken_by key n id m v r turns_content (PoolTold key.shape v) (pool_room key.shape nodes groups) present
    (λ now after pool slot f. record { entries = λ l. absurd (omega (arith, l)); items = λ l. absurd (omega (arith, l)); most_items = λ l. absurd (omega (arith, l)); most_entries = λ l. absurd (omega (arith, l)); turns = f.turns })
    (λ s o me slot kept. let is = kept.fits.turns refl in let at = here s.views id v me turns_of in let q = o.rules.turned in (
      record { known = subst (Begins v.turns.known) (sym is) (q.known id v.turns at); made = λ j x e. omega (arith, turning.made_below key.shape.ids key.shape.decls o.pool (map turns_of s.views) id v.turns at q j x e, ap (λ (l : List PoolEntry). length l) is) },
      subst (λ (l : List PoolEntry). dying_in key.shape.ids l ≤ slot.pool.spare) (sym is) (kept.spare refl),
      subst (λ (l : List PoolEntry). length l ≤ 65535 * key.shape.ids) (sym is) (most_entries key.shape.ids key.shape.decls 65535 o.pool o.rules.turned.journal (λ i near. omega (arith, o.rules.looked.phase i near))),
      λ first whole. subst (λ (l : List PoolEntry). length l ≤ length v.turns.made) (sym is) (alone.turns_alone key s o id v me first whole),
    ))
    (λ s o me. unmoved key s (8 * row_in (sizes_of key.shape) r + 1) id v me o))

-- the store that frees a place's lock word is a step that the rule allows
pub given : (key : Setting) (n id : ℕ) (v : View) (r : ℕ) (slot : Slot) (more : List (ℕ × Slot)) → IsInside key.shape r → v.standing.gone ≡ false → 0 < has_room r v.holding → v.holding.half ≡ None → IsInHand slot.list (in_hand v r)
    → Allows (Sound key) n id (v, (row_in (sizes_of key.shape) r, slot) ∷ more) (8 * row_in (sizes_of key.shape) r + 1) (λ _. 0) (λ _ q. q ≡ (with_given v r, more))
given key n id v r slot more placed present has whole same s o deep me _ = let w : View = with_given v r in let z : Sizes = sizes_of key.shape in let row : ℕ = row_in z r in let i : ℕ = 8 * row + 1 in let wide = o.wide in let q = o.rules in let near = placed.place in let inside = place_room key.shape r placed in
    let is = room_is key.shape r inside in let low : row < rooms_in z = room_low key.shape r inside in
    let mine = rooming.mine (IsRoom key.shape) (locks_in (sizes_of key.shape) s.words) (homes_in (sizes_of key.shape) s.homes) (IsRoomAtHome key.shape o.now o.after o.pool) (Fits key.shape o.now o.after o.pool) (map holding_of s.views) q.roomed id r v.holding (here s.views id v me holding_of) has in
    let fits = mine.1 in let c : Claims = v.claims in let at = here s.views id v me claims_of in
    let kept : IsRoomAtHome key.shape o.now o.after o.pool r slot = record {
      fits = record { entries = λ l. same.entries ∙ fits.entries l; items = λ l. same.items ∙ fits.items l; most_items = λ l. same.most_items ∙ fits.most_items l; most_entries = λ l. same.most_entries ∙ fits.most_entries l; turns = λ e. absurd (omega (arith, e, near)) };
      spare = λ e. absurd (omega (arith, e, near));
    } in (
      w,
      gives,
      tt,
      on_lock key s o id w present (o.ended id v me) row 0 (set s.homes row (some slot)) (length-set s.homes row (some slot)) (ordering.stays key.shape.ids key.first_lookup o.now o.pool (bits_in (sizes_of key.shape) s.words) (looks_in s.words) s.views id v me present o.ordered w refl refl refl) record {
        counted = q.counted;
        roomed = rooming.gives (IsRoom key.shape) (locks_in z s.words) (locks_in z (set s.words i 0)) (homes_in z s.homes) (homes_in z (set s.homes row (some slot))) (IsRoomAtHome key.shape o.now o.after o.pool) (Fits key.shape o.now o.after o.pool) (map holding_of s.views) id r v.holding slot (here s.views id v me holding_of) inside has kept (home_here z s.homes r (some slot) is (omega (arith, o.deep, low))) (λ x other. home_else z s.homes r (some slot) is x (room_is key.shape x other)) (lock_here z s.words r 0 is (omega (arith, wide, low))) (lock_else z s.words r 0 is) q.roomed;
        listed = listing.rooms_change key.shape.parents.items o.now o.after (map holding_of s.views) id v.holding w.holding (here s.views id v me holding_of) refl (λ k half _. absurd (not_some k v.holding.half whole half)) q.listed;
        traced = tracing.knows o.now o.after (map traces_of s.views) id r v.traces (in_hand v r).entries (here s.views id v me traces_of) (fits.entries near) q.traced;
        marked = marks_stay key s o id v me;
        looked = claiming.still key.shape.ids key.first_lookup (looks_in s.words) o.pool (map claims_of s.views) id c.owner c.quiet w.claims.drained c.loaded c at (q.looked.loaded id c at) q.looked;
        owned = owning.keeps_owner key.shape o.now o.after o.pool (map claims_of s.views) id c w.claims at refl (λ j d. omega arith)
            (λ j e. owning.marks_fall key.shape o.now o.after (map claims_of s.views) c r j (in_hand v r).items (fits.items near) e (owning.own key.shape o.now o.after o.pool (map claims_of s.views) c j (q.owned.owner id c at j e))) q.owned;
        turned = turns_stay key s o id v me;
        dated = dated_stay key s o id v me;
        seated = seats_stay key s o id v me;
      },
      refl,
    )

-- the store that frees the pool's lock word is a step that the rule allows
pub pool_given : (key : Setting) (n id : ℕ) (v : View) (slot : Slot) (more : List (ℕ × Slot)) → v.standing.gone ≡ false → 0 < has_room (places_in key.shape.ids) v.holding → slot.pool.items ≡ (in_hand v (places_in key.shape.ids)).pool → dying_in key.shape.ids slot.pool.items ≤ slot.pool.spare
    → Allows (Sound key) n id (v, (row_in (sizes_of key.shape) (places_in key.shape.ids), slot) ∷ more) (8 * row_in (sizes_of key.shape) (places_in key.shape.ids) + 1) (λ _. 0) (λ _ q. q ≡ (with_pool_given v (places_in key.shape.ids), more))
pool_given key n id v slot more present has same enough s o deep me _ = let r : ℕ = places_in key.shape.ids in let w : View = with_pool_given v r in let z : Sizes = sizes_of key.shape in let row : ℕ = row_in z r in let i : ℕ = 8 * row + 1 in let wide = o.wide in let q = o.rules in let inside = pool_room key.shape o.sized.shape.some_nodes o.sized.shape.tree.has_root in
    let is = room_is key.shape r inside in let low : row < rooms_in z = room_low key.shape r inside in
    let mine = rooming.mine (IsRoom key.shape) (locks_in (sizes_of key.shape) s.words) (homes_in (sizes_of key.shape) s.homes) (IsRoomAtHome key.shape o.now o.after o.pool) (Fits key.shape o.now o.after o.pool) (map holding_of s.views) q.roomed id r v.holding (here s.views id v me holding_of) has in
    let pooled = mine.1.turns refl in
    let kept : IsRoomAtHome key.shape o.now o.after o.pool r slot = record {
      fits = record { entries = λ l. absurd (omega (arith, l)); items = λ l. absurd (omega (arith, l)); most_items = λ l. absurd (omega (arith, l)); most_entries = λ l. absurd (omega (arith, l)); turns = λ e. same ∙ pooled };
      spare = λ e. subst (λ (l : List PoolEntry). dying_in key.shape.ids l ≤ slot.pool.spare) (same ∙ pooled) enough;
    } in (
      w,
      gives,
      tt,
      on_lock key s o id w present (o.ended id v me) row 0 (set s.homes row (some slot)) (length-set s.homes row (some slot)) (ordering.stays key.shape.ids key.first_lookup o.now o.pool (bits_in (sizes_of key.shape) s.words) (looks_in s.words) s.views id v me present o.ordered w refl refl refl) record {
        counted = q.counted;
        roomed = rooming.gives (IsRoom key.shape) (locks_in z s.words) (locks_in z (set s.words i 0)) (homes_in z s.homes) (homes_in z (set s.homes row (some slot))) (IsRoomAtHome key.shape o.now o.after o.pool) (Fits key.shape o.now o.after o.pool) (map holding_of s.views) id r v.holding slot (here s.views id v me holding_of) inside has kept (home_here z s.homes r (some slot) is (omega (arith, o.deep, low))) (λ x other. home_else z s.homes r (some slot) is x (room_is key.shape x other)) (lock_here z s.words r 0 is (omega (arith, wide, low))) (lock_else z s.words r 0 is) q.roomed;
        listed = listing.rooms_change key.shape.parents.items o.now o.after (map holding_of s.views) id v.holding w.holding (here s.views id v me holding_of) refl
            (λ k half h. let below = (rooming.mine (IsRoom key.shape) (locks_in (sizes_of key.shape) s.words) (homes_in (sizes_of key.shape) s.homes) (IsRoomAtHome key.shape o.now o.after o.pool) (Fits key.shape o.now o.after o.pool) (map holding_of s.views) q.roomed id k v.holding (here s.views id v me holding_of) h.own).0 in
            let lower = o.sized.shape.tree.lower (group_of k) h.below_root h.group in (
              omega (arith, h.own, rooming.without_else r k v.holding.hands (λ d. omega (arith, d, h.below_root))),
              omega (arith, h.parent, rooming.without_else r (above key.shape.parents.items k) v.holding.hands (λ d. omega (arith, d, below.room, lower, h.below_root))),
            )) q.listed;
        traced = traces_stay key s o id v me;
        marked = marks_stay key s o id v me;
        looked = lookups_stay key s o id v me;
        owned = owned_stay key s o id v me;
        turned = turning.knows key.shape.ids key.shape.decls o.pool (map turns_of s.views) id (v.turns.gives + 1) v.turns (in_hand v r).pool w.turns.dated (here s.views id v me turns_of) pooled q.turned;
        dated = dating.gives key.shape.ids (looks_in s.words) o.pool (map turns_of s.views) id v.turns w.turns v.claims (length (in_hand v r).pool) (here s.views id v me turns_of) (ap (λ (l : List PoolEntry). length l) pooled) (q.looked.held id v.claims (here s.views id v me claims_of)) refl q.dated;
        seated = seats_stay key s o id v me;
      },
      refl,
    )
