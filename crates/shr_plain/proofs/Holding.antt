-- SPDX-License-Identifier: GPL-2.0-only
-- Taking a room, having it in hand, and giving it back.
use Rattle.shr_plain.proofs.Common.{◌≡◌, ◌≢◌, ℕ, ◌+◌, ◌*◌, ◌<◌, ◌%◌, ◌/◌, ◌^◌, ◌++◌, true, false, eqb, List, [], ◌∷◌, refl, sym, ap, subst, ◌∙◌, Allows, rest, PlainEntry, row_count, Sizes, RoomView, with_room_given, with_room_stored, IsTold, here, Slot, View, IsPools, units, room_journal, parts_in, units_standing_in, spent_units_view, with_parts, with_part, part_of, UnitsSat, TakesUnitsRoom, Looked, Put, Counts, with_room_hand, twice, HoldsUnitsRoom, Changes, UnitSeat, dite, ℕ_discrete, eq-eqb, ne_eqb}
use Rattle.std.specs.Prelude.{MatchBool}
use prog.Atomic.{either}
use Rattle.shr_seats.proofs.RoomSteps.{loads, locks, unlocks}

-- the lock word of a room may be compared with 0 and exchanged by 1
pub pools_locks : (z : Sizes) (slots id : ℕ) (m : UnitsSat) → m.0.standing.gone ≡ false → (i : ℕ) → i < row_count z → m.1 ≡ [] → (part_of m.0 i).in_hand ≡ false
    → Allows (IsPools z) slots id m (8 * i) (λ y. either (eqb y 0) 1 y) (λ n r. (n ≡ 0 → TakesUnitsRoom i m r) × (n ≢ 0 → r ≡ m))
pools_locks z slots id m alive i low bare out s o deep me fits = let a = locks units room_journal parts_in units_standing_in spent_units_view with_parts (λ v l. refl) (λ v l. refl) (row_count z) slots id m alive i low bare out s o deep me fits in
    (a.0, a.1, a.2, a.3, ((λ n. let t = a.4.0 n in record { room = t.0; seat = t.1; told = t.2 }), a.4.1))

-- so the room was taken where the lock word was 0, and else nothing changed
pub tried : (i n : ℕ) (s t : UnitSeat) → Changes (λ _ r. (n ≡ 0 → TakesUnitsRoom i s.me r) × (n ≢ 0 → r ≡ s.me)) s t → MatchBool (eqb n 0) (Changes (TakesUnitsRoom i) s t) (t ≡ s)
tried i n s t x = dite (ℕ_discrete n 0)
    (λ e. subst (λ b. MatchBool b (Changes (TakesUnitsRoom i) s t) (t ≡ s)) (sym (eq-eqb n 0 e)) (record { same = x.same; did = x.did.0 e }))
    (λ no. subst (λ b. MatchBool b (Changes (TakesUnitsRoom i) s t) (t ≡ s)) (sym (ne_eqb n 0 no)) (x.same ∙ ap (λ (m : UnitsSat). record s { me = m }) (x.did.1 no)))

-- and set to 0 by the seat that has the room in hand
pub pools_unlocks : (z : Sizes) (slots id : ℕ) (v : View) → v.standing.gone ≡ false → (i : ℕ) → i < row_count z → (slot : Slot) → slots ≡ row_count z → (part_of v i).in_hand ≡ true → slot.journal.items ≡ (part_of v i).hand
    → Allows (IsPools z) slots id (v, (i, slot) ∷ []) (8 * i) (λ _. 0) (λ _ r. r ≡ (with_part v i (with_room_given (part_of v i)), []))
pools_unlocks z slots id v alive i low slot all has same = unlocks units room_journal parts_in units_standing_in spent_units_view with_parts (λ v l. refl) (λ v l. refl) (row_count z) slots id (v, (i, slot) ∷ []) alive i low slot all refl has same

-- the count word of a room may be loaded
pub pools_loads : (z : Sizes) (slots id : ℕ) (m : UnitsSat) → m.0.standing.gone ≡ false → (i : ℕ) → i < row_count z → Allows (IsPools z) slots id m (8 * i + 1) (λ y. y) (λ n r. Counts i m r (n % 2 ^ 32) (n / 2 ^ 32))
pools_loads z slots id m alive i low s o deep me fits = let a = loads units room_journal parts_in units_standing_in spent_units_view with_parts (λ v l. refl) (λ v l. refl) (row_count z) slots id m alive i low s o deep me fits in
    (a.0, a.1, a.2, a.3, record { seat = a.4.0; count = a.4.1 })

abbrev Slots : Type 0
Slots = List (ℕ × Slot)

abbrev first_slot : Slots → Slot → Slot
first_slot [] d = d
first_slot (x ∷ xs) d = x.1

-- the seat has the room in hand once it lifted what lay there
pub has_room : (i : ℕ) (old m r new : UnitsSat) (result content : Slot) → m ≡ old → TakesUnitsRoom i m r → r.1 ≡ (i, result) ∷ rest r.1 → new ≡ (r.0, (i, content) ∷ rest r.1) → HoldsUnitsRoom i old new result.journal.items
has_room i old m r new result content same took there now = let slots : r.1 ≡ (i, took.room) ∷ [] = ap (λ (x : UnitsSat). x.1) took.seat in
    let room_is : took.room ≡ result = ap (λ (l : Slots). first_slot l content) (sym slots ∙ there) in record {
      view = ap (λ (x : UnitsSat). x.0) now ∙ (ap (λ (x : UnitsSat). x.0) took.seat ∙ (ap (λ (x : UnitsSat). with_part x.0 i (with_room_hand (part_of x.0 i) took.room.journal.items)) same ∙ ap (λ (x : Slot). with_part old.0 i (with_room_hand (part_of old.0 i) x.journal.items)) room_is));
      slot = (content, ap (λ (x : UnitsSat). x.1) now ∙ ap (λ (l : Slots). (i, content) ∷ rest {S = Slot} l) slots);
      told = subst (λ (x : Slot). IsTold units (part_of old.0 i) x.journal.items) room_is (subst (λ (x : UnitsSat). IsTold units (part_of x.0 i) took.room.journal.items) same took.told);
    }

-- a seat with no room in hand
abbrev pair : View → UnitsSat
pair v = (v, [])

twice_part : (v : View) (i : ℕ) (t u : RoomView PlainEntry) → with_part (with_part v i t) i u ≡ with_part v i u
twice_part v i t u = ap (with_parts v) (twice v.rooms i t u)

-- a seat that has the room in hand
module _ (i : ℕ) (old new : UnitsSat) (journal : List PlainEntry) (has : HoldsUnitsRoom i old new journal) where
  abbrev held : RoomView PlainEntry
  held = with_room_hand (part_of old.0 i) journal

  part_is : part_of new.0 i ≡ held
  part_is = ap (λ (v : View). part_of v i) has.view ∙ here old.0.rooms i held

  pub in_hand : (part_of new.0 i).in_hand ≡ true
  in_hand = ap (λ (t : RoomView PlainEntry). t.in_hand) part_is

  pub hand_is : (part_of new.0 i).hand ≡ journal
  hand_is = ap (λ (t : RoomView PlainEntry). t.hand) part_is

  pub still_here : old.0.standing.gone ≡ false → new.0.standing.gone ≡ false
  still_here alive = ap (λ (v : View). v.standing.gone) has.view ∙ alive

  -- the room is given back as it was
  pub looked : (r : UnitsSat) → r ≡ (with_part new.0 i (with_room_given (part_of new.0 i)), []) → Looked i old r journal
  looked r now = record {
    seat = now ∙ (ap (λ (t : RoomView PlainEntry). pair (with_part new.0 i (with_room_given t))) part_is ∙ (ap (λ (v : View). pair (with_part v i (with_room_given held))) has.view ∙ ap pair (twice_part old.0 i held (with_room_given held))));
    told = has.told;
  }

  -- and with one entry more
  pub put : (e : PlainEntry) (r : UnitsSat) → r ≡ (with_part new.0 i (with_room_given (with_room_stored (part_of new.0 i) e)), []) → Put i old r journal e
  put e r now = record {
    seat = now ∙ (ap (λ (t : RoomView PlainEntry). pair (with_part new.0 i (with_room_given (with_room_stored t e)))) part_is ∙ (ap (λ (v : View). pair (with_part v i (with_room_given (with_room_stored held e)))) has.view ∙ ap pair (twice_part old.0 i held (with_room_given (with_room_stored held e)))));
    told = has.told;
  }

-- a seat after an entry was stored in the room that it has in hand
module _ (i : ℕ) (m stored : UnitsSat) (e : PlainEntry) (is : stored ≡ (with_part m.0 i (with_room_stored (part_of m.0 i) e), m.1)) where
  stored_is : part_of stored.0 i ≡ with_room_stored (part_of m.0 i) e
  stored_is = ap (λ (x : UnitsSat). part_of x.0 i) is ∙ here m.0.rooms i (with_room_stored (part_of m.0 i) e)

  pub stored_in_hand : (part_of m.0 i).in_hand ≡ true → (part_of stored.0 i).in_hand ≡ true
  stored_in_hand has = ap (λ (t : RoomView PlainEntry). t.in_hand) stored_is ∙ has

  pub stored_hand : (part_of stored.0 i).hand ≡ (part_of m.0 i).hand ++ e ∷ []
  stored_hand = ap (λ (t : RoomView PlainEntry). t.hand) stored_is

  pub stored_given : (r : UnitsSat) → r ≡ (with_part stored.0 i (with_room_given (part_of stored.0 i)), []) → r ≡ (with_part m.0 i (with_room_given (with_room_stored (part_of m.0 i) e)), [])
  stored_given r now = now ∙ (ap (λ (t : RoomView PlainEntry). pair (with_part stored.0 i (with_room_given t))) stored_is ∙ (ap (λ (x : UnitsSat). pair (with_part x.0 i (with_room_given (with_room_stored (part_of m.0 i) e)))) is ∙ ap pair (twice_part m.0 i (with_room_stored (part_of m.0 i) e) (with_room_given (with_room_stored (part_of m.0 i) e)))))
