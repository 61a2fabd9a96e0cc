-- SPDX-License-Identifier: GPL-2.0-only
-- A seat after a step is of its core still.
use Rattle.shr_core.proofs.Common.{◌≡◌, ℕ, ◌/◌, ◌<◌, ◌≤◌, Bool, cond, eq-eqb, ne_eqb, List, [], ◌∷◌, map, length, sym, refl, ap, subst, ◌∙◌, ⊎_elim, arith, Option, Some, None, dite, ℕ_discrete, Allows, Place, place_number, PoolEntry, Met, View, Shape, Setting, Slot, Hand, RoomContent, Sound, IsInside, groups_in, sizes_of, Sat, with_taken, with_content, row_in, words_in, map_of, slot_numbers, numbers_of, IsOf, IsPlaceOfShape, IsHolding, IsMeeting, MayTake, room_numbers, room_rows}
use Rattle.shr_core.specs.declared.table.Core.{Core}
use Rattle.shr_core.specs.declared.seat.Seat.TheInside.{Inside as Seat}
use Rattle.shr_core.specs.Moves.{Token, MayStep, IsTold}

-- a seat may make a step that the rule allows with the core's setting, on the word with that number
pub may : (core : Core) (token : Token) (word at : ℕ) (f : ℕ → ℕ) (tells : ℕ → Sat → Type 0) → token.table_id ≡ core.table.shared.table_id → word ≡ at → at < words_in (sizes_of core.setting.shape)
    → Allows (Sound core.setting) core.table.shared.table_id.slots token.id token.me at f tells → MayStep core token word f tells
may core token word at f tells table is inside allowed = record {
  table = table;
  inside = omega (arith, is, inside, core.sized.0);
  step = subst (λ (w : ℕ). Allows (Sound core.table.shared.key) core.table.shared.table_id.slots token.id token.me w f tells) (sym is)
      (subst (λ (z : Setting). Allows (Sound z) core.table.shared.table_id.slots token.id token.me at f tells) (sym core.sized.2) allowed);
}

-- the seat's new view and slots, where it holds the same id
pub changed : (core : Core) (old new : Seat) (w : View) → IsOf core old → new.token.table_id ≡ old.token.table_id → new.held ≡ old.held → new.token.me.0 ≡ w
    → w.standing.gone ≡ old.token.me.0.standing.gone → w.claims.held ≡ old.token.me.0.claims.held → w.claims.may ≡ None → w.claims.probe ≡ None → numbers_of new.rooms ≡ room_numbers w → slot_numbers new.token.me.1 ≡ room_rows core.setting.shape w → new.met ≡ old.met → w.turns.known ≡ old.token.me.0.turns.known → IsOf core new
changed core old new w o table held me gone holds may probe rooms slots met known = record {
  table = table ∙ o.table;
  present = ap (λ (v : View). v.standing.gone) me ∙ (gone ∙ o.present);
  holding = subst (λ (x : Option ℕ). IsHolding core.setting.shape.ids x new.token.me.0.claims) (sym held) (keeps old.held (ap (λ (v : View). v.claims.held) me ∙ holds) o.holding);
  may = ap (λ (v : View). v.claims.may) me ∙ may;
  probe = ap (λ (v : View). v.claims.probe) me ∙ probe;
  rooms = rooms ∙ sym (ap room_numbers me);
  slots = slots ∙ sym (ap (room_rows core.setting.shape) me);
  met = subst (λ (x : Option Met). IsMeeting core.setting.shape new.token.me.0.turns.known x) (sym met) (subst (λ (l : List PoolEntry). IsMeeting core.setting.shape l old.met) (sym (ap (λ (v : View). v.turns.known) me ∙ known)) o.met);
} where
  keeps : (x : Option ℕ) → new.token.me.0.claims.held ≡ old.token.me.0.claims.held → IsHolding core.setting.shape.ids x old.token.me.0.claims → IsHolding core.setting.shape.ids x new.token.me.0.claims
  keeps None e h = e ∙ h
  keeps (Some i) e h = (e ∙ h.0, h.1)

-- a room was taken, and the content of its slot is out
pub taken : (core : Core) (old new : Seat) (number row : ℕ) (c : RoomContent) (left : Slot) → IsOf core old → new.token.table_id ≡ old.token.table_id → new.held ≡ old.held → new.token.me ≡ (with_taken old.token.me.0 number c, (row, left) ∷ old.token.me.1) → row ≡ row_in (sizes_of core.setting.shape) number
    → numbers_of new.rooms ≡ number ∷ numbers_of old.rooms → new.met ≡ old.met → IsOf core new
taken core old new number row c left o table held me is rooms met = changed core old new (with_taken old.token.me.0 number c) o table held (ap (λ (m : Sat). m.0) me) refl refl o.may o.probe
    (rooms ∙ ap (λ (l : List ℕ). number ∷ l) o.rooms) (ap (λ (m : Sat). slot_numbers m.1) me ∙ (ap (λ (x : ℕ). x ∷ slot_numbers old.token.me.1) is ∙ ap (λ (l : List ℕ). row_in (sizes_of core.setting.shape) number ∷ l) o.slots)) met refl

-- a content that changes keeps the rooms
content_numbers : (r : ℕ) (c : RoomContent) (hs : List Hand) → map (λ (h : Hand). h.room) (with_content r c hs) ≡ map (λ (h : Hand). h.room) hs
content_numbers r c [] = refl
content_numbers r c (h ∷ hs) = dite (ℕ_discrete h.room r)
    (λ e. subst (λ (b : Bool). map (λ (x : Hand). x.room) (cond b (record { room = r; content = c } ∷ hs) (h ∷ with_content r c hs)) ≡ h.room ∷ map (λ (x : Hand). x.room) hs) (sym (eq-eqb h.room r e)) (ap (λ (x : ℕ). x ∷ map (λ (y : Hand). y.room) hs) (sym e)))
    (λ n. subst (λ (b : Bool). map (λ (x : Hand). x.room) (cond b (record { room = r; content = c } ∷ hs) (h ∷ with_content r c hs)) ≡ h.room ∷ map (λ (x : Hand). x.room) hs) (sym (ne_eqb h.room r n)) (ap (λ (l : List ℕ). h.room ∷ l) (content_numbers r c hs)))

-- a room's content changed in hand
pub content_changed : (core : Core) (old new : Seat) (r : ℕ) (c : RoomContent) (w : View) → IsOf core old → new.token.table_id ≡ old.token.table_id → new.held ≡ old.held → new.rooms ≡ old.rooms → new.token.me ≡ (w, old.token.me.1)
    → w.standing.gone ≡ old.token.me.0.standing.gone → w.claims.held ≡ old.token.me.0.claims.held → w.claims.may ≡ old.token.me.0.claims.may → w.claims.probe ≡ old.token.me.0.claims.probe → w.holding.hands ≡ with_content r c old.token.me.0.holding.hands → new.met ≡ old.met → w.turns.known ≡ old.token.me.0.turns.known → IsOf core new
content_changed core old new r c w o table held rooms me gone holds may probe hands met known = let same : room_numbers w ≡ room_numbers old.token.me.0 = ap (map (λ (h : Hand). h.room)) hands ∙ content_numbers r c old.token.me.0.holding.hands in
    changed core old new w o table held (ap (λ (m : Sat). m.0) me) gone holds (may ∙ o.may) (probe ∙ o.probe) (ap numbers_of rooms ∙ (o.rooms ∙ sym same)) (ap (λ (m : Sat). slot_numbers m.1) me ∙ (o.slots ∙ sym (ap (map (row_in (sizes_of core.setting.shape))) same))) met known

-- there is place for one room more in hand
pub few_rooms : (core : Core) (seat : Seat) (place : Place) → IsOf core seat → MayTake core.setting.shape seat.token.me.0 place → length (numbers_of seat.rooms) ≤ 1
few_rooms core seat place o may = ⊎_elim (λ h. omega (arith, ap (λ (l : List ℕ). length l) o.rooms, ap (λ (l : List Hand). length (map (λ (x : Hand). x.room) l)) h))
    (λ h. omega (arith, ap (λ (l : List ℕ). length l) o.rooms, ap (λ (l : List Hand). length (map (λ (x : Hand). x.room) l)) h.1)) may

-- the number of a place of the shape, and its parts
pub inside : (shape : Shape) (place : Place) → IsPlaceOfShape shape place → shape.nodes ≤ 4 → groups_in shape ≤ 256 → IsInside shape (place_number place)
inside shape place p nodes groups = record { place = omega (arith, p.id, p.node, p.group, nodes, groups); node = omega (arith, p.id, p.node, p.group, nodes, groups); group = omega (arith, p.id, p.node, p.group, nodes, groups) }

-- the place in whose row a place's bit stands has the number of its bit word
pub map_there : (place : Place) (k : ℕ) → k ≡ place_number place → (shape : Shape) → shape.nodes ≤ 4 → groups_in shape ≤ 256 → IsPlaceOfShape shape place → place_number (record { id = place.id / 64; node = place.node; group = place.group }) ≡ map_of k
map_there place k e shape nodes groups p = omega (arith, e, p.node, p.group, nodes, groups)

-- no slot is out
pub no_slots : (slots : List (ℕ × Slot)) → slot_numbers slots ≡ [] → slots ≡ []
no_slots [] e = refl
no_slots (x ∷ xs) e = absurd (omega (arith, ap (λ (l : List ℕ). length l) e))

-- the seat of the table after a step, where that told all of its view and slots
pub stepped : (old new : Token) (m : Sat) → IsTold old new (λ n. n ≡ m) → new ≡ record old { me = m }
stepped old new m told = λ i. record { marker = old.marker; table_id = told.same.0 i; id = told.same.1 i; me = told.told i }
