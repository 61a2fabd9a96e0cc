-- SPDX-License-Identifier: GPL-2.0-only
-- A room whose count is stored is in hand still, with the list that was stored.
use Rattle.shr_node.proofs.Common.{◌≡◌, ℕ, ◌<◌, Bool, true, false, cond, List, ◌∷◌, [], ◌++◌, sym, subst, arith, Object, Entry, place_number, View, Shape, Room, RoomContent, has_room, with_stored, with_set, in_hand, last_entry, IsInHand, IsRoomReady, changed_in_hand}
use Rattle.shr_core.proofs.Rooming.{content_rooms}

-- the room is still in hand after the store and the bit
pub kept_has : (v : View) (k : ℕ) (e : Entry) (items : List Object) (b : Bool) → 0 < has_room k v.holding → 0 < has_room k (cond b (with_set (with_stored v k e items) k) (with_stored v k e items)).holding
kept_has v k e items true has = let same = content_rooms k k (record (in_hand v k) { entries = (in_hand v k).entries ++ e ∷ []; items = items }) v.holding.hands in omega (arith, has, same)
kept_has v k e items false has = let same = content_rooms k k (record (in_hand v k) { entries = (in_hand v k).entries ++ e ∷ []; items = items }) v.holding.hands in omega (arith, has, same)

-- and its list is what was stored
pub kept_same : (shape : Shape) (v : View) (room : Room) (b : Bool) → IsRoomReady shape v room
    → IsInHand room.list (in_hand (cond b (with_set (with_stored v (place_number room.place) (last_entry room.list.entries) room.list.items) (place_number room.place)) (with_stored v (place_number room.place) (last_entry room.list.entries) room.list.items)) (place_number room.place))
kept_same shape v room b ready = by b where
  k : ℕ
  k = place_number room.place

  e : Entry
  e = last_entry room.list.entries

  c : RoomContent
  c = record (in_hand v k) { entries = (in_hand v k).entries ++ e ∷ []; items = room.list.items }

  hand : in_hand (with_stored v k e room.list.items) k ≡ c
  hand = changed_in_hand k c v.holding.hands ready.may.room

  same : IsInHand room.list c
  same = record { entries = ready.may.entries; items = λ i. room.list.items; most_items = ready.most_items; most_entries = ready.most_entries }

  by : (b : Bool) → IsInHand room.list (in_hand (cond b (with_set (with_stored v k e room.list.items) k) (with_stored v k e room.list.items)) k)
  by true = subst (λ (x : RoomContent). IsInHand room.list x) (sym hand) same
  by false = subst (λ (x : RoomContent). IsInHand room.list x) (sym hand) same
