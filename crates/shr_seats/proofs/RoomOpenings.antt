-- SPDX-License-Identifier: GPL-2.0-only
-- A new table of rooms meets the rule.
use Rattle.shr_seats.proofs.RoomsCommon.{◌≡◌, ℕ, ◌+◌, ◌*◌, ◌<◌, ◌≤◌, true, List, [], ◌∷◌, map, length, get_or, sym, ap, subst, ◌∙◌, arith, Option, some, get_elem?, State, at_map, Each, Standing, AreSeats, not_gone, Each-one, RoomView, no_room, part_at, Law, IsRoomSound, AreRoomsSound, IsRoomSeen, lock_index, count_index, replicate, length-replicate, get_or-replicate, opening, at_first, AreSeats-first}
use Rattle.shr_seats.proofs.Room.{seen_none}
use Rattle.shr_model.proofs.Numbers.{none_below}
use Rattle.shr_model.proofs.Lists.{there}

module _ {E S V : Type 0} (law : Law E) (entries : S → List E) (parts : V → List (RoomView E)) (standing : V → Standing) (spent : V) (rooms : ℕ) (words : List ℕ) (slots : List S) (first : V)
    (zeros : words ≡ replicate {A = ℕ} (8 * rooms) 0) (many : length slots ≡ rooms) (bare : Each (λ (s : S). entries s ≡ []) slots) (none : law.len [] ≡ 0) (blank : parts first ≡ []) (stands : standing first ≡ at_first) where
  zero_at : (k : ℕ) → k < 8 * rooms → get_or words k 0 ≡ 0
  zero_at k low = ap (λ (l : List ℕ). get_or l k 0) zeros ∙ get_or-replicate (8 * rooms) k 0 0 low

  -- a room whose journal is empty, known by one seat that did nothing
  room_opened : (i : ℕ) → i < rooms → (room : S) → get_elem? slots i ≡ some room → IsRoomSound law entries [] (get_or words (lock_index i) 0) (get_or words (count_index i) 0) (get_elem? (map some slots) i) (no_room ∷ [])
  room_opened i low room at = let lock = zero_at (lock_index i) (omega (arith, low)) in let count = zero_at (count_index i) (omega (arith, low)) in record {
    legal = tt;
    fits = record { short = omega arith; entries = omega arith; count = omega (arith, none) };
    counted = omega (arith, count, none);
    locks = sym lock;
    one = omega (arith, lock);
    at_home = λ _. (room, at_map some slots i room at, bare i room at);
    seen = Each-one (IsRoomSeen law []) no_room (seen_none law entries []);
    once = λ n. sym (none_below n);
  }

  -- with words of 0 and rooms without an entry
  pub opened : AreRoomsSound law entries parts standing spent rooms (opening words slots first)
  opened = record {
    journal = λ _. [];
    wide = ap length zeros ∙ length-replicate (8 * rooms) 0;
    each = λ i low. let room = there slots i (omega (arith, low, many)) in
        subst (λ (t : RoomView E). IsRoomSound law entries [] (get_or words (lock_index i) 0) (get_or words (count_index i) 0) (get_elem? (map some slots) i) (t ∷ [])) (sym (ap (λ (l : List (RoomView E)). part_at l i) blank)) (room_opened i low room.0 room.1);
    seats = subst (λ (z : Standing). AreSeats (z ∷ [])) (sym stands) AreSeats-first;
    emptied = Each-one (λ (v : V). (standing v).gone ≡ true → v ≡ spent) first (λ g. absurd (not_gone (standing first) (ap (λ (z : Standing). z.gone) stands) g));
  }
