-- SPDX-License-Identifier: GPL-2.0-only
-- A token that took the room.
use Rattle.shr_charge.proofs.Common.{◌≡◌, ℕ, ◌*◌, ◌≤◌, List, [], ◌∷◌, length, sym, ap, subst, ◌∙◌, rest, Kept, TreeEntry, Hierarchy, IsTreeJournal, ChargeToken, opens, IsTreeSeen, with_tree_hand, ChargeSat, TakesTreeRoom, HoldsTreeRoom, Shown}
use Rattle.shr_charge.proofs.SeatLaws.{token_is}

abbrev Slots : Type 0
Slots = List (ℕ × Kept TreeEntry)

first_slot : Slots → Kept TreeEntry → Kept TreeEntry
first_slot [] d = d
first_slot (x ∷ xs) d = x.1

first_is : (l : Slots) (a b : Kept TreeEntry) (more : Slots) → l ≡ (0, a) ∷ [] → l ≡ (0, b) ∷ more → a ≡ b
unfolding first_slot
first_is l a b more p q = ap (λ (x : Slots). first_slot x a) (sym p ∙ q)

module _ (h : Hierarchy) (old : ChargeToken) (m r : ChargeSat) (result : Kept TreeEntry) (same : m ≡ old.me) (took : TakesTreeRoom h m r) (there : r.1 ≡ (0, result) ∷ rest r.1) where
  room_is : took.room ≡ result
  room_is = first_is r.1 took.room result (rest r.1) (ap (λ (x : ChargeSat). x.1) took.seat) there

  -- the token has the room in hand
  pub has_room : (new : ChargeToken) (content : Kept TreeEntry) → new.table_id ≡ old.table_id → new.id ≡ old.id → new.me ≡ (r.0, (0, content) ∷ rest r.1) → HoldsTreeRoom old new result.items
  has_room new content table id now = record {
    left = content;
    now = token_is old new (record old.me.0 { tree = with_tree_hand old.me.0.tree result.items }, (0, content) ∷ []) table id (now ∙ (ap (λ (x : ChargeSat). (x.0, (0, content) ∷ rest {S = Kept TreeEntry} x.1)) took.seat
        ∙ (ap (λ (x : ChargeSat). (record x.0 { tree = with_tree_hand x.0.tree took.room.items }, (0, content) ∷ [])) same ∙ ap (λ (x : Kept TreeEntry). (record old.me.0 { tree = with_tree_hand old.me.0.tree x.items }, (0, content) ∷ [])) room_is)));
  }

  -- what the room shows: its journal is legal and holds what the seat knows
  pub shown : Shown h old.me.0.tree result
  shown = record {
    legal = subst (λ (x : Kept TreeEntry). IsTreeJournal h x.items) room_is took.legal;
    seen = subst (λ (x : Kept TreeEntry). IsTreeSeen h x.items old.me.0.tree) room_is (subst (λ (x : ChargeSat). IsTreeSeen h took.room.items x.0.tree) same took.seen);
    spare = subst (λ (x : Kept TreeEntry). opens (length h.parents) x.items ≤ x.spare) room_is took.spare;
    short = subst (λ (x : Kept TreeEntry). length x.items ≤ 3 * length h.parents) room_is took.short;
  }

-- a token that is as it was holds the room still
pub still_holds : (old taken new : ChargeToken) (journal : List TreeEntry) → HoldsTreeRoom old taken journal → new ≡ taken → HoldsTreeRoom old new journal
still_holds old taken new journal has same = record { left = has.left; now = same ∙ has.now }
