-- SPDX-License-Identifier: GPL-2.0-only
-- What a table of rooms leaves once all other seats were joined into the first.
use Rattle.shr_seats.proofs.RoomsCommon.{◌≡◌, ℕ, ◌<◌, true, false, cond, List, map, sym, refl, ap, subst, ◌∙◌, arith, some, get_elem?, State, at_map, Standing, RoomView, no_room, part_at, Law, AreRoomsSound, holds_it, times_made, IsWhole, sum_by-sole, sum_by-map}
use Rattle.std.specs.Prelude.{sum_by}
use Rattle.shr_seats.specs.RoomLeft.{IsRoomLeft}

module _ {E S V : Type 0} (law : Law E) (entries : S → List E) (parts : V → List (RoomView E)) (standing : V → Standing) (spent : V) (blank : (i : ℕ) → part_at (parts spent) i ≡ no_room)
    (rooms : ℕ) (s : State S V) (o : AreRoomsSound law entries parts standing spent rooms s) (id : ℕ) (v : V) (me : get_elem? s.views id ≡ some v) (is : (standing v).first ≡ true) (whole : IsWhole (standing v)) where
  -- a sum over what the views did in a room is what the first did there
  sole : (i : ℕ) (f : RoomView E → ℕ) → f no_room ≡ 0 → sum_by f (map (λ (y : V). part_at (parts y) i) s.views) ≡ f (part_at (parts v) i)
  sole i f none = sum_by-map f (λ (y : V). part_at (parts y) i) s.views ∙ sum_by-sole standing spent s.views id v me is whole o.seats o.emptied (λ (y : V). f (part_at (parts y) i)) (ap f (blank i) ∙ none)

  -- a room that the first seat hasn't in hand lies at home, and its journal is what that seat made
  pub left : (i : ℕ) → i < rooms → (part_at (parts v) i).in_hand ≡ false → (room : S) × (get_elem? s.homes i ≡ some (some room)) × IsRoomLeft law (entries room) (part_at (parts v) i)
  left i low out = let f = o.each i low in let hands = sole i holds_it refl in let none = ap {B = ℕ} (λ b. cond b 1 0) out in
      let home = f.at_home (omega (arith, f.locks, hands, none)) in (
        home.0,
        home.1,
        subst (λ (l : List E). IsRoomLeft law l (part_at (parts v) i)) (sym home.2) (record {
          legal = f.legal;
          fits = f.fits;
          seen = f.seen id (part_at (parts v) i) (at_map (λ (y : V). part_at (parts y) i) s.views id v me);
          once = λ n. sym (sole i (λ t. times_made n t.made) refl) ∙ f.once n;
        }),
      )
