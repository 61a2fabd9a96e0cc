-- SPDX-License-Identifier: GPL-2.0-only
-- The parts of a view: changing one of them, and joining those of another view.
use Rattle.shr_seats.proofs.RoomsCommon.{◌≡◌, ◌≢◌, ℕ, zero, suc, List, [], ◌∷◌, map, refl, sym, ap, append-nil, RoomView, no_room, joined_room, part_at}
use Rattle.shr_seats.specs.RoomViews.{with_part_at, joined_parts}

module _ {E : Type 0} where
  -- the part of the changed room, and of another
  pub here : (parts : List (RoomView E)) (i : ℕ) (t : RoomView E) → part_at (with_part_at parts i t) i ≡ t
  unfolding with_part_at
  here [] zero t = refl
  here [] (suc i) t = here [] i t
  here (x ∷ xs) zero t = refl
  here (x ∷ xs) (suc i) t = here xs i t

  pub there : (parts : List (RoomView E)) (i k : ℕ) (t : RoomView E) → k ≢ i → part_at (with_part_at parts i t) k ≡ part_at parts k
  unfolding with_part_at
  there [] zero zero t n = absurd (n refl)
  there [] zero (suc k) t n = refl
  there [] (suc i) zero t n = refl
  there [] (suc i) (suc k) t n = there [] i k t (λ e. n (ap suc e))
  there (x ∷ xs) zero zero t n = absurd (n refl)
  there (x ∷ xs) zero (suc k) t n = refl
  there (x ∷ xs) (suc i) zero t n = refl
  there (x ∷ xs) (suc i) (suc k) t n = there xs i k t (λ e. n (ap suc e))

  -- the later of two changes of one part is what stays
  pub twice : (parts : List (RoomView E)) (i : ℕ) (t u : RoomView E) → with_part_at (with_part_at parts i t) i u ≡ with_part_at parts i u
  unfolding with_part_at
  twice [] zero t u = refl
  twice [] (suc i) t u = ap (λ l. no_room ∷ l) (twice [] i t u)
  twice (x ∷ xs) zero t u = refl
  twice (x ∷ xs) (suc i) t u = ap (λ l. x ∷ l) (twice xs i t u)

  -- one that knows nothing brings nothing
  joined_none : (t : RoomView E) → joined_room t no_room ≡ t
  joined_none t q = record t {
    made = append-nil t.made q;
    heard = append-nil t.heard q;
    seen = append-nil t.seen q;
  }

  part_of_map : (f : RoomView E → RoomView E) → f no_room ≡ no_room → (parts : List (RoomView E)) (i : ℕ) → part_at (map f parts) i ≡ f (part_at parts i)
  part_of_map f none [] i = sym none
  part_of_map f none (x ∷ xs) zero = refl
  part_of_map f none (x ∷ xs) (suc i) = part_of_map f none xs i

  -- each part of a joined view is joined of the two
  pub part_joined : (ts us : List (RoomView E)) (i : ℕ) → part_at (joined_parts ts us) i ≡ joined_room (part_at ts i) (part_at us i)
  unfolding joined_parts
  part_joined [] us i = part_of_map (joined_room no_room) refl us i
  part_joined (t ∷ ts) [] i = part_of_map (λ x. joined_room x no_room) refl (t ∷ ts) i
  part_joined (t ∷ ts) (u ∷ us) zero = refl
  part_joined (t ∷ ts) (u ∷ us) (suc i) = part_joined ts us i
