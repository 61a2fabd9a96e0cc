-- SPDX-License-Identifier: GPL-2.0-only
-- The rule of the deferred table.
use Rattle.std.specs.Prelude.{◌≡◌, ◌≢◌, ℕ, zero, suc, ◌+◌, ◌<◌, ◌^◌, ◌%◌, true, false, List, [], ◌∷◌, ◌++◌, map, length, slice_index, cond}
use mathlib.Core.Option.{some}
use lib.ListN.{get_elem?}
use Rattle.atomic_table.specs.Table.{State}
use Rattle.shr_base.specs.declared.places.Place.{Place}
use Rattle.shr_model.specs.Places.{is_place}
use Rattle.shr_model.specs.Amounts.{sum_at}
use Rattle.shr_seats.specs.Standing.{Standing, at_first, at_split, at_end, with_split, with_join, AreSeats, AreEmptied}
use Rattle.shr_seats.specs.Lines.{Deed, by_seat, acts_of, part, state_after, AreSo, AreInLine}
use Rattle.shr_deferred.specs.declared.view.View.{View}
use Rattle.shr_seats.specs.declared.rows.Sizes.{Sizes}
use Rattle.shr_seats.specs.Rows.{IsPlaceOf, row_of, row_count}
use Rattle.shr_deferred.specs.Moves.{Move, Moves, took, gave, takes_of, gives_of}

-- what a view did, and the seats that were joined into it
abbrev pub deeds_in : View → List (Deed Move)
deeds_in v = v.did

-- where a view stands among the seats
abbrev pub standing_in : View → Standing
standing_in v = v.standing

-- the view of the first seat of a new table
abbrev pub first_view : View
first_view = record { did = []; own = []; joined = []; standing = at_first }

-- the view of a seat that was split off
abbrev pub new_view : View
new_view = record { did = []; own = []; joined = []; standing = at_split }

-- what is left of the view of a seat that was joined into the first
abbrev pub spent_view : View
spent_view = record { did = []; own = []; joined = []; standing = at_end }

-- the first view, split once more
abbrev pub with_split_view : View → View
with_split_view v = record v { standing = with_split v.standing }

-- the first view, with the deeds of another that was joined into it
abbrev pub joined_view : View → View → View
joined_view v u = record v { did = v.did ++ u.did; joined = v.joined ++ acts_of u.did ∷ []; standing = with_join v.standing }

-- how much was taken at a place
abbrev pub took_at : Place → Moves → ℕ
took_at p m = sum_at p (takes_of m)

-- how much was given at a place
abbrev pub gave_at : Place → Moves → ℕ
gave_at p m = sum_at p (gives_of m)

-- what each place has
abbrev pub Amounts : Type 0
Amounts = Place → ℕ

-- what each place has after a move: a take leaves 0, a give adds modulo 2^64
abbrev pub after_move : Amounts → Move → Amounts
after_move w (took x) p = cond (is_place p x.place) 0 (w p)
after_move w (gave x) p = cond (is_place p x.place) ((w p + x.amount) % 2 ^ 64) (w p)

-- the amounts after a deed
abbrev pub amounts_next : Amounts → Deed Move → Amounts
amounts_next w d = after_move w d.act

-- a take took just what its place had
abbrev pub TakesAll : Amounts → Move → Type 0
TakesAll w (took x) = x.amount ≡ w x.place
TakesAll w (gave x) = Unit {0}

-- nothing is deferred anywhere
abbrev pub nothing_deferred : Amounts
nothing_deferred p = 0

-- what each place has after these moves of all seats, in their order
abbrev pub amounts_after : List (Deed Move) → Amounts
amounts_after line = state_after amounts_next nothing_deferred line

-- in this order each take took just what was given at its place since the take before
abbrev pub AreTaken : List (Deed Move) → Type 0
AreTaken line = AreSo amounts_next (λ w d. TakesAll w d.act) nothing_deferred line

-- what a view's seat did itself, and then what each did that was joined into it, in the order of the joins
abbrev pub strands_in : View → List Moves
strands_in v = v.own ∷ v.joined

-- the moves with this number, none past the last
abbrev pub strand_at : List Moves → ℕ → Moves
strand_at [] k = []
strand_at (m ∷ ms) zero = m
strand_at (m ∷ ms) (suc k) = strand_at ms k

-- the seat with this number was joined away
abbrev pub IsSeatGone : List View → ℕ → Type 0
IsSeatGone views j = (u : View) × (get_elem? views j ≡ some u) × (u.standing.gone ≡ true)

-- the strands of the first view are those of its seat and of seats that were joined away, each another, and it tells no other
-- deeds
pub record AreStrands (views : List View) (seat : ℕ) (v : View) : Type 0 where
  -- the seat of each strand
  pub name : ℕ → ℕ
  pub mine : name 0 ≡ seat
  pub gone : (k : ℕ) → 0 < k → k < length (strands_in v) → IsSeatGone views (name k)
  pub apart : (k l : ℕ) → k < length (strands_in v) → l < length (strands_in v) → name k ≡ name l → k ≡ l
  pub theirs : (k : ℕ) → k < length (strands_in v) → part (name k) v.did ≡ by_seat (name k) (strand_at (strands_in v) k)
  pub others : (j : ℕ) → ((k : ℕ) → k < length (strands_in v) → name k ≢ j) → part j v.did ≡ []

-- a view tells its own seat's deeds, and the first those of others too
pub record IsOwnView (views : List View) (seat : ℕ) (v : View) : Type 0 where
  pub plain : v.standing.first ≡ false → v.did ≡ by_seat seat v.own
  pub first : v.standing.first ≡ true → AreStrands views seat v

-- so does each that wasn't joined away
abbrev pub AreOwnViews : List View → Type 0
AreOwnViews views = (i : ℕ) (v : View) → get_elem? views i ≡ some v → v.standing.gone ≡ false → IsOwnView views i v

-- the rule of the deferred table, which holds between any two steps
pub record IsDeferredSound (z : Sizes) (s : State (Unit {0}) View) : Type 0 where
  pub wide : length s.words ≡ row_count z
  -- all moves of all seats, in the order in which they were made
  pub line : List (Deed Move)
  pub lined : AreInLine standing_in deeds_in s.views line
  pub taken : AreTaken line
  -- each word is what they leave
  pub left : (p : Place) → IsPlaceOf z p → slice_index s.words (row_of z p) ≡ amounts_after line p
  pub own : AreOwnViews s.views
  pub seats : AreSeats (map standing_in s.views)
  pub emptied : AreEmptied standing_in spent_view s.views
