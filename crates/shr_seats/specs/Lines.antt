-- SPDX-License-Identifier: GPL-2.0-only
-- What all seats of a table did, in one order.
use Rattle.std.specs.Prelude.{◌≡◌, ℕ, zero, suc, false, List, [], ◌∷◌, map, cond, ◌==◌}
use mathlib.Core.Option.{some}
use lib.ListN.{get_elem?}
use Rattle.shr_seats.specs.Standing.{Standing}

-- one thing done, and the number of the seat that did it
pub record Deed (A : Type 0) : Type 0 where
  pub seat : ℕ
  pub act : A

-- these, done by one seat
abbrev pub by_seat : {A : Type 0} → ℕ → List A → List (Deed A)
by_seat j acts = map (λ a. record { seat = j; act = a }) acts

-- what was done, by whomever
abbrev pub acts_of : {A : Type 0} → List (Deed A) → List A
acts_of {A} deeds = map (λ (d : Deed A). d.act) deeds

-- the deeds of one seat, in order
abbrev pub part : {A : Type 0} → ℕ → List (Deed A) → List (Deed A)
part j [] = []
part j (d ∷ ds) = cond (d.seat == j) (d ∷ part j ds) (part j ds)

-- what the state is after these events, one after another
abbrev pub state_after : {S E : Type 0} → (S → E → S) → S → List E → S
state_after next s [] = s
state_after next s (e ∷ es) = state_after next (next s e) es

-- each event is so in the state that those before it leave
abbrev pub AreSo : {S E : Type 0} → (S → E → S) → (S → E → Type 0) → S → List E → Type 0
AreSo next IsSo s [] = Unit {0}
AreSo next IsSo s (e ∷ es) = IsSo s e × AreSo next IsSo (next s e) es

-- what the view with this number says was done; nothing where there is no such view
abbrev pub did_at : {A V : Type 0} → (V → List (Deed A)) → List V → ℕ → List (Deed A)
did_at did [] i = []
did_at did (v ∷ vs) zero = did v
did_at did (v ∷ vs) (suc i) = did_at did vs i

-- no seat with this number was joined away; there may be none
abbrev pub IsHere : {V : Type 0} → (V → Standing) → List V → ℕ → Type 0
IsHere {V} standing views i = (v : V) → get_elem? views i ≡ some v → (standing v).gone ≡ false

-- The deeds that the views tell stand in one line, each seat's in the order in which it did them. A
-- seat that was joined away left its deeds with the seat into which it was joined.
pub record AreInLine {A V : Type 0} (standing : V → Standing) (did : V → List (Deed A)) (views : List V) (line : List (Deed A)) : Type 0 where
  -- the seat whose view tells a seat's deeds
  pub holder : ℕ → ℕ
  -- that view tells all of them, in their order, and no other tells any
  pub parts : (j i : ℕ) → part j (did_at did views i) ≡ cond (i == holder j) (part j line) []
  -- a seat that was not joined away tells its own
  pub own : (i : ℕ) → IsHere standing views i → holder i ≡ i
