-- SPDX-License-Identifier: GPL-2.0-only
-- A part without walks of the pools or isolations, and a report without pools.
use Rattle.shr_laws.proofs.Common.{◌≡◌, ℕ, List, [], length, sym, subst, arith, AllByRecursion, AllAdjacentBelow, Serial, AreOfCommands}

-- none stands in the order of any commands
pub none_of_commands : {X : Type 0} (serial : X → Serial) (worker answers : ℕ) (xs : List X) → xs ≡ [] → AreOfCommands X serial worker answers xs
none_of_commands serial worker answers xs none = subst (AreOfCommands _ serial worker answers) (sym none) (record { by = tt; order = λ k d lt. absurd (omega (arith, lt)) })

-- what holds of each of none
pub none_each : {X : Type 0} (P : X → Type 0) (xs : List X) → xs ≡ [] → AllByRecursion P xs
none_each P xs none = subst (AllByRecursion P) (sym none) tt

-- none stands beside another
pub none_beside : {X : Type 0} (R : X → X → Type 0) (xs : List X) → xs ≡ [] → AllAdjacentBelow R xs (length xs)
none_beside R xs none = subst (λ ys. AllAdjacentBelow R ys (length ys)) (sym none) (λ k d lt. absurd (omega (arith, lt)))
