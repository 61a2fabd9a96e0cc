-- SPDX-License-Identifier: GPL-2.0-only
-- What a charge and an uncharge do.
use Rattle.std.specs.Prelude.{◌≡◌, ◌<◌, ℕ, pos, ◌+◌, Bool, true, false, cond, List, [], ◌∷◌, ◌++◌, length, map, slice_index_or, Option, None, All, AllPairs}
use Rattle.shr_base.specs.Kept.{Kept}
use Rattle.shr_base.specs.declared.journals.UseStep.{UseStep}
use Rattle.shr_base.specs.declared.places.Serial.{Serial}
use Rattle.shr_model.specs.Groups.{path_of}
use Rattle.shr_model.specs.Charges.{IsBelow}
use Rattle.shr_seats.specs.declared.shape.Shape.{Shape}
use Rattle.shr_charge.specs.declared.answers.ChargeAnswer.{ChargeAnswer}
use Rattle.shr_charge.specs.declared.answers.ChargeAnswer.TheVariants.{Charged, Over}
use Rattle.shr_charge.specs.Views.{Uses, both_uses}
use Rattle.shr_charge.specs.Paths.{path_to}
use Rattle.shr_charge.specs.Seat.{ChargeSeated, uses_of, tree_of, standing_of}

-- 1 if an operation begins a call that counts, else 0
abbrev pub call_count : Bool → ℕ
call_count first = cond first 1 0

-- the limit of a group
abbrev pub shape_limit : Shape → ℕ → Option ℕ
shape_limit k g = slice_index_or k.limits.items g None

-- an operation has a higher number than x, where x is of the same group
abbrev pub IsLaterThan : UseStep → UseStep → Type 0
IsLaterThan o x = x.group ≡ o.group → x.operation < o.operation

-- among the operations that a seat made, in order, the numbers of each group rise
abbrev pub AreRising : List UseStep → Type 0
AreRising ops = AllPairs (λ x o. IsLaterThan o x) ops

-- the group of an operation
abbrev pub use_group : UseStep → ℕ
use_group o = o.group

-- an up of this command that found the usage below the limit
pub record IsUp (k : Shape) (by : Serial) (o : UseStep) : Type 0 where
  pub up : o.up ≡ true
  pub made : o.by ≡ by
  pub below : IsBelow (shape_limit k o.group) o

-- a down of this command
pub record IsDown (by : Serial) (o : UseStep) : Type 0 where
  pub down : o.up ≡ false
  pub made : o.by ≡ by

-- an up of this command that didn't find the usage below the limit
pub record IsOverLimit (k : Shape) (by : Serial) (o : UseStep) : Type 0 where
  pub up : o.up ≡ true
  pub made : o.by ≡ by
  pub above : IsBelow (shape_limit k o.group) o → ⊥

-- one up at each of these groups, in order
pub record AreUps (k : Shape) (by : Serial) (groups : List ℕ) (ops : List UseStep) : Type 0 where
  pub at : map use_group ops ≡ groups
  pub each : All (IsUp k by) ops

-- one down at each of these groups, in order
pub record AreDowns (by : Serial) (groups : List ℕ) (ops : List UseStep) : Type 0 where
  pub at : map use_group ops ≡ groups
  pub each : All (IsDown by) ops

-- A refused charge went up to the first level that had no room, and then was taken back on each
-- level.
pub record IsChargeRefused (k : Shape) (by : Serial) (group level number usage : ℕ) (ops : List UseStep) : Type 0 where
  pub ups : List UseStep
  pub over : UseStep
  pub downs : List UseStep
  pub whole : ops ≡ ups ++ over ∷ downs
  pub below : All (IsUp k by) ups
  pub levels : map use_group ups ++ over.group ∷ [] ≡ path_to k.parents.items group level
  pub refused : IsOverLimit k by over
  pub here : over.group ≡ level
  pub operation : over.operation ≡ number
  pub found : over.found ≡ pos usage
  pub taken_back : AreDowns by (path_to k.parents.items group level) downs

-- the operations of a charge, by its answer
abbrev pub ChargeOps : Shape → Serial → ℕ → ChargeAnswer → List UseStep → Type 0
ChargeOps k by group Charged ops = AreUps k by (path_of k.parents.items group) ops
ChargeOps k by group (Over level number usage) ops = IsChargeRefused k by group level number usage ops

-- the view gained these operations and calls, each operation was noted, and nothing else of the
-- seat changed
pub record IsNoted (old new : ChargeSeated) (uses uses' : Kept UseStep) (more : Uses) : Type 0 where
  pub table : new.charge ≡ old.charge
  pub gains : uses_of new ≡ both_uses (uses_of old) more
  pub tree : tree_of new ≡ tree_of old
  pub standing : standing_of new ≡ standing_of old
  pub noted : uses'.items ≡ uses.items ++ more.ops
  pub spare : uses'.spare + length more.ops ≡ uses.spare
  pub rise : AreRising (uses_of old).ops → AreRising (uses_of new).ops

-- a call that makes these operations
abbrev pub calls_with : List UseStep → ℕ → ℕ → Uses
calls_with ops c d = record { ops = ops; charges = c; uncharges = d; seats = 0 }

-- one charge was made
pub record Charges (k : Shape) (by : Serial) (group : ℕ) (answer : ChargeAnswer) (old new : ChargeSeated) (uses uses' : Kept UseStep) : Type 0 where
  pub ops : List UseStep
  pub noted : IsNoted old new uses uses' (calls_with ops 1 0)
  pub made : ChargeOps k by group answer ops

-- one uncharge was made
pub record UnchargesOne (k : Shape) (by : Serial) (group : ℕ) (old new : ChargeSeated) (uses uses' : Kept UseStep) : Type 0 where
  pub ops : List UseStep
  pub noted : IsNoted old new uses uses' (calls_with ops 0 1)
  pub made : AreDowns by (path_of k.parents.items group) ops
