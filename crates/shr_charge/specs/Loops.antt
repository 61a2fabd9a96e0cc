-- SPDX-License-Identifier: GPL-2.0-only
-- What the loops that go up a path know. No public clause cites this.
use Rattle.std.specs.Prelude.{◌≡◌, ℕ, ◌+◌, ◌≤◌, Bool, ◌&&◌, nat_lt, List, [], ◌∷◌, ◌++◌, map, Option, Some, None, All, pos, ◌<ℤ◌, ◌^◌}
use Rattle.shr_base.specs.Kept.{Kept}
use Rattle.shr_base.specs.declared.journals.UseStep.{UseStep}
use Rattle.shr_base.specs.declared.places.Serial.{Serial}
use Rattle.shr_model.specs.Groups.{path_of}
use Rattle.shr_seats.specs.declared.shape.Shape.{Shape}
use Rattle.shr_charge.specs.Uses.{IsPaced, ups_at, downs_at}
use Rattle.shr_charge.specs.Paths.{path_to}
use Rattle.shr_charge.specs.Seat.{ChargeSeated, uses_of}
use Rattle.shr_charge.specs.Charging.{call_count, use_group, IsUp, IsDown, IsOverLimit, AreUps, AreDowns, IsNoted, calls_with}

-- the levels below this one on the path of the group were charged
pub record IsClimbing (k : Shape) (by : Serial) (group level : ℕ) (old new : ChargeSeated) (uses uses' : Kept UseStep) : Type 0 where
  pub ops : List UseStep
  pub noted : IsNoted old new uses uses' (calls_with ops (call_count (nat_lt level group)) 0)
  pub each : All (IsUp k by) ops
  pub path : (last : ℕ) → last ≤ level → map use_group ops ++ path_to k.parents.items level last ≡ path_to k.parents.items group last
  pub pace : (j : ℕ) → j ≤ level → ups_at j (uses_of new).ops ≤ (uses_of old).charges
  pub inside : level ≤ group

-- a charge that stopped at the operation `over`
pub record IsChargeStopped (k : Shape) (by : Serial) (group : ℕ) (over : UseStep) (ops : List UseStep) : Type 0 where
  pub ups : List UseStep
  pub whole : ops ≡ ups ++ over ∷ []
  pub below : All (IsUp k by) ups
  pub levels : map use_group ups ++ over.group ∷ [] ≡ path_to k.parents.items group over.group
  pub refused : IsOverLimit k by over
  pub small : over.found <ℤ pos (2 ^ 32)

-- the operations of a climb: an up at each level, or ups to the level that refused
abbrev pub ClimbOps : Shape → Serial → ℕ → Option UseStep → List UseStep → Type 0
ClimbOps k by group None ops = AreUps k by (path_of k.parents.items group) ops
ClimbOps k by group (Some over) ops = IsChargeStopped k by group over ops

-- a climb of a paced seat took every level, or stopped at the operation that it answers
pub record Climbs (k : Shape) (by : Serial) (group : ℕ) (answer : Option UseStep) (old new : ChargeSeated) (uses uses' : Kept UseStep) : Type 0 where
  pub ops : List UseStep
  pub noted : IsNoted old new uses uses' (calls_with ops 1 0)
  pub made : ClimbOps k by group answer ops
  pub paced : IsPaced (uses_of old)

-- the levels below this one on the path of the group were taken back
pub record IsLowering (parents : List ℕ) (by : Serial) (group last level : ℕ) (count : Bool) (old new : ChargeSeated) (uses uses' : Kept UseStep) : Type 0 where
  pub ops : List UseStep
  pub noted : IsNoted old new uses uses' (calls_with ops 0 (call_count (count && nat_lt level group)))
  pub each : All (IsDown by) ops
  pub path : map use_group ops ++ path_to parents level last ≡ path_to parents group last
  pub pace : (j : ℕ) → j ≤ level → downs_at j (uses_of new).ops + 1 ≤ (uses_of old).charges + ((uses_of old).uncharges + call_count count)
  pub inside : level ≤ group

-- each level of the path up to `last` was taken back
pub record Lowers (parents : List ℕ) (by : Serial) (group last : ℕ) (count : Bool) (old new : ChargeSeated) (uses uses' : Kept UseStep) : Type 0 where
  pub ops : List UseStep
  pub noted : IsNoted old new uses uses' (calls_with ops 0 (call_count count))
  pub made : AreDowns by (path_to parents group last) ops
