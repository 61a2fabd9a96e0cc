-- SPDX-License-Identifier: GPL-2.0-only
-- What each command did in each group.
use Rattle.std.specs.Prelude.{◌≡◌, ℕ, ◌+◌, ◌*◌, ◌<◌, ◌≤◌, ◌^◌, true, false, cond, List, [], ◌∷◌, map, slice_get, Option, Some, None, option_and_then}
use Rattle.shr_base.specs.declared.places.Serial.{Serial}
use Rattle.shr_base.specs.declared.journals.UseStep.{UseStep}
use Rattle.shr_model.specs.Charges.{ups, ops_by, is_refused, AreTakenBack}
use Rattle.shr_laws.specs.Charges.{IsDownBetween}
use Rattle.shr_audit_charges.specs.declared.own.Own.{Own}
use Rattle.shr_audit_charges.specs.History.{group_uses}

-- the limit of a group, if it has one
abbrev pub limit_in : List (Option ℕ) → ℕ → Option ℕ
limit_in limits group = option_and_then (λ limit. limit) (slice_get limits group)

-- Each operation that goes up and didn't find the usage below its limit was taken back, a command has
-- at most 14 in a group that go up, and between two of them stands one that goes down.
pub record AreOwnRight (limits : List (Option ℕ)) (uses : List UseStep) : Type 0 where
  pub taken_back : (group : ℕ) → AreTakenBack (limit_in limits group) (group_uses uses group)
  pub fourteen : (by : Serial) (group : ℕ) → ups (ops_by by (group_uses uses group)) ≤ 14
  pub between : (by : Serial) (group : ℕ) → IsDownBetween (map (λ (o : UseStep). o.up) (ops_by by (group_uses uses group)))

-- a command in a group by one number
abbrev pub own_key : ℕ → ℕ → ℕ → ℕ
own_key group worker command = 281474976710656 * group + 4294967296 * worker + command

-- the numbers have the ranges of their types
pub record IsKeyed (g w n : ℕ) : Type 0 where
  pub group : g < 2 ^ 16
  pub worker : w < 2 ^ 16
  pub command : n < 2 ^ 32

-- how many of these go up
abbrev pub few_ups : Option Own → ℕ
few_ups None = 0
few_ups (Some x) = x.ups

-- the operations of a command in a group with one before them
abbrev pub own_with : UseStep → Option Own → Own
own_with o next = record { up = o.up; ups = few_ups next + cond o.up 1 0 }

-- an operation may stand before the others of its command in its group: one that goes up stands before
-- one that goes down, and before none only if it isn't refused
abbrev pub MayStandBefore : Option ℕ → UseStep → Option Own → Type 0
MayStandBefore limit o None = is_refused limit o ≡ false
MayStandBefore limit o (Some x) = o.up ≡ true → (x.up ≡ false) × (x.ups < 14)

-- the operations of a command in a group, by the first of them and how many go up
abbrev pub own_in_group : List UseStep → Option Own
own_in_group [] = None
own_in_group (o ∷ os) = Some (record { up = o.up; ups = ups (o ∷ os) })
