-- SPDX-License-Identifier: GPL-2.0-only
-- The operations of each group, and what they come to.
use Rattle.std.specs.Prelude.{◌≡◌, ℕ, ℤ, pos, ◌+◌, ◌-ℤ◌, ◌<◌, Bool, cond, ◌==◌, List, length, filter, slice_get, slice_set, Option, Some, None}
use Rattle.std.specs.List.{AllByRecursion}
use Rattle.shr_base.specs.declared.journals.UseStep.{UseStep}
use Rattle.shr_model.specs.Charges.{ups, downs, IsChargeHistory}
use Rattle.shr_audit_charges.specs.declared.history.Usage.{Usage}

-- the operations of a group among these
abbrev pub group_uses : List UseStep → ℕ → List UseStep
group_uses uses group = filter (λ (o : UseStep). o.group == group) uses

-- each of these is of one of so many groups, and those of each group are its charge history
pub record AreCharged (groups : ℕ) (uses : List UseStep) : Type 0 where
  pub there : AllByRecursion (λ (o : UseStep). o.group < groups) uses
  pub histories : (group : ℕ) → IsChargeHistory group (group_uses uses group)

-- what operations come to
abbrev pub usage_of : List UseStep → Usage
usage_of ops = record { ups = ups ops; downs = downs ops }

-- what those of so many groups come to
pub record AreUsagesOf (groups : ℕ) (uses : List UseStep) (usages : List Usage) : Type 0 where
  pub count : length usages ≡ groups
  pub each : (group : ℕ) (x : Usage) → slice_get usages group ≡ Some x → x ≡ usage_of (group_uses uses group)

-- so many groups without operations
pub record AreNone (groups : ℕ) (usages : List Usage) : Type 0 where
  pub count : length usages ≡ groups
  pub none : (group : ℕ) (x : Usage) → slice_get usages group ≡ Some x → x ≡ record { ups = 0; downs = 0 }

-- an operation found what these leave
abbrev pub FoundSo : ℤ → Usage → Type 0
FoundSo found x = found ≡ pos x.ups -ℤ pos x.downs

-- an operation is the next of its group, which is one of these
abbrev pub IsNextOfGroup : List Usage → UseStep → Type 0
IsNextOfGroup usages o = (x : Usage) × ((slice_get usages o.group ≡ Some x) × ((o.operation ≡ x.ups + x.downs) × FoundSo o.found x))

-- what one operation more comes to
abbrev pub usage_with : Usage → Bool → Usage
usage_with x up = record { ups = x.ups + cond up 1 0; downs = x.downs + cond up 0 1 }

-- what the operations of each group come to with one of this group more, if it is one of these
abbrev pub put_usage : List Usage → UseStep → Option Usage → List Usage
put_usage usages o None = usages
put_usage usages o (Some x) = slice_set usages o.group (usage_with x o.up)

-- the same after one operation more
abbrev pub with_use : List Usage → UseStep → List Usage
with_use usages o = put_usage usages o (slice_get usages o.group)
