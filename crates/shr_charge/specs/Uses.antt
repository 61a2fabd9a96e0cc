-- SPDX-License-Identifier: GPL-2.0-only
-- The usage words, by the operations of all views.
use Rattle.std.specs.Prelude.{◌≡◌, ℕ, pos, ◌-ℤ◌, ◌+◌, ◌*◌, ◌/◌, ◌%◌, ◌^◌, ◌<◌, ◌≤◌, Bool, not, ◌&&◌, ◌==◌, nat_lt, cond, List, [], ◌∷◌, ◌++◌, length, slice_get, sum_by, count_by, Some, All}
use Rattle.shr_base.specs.declared.journals.UseStep.{UseStep}
use Rattle.shr_base.specs.declared.places.Serial.{Serial}
use Rattle.shr_model.specs.Charges.{ups, downs, IsChargeHistory}
use Rattle.shr_seats.specs.Views.{Each}
use Rattle.shr_charge.specs.Views.{Uses}

-- the usage word of a history: its ups in the high half, its downs in the low one
abbrev pub usage_word : List UseStep → ℕ
usage_word history = 2 ^ 32 * ups history + downs history

-- the operation that finds a usage word
abbrev pub op_of : ℕ → Serial → Bool → ℕ → UseStep
op_of group by up word = record { group = group; operation = word / 2 ^ 32 + word % 2 ^ 32; up = up; found = pos (word / 2 ^ 32) -ℤ pos (word % 2 ^ 32); by = by }

-- how many of these operations are ups of the group
abbrev pub ups_at : ℕ → List UseStep → ℕ
ups_at g ops = count_by (λ (o : UseStep). (o.group == g) && o.up) ops

-- how many of these operations are downs of the group
abbrev pub downs_at : ℕ → List UseStep → ℕ
downs_at g ops = count_by (λ (o : UseStep). (o.group == g) && not o.up) ops

-- how many of these operations are of the group and have this number
abbrev pub times_at : ℕ → ℕ → List UseStep → ℕ
times_at g n ops = count_by (λ (o : UseStep). (o.group == g) && (o.operation == n)) ops

-- a history of each group
abbrev pub UseHistories : Type 0
UseHistories = ℕ → List UseStep

-- the histories with one operation more
abbrev pub grown : UseHistories → UseStep → UseHistories
grown history o k = cond (o.group == k) (history k ++ o ∷ []) (history k)

-- an operation stands at its number in the history of its group
abbrev pub StandsInHistory : UseHistories → UseStep → Type 0
StandsInHistory history o = slice_get (history o.group) o.operation ≡ Some o

-- each operation of each group is made in one view, the usage words count them, and nothing else is
-- made
pub record AreUsed (groups : ℕ) (usage : ℕ → ℕ) (history : UseHistories) (uses : List Uses) : Type 0 where
  pub legal : (g : ℕ) → IsChargeHistory g (history g)
  pub words : (g : ℕ) → g < groups → usage g ≡ usage_word (history g)
  pub up : (g : ℕ) → sum_by (λ u. ups_at g u.ops) uses ≡ ups (history g)
  pub down : (g : ℕ) → sum_by (λ u. downs_at g u.ops) uses ≡ downs (history g)
  pub once : (g n : ℕ) → sum_by (λ u. times_at g n u.ops) uses ≡ cond (nat_lt n (length (history g))) 1 0
  pub there : Each (λ u. All (StandsInHistory history) u.ops) uses

-- A call of charge makes at most one up and one down in a group, one of uncharge one down. Each
-- seat makes fewer calls than would let a half of a usage word wrap.
pub record IsPaced (u : Uses) : Type 0 where
  pub up : (g : ℕ) → ups_at g u.ops ≤ u.charges
  pub down : (g : ℕ) → downs_at g u.ops ≤ u.charges + u.uncharges
  pub charges : u.charges ≤ 2 ^ 21 * u.seats
  pub uncharges : u.uncharges ≤ 2 ^ 25 * u.seats
