-- SPDX-License-Identifier: GPL-2.0-only
-- The charges of a command.
use Rattle.std.specs.Prelude.{◌≡◌, ℕ, pos, ◌-ℤ◌, ◌<◌, ◌≤◌, true, ◌==◌, cond, List, length, map, filter, sum_by, Some, All}
use Rattle.shr_base.specs.declared.journals.Entry.{Entry}
use Rattle.shr_base.specs.declared.journals.Entry.TheVariants.{Add}
use Rattle.shr_base.specs.declared.journals.UseStep.{UseStep}
use Rattle.shr_base.specs.declared.scripts.Script.{Script}
use Rattle.shr_model.specs.Charges.{ups, downs, usage_after, AreTakenBack}
use Rattle.shr_model.specs.Freeings.{is_at_or_above, born_below}
use Rattle.shr_model.specs.Items.{freed_by}
use Rattle.shr_core.specs.Parts.{Made}
use Rattle.shr_laws.specs.Parts.{parents_of, limit_of}
use Rattle.shr_laws.specs.Charges.{IsDownBetween, charged}
use Rattle.shr_lawful.specs.Steps.{Step, IsPut}

-- the operations of a group
abbrev pub ops_at : ℕ → List UseStep → List UseStep
ops_at group ops = filter (λ (o : UseStep). o.group == group) ops

-- how many objects born at or below a group an entry added
abbrev pub added_below : List ℕ → ℕ → Entry → ℕ
added_below parents group (Add by birth added key value) = cond added (cond (is_at_or_above parents group birth) 1 0) 0
added_below parents group e = 0

-- how many an entry freed that was made
abbrev pub made_freed_below : List ℕ → ℕ → Made → ℕ
made_freed_below parents group m = born_below parents group (freed_by m.items m.entry)

-- what a command charged and uncharged
pub record DidCharges (s : Script) (x : Step) : Type 0 where
  -- each operation is of the command, and of a group of the tree
  pub own : All (λ (o : UseStep). o.by ≡ x.by) x.work.ops
  pub there : All (λ (o : UseStep). o.group < length (parents_of s)) x.work.ops
  pub taken_back : (group : ℕ) → AreTakenBack (limit_of s group) (ops_at group x.work.ops)
  pub puts : All (λ (o : UseStep). o.up ≡ true → IsPut x.command) x.work.ops
  pub fourteen : (group : ℕ) → ups (ops_at group x.work.ops) ≤ 14
  pub between : (group : ℕ) → IsDownBetween (map (λ (o : UseStep). o.up) (ops_at group x.work.ops))
  -- ups less downs are the objects that were added less those that were freed
  pub nets : (group : ℕ) → group < length (parents_of s)
      → usage_after (ops_at group x.work.ops) ≡ pos (charged (parents_of s) group x.command (Some x.answered.reply)) -ℤ pos (sum_by (made_freed_below (parents_of s) group) x.work.core.made)
  -- the entries that added an object are that of a `put` answered Added
  pub added : (group : ℕ) → sum_by (λ (m : Made). added_below (parents_of s) group m.entry) x.work.core.made ≡ charged (parents_of s) group x.command (Some x.answered.reply)
  -- each call made an operation at least
  pub charges : x.work.charges ≤ ups x.work.ops
  pub uncharges : x.work.uncharges ≤ downs x.work.ops
