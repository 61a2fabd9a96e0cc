-- SPDX-License-Identifier: GPL-2.0-only
-- Charges: the history of each group, what each command charged in it, and what is left.
use Rattle.std.specs.Prelude.{◌≡◌, ℕ, pos, ◌-ℤ◌, ◌<◌, ◌≤◌, Bool, true, false, cond, List, length, map, sum_by, slice_get, Option, Some, None, IfSome}
use Rattle.shr_base.specs.declared.places.Serial.{Serial}
use Rattle.shr_base.specs.declared.journals.UseStep.{UseStep}
use Rattle.shr_base.specs.declared.replies.Reply.{Reply}
use Rattle.shr_base.specs.declared.replies.Reply.TheVariants.{Added}
use Rattle.shr_base.specs.declared.scripts.Command.{Command}
use Rattle.shr_base.specs.declared.scripts.Command.TheVariants.{Put}
use Rattle.shr_base.specs.declared.scripts.Script.{Script}
use Rattle.std.specs.List.{AllByRecursion}
use Rattle.std.specs.Option.{IsSomeAnd}
use Rattle.shr_model.specs.Charges.{ups, usage_after, ops_by, IsChargeHistory, AreTakenBack}
use Rattle.shr_model.specs.Commands.{is_serial, is_put}
use Rattle.shr_model.specs.Freeings.{Freeing, freeings_at, is_at_or_above, born_below}
use Rattle.shr_model.specs.TreeJournal.{IsTreeJournal}
use Rattle.shr_laws.specs.declared.report.Report.{Report}
use Rattle.shr_laws.specs.Parts.{parents_of, script_hierarchy, limit_of, command_at, reply_at, uses_at, journals_of, places_of, entry_by, items_left}

-- the first operation of two is followed by a down before the second, where both are ups
abbrev pub IsDownBetween : List Bool → Type 0
IsDownBetween ways = (n m : ℕ) → n < m → slice_get ways n ≡ Some true → slice_get ways m ≡ Some true → (k : ℕ) × (n < k) × (k < m) × (slice_get ways k ≡ Some false)

-- which ways the operations of a command in a group went, in order
abbrev pub ways_of : Report → Serial → ℕ → List Bool
ways_of r by group = map (λ (o : UseStep). o.up) (ops_by by (uses_at r group))

-- what a command charged to a group: one object where it is a put answered Added whose group is at
-- or below it
abbrev pub charged : List ℕ → ℕ → Option Command → Option Reply → ℕ
charged parents group (Some (Put at key value)) (Some (Added c)) = cond (is_at_or_above parents group at.group) 1 0
charged parents group c x = 0

-- the command of an entry is this one
abbrev pub is_of : Serial → Option Serial → Bool
is_of by None = false
is_of by (Some x) = is_serial by x

-- how many of the objects that an entry freed were born at or below a group, where the entry is of
-- this command
abbrev pub freed_in_command : Report → List ℕ → Serial → ℕ → Freeing → ℕ
freed_in_command r parents by group f = cond (is_of by (entry_by r f.entry)) (born_below parents group f.objects) 0

-- how many objects born at or below a group the entries of a command freed
abbrev pub freed_below : Script → Report → Serial → ℕ → ℕ
freed_below s r by group = sum_by (λ place. sum_by (freed_in_command r (parents_of s) by group) (freeings_at (parents_of s) (journals_of r) place)) (places_of r)

-- how many of the listed objects were born at or below a group
abbrev pub listed_below : Script → Report → ℕ → ℕ
listed_below s r group = sum_by (λ place. born_below (parents_of s) group (items_left s r place)) (places_of r)

-- the charges are those of the commands, group by group, and leave what is listed
pub record AreChargesLawful (s : Script) (r : Report) : Type 0 where
  pub tree : IsTreeJournal (script_hierarchy s) r.tree.items
  -- each operation is of a group of the tree, and those of a group are its charge history
  pub there : AllByRecursion (λ (o : UseStep). o.group < length (parents_of s)) r.uses.items
  pub histories : (group : ℕ) → IsChargeHistory group (uses_at r group)
  pub taken_back : (group : ℕ) → AreTakenBack (limit_of s group) (uses_at r group)
  -- only a put has ups, at most 14 in a group, and between two of them stands a down
  pub puts : (n : ℕ) (o : UseStep) → slice_get r.uses.items n ≡ Some o → o.up ≡ true → IsSomeAnd (command_at s o.by) (λ c. is_put c ≡ true)
  pub fourteen : (by : Serial) (group : ℕ) → ups (ops_by by (uses_at r group)) ≤ 14
  pub between : (by : Serial) (group : ℕ) → IsDownBetween (ways_of r by group)
  -- a command's ups less its downs are what it charged less what it freed
  pub nets : (by : Serial) (group : ℕ) → group < length (parents_of s)
      → usage_after (ops_by by (uses_at r group)) ≡ pos (charged (parents_of s) group (command_at s by) (reply_at r by)) -ℤ pos (freed_below s r by group)
  -- so the final usage is the number of the objects that are listed, and isn't above the limit
  pub final : (group : ℕ) → group < length (parents_of s) → usage_after (uses_at r group) ≡ pos (listed_below s r group)
  pub limits : (group : ℕ) → IfSome (limit_of s group) (λ limit. listed_below s r group ≤ limit)
