-- SPDX-License-Identifier: GPL-2.0-only
-- The groups of which something was shown, each with the least command that showed it. No public clause cites this.
use Rattle.std.specs.Prelude.{◌≡◌, ℕ, ◌≤◌, Bool, false, ◌||◌, ◌==◌, nat_eq, nat_lt, cond, List, Option, Some, None}
use Rattle.std.specs.declared.hash.FoldHasher.{FoldHasher}
use Rattle.std.specs.declared.hash.BuildHasherDefault.{BuildHasherDefault}
use Rattle.std.specs.HashMap.{get, HashMap}
use Rattle.std.specs.List.{list_any}
use Rattle.shr_laws.specs.declared.report.Report.{Report}
use Rattle.shr_laws.specs.Freshness.{is_begin_at, is_done_at}

-- a table of commands by groups
abbrev pub FirstCommands : Type 0
FirstCommands = HashMap ℕ ℕ (BuildHasherDefault FoldHasher)

-- no group has one
abbrev pub HasNoFirsts : FirstCommands → Type 0
HasNoFirsts firsts = (group : ℕ) → get nat_eq firsts group ≡ None

-- the group is this one, if there is one
abbrev pub is_group : ℕ → Option ℕ → Bool
is_group group None = false
is_group group (Some g) = g == group

-- the lower of two commands, if there are two
abbrev pub first_with : Option ℕ → ℕ → ℕ
first_with None command = command
first_with (Some first) command = cond (nat_lt first command) first command

-- one more was noted, if it shows something of a group
abbrev pub NotesFirst : Option ℕ → ℕ → FirstCommands → FirstCommands → Type 0
NotesFirst group command old new = (g : ℕ) → get nat_eq new g ≡ cond (is_group g group) (Some (first_with (get nat_eq old g) command)) (get nat_eq old g)

-- the least of which it is so
abbrev pub IsLeast : (ℕ → Type 0) → Option ℕ → Type 0
IsLeast P None = (k : ℕ) → P k → ⊥
IsLeast P (Some first) = P first × ((k : ℕ) → P k → first ≤ k)

-- these are the least of each group
abbrev pub AreLeastOfGroups : (ℕ → ℕ → Type 0) → FirstCommands → Type 0
AreLeastOfGroups P firsts = (group : ℕ) → IsLeast (P group) (get nat_eq firsts group)

-- an entry with one of these numbers is a Begin or a Done of a group
abbrev pub shows_in : Report → ℕ → List ℕ → Bool
shows_in r group ns = list_any (λ n. is_begin_at r group n || is_done_at r group n) ns
