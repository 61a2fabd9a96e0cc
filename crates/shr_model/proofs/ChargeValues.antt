-- SPDX-License-Identifier: GPL-2.0-only
-- The histories of groups and the journal of offlining at known values.
use Rattle.shr_model.proofs.Common.{lit<, ◌≡◌, ℕ, ℤ, pos, Bool, true, false, List, [], ◌∷◌, take, drop, Some, refl, UseStep, Serial, TreeEntry, Begin, Done, IsNextUse, IsDownNext, Hierarchy, usage_after}
use Rattle.shr_model.specs.TreeJournal.{begin_of, done_of, undone_child, MayBegin, MayBeDone}

abbrev first_command : Serial
first_command = record { worker = 0; command = 0 }

abbrev second_command : Serial
second_command = record { worker = 0; command = 1 }

abbrev op : Bool → ℕ → ℤ → Serial → UseStep
op up number found by = record { group = 1; operation = number; up = up; found = found; by = by }

-- a charge, an uncharge and a charge found 0, 1 and 0
abbrev three : List UseStep
three = op true 0 (pos 0) first_command ∷ op false 1 (pos 1) second_command ∷ op true 2 (pos 0) second_command ∷ []

none_used : usage_after (take 0 three) ≡ pos 0
none_used = refl

one_used : usage_after (take 1 three) ≡ pos 1
one_used = refl

none_used_again : usage_after (take 2 three) ≡ pos 0
none_used_again = refl

third_is_next : IsNextUse 1 (take 2 three) (op true 2 (pos 0) second_command)
third_is_next = record { group = refl; number = refl; found = refl }

-- a refused charge was taken back where the command's next operation is a down, and not where
-- another's is
taken_back : IsDownNext second_command (drop 1 three)
taken_back = refl

not_taken_back : IsDownNext first_command (drop 1 three) → ⊥
not_taken_back h = h

-- the root, a child and its child, of which first the child's child and then the child goes offline
abbrev groups : Hierarchy
groups = record { parents = 0 ∷ 0 ∷ 1 ∷ []; later = false ∷ false ∷ false ∷ [] }

abbrev journal : List TreeEntry
journal = Begin 2 ∷ Done 2 ∷ Begin 1 ∷ Done 1 ∷ []

first_begin : begin_of journal 2 ≡ Some 0
first_begin = refl

last_done : done_of journal 1 ≡ Some 3
last_done = refl

child_may_begin : MayBegin groups (take 0 journal) 2
child_may_begin = record { below = lit< tt; there = lit< tt; made = refl; once = refl; children = refl }

child_may_be_done : MayBeDone (take 1 journal) 2
child_may_be_done = record { begun = refl; once = refl }

parent_may_begin : MayBegin groups (take 2 journal) 1
parent_may_begin = record { below = lit< tt; there = lit< tt; made = refl; once = refl; children = refl }

parent_may_be_done : MayBeDone (take 3 journal) 1
parent_may_be_done = record { begun = refl; once = refl }

-- the parent can't begin before the child is done
child_in_the_way : undone_child groups (take 1 journal) 1 ≡ Some 2
child_in_the_way = refl

-- and nothing begins or is done twice
begun_twice : begin_of (take 1 journal) 2 ≡ Some 0
begun_twice = refl
