-- SPDX-License-Identifier: GPL-2.0-only
-- The definitions at known values.
use Rattle.shr_model.proofs.Common.{◌≡◌, ℕ, Bool, true, false, List, [], ◌∷◌, codes, refl, ◌==◌, if◌then◌else◌, Object, Plain, Clock, Halt, Place, Serial, Entry, Add, Look, Drop, Pin, MovedIn, Closed, place_number, unit_of, path_of, depth_of, preorder_of, fresh, marked_object, pinned_object, scan_of, Family, items_of, items_at, added_in, freed_in, listed_in, bit_of}
use Rattle.shr_base.specs.declared.journals.DropKind.TheVariants as kind
use Rattle.shr_model.specs.Groups.{path_within, preorder_within}
use Rattle.shr_model.specs.Scan.{scan_from}
use Rattle.shr_model.specs.Items.{items_from, freed_from}
use Rattle.shr_model.specs.Families.{items_within, lists_moved}

-- id 64 is bit 0 of unit 1
unit_of_64 : unit_of 64 ≡ 1
unit_of_64 = refl

bit_of_64 : bit_of 64 ≡ 0
bit_of_64 = refl

-- the last place of the largest tables
last_place : place_number (record { id = 255; node = 3; group = 255 }) ≡ 262143
last_place = refl

-- the root, a child and its child
abbrev line_of_three : List ℕ
line_of_three = 0 ∷ 0 ∷ 1 ∷ []

path_of_grandchild : path_of line_of_three 2 ≡ 2 ∷ 1 ∷ 0 ∷ []
unfolding path_within
path_of_grandchild = refl

depth_of_grandchild : depth_of line_of_three 2 ≡ 3
unfolding path_within
depth_of_grandchild = refl

preorder_of_line : preorder_of line_of_three 0 ≡ 0 ∷ 1 ∷ 2 ∷ []
unfolding preorder_within
preorder_of_line = refl

-- group 3 is a child of group 1, beside group 2
preorder_of_fork : preorder_of (0 ∷ 0 ∷ 0 ∷ 1 ∷ []) 0 ≡ 0 ∷ 1 ∷ 3 ∷ 2 ∷ []
unfolding preorder_within
preorder_of_fork = refl

abbrev serial : ℕ → Serial
serial command = record { worker = 0; command = command }

abbrev object : ℕ → Object
object command = fresh (serial command) 1 (107 ∷ command ∷ []) []

abbrev a : Object
a = object 0

abbrev b : Object
b = object 1

abbrev c : Object
c = object 2

-- a clock meets two marked objects twice each: both are rotated and then freed
clock_over_two : scan_of Clock 4 (marked_object a ∷ marked_object b ∷ []) ≡ record { items = []; freed = a ∷ b ∷ []; visits = 4; stopped = false }
unfolding scan_from
clock_over_two = refl

-- a marked object that is the last is rotated, and the scan ends
clock_over_one : scan_of Clock 4 (marked_object a ∷ []) ≡ record { items = a ∷ []; freed = []; visits = 1; stopped = false }
unfolding scan_from
clock_over_one = refl

-- a rotated object goes to the tail and loses its mark
clock_with_one_visit : scan_of Clock 1 (marked_object a ∷ marked_object b ∷ []) ≡ record { items = marked_object b ∷ a ∷ []; freed = []; visits = 1; stopped = false }
unfolding scan_from
clock_with_one_visit = refl

-- a clock skips a pinned object
clock_over_pinned : scan_of Clock 3 (pinned_object true a ∷ b ∷ []) ≡ record { items = pinned_object true a ∷ []; freed = b ∷ []; visits = 2; stopped = false }
unfolding scan_from
clock_over_pinned = refl

-- a halt frees one object and stops at the pinned one
halt_at_pinned : scan_of Halt 3 (a ∷ pinned_object true b ∷ c ∷ []) ≡ record { items = pinned_object true b ∷ c ∷ []; freed = a ∷ []; visits = 2; stopped = true }
unfolding scan_from
halt_at_pinned = refl

-- a scan without a budget changes nothing
halt_without_budget : scan_of Halt 0 (a ∷ pinned_object true b ∷ c ∷ []) ≡ record { items = a ∷ pinned_object true b ∷ c ∷ []; freed = []; visits = 0; stopped = false }
unfolding scan_from
halt_without_budget = refl

-- a plain cache frees a pinned object
plain_over_pinned : scan_of Plain 2 (pinned_object true a ∷ []) ≡ record { items = []; freed = pinned_object true a ∷ []; visits = 1; stopped = false }
unfolding scan_from
plain_over_pinned = refl

abbrev added : ℕ → Bool → Entry
added command was = Add (serial command) 1 was (codes "k1") (codes "v1")

abbrev kept : Object
kept = fresh (serial 0) 1 (codes "k1") (codes "v1")

items_of_none : items_from [] [] [] ≡ []
unfolding items_from
items_of_none = refl

items_of_one_add : items_from [] [] (added 0 true ∷ []) ≡ kept ∷ []
unfolding items_from
items_of_one_add = refl

items_of_add_twice : items_from [] [] (added 0 true ∷ added 1 false ∷ []) ≡ kept ∷ []
unfolding items_from
items_of_add_twice = refl

-- two lists that move in stand before the items, the later one first
items_of_two_moves : items_from ((a ∷ []) ∷ (b ∷ []) ∷ []) (c ∷ []) (MovedIn 1 1 ∷ MovedIn 2 1 ∷ []) ≡ b ∷ a ∷ c ∷ []
unfolding items_from
items_of_two_moves = refl

-- put, get, pin, a del that finds it pinned, and a get that misses
abbrev five_commands : List Entry
five_commands = added 0 true ∷ Look (serial 1) 1 (codes "k1") true ∷ Pin (serial 2) 1 (codes "k1") true true ∷ Drop (serial 3) 1 (codes "k1") kind.Pinned ∷ Look (serial 4) 1 (codes "k2") false ∷ []

items_of_five_commands : items_from [] [] five_commands ≡ pinned_object true (marked_object kept) ∷ []
unfolding items_from
items_of_five_commands = refl

freed_by_a_drop : freed_from [] [] (added 0 true ∷ Drop (serial 1) 1 (codes "k1") kind.Dropped ∷ []) ≡ kept ∷ []
unfolding freed_from
freed_by_a_drop = refl

-- a child with the objects x and y was moved into its parent, which had p
abbrev parent_journal : List Entry
parent_journal = Add (serial 0) 1 true (codes "p") [] ∷ MovedIn 2 2 ∷ []

abbrev child_journal : List Entry
child_journal = Add (serial 1) 2 true (codes "x") [] ∷ Add (serial 2) 2 true (codes "y") [] ∷ Closed ∷ []

abbrev place_of : ℕ → Place
place_of group = record { id = 0; node = 0; group = group }

abbrev parent_and_child : Family
parent_and_child place = if place.group == 1 then parent_journal else (if place.group == 2 then child_journal else [])

abbrev moved_objects : List Object
moved_objects = fresh (serial 1) 2 (codes "x") [] ∷ fresh (serial 2) 2 (codes "y") [] ∷ fresh (serial 0) 1 (codes "p") [] ∷ []

items_of_parent : items_of line_of_three parent_and_child (place_of 1) ≡ moved_objects
unfolding items_from lists_moved items_within
items_of_parent = refl

items_of_child : items_of line_of_three parent_and_child (place_of 2) ≡ []
unfolding items_from lists_moved items_within
items_of_child = refl

items_of_parent_before : items_at line_of_three parent_and_child (place_of 1) 1 ≡ fresh (serial 0) 1 (codes "p") [] ∷ []
unfolding items_from lists_moved items_within
items_of_parent_before = refl

added_there : added_in (place_of 1 ∷ place_of 2 ∷ []) parent_and_child ≡ serial 0 ∷ serial 1 ∷ serial 2 ∷ []
added_there = refl

freed_there : freed_in (place_of 1 ∷ place_of 2 ∷ []) line_of_three parent_and_child ≡ []
unfolding items_from freed_from lists_moved items_within
freed_there = refl

listed_there : listed_in (place_of 1 ∷ place_of 2 ∷ []) line_of_three parent_and_child ≡ serial 1 ∷ serial 2 ∷ serial 0 ∷ []
unfolding items_from lists_moved items_within
listed_there = refl
