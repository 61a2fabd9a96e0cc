-- SPDX-License-Identifier: GPL-2.0-only
-- The objects of a list, by birth group and key.
use Rattle.std.specs.Prelude.{ℕ, Bool, true, false, ◌&&◌, ◌==◌, if◌then◌else◌, List, [], ◌∷◌, bytes_eq, find, Option}
use Rattle.std.specs.List.{list_any}
use Rattle.shr_base.specs.declared.objects.Object.{Object}
use Rattle.shr_base.specs.declared.places.Serial.{Serial}

-- an object has this birth group and key
abbrev pub is_named : ℕ → List ℕ → Object → Bool
is_named birth key object = (object.birth == birth) && bytes_eq object.key key

-- an item has this birth group and key
abbrev pub holds : ℕ → List ℕ → List Object → Bool
holds birth key items = list_any (is_named birth key) items

-- the first item from the head with this birth group and key
abbrev pub named_in : ℕ → List ℕ → List Object → Option Object
named_in birth key items = find (is_named birth key) items

-- an object as it is added: unmarked and unpinned
abbrev pub fresh : Serial → ℕ → List ℕ → List ℕ → Object
fresh by birth key value = record { serial = by; birth = birth; key = key; value = value; marked = false; pinned = false }

-- the object after a look that hit it
abbrev pub marked_object : Object → Object
marked_object object = record object { marked = true }

-- the object after a scan rotated it
abbrev pub unmarked_object : Object → Object
unmarked_object object = record object { marked = false }

-- the object with this pin
abbrev pub pinned_object : Bool → Object → Object
pinned_object pinned object = record object { pinned = pinned }

-- the first item that passes the test is changed
abbrev pub change_first : (Object → Bool) → (Object → Object) → List Object → List Object
change_first test change [] = []
change_first test change (x ∷ xs) = if test x then change x ∷ xs else x ∷ change_first test change xs

-- the first item that passes the test is taken out
abbrev pub without_first : (Object → Bool) → List Object → List Object
without_first test [] = []
without_first test (x ∷ xs) = if test x then xs else x ∷ without_first test xs
