-- SPDX-License-Identifier: GPL-2.0-only
-- What is made, moved, drawn and set, at known values.
use Rattle.shr_node.proofs.Common.{◌≡◌, ℕ, false, List, [], ◌∷◌, refl, Object, MovedIn, Closed, bits_for, Closing, made_by_closing, bits_by, moved_from_group, drawn}

abbrev object : ℕ → Object
object command = record { serial = record { worker = 0; command = command }; birth = 1; key = []; value = []; marked = false; pinned = false }

abbrev closing : ℕ → List Object → Closing
closing child items = record { child = child; number = 5; items = items; above_number = 7; above_items = object 9 ∷ [] }

abbrev line : List ℕ
line = 0 ∷ 0 ∷ 1 ∷ 2 ∷ []

-- a list below the root that held nothing has its bit set, the root's and one that held an object
-- have not
a_filled_list : bits_for 1 [] (object 0 ∷ []) ≡ 1 ∷ []
a_filled_list = refl

the_root : bits_for 0 [] (object 0 ∷ []) ≡ []
the_root = refl

a_list_with_one_more : bits_for 1 (object 0 ∷ []) (object 0 ∷ object 1 ∷ []) ≡ []
a_list_with_one_more = refl

-- a closing sets its parent's bit if an object moved to a list below the root
a_moved_object : bits_by line 0 0 (closing 2 (object 0 ∷ [])) ≡ 1 ∷ []
a_moved_object = refl

no_object : bits_by line 0 0 (closing 2 []) ≡ []
no_object = refl

to_the_root : bits_by line 0 0 (closing 1 (object 0 ∷ [])) ≡ []
to_the_root = refl

-- the parent's entry comes first
both_entries : made_by_closing line 0 1 (closing 2 (object 0 ∷ []))
    ≡ record { place = 257; number = 7; entry = MovedIn 2 1; items = object 9 ∷ [] } ∷ record { place = 258; number = 5; entry = Closed; items = object 0 ∷ [] } ∷ []
both_entries = refl

-- what moved is of the group's own list alone
the_group_s_own : moved_from_group 2 (closing 3 (object 0 ∷ []) ∷ closing 2 (object 0 ∷ object 1 ∷ []) ∷ []) ≡ 2
the_group_s_own = refl

another_group_s : moved_from_group 2 (closing 3 (object 0 ∷ []) ∷ []) ≡ 0
another_group_s = refl

-- the objects of one list after another
in_order : drawn (record { group = 3; number = 0; items = object 0 ∷ [] } ∷ record { group = 1; number = 4; items = object 1 ∷ object 2 ∷ [] } ∷ []) ≡ object 0 ∷ object 1 ∷ object 2 ∷ []
in_order = refl
