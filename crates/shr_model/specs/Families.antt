-- SPDX-License-Identifier: GPL-2.0-only
-- The journals of all places together: what they leave, which are legal, and how they fit.
use Rattle.std.specs.Prelude.{◌≡◌, ◌≢◌, ℕ, zero, suc, ◌<◌, true, false, not, ◌==◌, if◌then◌else◌, ◌↔◌, List, [], ◌∷◌, length, take, slice_get, filter_map, take_while, Contains, Option, Some, None}
use Rattle.shr_base.specs.declared.objects.Object.{Object}
use Rattle.shr_base.specs.declared.places.Place.{Place}
use Rattle.shr_base.specs.declared.journals.Entry.{Entry}
use Rattle.shr_base.specs.declared.journals.Entry.TheVariants.{Add, Look, Drop, Pin, Scan, MovedIn, Closed, Drained}
use Rattle.shr_model.specs.Places.{at_group}
use Rattle.shr_model.specs.Groups.{parent_of, path_of, IsAtOrAbove, is_child}
use Rattle.shr_model.specs.Items.{AreOutcomes, items_from, is_closing, is_closed}

-- a journal for each place
abbrev pub Family : Type 0
Family = Place → List Entry

-- the child whose list an entry moved in
abbrev pub child_of : Entry → Option ℕ
child_of (MovedIn child objects) = Some child
child_of e = None

-- the children whose lists were moved in, in order
abbrev pub moved_in : List Entry → List ℕ
moved_in entries = filter_map child_of entries

-- the entries before the Closed, or all of them
abbrev pub before_closed : List Entry → List Entry
before_closed entries = take_while (λ e. not (is_closing e)) entries

-- what is left to take from the children once this one's list was taken
abbrev pub without_child : ℕ → (ℕ → List Object) → ℕ → List Object
without_child child took c = if c == child then [] else took c

-- the lists that the MovedIn entries move, in order, where this is what each child's list gives; a
-- second MovedIn of one child moves nothing
unfoldable pub lists_moved : (ℕ → List Object) → List Entry → List (List Object)
lists_moved took [] = []
lists_moved took (MovedIn child objects ∷ es) = took child ∷ lists_moved (without_child child took) es
lists_moved took (e ∷ es) = lists_moved took es

-- the items that these entries of a place leave, where the lists of groups below it count at most
-- so many levels deep
unfoldable pub items_within : ℕ → List ℕ → Family → Place → List Entry → List Object
items_within zero parents family place entries = []
items_within (suc levels) parents family place entries = items_from
    (lists_moved
    (λ c. if is_child parents place.group c then items_within levels parents family (at_group place c) (before_closed (family (at_group place c))) else [])
    entries)
    [] entries

-- what the list of a child gives to this place's: its items before it was closed; nothing where it
-- is no child
abbrev pub items_given : List ℕ → Family → Place → ℕ → List Object
items_given parents family place child =
    if is_child parents place.group child then items_within (length parents) parents family (at_group place child) (before_closed (family (at_group place child))) else []

-- the lists that the MovedIn entries of a place move, in order
abbrev pub lists_moved_at : List ℕ → Family → Place → List (List Object)
lists_moved_at parents family place = lists_moved (items_given parents family place) (family place)

-- the items of a place after so many entries
abbrev pub items_at : List ℕ → Family → Place → ℕ → List Object
items_at parents family place count = items_from (lists_moved_at parents family place) [] (take count (family place))

-- the items of a place
abbrev pub items_of : List ℕ → Family → Place → List Object
items_of parents family place = items_from (lists_moved_at parents family place) [] (family place)

-- An entry of a tenant with this birth group may stand in a journal of this group after these
-- entries: the birth group is one of the tree, the group is at or above it, and where the two
-- aren't the same the list of the group's child that is at or above the birth group was moved in
-- before.
pub record IsBornAt (parents : List ℕ) (group : ℕ) (entries : List Entry) (birth : ℕ) : Type 0 where
  pub there : birth < length parents
  pub at_or_above : IsAtOrAbove parents group birth
  pub moved : (child : ℕ) → is_child parents group child ≡ true → Contains (path_of parents birth) child → Contains (moved_in entries) child

-- the list of each child was moved in
abbrev pub AreChildrenMovedIn : List ℕ → ℕ → List Entry → Type 0
AreChildrenMovedIn parents group entries = (child : ℕ) → is_child parents group child ≡ true → Contains (moved_in entries) child

-- an entry may stand in a journal of this group after these entries
abbrev pub IsAllowed : List ℕ → ℕ → List Entry → Entry → Type 0
IsAllowed parents group entries (Add by birth added key value) = IsBornAt parents group entries birth
IsAllowed parents group entries (Look by birth key hit) = IsBornAt parents group entries birth
IsAllowed parents group entries (Drop by birth key kind) = IsBornAt parents group entries birth
IsAllowed parents group entries (Pin by birth key pinned hit) = IsBornAt parents group entries birth
IsAllowed parents group entries (Scan worker walk asked policy visits freed stopped) = Unit {0}
IsAllowed parents group entries (MovedIn child objects) = (is_child parents group child ≡ true) × ¬ Contains (moved_in entries) child
IsAllowed parents group entries Closed = (group ≢ 0) × AreChildrenMovedIn parents group entries
IsAllowed parents group entries (Drained by objects) = 0 < objects

-- an entry may stand where it does: nothing follows a Closed, and it is allowed after the entries
-- before it
pub record MayStand (parents : List ℕ) (group : ℕ) (before : List Entry) (e : Entry) : Type 0 where
  pub «open» : is_closed before ≡ false
  pub allowed : IsAllowed parents group before e

-- the journal of a place is legal: entries stand only at a group of the tree, each may stand where
-- it does, and each outcome is so
pub record IsLegal (parents : List ℕ) (family : Family) (place : Place) : Type 0 where
  pub there : 0 < length (family place) → place.group < length parents
  pub stands : (n : ℕ) (e : Entry) → slice_get (family place) n ≡ Some e → MayStand parents place.group (take n (family place)) e
  pub outcomes : AreOutcomes (lists_moved_at parents family place) [] (family place)

-- the two journals of a child and its parent fit at this place: the child's has a Closed exactly
-- where the parent's has its MovedIn
abbrev pub IsPairedAt : List ℕ → Family → Place → Type 0
IsPairedAt parents family place = (is_closed (family place) ≡ true) ↔ Contains (moved_in (family (at_group place (parent_of parents place.group)))) place.group

-- the journals fit together
abbrev pub IsPaired : List ℕ → Family → Type 0
IsPaired parents family = (place : Place) → 0 < place.group → place.group < length parents → IsPairedAt parents family place
