-- SPDX-License-Identifier: GPL-2.0-only
-- What a list's journal leaves in the list.
use Rattle.std.specs.Prelude.{◌≡◌, ℕ, Bool, true, false, not, if◌then◌else◌, List, [], ◌∷◌, ◌++◌, length, take, EachIndex, Option, Some, None}
use Rattle.std.specs.List.{list_any}
use Rattle.shr_base.specs.declared.objects.Object.{Object}
use Rattle.shr_base.specs.declared.objects.Policy.{Policy}
use Rattle.shr_base.specs.declared.journals.DropKind.{DropKind}
use Rattle.shr_base.specs.declared.journals.DropKind.TheVariants.{Dropped, Pinned, Miss}
use Rattle.shr_base.specs.declared.journals.Entry.{Entry}
use Rattle.shr_base.specs.declared.journals.Entry.TheVariants.{Add, Look, Drop, Pin, Scan, MovedIn, Closed, Drained}
use Rattle.shr_model.specs.Objects.{is_named, holds, named_in, fresh, marked_object, pinned_object, change_first, without_first}
use Rattle.shr_model.specs.Scan.{scan_of}

-- what a Drop does where this is the object that it names
abbrev pub drop_kind_of : Option Object → DropKind
drop_kind_of None = Miss
drop_kind_of (Some object) = if object.pinned then Pinned else Dropped

-- the objects that a Drop of this kind takes out where this is the object that it names
abbrev pub dropped_of : Option Object → List Object
dropped_of None = []
dropped_of (Some object) = if object.pinned then [] else object ∷ []

-- the items after a Drop where this is the object that it names
abbrev pub after_drop : ℕ → List ℕ → List Object → Option Object → List Object
after_drop birth key items None = items
after_drop birth key items (Some object) = if object.pinned then items else without_first (is_named birth key) items

-- the items after an entry; the objects that a MovedIn moves are given
abbrev pub step : List Object → List Object → Entry → List Object
step moved items (Add by birth added key value) = if holds birth key items then items else items ++ fresh by birth key value ∷ []
step moved items (Look by birth key hit) = change_first (is_named birth key) marked_object items
step moved items (Drop by birth key kind) = after_drop birth key items (named_in birth key items)
step moved items (Pin by birth key pinned hit) = change_first (is_named birth key) (pinned_object pinned) items
step moved items (Scan worker walk asked policy visits freed stopped) = (scan_of policy asked items).items
step moved items (MovedIn child objects) = moved ++ items
step moved items Closed = []
step moved items (Drained by objects) = []

-- what a Scan entry says of its outcome is that of the scan
pub record IsScanOutcome (policy : Policy) (asked visits freed : ℕ) (stopped : Bool) (items : List Object) : Type 0 where
  pub met : visits ≡ (scan_of policy asked items).visits
  pub removed : freed ≡ length (scan_of policy asked items).freed
  pub halted : stopped ≡ (scan_of policy asked items).stopped

-- what an entry says of its outcome is so
abbrev pub IsOutcome : List Object → List Object → Entry → Type 0
IsOutcome moved items (Add by birth added key value) = added ≡ not (holds birth key items)
IsOutcome moved items (Look by birth key hit) = hit ≡ holds birth key items
IsOutcome moved items (Drop by birth key kind) = kind ≡ drop_kind_of (named_in birth key items)
IsOutcome moved items (Pin by birth key pinned hit) = hit ≡ holds birth key items
IsOutcome moved items (Scan worker walk asked policy visits freed stopped) = IsScanOutcome policy asked visits freed stopped items
IsOutcome moved items (MovedIn child objects) = objects ≡ length moved
IsOutcome moved items Closed = Unit {0}
IsOutcome moved items (Drained by objects) = objects ≡ length items

-- the objects that an entry frees, in order
abbrev pub freed_by : List Object → Entry → List Object
freed_by items (Drop by birth key kind) = dropped_of (named_in birth key items)
freed_by items (Scan worker walk asked policy visits freed stopped) = (scan_of policy asked items).freed
freed_by items (Drained by objects) = items
freed_by items e = []

-- the first of the lists that were moved
abbrev pub first_moved : List (List Object) → List Object
first_moved [] = []
first_moved (m ∷ ms) = m

-- the lists that later entries move
abbrev pub later_moved : Entry → List (List Object) → List (List Object)
later_moved (MovedIn child objects) (m ∷ ms) = ms
later_moved e ms = ms

-- the items after entries, from the items before them, where the MovedIn entries move these lists
-- in turn
unfoldable pub items_from : List (List Object) → List Object → List Entry → List Object
items_from moved items [] = items
items_from moved items (e ∷ es) = items_from (later_moved e moved) (step (first_moved moved) items e) es

-- the objects that entries free, in order
unfoldable pub freed_from : List (List Object) → List Object → List Entry → List Object
freed_from moved items [] = []
freed_from moved items (e ∷ es) = freed_by items e ++ freed_from (later_moved e moved) (step (first_moved moved) items e) es

-- each outcome is so at its point
unfoldable pub AreOutcomes : List (List Object) → List Object → List Entry → Type 0
AreOutcomes moved items [] = Unit {0}
AreOutcomes moved items (e ∷ es) = IsOutcome (first_moved moved) items e × AreOutcomes (later_moved e moved) (step (first_moved moved) items e) es

-- an entry closes its list
abbrev pub is_closing : Entry → Bool
is_closing Closed = true
is_closing e = false

-- a Closed stands in a journal
abbrev pub is_closed : List Entry → Bool
is_closed entries = list_any is_closing entries

-- nothing follows a Closed
abbrev pub IsOpenBeforeEach : List Entry → Type 0
IsOpenBeforeEach entries = EachIndex entries (λ n. is_closed (take n entries) ≡ false)

-- the items are those that the journal leaves in an empty list, each outcome is so, and nothing
-- follows a Closed
pub record IsJournalOf (entries : List Entry) (items : List Object) (moved : List (List Object)) : Type 0 where
  pub left : items_from moved [] entries ≡ items
  pub outcomes : AreOutcomes moved [] entries
  pub ended : IsOpenBeforeEach entries

-- a list by itself has this journal and these items, whatever lists were moved in
abbrev pub HasJournal : List Entry → List Object → Type 0
HasJournal entries items = (moved : List (List Object)) × IsJournalOf entries items moved
