-- SPDX-License-Identifier: GPL-2.0-only
-- Which entries a command makes in the journals of the lists, and which of them its reply cites.
use Rattle.std.specs.Prelude.{◌≡◌, ◌⊎◌, ℕ, ◌+◌, ◌<◌, ◌≤◌, List, [], ◌∷◌, ◌++◌, length, flat_map, slice_get, Option, Some, None, option_and_then, Contains}
use Rattle.shr_base.specs.declared.objects.Object.{Object}
use Rattle.shr_base.specs.declared.places.Serial.{Serial}
use Rattle.shr_base.specs.declared.places.At.{At}
use Rattle.shr_base.specs.declared.places.Place.{Place}
use Rattle.shr_base.specs.declared.journals.Entry.{Entry}
use Rattle.shr_base.specs.declared.journals.Entry.TheVariants.{Add, Look, Drop, Pin, Scan, MovedIn, Closed, Drained}
use Rattle.shr_base.specs.declared.journals.TreeEntry.TheVariants.{Begin}
use Rattle.shr_base.specs.declared.replies.Answered.{Answered}
use Rattle.shr_base.specs.declared.replies.Reply.{Reply}
use Rattle.shr_base.specs.declared.replies.Reply.TheVariants as reply
use Rattle.shr_base.specs.declared.scripts.Command.{Command}
use Rattle.shr_base.specs.declared.scripts.Command.TheVariants as command
use Rattle.shr_base.specs.declared.scripts.Script.{Script}
use Rattle.shr_base.specs.declared.walks.Isolation.{Isolation}
use Rattle.shr_base.specs.Walks.{WalkRecord}
use Rattle.shr_model.specs.Commands.{group_named}
use Rattle.shr_model.specs.Groups.{IsAtOrAbove}
use Rattle.shr_model.specs.Families.{Family, items_at}
use Rattle.shr_model.specs.PlaceNumbers.{place_number}
use Rattle.shr_model.specs.Places.{at_group}
use Rattle.shr_model.specs.Walks.{passes_at}
use Rattle.shr_model.specs.Isolations.{first_isolation}
use Rattle.shr_seats.specs.Lines.{by_seat}
use Rattle.shr_seats.specs.Views.{Each}
use Rattle.shr_seats.specs.Weights.{times}
use Rattle.shr_core.specs.Gained.{among, cleared_in}
use Rattle.shr_core.specs.Parts.{Made, Known, Event, raised}
use Rattle.shr_core.specs.Layout.{place_id, group_of, place_at, beside}
use Rattle.shr_node.specs.Gains.{KnowsClosed}
use Rattle.shr_laws.specs.Parts.{parents_of, cited_by, id_found, at}
use Rattle.shr_laws.specs.Isolated.{isolations_told}
use Rattle.shr_laws.specs.ReplyTable.{IsReply}
use Rattle.shr_laws.specs.Causes.{MayHaveBegun}
use Rattle.shr_laws.specs.Swept.{IsSweepReply}
use Rattle.shr_lawful.specs.Steps.{Step, IsAmong}
use Rattle.shr_lawful.specs.Walks.{set_by_walk}

-- an entry that was made stands in a family of journals, and these items are there before it
pub record StandsIn (parents : List ℕ) (family : Family) (m : Made) : Type 0 where
  pub entry : slice_get (family (place_at m.place)) m.number ≡ Some m.entry
  pub items : m.items ≡ items_at parents family (place_at m.place) m.number

-- a tenant's entry is of the command, and the reply cites it
pub record IsTenantEntry (x : Step) (m : Made) (by : Serial) : Type 0 where
  pub own : by ≡ x.by
  pub cited : cited_by x.answered.reply ≡ Some (at (place_at m.place) m.number)

-- a Scan is of a walk of the command that has a pass at its place
pub record IsScanned (x : Step) (m : Made) (worker n : ℕ) : Type 0 where
  pub own : worker ≡ x.by.worker
  pub index : ℕ
  pub number : n ≡ length x.before.walks + index
  pub walk : WalkRecord
  pub there : slice_get x.work.walks index ≡ Some walk
  pub passes : 0 < length (passes_at (place_at m.place) walk)

-- the isolation that the answer to a command tells of, if it does; the sweep makes none
abbrev pub isolations_asked : Serial → Option Command → Answered → List Isolation
isolations_asked by (Some c) a = isolations_told by c a
isolations_asked by None a = []

-- or it is a visit of the isolation that the command's answer tells of, at the isolation's place
pub record IsIsolationVisit (x : Step) (m : Made) (worker n : ℕ) : Type 0 where
  pub own : worker ≡ x.by.worker
  pub high : first_isolation ≤ n
  pub isolation : Isolation
  pub told : isolations_asked x.by x.command x.answered ≡ isolation ∷ []
  pub place : place_at m.place ≡ isolation.place

-- The list of a group is closed by an `offline` of a group at or above it, whose Begin the worker knows. The entry comes
-- after all that the worker knew of the journal before.
pub record IsClosedByOffline (s : Script) (x : Step) (m : Made) (child : ℕ) : Type 0 where
  pub group : ℕ
  pub command : x.command ≡ Some (command.Offline group)
  pub answer : MayHaveBegun x.answered.reply
  pub below : IsAtOrAbove (parents_of s) group child
  pub begun : Contains x.after.tree.known (Begin group)
  pub later : Each (λ (k : Known). k.place ≡ m.place → length k.entries ≤ m.number) x.before.core.traces.known

-- a MovedIn stands beside the Closed of the child's list
pub record IsMoving (s : Script) (x : Step) (m : Made) (child : ℕ) : Type 0 where
  pub closing : IsClosedByOffline s x m child
  pub closed : Made
  pub among : IsAmong closed x.work.core.made
  pub place : closed.place ≡ beside m.place child
  pub entry : closed.entry ≡ Closed

-- the answer is that of an `unregister` which drained lists of this id
abbrev pub Drains : ℕ → Reply → Type 0
Drains id (reply.Freed i entry from to objects) = i ≡ id
Drains id (reply.Half i entry from to objects why) = i ≡ id
Drains id x = ⊥

-- a Drained is of the command, at a list of the id that it unregistered
pub record IsDrainedByCommand (x : Step) (m : Made) (by : Serial) : Type 0 where
  pub own : by ≡ x.by
  pub drains : Drains (place_id m.place) x.answered.reply

-- an entry is one that the command may make
abbrev pub MayMakeEntry : Script → Step → Made → Entry → Type 0
MayMakeEntry s x m (Add by birth added key value) = IsTenantEntry x m by
MayMakeEntry s x m (Look by birth key hit) = IsTenantEntry x m by
MayMakeEntry s x m (Drop by birth key kind) = IsTenantEntry x m by
MayMakeEntry s x m (Pin by birth key pinned hit) = IsTenantEntry x m by
MayMakeEntry s x m (Scan worker n asked policy visits freed stopped) = IsScanned x m worker n ⊎ IsIsolationVisit x m worker n
MayMakeEntry s x m (MovedIn child objects) = IsMoving s x m child
MayMakeEntry s x m Closed = IsClosedByOffline s x m (group_of m.place)
MayMakeEntry s x m (Drained by objects) = IsDrainedByCommand x m by

-- the list of a place is the first one, from the group up that the command names, that the worker doesn't know to be closed at
-- the command's end
pub record IsFirstFor (s : Script) (x : Step) (place : Place) : Type 0 where
  pub birth : ℕ
  pub named : option_and_then group_named x.command ≡ Some birth
  pub there : birth < length (parents_of s)
  pub above : IsAtOrAbove (parents_of s) place.group birth
  pub below : (group : ℕ) → IsAtOrAbove (parents_of s) group birth → place.group < group → KnowsClosed x.after.core (place_number (at_group place group))

-- the command set the bit of this place, and cleared no bit behind that
pub record IsSetLast (x : Step) (place : ℕ) : Type 0 where
  pub front : List Event
  pub back : List Event
  pub did : x.after.core.did ≡ x.before.core.did ++ by_seat x.before.core.seat (front ++ raised place ∷ back)
  pub clears_none : among cleared_in back ≡ []

-- The entry that a reply cites was made by the command, after all that the worker had made and known at the place, on the first
-- open list. If an Added found an empty list below the root, the place's bit was set, and no bit was
-- cleared behind that.
pub record IsMadeAsCited (s : Script) (x : Step) (c : At) : Type 0 where
  pub made : Made
  pub among : IsAmong made x.work.core.made
  pub place : place_at made.place ≡ c.place
  pub number : made.number ≡ c.entry
  pub later : Each (λ (m : Made). m.place ≡ made.place → m.number < made.number) x.before.core.traces.made
  pub known : Each (λ (k : Known). k.place ≡ made.place → length k.entries ≤ made.number) x.before.core.traces.known
  pub first : IsFirstFor s x c.place
  pub filled : x.answered.reply ≡ reply.Added c → 0 < c.place.group → made.items ≡ [] → (0 < times made.place x.work.core.sets) × IsSetLast x made.place

-- an entry put an object into a list that had these: it is an Add into an empty one, or a MovedIn of some
abbrev pub Fills : List Object → Entry → Type 0
Fills items (Add by birth added key value) = items ≡ []
Fills items (MovedIn child objects) = 0 < objects
Fills items e = ⊥

-- one of these entries filled the list of this place
pub record IsListFilled (made : List Made) (place : ℕ) : Type 0 where
  pub entry : Made
  pub among : IsAmong entry made
  pub here : entry.place ≡ place
  pub fills : Fills entry.items entry.entry

-- The answer to a command is one that it may have. That to a sweep is of a sweep, with no cache that was found.
abbrev pub IsReplyTo : List ℕ → Family → Serial → Option Command → Option ℕ → Reply → Type 0
IsReplyTo parents family by (Some c) found x = IsReply parents family by c found x
IsReplyTo parents family by None found x = (found ≡ None) × IsSweepReply x

-- the entries that a command made in the journals of lists, and what its answer cites of them
pub record DidEntries (s : Script) (x : Step) : Type 0 where
  pub each : Each (λ (m : Made). MayMakeEntry s x m m.entry) x.work.core.made
  -- in each family of journals in which these entries stand, the answer is one that the command may have
  pub reply : (family : Family) → Each (StandsIn (parents_of s) family) x.work.core.made
      → IsReplyTo (parents_of s) family x.by x.command (id_found x.answered) x.answered.reply
  -- each bit that was set was that of a place whose list it filled, or a walk of the command tells it
  pub sets : Each (λ place. IsListFilled x.work.core.made place ⊎ IsAmong place (flat_map set_by_walk x.work.walks)) x.work.core.sets
  pub cited : (c : At) → cited_by x.answered.reply ≡ Some c → IsMadeAsCited s x c
