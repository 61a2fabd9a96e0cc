-- SPDX-License-Identifier: GPL-2.0-only
-- How a command met a counter that is used up.
use Rattle.std.specs.Prelude.{◌≡◌, ◌⊎◌, ℕ, ◌+◌, ◌-◌, ◌^◌, ◌<◌, ◌≤◌, true, List, length, Contains}
use Rattle.shr_base.specs.declared.ends.LookupWord.{LookupWord}
use Rattle.shr_base.specs.declared.objects.Object.{Object}
use Rattle.shr_base.specs.declared.places.Place.{Place}
use Rattle.shr_base.specs.declared.journals.Entry.{Entry}
use Rattle.shr_base.specs.declared.replies.Reply.TheVariants as reply
use Rattle.shr_base.specs.declared.replies.Spent.{Spent}
use Rattle.shr_base.specs.declared.replies.Spent.TheVariants as spent
use Rattle.shr_base.specs.declared.scripts.Script.{Script}
use Rattle.shr_base.specs.declared.places.At.{At}
use Rattle.shr_model.specs.Groups.{is_child}
use Rattle.shr_model.specs.Items.{HasJournal}
use Rattle.shr_model.specs.Families.{moved_in}
use Rattle.shr_model.specs.PlaceNumbers.{place_number}
use Rattle.shr_model.specs.Places.{at_group}
use Rattle.shr_laws.specs.Parts.{parents_of, IsThere}
use Rattle.shr_lawful.specs.Steps.{Step, IsAmong, IsPut}

-- the worker knows a beginning of a place's journal, and that it leaves these objects
pub record KnowsList (x : Step) (place : Place) (entries : List Entry) (items : List Object) : Type 0 where
  pub knows : IsAmong (record { place = place_number place; entries = entries }) x.after.core.traces.known
  pub journal : HasJournal entries items

-- one object more would be there: that of a `put` which was not added
pub record IsOneMore (x : Step) (held : List Object) (items : ℕ) : Type 0 where
  pub most : items ≤ length held + 1
  pub put : IsPut x.command
  pub refused : (c : At) → x.answered.reply ≡ reply.Added c → ⊥

-- the objects of a child's list would be there, which was not taken in
pub record AreBoth (s : Script) (x : Step) (place : Place) (entries : List Entry) (held : List Object) (items : ℕ) : Type 0 where
  pub child : ℕ
  pub below : is_child (parents_of s) place.group child ≡ true
  pub apart : ¬ Contains (moved_in entries) child
  pub child_entries : List Entry
  pub child_items : List Object
  pub list : KnowsList x (at_group place child) child_entries child_items
  pub most : items ≤ length held + length child_items

-- The list of a place would have one entry more than the worker knows there, and so many items: no more than it has, or these
-- and the object of the command, or those of a child's list too.
pub record IsListWorn (s : Script) (x : Step) (place : Place) (entries items : ℕ) : Type 0 where
  pub there : IsThere s place
  pub over : (2 ^ 31 < entries) ⊎ (20000 < items)
  pub known : List Entry
  pub held : List Object
  pub list : KnowsList x place known held
  pub one_more : entries ≡ length known + 1
  pub most : (items ≤ length held) ⊎ (IsOneMore x held items ⊎ AreBoth s x place known held items)

-- the lookups of an id: a load showed so many
pub record AreLookupsWorn (x : Step) (id seen : ℕ) : Type 0 where
  pub over : 2 ^ 32 - 256 ≤ seen
  pub word : LookupWord
  pub loaded : IsAmong (record { id = id; word = word }) x.work.core.loaded
  pub shown : word.lookups ≡ seen

-- the charges of the worker: it has made so many
pub record AreChargesWorn (x : Step) (charges uncharges : ℕ) : Type 0 where
  pub over : (1048576 ≤ charges) ⊎ (4194304 ≤ uncharges)
  pub charged : charges ≤ x.after.uses.charges
  pub uncharged : uncharges ≤ x.after.uses.uncharges

-- what was used up is a list, the lookups of an id, or the charges of the worker
abbrev pub IsWornBy : Script → Step → Spent → Type 0
IsWornBy s x (spent.List place entries items) = IsListWorn s x place entries items
IsWornBy s x (spent.Lookups id seen) = AreLookupsWorn x id seen
IsWornBy s x (spent.Charges charges uncharges) = AreChargesWorn x charges uncharges
