-- SPDX-License-Identifier: GPL-2.0-only
-- The places that a worker's answers filled, as words of bits. No public clause cites this.
use Rattle.std.specs.Prelude.{◌≡◌, ℕ, ◌<◌, ◌==◌, ◌&&◌, ◌||◌, not, Bool, true, false, nat_eq, cond, List, length, slice_get, take, Option, Some, None}
use Rattle.std.specs.HashMap.{get}
use Rattle.std.specs.List.{list_any}
use Rattle.shr_base.specs.declared.ends.WorkerPart.{WorkerPart}
use Rattle.shr_base.specs.declared.places.At.{At}
use Rattle.shr_base.specs.declared.places.Place.{Place}
use Rattle.shr_base.specs.declared.replies.Answered.{Answered}
use Rattle.shr_base.specs.declared.replies.Reply.{Reply}
use Rattle.shr_base.specs.declared.replies.Reply.TheVariants as reply
use Rattle.shr_base.specs.declared.walks.MapSeen.{MapSeen}
use Rattle.shr_base.specs.Walks.{WalkRecord}
use Rattle.shr_audit_formed.specs.Each.{EachItem}
use Rattle.shr_model.specs.Bits.{is_set}
use Rattle.shr_model.specs.Families.{items_at}
use Rattle.shr_model.specs.Places.{bit_of, is_place, unit_of}
use Rattle.shr_laws.specs.declared.report.Report.{Report}
use Rattle.shr_laws.specs.Parts.{at, journals_of}
use Rattle.shr_laws.specs.WalksLawful.{Covers, was_cleared}
use Rattle.shr_audit_lists.specs.Words.{Words, word_key}
use Rattle.shr_audit_walks.specs.VersionTable.{fits, read_as}

-- the word with this number, 0 where there is none
abbrev pub word_by_key : Words → ℕ → ℕ
word_by_key t key = read_as (get nat_eq t key)

-- there is no word
abbrev pub IsNoWord : Words → Type 0
IsNoWord t = (key : ℕ) → get nat_eq t key ≡ None

-- the bit of a place is set
abbrev pub filled_at : Words → Place → Bool
filled_at t place = cond (fits place) (is_set (word_by_key t (word_key place.node place.group (unit_of place.id))) (bit_of place.id)) false

-- a place had nothing before an entry, and no walk cleared its bit
abbrev pub is_filling : List ℕ → Report → At → Bool
is_filling parents r c = (length (items_at parents (journals_of r) c.place c.entry) == 0) && not (was_cleared r c.place)

-- the place that a reply filled, and whose bit no walk cleared
abbrev pub filled_by : List ℕ → Report → Reply → Option Place
filled_by parents r (reply.Added c) = cond (is_filling parents r c) (Some c.place) None
filled_by parents r x = None

-- a place is the one that was filled, if one was
abbrev pub is_filled : Option Place → Place → Bool
is_filled None q = false
is_filled (Some place) q = is_place q place

-- the bit of one place more is set, if one was filled
abbrev pub NotesFilled : Words → Words → Option Place → Type 0
NotesFilled old new place = (q : Place) → filled_at new q ≡ (filled_at old q || is_filled place q)

-- the words have the bits of the places that so many answers filled
abbrev pub AreFilled : List ℕ → Report → List Answered → ℕ → Words → Type 0
AreFilled parents r answers n t = (place : Place) → filled_at t place ≡ list_any (λ (a : Answered). is_filled (filled_by parents r a.reply) place) (take n answers)

-- a map of a walk has the bit of each place that it is of and whose bit is set in the words
abbrev pub IsMapFull : Words → WalkRecord → MapSeen → Type 0
IsMapFull t w m = (place : Place) → Covers w m place → filled_at t place ≡ true → is_set m.bits (bit_of place.id) ≡ true

-- each map of a walk has
abbrev pub IsWalkFull : Words → WalkRecord → Type 0
IsWalkFull t w = (i : ℕ) (m : MapSeen) → slice_get w.maps.items i ≡ Some m → IsMapFull t w m

-- a walk's maps have the bit of each place that the answers to earlier commands filled, unless some walk cleared it
abbrev pub HasFilled : List ℕ → Report → List Answered → WalkRecord → Type 0
HasFilled parents r answers w = (i k entry : ℕ) (m : MapSeen) (place : Place) (a : Answered) → slice_get w.maps.items i ≡ Some m → Covers w m place → k < w.by.command
    → slice_get answers k ≡ Some a → a.reply ≡ reply.Added (at place entry) → length (items_at parents (journals_of r) place entry) ≡ 0 → was_cleared r place ≡ false
    → is_set m.bits (bit_of place.id) ≡ true

-- each walk of a worker has what its answers filled
abbrev pub IsPartFilled : List ℕ → Report → WorkerPart → Type 0
IsPartFilled parents r part = EachItem (HasFilled parents r part.answers.items) part.walks.items
