-- SPDX-License-Identifier: GPL-2.0-only
-- The highest entry that was cited at each place. No public clause cites this.
use Rattle.std.specs.Prelude.{◌≡◌, ℕ, ◌<◌, ◌↔◌, nat_eq, cond, List, map, slice_get, Option, Some, None}
use Rattle.std.specs.List.{AllByRecursion}
use Rattle.std.specs.HashMap.{get}
use Rattle.shr_base.specs.declared.ends.WorkerPart.{WorkerPart}
use Rattle.shr_base.specs.declared.places.At.{At}
use Rattle.shr_base.specs.declared.places.Place.{Place}
use Rattle.shr_base.specs.declared.replies.Answered.{Answered}
use Rattle.shr_base.specs.declared.replies.Reply.{Reply}
use Rattle.shr_base.specs.Walks.{Attempt, WalkRecord}
use Rattle.shr_base.specs.declared.walks.Outcome.{Outcome}
use Rattle.shr_audit_formed.specs.Each.{EachItem}
use Rattle.shr_model.specs.Attempts.{counts_of}
use Rattle.shr_model.specs.Walks.{place_in, versions_at}
use Rattle.shr_laws.specs.Parts.{at, cited_by}
use Rattle.shr_audit_walks.specs.VersionTable.{Versions, fits, place_key}

-- the highest entry that was cited at a place, if one was
abbrev pub highest_at : Versions → Place → Option ℕ
highest_at t place = cond (fits place) (get nat_eq t (place_key place)) None

-- a version is above an entry, if there is one
abbrev pub IsAboveEntry : Option ℕ → ℕ → Type 0
IsAboveEntry None version = Unit {0}
IsAboveEntry (Some entry) version = entry < version

-- a version is above the highest entry that was cited at a place
abbrev pub IsAboveHighest : Versions → Place → ℕ → Type 0
IsAboveHighest t place version = IsAboveEntry (highest_at t place) version

-- a version is above the entry that is cited, if it is of this place
abbrev pub IsAboveAt : Option At → Place → ℕ → Type 0
IsAboveAt cited place version = (entry : ℕ) → cited ≡ Some (at place entry) → entry < version

-- what is above the highest entries with one more is what was above them, and is above that one
abbrev pub NotesEntry : Versions → Versions → Option At → Type 0
NotesEntry old new cited = (place : Place) (version : ℕ) → IsAboveHighest new place version ↔ (IsAboveHighest old place version × IsAboveAt cited place version)

-- one more entry was cited
abbrev pub NotesCited : Versions → Versions → At → Type 0
NotesCited old new c = NotesEntry old new (Some c)

-- the entry that a reply cites was, if it cites one
abbrev pub NotesReply : Versions → Versions → Reply → Type 0
NotesReply old new x = NotesEntry old new (cited_by x)

-- a version is above every entry that so many answers cite at a place
abbrev pub IsAboveCited : List Answered → ℕ → Place → ℕ → Type 0
IsAboveCited answers n place version = (k : ℕ) (a : Answered) → k < n → slice_get answers k ≡ Some a → IsAboveAt (cited_by a.reply) place version

-- the table has the highest entries that so many answers cite
abbrev pub AreHighestCited : List Answered → ℕ → Versions → Type 0
AreHighestCited answers n t = (place : Place) (version : ℕ) → IsAboveHighest t place version ↔ IsAboveCited answers n place version

-- both of two versions are above
abbrev pub AreBothAbove : Versions → Place → ℕ → ℕ → Type 0
AreBothAbove t place first second = IsAboveHighest t place first × IsAboveHighest t place second

-- each version that an outcome tells at a place is above
abbrev pub IsOutcomeAbove : Versions → Place → Outcome → Type 0
IsOutcomeAbove t place outcome = AllByRecursion (λ version. IsAboveHighest t place version) (map (λ c. c.version) (counts_of outcome))

-- each that the attempts of a walk tell is, at the attempt's place
abbrev pub IsWalkAbove : Versions → WalkRecord → Type 0
IsWalkAbove t w = (k : ℕ) (a : Attempt) → slice_get w.attempts.items k ≡ Some a → IsOutcomeAbove t (place_in w a.id) a.outcome

-- the versions of a walk at each place are above every entry that the answers to earlier commands cite there
abbrev pub IsWalkLater : List Answered → WalkRecord → Type 0
IsWalkLater answers w = (k entry : ℕ) (place : Place) (a : Answered) → k < w.by.command → slice_get answers k ≡ Some a → cited_by a.reply ≡ Some (at place entry)
    → AllByRecursion (λ version. entry < version) (versions_at place w)

-- each walk of a worker is later than its answers
abbrev pub IsPartLater : WorkerPart → Type 0
IsPartLater part = EachItem (IsWalkLater part.answers.items) part.walks.items
