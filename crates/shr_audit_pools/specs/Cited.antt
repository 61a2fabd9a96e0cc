-- SPDX-License-Identifier: GPL-2.0-only
-- Entries of pools' journals that replies cite. No public clause cites this.
use Rattle.std.specs.Prelude.{◌≡◌, ℕ, List, slice_get, Some}
use Rattle.shr_base.specs.declared.ends.UnitsEnd.{UnitsEnd}
use Rattle.shr_base.specs.declared.ends.WorkerPart.{WorkerPart}
use Rattle.shr_base.specs.declared.journals.PlainEntry.{PlainEntry}
use Rattle.shr_base.specs.declared.places.At.{At}
use Rattle.shr_base.specs.declared.places.Place.{Place}
use Rattle.shr_base.specs.declared.places.Serial.{Serial}
use Rattle.shr_base.specs.declared.replies.Answered.{Answered}
use Rattle.shr_base.specs.declared.scripts.Command.{Command}
use Rattle.shr_base.specs.declared.scripts.Script.{Script}
use Rattle.shr_laws.specs.declared.report.Report.{Report}
use Rattle.shr_laws.specs.Parts.{at, commands_of, serial_of}
use Rattle.shr_laws.specs.Pools.{IsOfPlain, IsPoolReply}
use Rattle.shr_laws.specs.UnitParts.{plain_by_of, units_cited_at}
use Rattle.shr_laws.specs.WellFormed.{units_place}
use Rattle.shr_audit_pools.specs.declared.cites.Cite.{Cite}
use Rattle.shr_audit_pools.specs.Places.{named_place}

-- an entry of a pool's journal, as a reply names it
abbrev pub cite_at : Cite → At
cite_at c = at (named_place c.place) c.entry

-- the reply to the command with this number, if there is such a command, cites its entry or has its cause
abbrev pub HasRight : Script → Report → ℕ → List Command → ℕ → Answered → Type 0
HasRight s r worker commands n a = (c : Command) → slice_get commands n ≡ Some c → IsPoolReply s r (serial_of worker n) c a.reply

-- and so of each answer of a worker
abbrev pub IsPartRight : Script → Report → ℕ → WorkerPart → Type 0
IsPartRight s r worker part = (n : ℕ) (a : Answered) → slice_get part.answers.items n ≡ Some a → HasRight s r worker (commands_of s worker) n a

-- an entry is cited by the reply to its command, or is of a pass of the walk that it names
pub record IsEntryRight (s : Script) (r : Report) (place : Place) (n : ℕ) (e : PlainEntry) : Type 0 where
  pub cited : (by : Serial) → plain_by_of e ≡ Some by → units_cited_at r by ≡ Some (at place n)
  pub passed : IsOfPlain s r place e

-- each entry of a journal is
abbrev pub AreEntriesRight : Script → Report → UnitsEnd → Type 0
AreEntriesRight s r u = (n : ℕ) (e : PlainEntry) → slice_get u.entries.items n ≡ Some e → IsEntryRight s r (units_place u) n e
