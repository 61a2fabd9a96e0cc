-- SPDX-License-Identifier: GPL-2.0-only
-- The last entry of each worker's, while a journal is gone through.
use Rattle.std.specs.Prelude.{◌≡◌, ℕ, ◌+◌, ◌<◌, ◌≤◌, Bool, true, List, length, slice_index_or, slice_set, Option, Some, None}
use Rattle.std.specs.Bool.{Decides}
use Rattle.shr_base.specs.declared.places.Serial.{Serial}
use Rattle.shr_base.specs.declared.journals.Entry.{Entry}
use Rattle.shr_model.specs.Tenants.{by_of}
use Rattle.shr_audit_replies.specs.declared.rising.Last.{Last}

-- a worker that has had no entry
abbrev pub no_last : Last
no_last = record { journal = 0; next = 0 }

-- the last entry of a worker
abbrev pub last_of_worker : List Last → ℕ → Last
last_of_worker seen worker = slice_index_or seen worker no_last

-- there is one for each worker, of a journal below this one
pub record AreOfEarlierJournals (journal : ℕ) (seen : List Last) : Type 0 where
  pub count : length seen ≡ 65536
  pub below : (worker : ℕ) → (last_of_worker seen worker).journal < journal

-- a command comes after its worker's last one in this journal
abbrev pub IsAfter : ℕ → Serial → Last → Type 0
IsAfter journal by last = last.journal ≡ journal → last.next ≤ by.command

-- the last entry of a worker is one by this command
abbrev pub noted_by : ℕ → Serial → List Last → List Last
noted_by journal by seen = slice_set seen by.worker (record { journal = journal; next = by.command + 1 })

-- a command was noted if it comes after its worker's last one
pub record NotesCommand (journal : ℕ) (by : Serial) (old new : List Last) (went : Bool) : Type 0 where
  pub numbered : by.worker < 65536
  pub after : Decides went (IsAfter journal by (last_of_worker old by.worker))
  pub noted : went ≡ true → new ≡ noted_by journal by old

-- the command of an entry was, if it is a tenant's
abbrev pub GoesOnBy : Option Serial → ℕ → List Last → List Last → Bool → Type 0
GoesOnBy None journal old new went = (went ≡ true) × (new ≡ old)
GoesOnBy (Some by) journal old new went = NotesCommand journal by old new went

-- the same for an entry: one that no command made goes on, and changes nothing
abbrev pub EntryGoesOn : ℕ → Entry → List Last → List Last → Bool → Type 0
EntryGoesOn journal e old new went = GoesOnBy (by_of e) journal old new went
