-- SPDX-License-Identifier: GPL-2.0-only
-- How an attempt keeps its outcome, and a pass its ending. No public clause cites this module.
use Rattle.std.specs.Prelude.{ℕ}
use Rattle.shr_base.specs.declared.places.Place.{Place}
use Rattle.shr_base.specs.declared.replies.Spent.TheVariants as spent
use Rattle.shr_base.specs.declared.walks.Ending.{Ending}
use Rattle.shr_base.specs.declared.walks.Ending.TheVariants as ending
use Rattle.shr_base.specs.declared.walks.GoneThen.TheVariants.{Set, Clear, Root}
use Rattle.shr_base.specs.declared.attempts.Kind.{Kind}
use Rattle.shr_base.specs.declared.attempts.Kind.TheVariants as kind
use Rattle.shr_base.specs.declared.walks.Outcome.{Outcome}
use Rattle.shr_base.specs.declared.walks.Outcome.TheVariants as outcome
use Rattle.shr_base.specs.declared.walks.PassRecord.{PassRecord}
use Rattle.shr_base.specs.declared.packed.EndingKind.{EndingKind}
use Rattle.shr_base.specs.declared.packed.EndingKind.TheVariants as end

-- the ending that is kept so
abbrev pub ending_in : EndingKind → Place → ℕ → ℕ → Ending
ending_in end.Through place first second = ending.Through
ending_in end.Stop place first second = ending.Stop
ending_in end.NoRoom place first second = ending.NoRoom
ending_in end.Lookups place first second = ending.Worn (spent.Lookups place.id first)
ending_in end.List place first second = ending.Worn (spent.List place first second)
ending_in end.Charges place first second = ending.Worn (spent.Charges first second)

-- a pass of this many, at this version, that did nothing
abbrev pub unmade : ℕ → ℕ → PassRecord
unmade len version = record {
  len = len;
  version = version;
  nr = 0;
  asks = 0;
  closed = 0;
  scanned = 0;
  freed = 0;
  next = 0;
  ending = ending.Through;
}

-- the outcome that is kept so: what has no pass has its length and version there
abbrev pub outcome_in : Kind → ℕ → ℕ → PassRecord → Outcome
outcome_in kind.Worn number first pass = outcome.Worn number
outcome_in kind.GoneSet number first pass = outcome.Gone number Set
outcome_in kind.GoneClear number first pass = outcome.Gone number Clear
outcome_in kind.GoneRoot number first pass = outcome.Gone number Root
outcome_in kind.Skip number first pass = outcome.Skip number pass.len pass.version
outcome_in kind.Ran number first pass = outcome.Ran number pass
outcome_in kind.Empty number first pass = outcome.Empty number pass.version
outcome_in kind.Cleared number first pass = outcome.Cleared number first pass.version
outcome_in kind.RestoredSkip number first pass = outcome.RestoredSkip number first pass.len pass.version
outcome_in kind.RestoredRan number first pass = outcome.RestoredRan number first pass
