-- SPDX-License-Identifier: GPL-2.0-only
-- What status 0 says of `run`: the headline.
use Rattle.std.specs.Prelude.{ℕ, ◌≤◌, List, length, Option}
use Rattle.std.specs.Io.KnownBytes.{Consumes, IsAtEnd, Appends}
use Rattle.shr_base.specs.declared.scripts.Script.{Script}
use Rattle.shr_script.specs.Content.{content_of, IsValid, spell}
use Rattle.shr_laws.specs.declared.report.Report.{Report}
use Rattle.shr_laws.specs.Text.{text}
use Rattle.shr_laws.specs.Faithful.{IsFaithful}
use Rattle.shr_laws.specs.Lawful.{IsLawful}
use Rattle.shr_laws.specs.Numbers.{HasNumbers}
use Rattle.shr_laws.specs.Puts.{AreFreePutsAdded}
use Rattle.shr_laws.specs.WellFormed.{IsWellFormed}

-- the most bytes of a script
abbrev pub script_limit : ℕ
script_limit = 4194304

-- these bytes were taken, they are within the limit, and then the source was at its end
pub record ReadAll (limit : ℕ) (left left_after : Option (List ℕ)) (bytes : List ℕ) : Type 0 where
  pub taken : Consumes left left_after bytes
  pub end : IsAtEnd left_after
  pub within : length bytes ≤ limit

-- what a source tells and counts, before and after
pub record SourceSeen : Type 0 where
  pub left : Option (List ℕ)
  pub left_after : Option (List ℕ)
  pub faults : ℕ
  pub faults_after : ℕ

-- what a sink tells and counts, before and after
pub record SinkSeen : Type 0 where
  pub written : Option (List ℕ)
  pub written_after : Option (List ℕ)
  pub faults : ℕ
  pub faults_after : ℕ

-- The source was read to its end, it gave the spelling of a valid script, and a lawful, faithful
-- and well formed report was written, whose numbers have the ranges of their types. Each put that nothing was
-- in the way of was added, unless there was no memory or a counter was used up.
pub record IsDone (source : SourceSeen) (sink : SinkSeen) : Type 0 where
  pub script : Script
  pub report : Report
  pub valid : IsValid (content_of script)
  pub read : ReadAll script_limit source.left source.left_after (spell (content_of script))
  pub lawful : IsLawful script report
  pub faithful : IsFaithful script report
  pub well_formed : IsWellFormed report
  pub numbers : HasNumbers report
  pub puts : AreFreePutsAdded script report
  pub written : Appends sink.written sink.written_after (text report)
