-- SPDX-License-Identifier: GPL-2.0-only
-- The five lines that are written of the run of a generated script, and what they say.
use Rattle.std.specs.Prelude.{◌≡◌, ℕ, ◌+◌, ◌*◌, List, ◌++◌, codes, decimal, length, sum_by, slice_get, Some}
use Rattle.std.specs.Io.KnownBytes.{Appends}
use Rattle.shr_outside.specs.Outside.{Rose}
use Rattle.shr_base.specs.declared.ends.WorkerPart.{WorkerPart}
use Rattle.shr_base.specs.declared.replies.Answered.{Answered}
use Rattle.shr_base.specs.declared.replies.Reply.{Reply}
use Rattle.shr_base.specs.declared.replies.Reply.TheVariants.{Memory, Worn}
use Rattle.shr_base.specs.declared.scripts.Script.{Script}
use Rattle.shr_script.specs.Content.{content_of}
use Rattle.shr_gen.specs.Generated.{generated}
use Rattle.shr_laws.specs.declared.report.Report.{Report}
use Rattle.shr_laws.specs.Faithful.{IsFaithful}
use Rattle.shr_laws.specs.Lawful.{IsLawful}
use Rattle.shr_laws.specs.Parts.{answers_of, puts_of}
use Rattle.shr_laws.specs.WellFormed.{IsWellFormed}
use Rattle.shr_run.specs.Made.{IsReportOfRun}
use Rattle.shr_tool.specs.Done.{SourceSeen, SinkSeen}
use Rattle.shr_tool.specs.Top.{ReadsNothing, WritesNothing}
use Rattle.shr_outside.specs.Writing.{WrotePart}
use Rattle.shr_tool.specs.declared.status.Status.{Status}
use Rattle.shr_tool.specs.declared.status.Status.TheVariants as status

-- how many answers a report has
abbrev pub replies_of : Report → ℕ
replies_of r = sum_by (λ (w : WorkerPart). length w.answers.items) r.workers.items

-- the text of the five lines
abbrev pub five_lines : ℕ → ℕ → ℕ → ℕ → ℕ → ℕ → List ℕ
five_lines seed workers commands replies added kept =
    codes "gen " ++ decimal seed ++ codes " " ++ decimal workers ++ codes " " ++ decimal commands ++ codes "\nreplies " ++ decimal replies ++ codes "\nadded " ++ decimal added ++ codes "\nkept " ++ decimal kept ++ codes "\nend\n"

-- the answer isn't that there was no memory, nor that a counter is used up
abbrev pub IsUnhindered : Reply → Type 0
IsUnhindered Memory = ⊥
IsUnhindered (Worn spent) = ⊥
IsUnhindered reply = Unit {0}

-- no answer of the report is
abbrev pub HadEnough : Report → Type 0
HadEnough r = (worker k : ℕ) (a : Answered) → slice_get (answers_of r worker) k ≡ Some a → IsUnhindered a.reply

-- The text is that of a lawful, faithful and well formed report of the script that these numbers make: it has
-- as many replies as there are commands, and each object that was added was freed or is listed. Where
-- no answer is that memory was short or a counter used up, each put was added. It is the report of
-- tables that were opened for the script and ended after the logs of its workers.
pub record IsSummary (seed workers commands : ℕ) (answer : List ℕ) : Type 0 where
  pub script : Script
  pub report : Report
  pub content : content_of script ≡ generated seed workers commands
  pub lawful : IsLawful script report
  pub faithful : IsFaithful script report
  pub well_formed : IsWellFormed report
  pub made : IsReportOfRun script report
  pub lines : answer ≡ five_lines seed workers commands (replies_of report) report.added (report.freed + report.listed)
  pub replies : replies_of report ≡ workers * commands
  pub kept : report.freed + report.listed ≡ report.added
  pub added : HadEnough report → report.added ≡ puts_of script

-- the five lines were written
pub record IsSummed (seed workers commands : ℕ) (sink : SinkSeen) : Type 0 where
  pub answer : List ℕ
  pub summary : IsSummary seed workers commands answer
  pub written : Appends sink.written sink.written_after answer

-- the sink failed in this call, and a prefix of the five lines was written
pub record IsSummaryCut (seed workers commands : ℕ) (sink : SinkSeen) : Type 0 where
  pub rose : Rose sink.faults sink.faults_after
  pub answer : List ℕ
  pub summary : IsSummary seed workers commands answer
  pub part : WrotePart sink.written sink.written_after answer

-- a generated script is answered so
abbrev pub SummaryGives : ℕ → ℕ → ℕ → SinkSeen → Status → Type 0
SummaryGives seed workers commands sink status.Done = IsSummed seed workers commands sink
SummaryGives seed workers commands sink status.WriteFault = IsSummaryCut seed workers commands sink
SummaryGives seed workers commands sink status.Memory = WritesNothing sink
SummaryGives seed workers commands sink s = ⊥

-- with the words of `gen`
pub record GenGives (seed workers commands : ℕ) (source : SourceSeen) (sink : SinkSeen) (s : Status) : Type 0 where
  pub read : ReadsNothing source
  pub written : SummaryGives seed workers commands sink s
