-- SPDX-License-Identifier: GPL-2.0-only
-- Where the report of a run comes from: the tables that were opened for its script.
use Rattle.std.specs.Prelude.{ℕ, List}
use Rattle.shr_run.specs.Made.{IsReportOfRun}
use Rattle.shr_tool.specs.Done.{ReadAll, script_limit, SourceSeen, SinkSeen, IsDone}
use Rattle.shr_tool.specs.declared.status.Status.{Status}
use Rattle.shr_tool.specs.declared.status.Status.TheVariants.{Done}

-- The job is done, and the report that was written is of tables that were opened for the very script
-- that was read, and ended after the logs of its workers.
pub record IsTraced (source : SourceSeen) (sink : SinkSeen) : Type 0 where
  pub done : IsDone source sink
  pub of_run : IsReportOfRun done.script done.report

-- with the word `run`
abbrev pub TracedGives : SourceSeen → SinkSeen → Status → Type 0
TracedGives source sink Done = IsTraced source sink
TracedGives source sink status = Unit {0}

-- bytes that were read to the end of a source are answered so, whichever source it was
abbrev pub TracedAnswer : List ℕ → SinkSeen → Status → Type 0
TracedAnswer bytes sink Done = (source : SourceSeen) → ReadAll script_limit source.left source.left_after bytes → IsTraced source sink
TracedAnswer bytes sink status = Unit {0}
