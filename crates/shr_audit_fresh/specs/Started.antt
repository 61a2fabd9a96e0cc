-- SPDX-License-Identifier: GPL-2.0-only
-- Begins that are shown, against the table of who may have begun. No public clause cites this.
use Rattle.std.specs.Prelude.{◌≡◌, ℕ, Bool, true, false, not, ◌||◌, ◌==◌, nat_le, List}
use Rattle.std.specs.List.{list_any}
use Rattle.shr_base.specs.declared.replies.Answered.{Answered}
use Rattle.shr_base.specs.Walks.{WalkRecord}
use Rattle.shr_audit_reasons.specs.declared.cites.Cited.{Cited}
use Rattle.shr_audit_reasons.specs.declared.cites.Cited.TheVariants.{Never, Once, Often}
use Rattle.shr_audit_reasons.specs.Cites.{cited_in}
use Rattle.shr_laws.specs.declared.report.Report.{Report}
use Rattle.shr_laws.specs.Freshness.{is_begin_at, of_answer, tree_cited, walk_cited}
use Rattle.shr_laws.specs.Parts.{serial_of}

-- one of those that are noted is of another worker, or not behind this command
abbrev pub may_show : Cited → ℕ → ℕ → Bool
may_show Never worker command = false
may_show (Once w c) worker command = not (w == worker) || nat_le c command
may_show (Often w c others) worker command = others || (not (w == worker) || nat_le c command)

-- so it is of each group of which one of these entries is the Begin
abbrev pub IsEntryStarted : Report → List Cited → ℕ → ℕ → List ℕ → Type 0
IsEntryStarted r begun worker command ns = (group : ℕ) → list_any (is_begin_at r group) ns ≡ true → may_show (cited_in begun group) worker command ≡ true

-- and of what the answers of a worker cite
abbrev pub AreAnswersStarted : Report → List Cited → ℕ → Type 0
AreAnswersStarted r begun worker = (k : ℕ) → IsEntryStarted r begun worker k (of_answer r (serial_of worker k) (λ (a : Answered). tree_cited a.reply))

-- and of what a walk cites, if it is of the worker
abbrev pub IsWalkStarted : Report → List Cited → ℕ → WalkRecord → Type 0
IsWalkStarted r begun worker w = w.by.worker ≡ worker → IsEntryStarted r begun worker w.by.command (walk_cited w.answer)
