-- SPDX-License-Identifier: GPL-2.0-only
-- The field of the law on causes that is about replies.
use Rattle.shr_base.specs.declared.scripts.Script.{Script}
use Rattle.shr_laws.specs.declared.report.Report.{Report}
use Rattle.shr_laws.specs.Parts.{EachAnswer}
use Rattle.shr_laws.specs.ReplyTable.{HasCause}

-- each answer has its cause
abbrev pub AreRowsCaused : Script → Report → Type 0
AreRowsCaused s r = EachAnswer s r (λ by c a. HasCause s r by c a.reply)
