-- SPDX-License-Identifier: GPL-2.0-only
use Rattle.std.proofs.Common.{append_assoc}
use Rattle.shr_report.proofs.walks.add_cleared.Goals as goal

pub returns-in-Cleared-clause-text : goal.returns-in-Cleared-clause-text
returns-in-Cleared-clause-text c = rw c.in-Cleared.is (simp (c.number.ensures.text, c.word-start-in-Cleared.ensures.text, c.word-start.ensures.text, c.number-start-in-Cleared.ensures.text, c.number-start.ensures.text, append_assoc))

pub returns-in-RestoredSkip-clause-text : goal.returns-in-RestoredSkip-clause-text
returns-in-RestoredSkip-clause-text c = rw c.in-RestoredSkip.is (simp (c.number-in-RestoredSkip.ensures.text, c.word-start-in-RestoredSkip-3.ensures.text, c.word-start-in-RestoredSkip-2.ensures.text, c.number-start-in-RestoredSkip-3.ensures.text, c.word-start-in-RestoredSkip.ensures.text, c.number-start-in-RestoredSkip-2.ensures.text, c.number-start-in-RestoredSkip.ensures.text, append_assoc))
