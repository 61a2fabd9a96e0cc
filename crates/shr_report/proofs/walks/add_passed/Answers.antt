-- SPDX-License-Identifier: GPL-2.0-only
use Rattle.std.proofs.Common.{append_assoc}
use Rattle.shr_report.proofs.walks.add_passed.Goals as goal

pub returns-in-RestoredRan-clause-text : goal.returns-in-RestoredRan-clause-text
returns-in-RestoredRan-clause-text c = rw c.in-RestoredRan.is (simp (c.number-in-RestoredRan.ensures.text, c.word-start-in-RestoredRan-2.ensures.text, c.word-start-in-RestoredRan.ensures.text, c.number-start.ensures.text, c.add_ran-start-in-RestoredRan.ensures.text, append_assoc))
