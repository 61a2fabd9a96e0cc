-- SPDX-License-Identifier: GPL-2.0-only
use Rattle.std.proofs.Common.{append_assoc}
use Rattle.shr_report.proofs.walks.add_outcome.Goals as goal

pub returns-in-Skip-clause-text : goal.returns-in-Skip-clause-text
returns-in-Skip-clause-text c = rw c.in-Skip.is (simp (c.number-in-Skip.ensures.text, c.word-start-in-Skip-2.ensures.text, c.word-start-in-Skip.ensures.text, c.number-start-in-Skip-2.ensures.text, c.number-start-in-Skip.ensures.text, append_assoc))

pub returns-in-Empty-clause-text : goal.returns-in-Empty-clause-text
returns-in-Empty-clause-text c = rw c.in-Empty.is (simp (c.number-in-Empty.ensures.text, c.word-start-in-Empty-2.ensures.text, c.word-start-in-Empty.ensures.text, c.number-start-in-Empty.ensures.text, append_assoc))
