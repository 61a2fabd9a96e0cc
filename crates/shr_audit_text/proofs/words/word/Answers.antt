-- SPDX-License-Identifier: GPL-2.0-only
use Rattle.shr_model.specs.PieceParts.{left}
use Rattle.shr_audit_text.proofs.Onto.{none_left}
use Rattle.shr_audit_text.proofs.words.word.Goals as goal

pub returns-in-None-clause-later : goal.returns-in-None-clause-later
unfolding left
returns-in-None-clause-later c = let e = c.in-None.ensures in none_left _ e
