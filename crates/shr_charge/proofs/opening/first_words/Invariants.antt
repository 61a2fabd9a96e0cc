-- SPDX-License-Identifier: GPL-2.0-only
use Rattle.shr_charge.proofs.FirstWords.{AreFirstTo}
use Rattle.shr_charge.proofs.opening.first_words.Given as goal

abbrev pub invariant-loop-group : goal.invariant-loop-group
invariant-loop-group l = AreFirstTo l.later l.group l.words.items
