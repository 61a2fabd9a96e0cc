-- SPDX-License-Identifier: GPL-2.0-only
use Rattle.shr_core.proofs.Common.{◌≡◌, length, AreFirstWords}
use Rattle.shr_core.proofs.opening.first_words.Given as goal

abbrev pub invariant-loop-i : goal.invariant-loop-i
invariant-loop-i l = (length l.words.items ≡ l.i) × AreFirstWords l.first l.words.items
