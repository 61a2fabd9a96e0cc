-- SPDX-License-Identifier: GPL-2.0-only
use Rattle.shr_outside.proofs.Printing.{prints_both, prints_as}
use Rattle.shr_report.proofs.Spaced.{words_more}
use Rattle.shr_report.proofs.lines.put_words.Goals as goal

pub loop-word-preserved : goal.loop-word-preserved
loop-word-preserved g c = prints_as _ _ _ _ _ _ (prints_both _ _ _ _ _ _ _ c.loop-word.invariant c.put_word.ensures) (words_more c.args.words.now c.loop-word.word-index _ c.loop-word-test.true)
