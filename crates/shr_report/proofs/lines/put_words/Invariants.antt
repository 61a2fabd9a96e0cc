-- SPDX-License-Identifier: GPL-2.0-only
use Rattle.shr_report.proofs.Common.{take, Prints, spaced, word_texts}
use Rattle.shr_report.proofs.lines.put_words.Given as goal

abbrev pub invariant-loop-word : goal.invariant-loop-word
invariant-loop-word g l = Prints g.K.Sink.written g.K.Sink.faults l.fn.out l.out (spaced (word_texts (take l.word-index l.words)))
