-- SPDX-License-Identifier: GPL-2.0-only
use Rattle.shr_report.proofs.Common.{take, flat_map, Prints, deferred_line}
use Rattle.shr_report.proofs.between.deferred.Given as goal

abbrev pub invariant-loop-word : goal.invariant-loop-word
invariant-loop-word g l = Prints g.K.Sink.written g.K.Sink.faults l.fn.out l.out (flat_map deferred_line (take l.word-index l.words))
