-- SPDX-License-Identifier: GPL-2.0-only
use Rattle.shr_tool.proofs.Common.{◌≡◌, take, length, sum_by}
use Rattle.shr_tool.proofs.summary.count_answers.Given as goal

abbrev pub invariant-loop-part : goal.invariant-loop-part
invariant-loop-part l = l.count ≡ sum_by (λ w. length w.answers.items) (take l.part-index l.parts)
