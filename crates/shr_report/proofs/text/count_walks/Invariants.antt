-- SPDX-License-Identifier: GPL-2.0-only
use Rattle.shr_report.proofs.Common.{◌≡◌, take, length, sum_by}
use Rattle.shr_report.proofs.text.count_walks.Given as goal

abbrev pub invariant-loop-part : goal.invariant-loop-part
invariant-loop-part l = l.count ≡ sum_by (λ w. length w.walks.items) (take l.part-index l.parts)
