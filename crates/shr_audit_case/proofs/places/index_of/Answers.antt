-- SPDX-License-Identifier: GPL-2.0-only
use Rattle.shr_audit_case.proofs.Common.{sym, ◌∙◌, arith, slice_get_within}
use Rattle.shr_audit_case.proofs.Firsts.{index_here, other_here}
use Rattle.shr_audit_case.proofs.Order.{first_here, away_here}
use Rattle.shr_audit_case.proofs.places.index_of.Goals.{else-k-ends-via-then-k-ends+else-is_place, else-k-ends-via-else-k-ends}
use Rattle.shr_audit_case.proofs.places.index_of.Goals as goal

pub returns-then-is_place-clause-some : goal.returns-then-is_place-clause-some
returns-then-is_place-clause-some c = index_here c.args.ends.now c.args.place c.index_from-k.result c.index-ends-k.result c.if-k-ends.true (sym c.is_place.ensures ∙ c.if-is_place.true)
    (first_here c.args.ends.now c.args.place c.index_from-k.result c.index_from-k.ensures.before)

pub returns-else-k-ends-clause-none : goal.returns-else-k-ends-clause-none
returns-else-k-ends-clause-none c = away_here c.args.ends.now c.args.place c.index_from-k.result c.requires c.index_from-k.ensures.before c.index_from-k.ensures.behind
    (elim c.else-k-ends.branch [
      | else-k-ends-via-then-k-ends+else-is_place w ↦ λ x at. other_here c.args.ends.now c.args.place c.index_from-k.result w.index-ends-k.result x (sym w.is_place.ensures ∙ w.if-is_place.false) at
      | else-k-ends-via-else-k-ends w ↦ λ x at same. let lt = slice_get_within c.args.ends.now c.index_from-k.result x at in let past = w.if-k-ends.false in omega arith
    ])
