-- SPDX-License-Identifier: GPL-2.0-only
use Rattle.shr_charge.proofs.Common.{sym, ◌∙◌, arith, is_like}
use Rattle.shr_charge.proofs.Searches.{found_first, none_more}
use Rattle.shr_charge.proofs.searching.first_like.Goals as goal

pub returns-then-is_like : goal.returns-then-is_like
returns-then-is_like c = found_first (is_like c.args.wanted) c.args.entries.now c.loop-i.i _ (omega arith) c.loop-i.invariant (sym c.is_like.ensures ∙ c.if-is_like.true)

pub loop-i-preserved : goal.loop-i-preserved
loop-i-preserved c = none_more (is_like c.args.wanted) c.args.entries.now c.loop-i.i _ (omega arith) c.loop-i.invariant (sym c.is_like.ensures ∙ c.if-is_like.false)
