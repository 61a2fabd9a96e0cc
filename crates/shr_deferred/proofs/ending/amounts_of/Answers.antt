-- SPDX-License-Identifier: GPL-2.0-only
use Rattle.shr_deferred.proofs.Common.{sym, ◌∙◌, arith, slots_items}
use Rattle.shr_deferred.proofs.Amounts.{amounts_none, amounts_skip, amounts_push, word_read}
use Rattle.shr_deferred.proofs.ending.amounts_of.Goals as goal

pub loop-i-init : goal.loop-i-init
loop-i-init c = c.new-left.ensures.items ∙ sym (amounts_none _ _)

pub loop-i-preserved-then-amount-eq0 : goal.loop-i-preserved-then-amount-eq0
loop-i-preserved-then-amount-eq0 c = c.loop-i.invariant ∙ sym (amounts_skip _ _ _ (word_read (slots_items c.args.closed.now.words) c.loop-i.i c.word-amount.result c.word-amount.ensures (omega arith) ∙ c.if-amount-eq0.true))

pub loop-i-preserved : goal.loop-i-preserved
loop-i-preserved c = amounts_push _ _ _ _ _ _ _ c.loop-i.invariant c.in_ok-add.ensures.added c.place.ensures (word_read (slots_items c.args.closed.now.words) c.loop-i.i c.word-amount.result c.word-amount.ensures (omega arith)) c.if-amount-eq0.false
