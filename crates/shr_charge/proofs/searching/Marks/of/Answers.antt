-- SPDX-License-Identifier: GPL-2.0-only
use Rattle.shr_charge.proofs.Common.{false, arith, get_or-replicate, is_making, is_done}
use Rattle.shr_charge.proofs.Searches.{marked_more}
use Rattle.shr_charge.proofs.searching.Marks.of.Goals as goal

pub loop-i-preserved : goal.loop-i-preserved
loop-i-preserved c = record {
  made = λ g low. marked_more (is_making g) c.args.entries.now c.loop-i.i _ (omega arith) _ _ (c.note.ensures.made g low) (c.loop-i.invariant.made g low);
  done = λ g low. marked_more (is_done g) c.args.entries.now c.loop-i.i _ (omega arith) _ _ (c.note.ensures.done g low) (c.loop-i.invariant.done g low);
}

pub loop-i-init : goal.loop-i-init
loop-i-init c = record {
  made = λ g low. get_or-replicate 256 g false false low;
  done = λ g low. get_or-replicate 256 g false false low;
}
