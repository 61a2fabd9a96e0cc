-- SPDX-License-Identifier: GPL-2.0-only
use Rattle.shr_list.proofs.Common.{refl, pinned_object}
use Rattle.shr_list.proofs.Chains.{writes_object}
use Rattle.shr_list.proofs.queue.chain.Chain.set_pin.Goals as goal

pub returns : goal.returns
returns c = writes_object c.args.self.now c.args.node c.index_mut.result.now _ c.index_mut.ensures.value (pinned_object c.args.pinned) refl refl refl
