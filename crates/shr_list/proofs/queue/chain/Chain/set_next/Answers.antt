-- SPDX-License-Identifier: GPL-2.0-only
use Rattle.std.proofs.Common.{refl}
use Rattle.shr_list.proofs.Chains.{writes_next}
use Rattle.shr_list.proofs.queue.chain.Chain.set_next.Goals as goal

pub returns-in-Some : goal.returns-in-Some
returns-in-Some c = rw c.in-Some.is (writes_next c.args.self.now c.in-Some.node c.index_mut.result.now _ c.index_mut.ensures.value refl refl)
