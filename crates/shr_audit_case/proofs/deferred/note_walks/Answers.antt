-- SPDX-License-Identifier: GPL-2.0-only
use Rattle.shr_base.specs.declared.walks.PassRecord.{PassRecord}
use Rattle.shr_audit_case.proofs.Gaining.{gains_as, walks_all}
use Rattle.shr_audit_case.proofs.deferred.note_walks.Goals as goal

pub returns : goal.returns
returns c = gains_as _ _ _ _ _ _ c.loop-walk.invariant (λ p. walks_all (λ (x : PassRecord). x.next) p c.args.walks.now c.loop-walk.walk-index c.loop-walk-test.false) (λ p. walks_all (λ (x : PassRecord). x.nr) p c.args.walks.now c.loop-walk.walk-index c.loop-walk-test.false)
