-- SPDX-License-Identifier: GPL-2.0-only
use Rattle.shr_base.specs.declared.walks.PassRecord.{PassRecord}
use Rattle.shr_audit_case.proofs.Gaining.{gains_as, walk_all}
use Rattle.shr_audit_case.proofs.deferred.note_walk.Goals as goal

pub returns : goal.returns
returns c = let e = c.attempts-attempt-items.ensures in let out = c.loop-attempt-test.false in
    gains_as _ _ _ _ _ _ c.loop-attempt.invariant (λ p. walk_all (λ (x : PassRecord). x.next) p c.args.walk.now c.loop-attempt.attempt-index (rw e at out)) (λ p. walk_all (λ (x : PassRecord). x.nr) p c.args.walk.now c.loop-attempt.attempt-index (rw e at out))
