-- SPDX-License-Identifier: GPL-2.0-only
use Rattle.shr_audit_lists.proofs.Common.{ℕ, PlaceEnd, IsFirst}
use Rattle.shr_audit_lists.proofs.Loops.{one_fails, all_so}
use Rattle.shr_audit_lists.proofs.places.are_firsts.Goals as goal

pub returns-then-not-is_first : goal.returns-then-not-is_first
returns-then-not-is_first c = one_fails (λ (n : ℕ) (x : PlaceEnd). IsFirst c.args.ends.now n x.place) c.args.ends.now c.loop-k.k c.is_first.result c.loop-k-test.true c.if-not-is_first.true c.is_first.ensures

pub returns : goal.returns
returns c = all_so (λ (n : ℕ) (x : PlaceEnd). IsFirst c.args.ends.now n x.place) c.args.ends.now c.loop-k.k c.loop-k-test.false c.loop-k.invariant
