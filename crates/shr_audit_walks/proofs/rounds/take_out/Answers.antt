-- SPDX-License-Identifier: GPL-2.0-only
use Rattle.shr_audit_walks.proofs.RoundsCommon.{◌≡◌, ℕ, List, ap, length, subst, arith, times_over}
use Rattle.shr_audit_walks.proofs.Alike.{none_there}
use Rattle.shr_audit_walks.proofs.rounds.take_out.Goals as goal

pub returns : goal.returns
returns c =
    let kept = c.loop-k.invariant.kept in
    let long = ap length kept in
    let end = c.len-k-end.ensures in
    subst (λ (xs : List ℕ). times_over c.args.group xs ≡ 0) kept (none_there c.args.group c.loop-k.groups.items (λ k lt e. c.loop-k.invariant.none k (omega (arith, lt, long, end, c.args.groups.now.ok.0)) e))
