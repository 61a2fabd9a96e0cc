-- SPDX-License-Identifier: GPL-2.0-only
use Rattle.shr_audit_tables.proofs.Common.{◌≡◌, ℕ, Some, refl, slice_get, Registered}
use Rattle.shr_audit_tables.proofs.Steps.{failed}
use Rattle.shr_audit_tables.proofs.Replay.{opening_at, opened_at, too_short, all_opened}
use Rattle.shr_audit_tables.proofs.lookups.opens.Goals as goal
use Rattle.shr_audit_formed.proofs.Eachs.{at_copied}

pub returns-then-n-pool : goal.returns-then-n-pool
returns-then-n-pool c = (λ t. absurd cc, λ h. absurd (too_short c.args.on.now c.args.pool.now c.loop-n.n c.loop-n-test.true c.if-n-pool.true h))

pub returns-then-not-is_opening : goal.returns-then-not-is_opening
returns-then-not-is_opening c = (λ t. absurd cc, λ h. absurd (failed _ c.is_opening.result c.is_opening.ensures c.if-not-is_opening.true (opening_at c.args.on.now c.args.pool.now c.loop-n.n _ _ c.loop-n-test.true c.if-n-pool.false h)))

pub loop-n-preserved : goal.loop-n-preserved
loop-n-preserved c = at_copied (λ n (decl : ℕ). slice_get c.args.pool.now n ≡ Some (Registered decl n 0)) c.args.on.now c.loop-n.n _ c.loop-n-test.true c.loop-n.invariant (opened_at c.args.on.now c.args.pool.now c.loop-n.n _ _ c.if-n-pool.false (c.is_opening.ensures.0 c.if-not-is_opening.false))

pub returns : goal.returns
returns c = (λ t. all_opened c.args.on.now c.args.pool.now c.loop-n.n c.loop-n-test.false c.loop-n.invariant, λ h. refl)
