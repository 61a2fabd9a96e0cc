-- SPDX-License-Identifier: GPL-2.0-only
use Rattle.shr_audit_rows.proofs.Common.{◌≡◌, ◌∙◌, ℕ, ◌<◌, false, arith, subst, sym, is_live_below}
use Rattle.shr_audit_rows.proofs.PooledLaws.{live_found, live_next}
use Rattle.shr_audit_rows.proofs.pooled.Pooled.is_live.Goals as goal
use Rattle.shr_model.proofs.PoolLaws.{live_none}

pub loop-id-init : goal.loop-id-init
loop-id-init c = λ es st. live_none c.args.decl es

pub loop-id-preserved : goal.loop-id-preserved
loop-id-preserved c = λ es st.
    let lt : c.loop-id.id < 65536 = omega arith in
    live_next es c.args.self.now.phases.items c.args.self.now.decls.items c.args.decl c.loop-id.id lt st (sym c.is_live_as.ensures ∙ c.if-is_live_as.false) (c.loop-id.invariant es st)

pub returns-then-is_live_as : goal.returns-then-is_live_as
returns-then-is_live_as c = λ es st.
    let lt : c.loop-id.id < 65536 = omega arith in
    live_found es c.args.self.now.phases.items c.args.self.now.decls.items c.args.decl c.loop-id.id c.args.ids lt c.loop-id-test.true st (sym c.is_live_as.ensures ∙ c.if-is_live_as.true)

pub returns : goal.returns
returns c = λ es st.
    let same : c.loop-id.id ≡ c.args.ids = omega arith in
    sym (subst (λ (n : ℕ). is_live_below c.args.decl n es ≡ false) same (c.loop-id.invariant es st))
