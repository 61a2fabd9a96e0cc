-- SPDX-License-Identifier: GPL-2.0-only
use Rattle.shr_audit_rows.proofs.Common.{◌≡◌, ◌∙◌, ℕ, ◌<◌, false, arith, below_more, sym, is_free_in}
use Rattle.shr_audit_rows.proofs.PooledLaws.{free_is, none_free, one_free}
use Rattle.shr_audit_rows.proofs.pooled.Pooled.has_free.Goals as goal

pub loop-id-preserved : goal.loop-id-preserved
loop-id-preserved c = below_more (λ (k : ℕ). is_free_in c.args.self.now.phases.items k ≡ false) c.loop-id.id c.loop-id.invariant (sym c.is_free.ensures ∙ c.if-is_free.false)

pub returns-then-is_free : goal.returns-then-is_free
returns-then-is_free c = λ es st.
    let lt : c.loop-id.id < 65536 = omega arith in
    one_free c.args.ids c.loop-id.id es c.loop-id-test.true (sym (free_is es c.args.self.now.phases.items c.args.self.now.decls.items c.loop-id.id lt st) ∙ (sym c.is_free.ensures ∙ c.if-is_free.true))

pub returns : goal.returns
returns c = λ es st. none_free c.args.ids es (λ k lt.
    (let few : k < 65536 = omega arith in
    let there : k < c.loop-id.id = omega arith in
    sym (free_is es c.args.self.now.phases.items c.args.self.now.decls.items k few st) ∙ c.loop-id.invariant k there))
