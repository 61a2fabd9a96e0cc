-- SPDX-License-Identifier: GPL-2.0-only
use Rattle.shr_audit_rows.proofs.Common.{◌∙◌, ◌<◌, ◌+◌, ◌++◌, ◌∷◌, [], ℕ, length, get_or, set, ap, arith, subst, sym, get_or_default, decl_after, id_of, Stands}
use Rattle.shr_audit_rows.proofs.PooledLaws.{stands_next}
use Rattle.shr_audit_rows.proofs.pooled.Pooled.note.Goals as goal

pub returns : goal.returns
returns c = λ es st.
    let e = c.args.entry in
    let i = c.id_of-id.result in
    let is = c.id_of-id.ensures in
    let phases = c.args.self.now.phases.items in
    let decls = c.args.self.now.decls.items in
    let few : i < 65536 = omega arith in
    let at_phase : i < length phases = (let long = c.requires.sized.phase_count in omega (arith, long, few)) in
    let at_decl : i < length decls = (let long = c.requires.sized.decl_count in omega (arith, long, few)) in
    let phase = c.index-2.ensures ∙ get_or_default phases i c.index-2.result.now 0 at_phase ∙ ap (λ (k : ℕ). get_or phases k 0) is in
    let decl = c.index.ensures ∙ get_or_default decls i c.index.result.now 0 at_decl ∙ ap (λ (k : ℕ). get_or decls k 0) is in
    subst (λ (k : ℕ). Stands (es ++ e ∷ []) (set phases k (c.index-2.result.now + 1)) (set decls k c.decl_after-decl.result)) (sym is)
    (stands_next es e phases decls (subst (λ (k : ℕ). k < 65536) is few) (c.index-2.result.now + 1) c.decl_after-decl.result (ap (λ (n : ℕ). n + 1) phase)
    (c.decl_after-decl.ensures ∙ ap (λ (d : ℕ). decl_after (id_of e) d e) decl) st)

pub overflow_add-phase : goal.overflow_add-phase
overflow_add-phase c =
    let i = c.id_of-id.result in
    let phases = c.args.self.now.phases.items in
    let few : i < 65536 = omega arith in
    let at_phase : i < length phases = (let long = c.requires.sized.phase_count in omega (arith, long, few)) in
    let e = c.index-2.ensures ∙ get_or_default phases i c.index-2.result.now 0 at_phase in
    let h = c.requires.room i few in
    omega (arith, e, h)
