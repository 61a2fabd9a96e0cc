-- SPDX-License-Identifier: GPL-2.0-only
-- What is tested of a found cache, against what the law says of it.
use Rattle.shr_audit_tables.proofs.LookupsCommon.{◌≡◌, ℕ, ◌≤◌, Bool, length, Some, refl, sym, ap, subst, ◌∙◌, Decides, Report, true, false, cond, take, drop, Option, None, IsLiveRight}
use Rattle.shr_base.specs.declared.replies.Found.{Found}
use Rattle.shr_model.specs.Pool.{decl_of, end_of, from_of, is_live}
use Rattle.shr_laws.specs.Lookups.{IsFoundRight}
use Rattle.shr_audit_case.specs.declared.steps.Registration.{Registration}
use Rattle.shr_audit_case.specs.Live.{live_now}

-- the registration that the id of a found cache was in
abbrev now : Report → Found → Registration
now r f = record { decl = decl_of f.id (take f.entry r.pool.items); from = from_of f.id (take f.entry r.pool.items); to = end_of f.id (drop f.entry r.pool.items) }

pub found_decided : (r : Report) (decl : ℕ) (f : Found) (live : Option Registration) (b : Bool) → f.entry ≤ length r.pool.items → live ≡ live_now f.id r.pool.items f.entry
    → Decides b (IsLiveRight live decl f.number) → Decides b (IsFoundRight r decl f)
found_decided r decl f live b there e d = by (is_live f.id (take f.entry r.pool.items)) refl
  where
    by : (l : Bool) → is_live f.id (take f.entry r.pool.items) ≡ l → Decides b (IsFoundRight r decl f)
    by true is =
        let at : live ≡ Some (now r f) = e ∙ ap (λ (l : Bool). cond l (Some (now r f)) None) is in
        let d' : Decides b (IsLiveRight (Some (now r f)) decl f.number) = subst (λ (o : Option Registration). Decides b (IsLiveRight o decl f.number)) at d in (
          λ t. (let h = d'.0 t in record { there = there; live = is; decl_is = h.0; from = h.1.0; to = h.1.1 }),
          λ h. d'.1 (h.decl_is, (h.from, h.to)),
        )
    by false is =
        let at : live ≡ None = e ∙ ap (λ (l : Bool). cond l (Some (now r f)) None) is in
        let d' : Decides b (IsLiveRight None decl f.number) = subst (λ (o : Option Registration). Decides b (IsLiveRight o decl f.number)) at d in (
          λ t. absurd (d'.0 t),
          λ h. absurd (let g : false ≡ true = sym is ∙ h.live in cc),
        )
