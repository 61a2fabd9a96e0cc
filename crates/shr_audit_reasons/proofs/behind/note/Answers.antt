-- SPDX-License-Identifier: GPL-2.0-only
use Rattle.shr_audit_reasons.proofs.Common.{◌≡◌, ◌<◌, ◌∷◌, [], ◌++◌, ℕ, ap, get_or, length, sym, subst, ◌∙◌, Registered, id_of}
use Rattle.shr_audit_reasons.proofs.Behinds.{any_default, behinds_next}
use Rattle.shr_audit_reasons.proofs.behind.note.Goals as goal

pub returns-clause-behinds : goal.returns-clause-behinds
returns-clause-behinds c =
    let pool = c.args.pool.now in
    let lasts = c.args.lasts.now.items in
    let behinds = c.args.behinds.now.items in
    let d = Registered 0 0 0 in
    let own = id_of (get_or pool c.args.n d) in
    let id : c.id_of-id.result ≡ own = c.id_of-id.ensures in
    let few : c.id_of-id.result < 65536 = c.id_of-id.type_inv in
    let few_own : own < 65536 = subst (λ (k : ℕ). k < 65536) id few in
    let there : own < length lasts = subst (λ (k : ℕ). own < k) (sym c.requires.lasts.count) few_own in
    let at : c.index-behind.result.now ≡ get_or lasts own 0 =
    c.index-behind.ensures ∙ ap (λ (k : ℕ). get_or lasts k c.index-behind.result.now) id ∙ any_default lasts own c.index-behind.result.now 0 there in
    behinds_next pool c.args.n d lasts behinds few_own c.requires.there c.requires.lasts c.requires.behinds c.push.new.self.items
    (c.in_ok-push.ensures.items ∙ ap (λ (k : ℕ). behinds ++ k ∷ []) at)
