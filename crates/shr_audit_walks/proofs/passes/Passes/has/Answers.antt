-- SPDX-License-Identifier: GPL-2.0-only
use Rattle.shr_audit_walks.proofs.ScansCommon.{ℕ, Bool, sym, subst, Contains, Decides, keys_of_report}
use Rattle.shr_audit_walks.proofs.Found.{found_if_there}
use Rattle.shr_audit_walks.proofs.passes.Passes.has.Goals as goal

pub returns : goal.returns
returns c = λ r passes.
    let all = keys_of_report r in
    let found = found_if_there all c.args.self.now.keys.items c.deref.result.now c.key_of-key.result c.binary_search.result c.deref.ensures.value passes.order passes.same c.binary_search.ensures.position in
    let by_key : Decides c.is_ok.result (Contains all c.key_of-key.result) = subst (λ (b : Bool). Decides b (Contains all c.key_of-key.result)) (sym c.is_ok.ensures.value) found in
    subst (λ (key : ℕ). Decides c.is_ok.result (Contains all key)) c.key_of-key.ensures.key by_key
