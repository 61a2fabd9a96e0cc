-- SPDX-License-Identifier: GPL-2.0-only
use Rattle.shr_audit_case.proofs.RegistrationsCommon.{Bool, Some, cond, ap, ◌∙◌, nat_cmp, get}
use Rattle.shr_audit_case.proofs.Noting.{at_same, noted_unregistered}
use Rattle.shr_audit_case.proofs.met.note_unregistered.Goals as goal

pub returns : goal.returns
returns c = λ decl es spans h.
    noted_unregistered decl c.args.id c.args.to es spans c.args.ends.now c.insert.new.self
    (λ id. c.in_ok-insert.ensures.updates.0 id ∙ ap (λ (b : Bool). cond b (Some c.args.to) (get nat_cmp c.args.ends.now id)) (at_same c.args.id id)) h
