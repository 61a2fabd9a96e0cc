-- SPDX-License-Identifier: GPL-2.0-only
use Rattle.shr_audit_case.proofs.RegistrationsCommon.{◌+◌, Bool, Some, cond, ap, ◌∙◌, nat_cmp, get}
use Rattle.shr_audit_case.proofs.Noting.{at_same}
use Rattle.shr_audit_case.proofs.Spanning.{lives_unregistered}
use Rattle.shr_audit_case.proofs.live.note_unregistered.Goals as goal

pub returns : goal.returns
returns c = λ decl es spans h.
    lives_unregistered c.args.at decl c.args.id c.args.to es spans c.args.ends.now c.insert.new.self
    (λ id. c.in_ok-insert.ensures.updates.0 id ∙ ap (λ (b : Bool). cond b (Some (record { to = c.args.to; behind = c.args.at + 1 })) (get nat_cmp c.args.ends.now id)) (at_same c.args.id id)) h
