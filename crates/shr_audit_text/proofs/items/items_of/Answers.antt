-- SPDX-License-Identifier: GPL-2.0-only
use Rattle.shr_audit_text.proofs.Common.{◌≡◌, ℕ, Some, None, subst, arith, get, Updates}
use Rattle.shr_audit_text.proofs.Linking.{more_linked}
use Rattle.shr_audit_text.proofs.items.items_of.Goals as goal

pub loop-object-preserved : goal.loop-object-preserved
loop-object-preserved c =
    let key = c.in-Ok-insert.ensures.key in let vacant = c.vacant_key.ensures.value in let told = c.in-Ok.ensures in
    let same : c.in-Ok-insert.field-0 ≡ c.in-Ok.key = omega (arith, key, vacant, told) in
    more_linked c.loop-object.nodes c.insert.new.self c.loop-object.head c.in-Ok.key c.in-Some.object c.args.objects.items c.loop-object.objects.items c.pop.new.self.items
    c.loop-object.invariant.0 c.loop-object.invariant.1 c.in-Some.ensures.items (subst (λ (k : ℕ). get c.loop-object.nodes k ≡ None) same c.in-Ok-insert.ensures.was_vacant)
    (subst (λ (k : ℕ). Updates c.loop-object.nodes c.insert.new.self k (Some (record { object = c.in-Some.object; prev = None; next = c.loop-object.head }))) same c.in-Ok-insert.ensures.updates) c.in-Ok-insert.ensures.len
