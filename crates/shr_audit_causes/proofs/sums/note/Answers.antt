-- SPDX-License-Identifier: GPL-2.0-only
use Rattle.shr_audit_causes.proofs.UnregistersCommon.{◌+◌, ◌*◌, subst, sym, Entry, Serial, drained_by, AreSums}
use Rattle.shr_audit_causes.proofs.SumsLaws.{noted_drained}
use Rattle.shr_audit_causes.proofs.sums.note.Goals as goal

pub returns-in_ok-add-in-Drained : goal.returns-in_ok-add-in-Drained
returns-in_ok-add-in-Drained c = λ total h.
    let by = c.in-Drained.by in
    let objects = c.in-Drained.objects in
    subst (λ (e : Entry). AreSums c.add.new.sums (λ (x : Serial). total x + c.args.times * drained_by x e)) (sym c.in-Drained.is)
    (noted_drained c.add.new.sums by c.args.times objects total (c.in_ok-add-in-Drained.ensures total (c.args.times * objects) c.saturating_mul-more.ensures h))
