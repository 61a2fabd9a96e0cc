-- SPDX-License-Identifier: GPL-2.0-only
use Rattle.std.proofs.Common.{◌∙◌, refl, sym}
use Rattle.shr_audit_causes.proofs.BeganLaws.{upto_noted}
use Rattle.shr_audit_causes.proofs.began.Began.note.Goals as goal

pub returns-then-is_idle : goal.returns-then-is_idle
returns-then-is_idle c = upto_noted c.args.report.now.pool.items c.as_slice-pool.result.now c.args.n _ c.args.self.now _ c.id_of-id.result c.index-from.result.now c.from_after-after.result _ c.as_slice-pool.ensures c.id_of-id.ensures c.id_of-id.type_inv c.requires.there c.requires.upto
    c.index-from.ensures c.from_after-after.ensures (sym c.if-is_idle.true ∙ c.is_idle.ensures) c.in_ok-push.ensures.items refl refl

pub returns-else-is_idle : goal.returns-else-is_idle
returns-else-is_idle c = upto_noted c.args.report.now.pool.items c.as_slice-pool.result.now c.args.n _ c.args.self.now _ c.id_of-id.result c.index-from.result.now c.from_after-after.result _ c.as_slice-pool.ensures c.id_of-id.ensures c.id_of-id.type_inv c.requires.there c.requires.upto
    c.index-from.ensures c.from_after-after.ensures (sym c.if-is_idle.false ∙ c.is_idle.ensures) c.in_ok-push.ensures.items refl refl
