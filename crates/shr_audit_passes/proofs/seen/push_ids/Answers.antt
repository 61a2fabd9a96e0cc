-- SPDX-License-Identifier: GPL-2.0-only
use Rattle.std.proofs.Common.{◌++◌, List, ℕ, Vec, Global, sym, ap, ◌∙◌, arith}
use Rattle.std.proofs.lemmas.List.{append-nil}
use Rattle.shr_audit_passes.proofs.Rising.{no_ids, id_added, id_passed, ids_whole}
use Rattle.shr_audit_passes.proofs.seen.push_ids.Goals as goal
use Rattle.shr_audit_passes.proofs.seen.push_ids.Goals.{then-is_set+in_ok-push, else-is_set}

pub loop-bit-init : goal.loop-bit-init
loop-bit-init c = sym (ap (λ (xs : List ℕ). c.args.ids.now.items ++ xs) (no_ids c.args.map.unit c.args.map.bits) ∙ append-nil c.args.ids.now.items)

pub loop-bit-preserved : goal.loop-bit-preserved
loop-bit-preserved c = elim c.if-is_set.branch [
  | then-is_set+in_ok-push w ↦
      id_added c.args.ids.now.items c.loop-bit.ids.items c.if-is_set.ids.items c.args.map.unit c.args.map.bits c.loop-bit.bit c.loop-bit.invariant (sym c.is_set.ensures ∙ w.if-is_set.true) (ap (λ (v : Vec ℕ Global). v.items) w.ids-is ∙ w.in_ok-push.ensures.items)
  | else-is_set w ↦
      ap (λ (v : Vec ℕ Global). v.items) w.ids-is ∙ id_passed c.args.ids.now.items c.loop-bit.ids.items c.args.map.unit c.args.map.bits c.loop-bit.bit c.loop-bit.invariant (sym c.is_set.ensures ∙ w.if-is_set.false)
]

pub returns : goal.returns
returns c = c.loop-bit.invariant ∙ ap (λ (xs : List ℕ). c.args.ids.now.items ++ xs) (ids_whole c.args.map.unit c.args.map.bits c.loop-bit.bit (omega arith))
