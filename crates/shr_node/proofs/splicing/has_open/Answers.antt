-- SPDX-License-Identifier: GPL-2.0-only
use Rattle.shr_node.proofs.Common.{ℕ, ◌∙◌, [], arith, dite, ℕ_discrete, sym, subst, slice_index, place_number, group_place, view_of, KnowsClosed}
use Rattle.shr_node.proofs.Gaining.{gains_then}
use Rattle.shr_node.proofs.Looks.{known_still}
use Rattle.shr_node.proofs.splicing.has_open.Goals as goal

pub returns-then-is_open-clause-gains : goal.returns-then-is_open-clause-gains
returns-then-is_open-clause-gains g c = gains_then (view_of c.args.seat.now) (view_of c.loop-at.seat) (view_of c.is_open.new.seat) [] [] [] [] c.loop-at.invariant.gains c.is_open.ensures.gains

pub loop-at-preserved : goal.loop-at-preserved
loop-at-preserved g c = let inv = c.loop-at.invariant in let did = c.is_open.ensures in record {
  table = did.table ∙ inv.table;
  gains = gains_then (view_of c.args.seat.now) (view_of c.loop-at.seat) (view_of c.is_open.new.seat) [] [] [] [] inv.gains did.gains;
  closed = λ i lt. dite (ℕ_discrete i c.loop-at.at)
      (λ same. subst (λ (x : ℕ). KnowsClosed (view_of c.is_open.new.seat) (place_number (group_place c.args.id c.args.node (slice_index c.args.children.now.groups x)))) (sym same) (did.closed c.if-is_open.false))
      (λ other. known_still (view_of c.loop-at.seat) (view_of c.is_open.new.seat) [] [] (place_number (group_place c.args.id c.args.node (slice_index c.args.children.now.groups i))) did.gains (inv.closed i (omega (arith, lt, other))));
}
