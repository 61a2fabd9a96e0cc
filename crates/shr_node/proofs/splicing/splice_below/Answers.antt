-- SPDX-License-Identifier: GPL-2.0-only
use Rattle.shr_node.proofs.Common.{◌≡◌, ℕ, zero, suc, ◌<◌, true, cond, List, [], ◌∷◌, length, sym, refl, ap, subst, ◌∙◌, ⊎_elim, arith, eq-eqb, append-nil, dite, ℕ_discrete, Spent, place_number, Listed, IsTree, is_child, parent_of, IsAtOrAbove, IsAtOrAbove-le, IsAtOrAbove-refl, IsAtOrAbove-trans, child_again, Each-none, Each-push, Core, View, Shape, groups_in, view_of, shape_of, Gains, IsKnownClosed, KnowsClosed, slice_index, Closing, group_place, made_by_closing, bits_by, IsPair, SpliceWorn}
use Rattle.shr_base.specs.declared.replies.Spent.TheVariants as spent
use Rattle.shr_node.specs.declared.answers.SpliceAnswer.{SpliceAnswer}
use Rattle.shr_node.specs.declared.answers.SpliceAnswer.TheVariants as splice
use Rattle.shr_node.specs.declared.splicing.Children.{Children}
use Rattle.shr_node.specs.Closes.{ClosesOne, WasClosed, LeavesWorn, LeavesFree}
use Rattle.shr_node.specs.Splicing.{AreChildren, IsClosing, AreClosings, IsSpliced, SpliceStopsAt, ParentHadRoom, SpliceGives, own_number, above_place, made_by_closings, bits_of_closings}
use Rattle.shr_node.proofs.Climbing.{above_parent, parent_above}
use Rattle.shr_node.proofs.Gaining.{gains_then, counted_before}
use Rattle.shr_node.proofs.Draws.{met_before}
use Rattle.shr_node.proofs.Looks.{known_still}
use Rattle.shr_node.proofs.Splices.{closings_none}
use Rattle.shr_node.proofs.splicing.splice_below.Goals as goal

-- what is told of a view is told of one before it, to which nothing was gained since
module _ (shape : Shape) (v u w : View) (id node group : ℕ) (g : Gains v u [] []) where
  closing_before : (c : Closing) → IsClosing shape u id node group c → IsClosing shape v id node group c
  closing_before c h = record {
    below = h.below;
    low = h.low;
    there = h.there;
    later = counted_before shape v u [] [] (own_number id node c) (length c.items) c.number g h.later;
    above_later = counted_before shape v u [] [] (above_place shape.parents.items id node c) (length c.above_items) c.above_number g h.above_later;
    room_entries = h.room_entries;
    room_items = h.room_items;
  }

  closings_before : (cs : List Closing) → AreClosings shape u w id node group cs → AreClosings shape v w id node group cs
  closings_before cs h = record {
    each = λ j x at. closing_before x (h.each j x at);
    falling = h.falling;
    gains = gains_then v u w [] (made_by_closings shape.parents.items id node cs) [] (bits_of_closings shape.parents.items id node cs) g h.gains;
  }

  stops_before : (child : ℕ) → SpliceStopsAt shape u w id node group child → SpliceStopsAt shape v w id node group child
  stops_before child h = record { cs = h.cs; closings = closings_before h.cs h.closings; below = h.below; there = h.there; above = h.above; closed = h.closed }

  pair_before : (child : ℕ) (given old : Listed) → IsPair shape u w id node child given old → IsPair shape v w id node child given old
  pair_before child given old p = record {
    met = met_before shape v u w [] [] (place_number (group_place id node child)) given g p.met;
    above_met = met_before shape v u w [] [] (place_number (group_place id node (parent_of shape.parents.items child))) old g p.above_met;
    apart = p.apart;
  }

  worn_before : (s : Spent) (child : ℕ) → SpliceWorn shape u w id node child s → SpliceWorn shape v w id node child s
  worn_before (spent.List place entries items) child h = record { given = h.given; old = h.old; here = h.here; pair = pair_before child h.given h.old h.pair; worn = h.worn }
  worn_before (spent.Lookups i seen) child h = h
  worn_before (spent.Charges charges uncharges) child h = h

  free_before : (child : ℕ) → ParentHadRoom shape u w id node child → ParentHadRoom shape v w id node child
  free_before child h = record { given = h.given; old = h.old; pair = pair_before child h.given h.old h.pair; room = h.room }

  gives_before : (answer : SpliceAnswer) → SpliceGives shape u id node group answer w → SpliceGives shape v id node group answer w
  gives_before (splice.Spliced moved) h = record { cs = h.cs; closings = closings_before h.cs h.closings; moved_is = h.moved_is; own = h.own; closed = h.closed }
  gives_before (splice.Worn s) h = record { child = h.child; stops = stops_before h.child h.stops; worn = worn_before s h.child h.worn }
  gives_before splice.Memory h = record { child = h.child; stops = stops_before h.child h.stops; free = free_before h.child h.free }

module _ (shape : Shape) (tree : IsTree shape.parents.items) (u w : View) (id node group : ℕ) (there : group < groups_in shape) where
  -- the group's own list alone was closed
  one_closed : (objects : ℕ) → ClosesOne shape u w id node group objects → IsSpliced shape u w id node group objects
  one_closed objects a = let c = a.closing in record {
    cs = c ∷ [];
    closings = record {
      each = Each-push (IsClosing shape u id node group) [] c a.is (Each-none (IsClosing shape u id node group));
      falling = λ i j d i-lt j-lt. absurd (omega (arith, i-lt, j-lt));
      gains = subst (λ (l : List ℕ). Gains u w (made_by_closing shape.parents.items id node c) l) (sym (append-nil (bits_by shape.parents.items id node c))) a.gains;
    };
    moved_is = a.count ∙ sym (ap (λ b. cond b (length c.items) 0) (eq-eqb c.child group a.here));
    own = a.known;
    closed = λ child lt below. (group, below, a.known);
  }

  none_closed : WasClosed u w id node group → IsSpliced shape u w id node group 0
  none_closed a = record { cs = []; closings = closings_none shape u w id node group a.gains; moved_is = refl; own = a.known; closed = λ child lt below. (group, below, a.known) }

  module _ (g : Gains u w [] []) (children : (child : ℕ) → is_child shape.parents.items group child ≡ true → KnowsClosed u (place_number (group_place id node child))) where
    -- what is below the group is at or below a child, whose list is closed
    below_closed : (fuel at : ℕ) → at < fuel → group < at → at < groups_in shape → IsAtOrAbove shape.parents.items group at → IsKnownClosed shape.parents.items w (group_place id node at)
    below_closed zero at few high lt on = absurd (omega (arith, few))
    below_closed (suc fuel) at few high lt on = let low : 0 < at = omega (arith, high) in let lower = tree.lower at low lt in
        by_parent low lower (⊎_elim (λ same. absurd (omega (arith, same, high))) (λ up. up) (above_parent shape.parents.items tree group at low lt on)) (λ over. below_closed fuel (parent_of shape.parents.items at) (omega (arith, lower, few)) over (omega (arith, lower, lt)))
      where
        by_parent : 0 < at → parent_of shape.parents.items at < at → IsAtOrAbove shape.parents.items group (parent_of shape.parents.items at) → (group < parent_of shape.parents.items at → IsAtOrAbove shape.parents.items group (parent_of shape.parents.items at) → IsKnownClosed shape.parents.items w (group_place id node (parent_of shape.parents.items at)))
            → IsKnownClosed shape.parents.items w (group_place id node at)
        by_parent low lower up above = dite (ℕ_discrete (parent_of shape.parents.items at) group)
            (λ same. (at, IsAtOrAbove-refl shape.parents.items tree at lt, known_still u w [] [] (place_number (group_place id node at)) g (children at (child_again shape.parents.items group at (record { above = low; there = lt; parent = same })))))
            (λ other. let le = IsAtOrAbove-le shape.parents.items tree group (parent_of shape.parents.items at) (omega (arith, lower, lt)) up in let k = above (omega (arith, le, other)) up in
            (k.0, IsAtOrAbove-trans shape.parents.items tree k.0 (parent_of shape.parents.items at) at lt k.1 (parent_above shape.parents.items tree at low lt), k.2))

    -- so a call that closed nothing stopped at the group itself
    stops_here : SpliceStopsAt shape u w id node group group
    stops_here = record {
      cs = [];
      closings = closings_none shape u w id node group g;
      below = IsAtOrAbove-refl shape.parents.items tree group there;
      there = there;
      above = Each-none (λ (c : Closing). group < c.child);
      closed = λ higher high lt on. below_closed (suc higher) higher (omega arith) high lt on;
    }

-- the lists of the children are closed
known_children : (shape : Shape) (u : View) (id node group : ℕ) (c : Children) → AreChildren shape.parents.items group c → ((i : ℕ) → i < c.count → KnowsClosed u (place_number (group_place id node (slice_index c.groups i))))
    → (child : ℕ) → is_child shape.parents.items group child ≡ true → KnowsClosed u (place_number (group_place id node child))
known_children shape u id node group c are known child is = let at = are.all child is in subst (λ (x : ℕ). KnowsClosed u (place_number (group_place id node x))) at.2 (known at.0 at.1)

pub returns-then-has_open-clause-answer : goal.returns-then-has_open-clause-answer
returns-then-has_open-clause-answer g c = let v : View = view_of c.args.seat.now in let u : View = view_of c.has_open.new.seat in let w : View = view_of c.splice_open.new.seat in
    gives_before (shape_of c.args.seat.now.core) v u w c.args.id c.args.node c.args.group c.has_open.ensures.gains c.splice_open.result
    (subst (λ (x : Core). SpliceGives (shape_of x) u c.args.id c.args.node c.args.group c.splice_open.result w) c.has_open.ensures.table c.splice_open.ensures.answer)

pub close_one-requires-clause-children : goal.close_one-requires-clause-children
close_one-requires-clause-children g c = let u : View = view_of c.has_open.new.seat in
    subst (λ (x : Core). (child : ℕ) → is_child (shape_of x).parents.items c.args.group child ≡ true → KnowsClosed u (place_number (group_place c.args.id c.args.node child))) (sym c.has_open.ensures.table)
    (known_children (shape_of c.args.seat.now.core) u c.args.id c.args.node c.args.group c.args.children.now c.requires.children (c.has_open.ensures.closed c.if-has_open.false))

pub returns-in-Closed-clause-answer : goal.returns-in-Closed-clause-answer
returns-in-Closed-clause-answer g c = let core = c.args.seat.now.core in let shape : Shape = shape_of core in let v : View = view_of c.args.seat.now in let u : View = view_of c.has_open.new.seat in let w : View = view_of c.close_one.new.seat in
    gives_before shape v u w c.args.id c.args.node c.args.group c.has_open.ensures.gains (splice.Spliced c.in-Closed.objects)
    (one_closed shape core.tree u w c.args.id c.args.node c.args.group c.requires.group.1 c.in-Closed.objects (subst (λ (x : Core). ClosesOne (shape_of x) u w c.args.id c.args.node c.args.group c.in-Closed.objects) c.has_open.ensures.table c.in-Closed.ensures.answer))

pub returns-in-WasClosed-clause-answer : goal.returns-in-WasClosed-clause-answer
returns-in-WasClosed-clause-answer g c = let core = c.args.seat.now.core in let shape : Shape = shape_of core in let v : View = view_of c.args.seat.now in let u : View = view_of c.has_open.new.seat in let w : View = view_of c.close_one.new.seat in
    gives_before shape v u w c.args.id c.args.node c.args.group c.has_open.ensures.gains (splice.Spliced 0)
    (none_closed shape core.tree u w c.args.id c.args.node c.args.group c.requires.group.1 c.in-WasClosed.ensures.answer)

pub returns-in-Worn-clause-answer : goal.returns-in-Worn-clause-answer
returns-in-Worn-clause-answer g c = let core = c.args.seat.now.core in let shape : Shape = shape_of core in let v : View = view_of c.args.seat.now in let u : View = view_of c.has_open.new.seat in let w : View = view_of c.close_one.new.seat in
    let a = subst (λ (x : Core). LeavesWorn (shape_of x) u w c.args.id c.args.node c.args.group c.in-Worn.spent) c.has_open.ensures.table c.in-Worn.ensures.answer in
    let known = known_children shape u c.args.id c.args.node c.args.group c.args.children.now c.requires.children (c.has_open.ensures.closed c.if-has_open.false) in
    gives_before shape v u w c.args.id c.args.node c.args.group c.has_open.ensures.gains (splice.Worn c.in-Worn.spent)
    (record { child = c.args.group; stops = stops_here shape core.tree u w c.args.id c.args.node c.args.group c.requires.group.1 a.gains known; worn = a.worn })

pub returns-in-Memory-clause-answer : goal.returns-in-Memory-clause-answer
returns-in-Memory-clause-answer g c = let core = c.args.seat.now.core in let shape : Shape = shape_of core in let v : View = view_of c.args.seat.now in let u : View = view_of c.has_open.new.seat in let w : View = view_of c.close_one.new.seat in
    let a = subst (λ (x : Core). LeavesFree (shape_of x) u w c.args.id c.args.node c.args.group) c.has_open.ensures.table c.in-Memory.ensures.answer in
    let known = known_children shape u c.args.id c.args.node c.args.group c.args.children.now c.requires.children (c.has_open.ensures.closed c.if-has_open.false) in
    gives_before shape v u w c.args.id c.args.node c.args.group c.has_open.ensures.gains splice.Memory
    (record { child = c.args.group; stops = stops_here shape core.tree u w c.args.id c.args.node c.args.group c.requires.group.1 a.gains known; free = a.free })
