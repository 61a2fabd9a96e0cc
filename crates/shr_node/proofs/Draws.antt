-- SPDX-License-Identifier: GPL-2.0-only
-- Emptying one list after another, groups in falling order.
use Rattle.shr_node.proofs.Common.{◌≡◌, ◌≢◌, ℕ, zero, suc, ◌+◌, ◌<◌, ◌≤◌, Bool, true, false, cond, List, [], ◌∷◌, ◌++◌, length, get_or, sym, refl, ap, subst, ◌∙◌, ⊎_elim, arith, append_assoc, eq-eqb, ne_eqb, ◌==◌, ◌&&◌, slice_set, Some, append-nil, all_pairs_push, dite, ℕ_discrete, Object, Serial, Drained, Spent, place_number, Listed, Each, Each-none, Each-push, Each-weaker, View, Shape, Made, Claims, place_id, node_of, group_of, mark_of, groups_in, drained_after, Gains, WasMet, group_place, made_by_draws, drawn, DrainWorn, get_or-set_same, get_or-set_other, is_some_yes, slice_index, dec_lt, Draw, IsDraw, AreDraws, IsListDrawn, DrawsNone, IsFilled, StopsAt}
use Rattle.shr_base.specs.declared.replies.Spent.TheVariants as spent
use Rattle.shr_node.proofs.Gaining.{gains_none, gains_then, counted_before}
use Rattle.shr_model.proofs.Lists.{none_past}

-- the lists from a group up are drained
pub record IsDraining (shape : Shape) (v w : View) (id node : ℕ) (by : Serial) (before after : List Object) (group : ℕ) : Type 0 where
  pub ds : List Draw
  pub draws : AreDraws shape v w id node by before after ds
  pub low : Each (λ d. group ≤ d.group) ds
  pub mark : mark_of v.claims node ≤ groups_in shape → mark_of w.claims node ≤ group
  pub exact : mark_of v.claims node ≡ groups_in shape → mark_of w.claims node ≡ group

-- nothing is drained yet
pub draining_none : (shape : Shape) (v : View) (id node : ℕ) (by : Serial) (before : List Object) → IsDraining shape v v id node by before before (groups_in shape)
draining_none shape v id node by before = record {
  ds = [];
  draws = record {
    each = Each-none (IsDraw shape v id node);
    falling = λ i j d i-lt j-lt. absurd (omega (arith, i-lt, j-lt));
    gains = gains_none v;
    objects = sym (append-nil before);
    others = λ n ne. refl;
  };
  low = Each-none (λ (d : Draw). groups_in shape ≤ d.group);
  mark = λ h. h;
  exact = λ h. h;
}

-- one element by its index
pub at_each : {A : Type 0} (P : A → Type 0) (xs : List A) (n : ℕ) (d : A) → Each P xs → n < length xs → P (get_or xs n d)
at_each P [] n d all h = absurd (omega (arith, h))
at_each P (x ∷ xs) zero d all h = all 0 x refl
at_each P (x ∷ xs) (suc n) d all h = at_each P xs n d (λ j y e. all (suc j) y e) (omega (arith, h))

made_push : (id node : ℕ) (by : Serial) (ds : List Draw) (d : Draw) → made_by_draws id node by (ds ++ d ∷ []) ≡ made_by_draws id node by ds ++ made_by_draws id node by (d ∷ [])
made_push id node by [] d = refl
made_push id node by (x ∷ ds) d = ap (λ (l : List Made). record { place = place_number (group_place id node x.group); number = x.number; entry = Drained by (length x.items); items = x.items } ∷ l) (made_push id node by ds d)

drawn_push : (ds : List Draw) (d : Draw) → drawn (ds ++ d ∷ []) ≡ drawn ds ++ d.items
drawn_push [] d = append-nil d.items
drawn_push (x ∷ ds) d = ap (λ (l : List Object). x.items ++ l) (drawn_push ds d) ∙ sym (append_assoc x.items (drawn ds) d.items)

-- how the marks of a quiet owner move over an empty list
moves : (c : Claims) (k : ℕ) → c.quiet ≡ true → c.owner ≡ Some (place_id k) → drained_after c k [] ≡ cond (mark_of c (node_of k) == group_of k + 1) (slice_set c.drained (node_of k) (group_of k)) c.drained
moves c k quiet owner = (λ i. cond (quiet i && is_some_yes (place_id k) c.owner owner i && (mark_of c (node_of k) == group_of k + 1) && true) (slice_set c.drained (node_of k) (group_of k)) c.drained)
    ∙ by (mark_of c (node_of k) == group_of k + 1)
  where
    by : (b : Bool) → cond (true && true && b && true) (slice_set c.drained (node_of k) (group_of k)) c.drained ≡ cond b (slice_set c.drained (node_of k) (group_of k)) c.drained
    by true = refl
    by false = refl

module _ (c : Claims) (k : ℕ) (quiet : c.quiet ≡ true) (owner : c.owner ≡ Some (place_id k)) (after : List ℕ) (is : after ≡ drained_after c k []) where
  mark_falls : mark_of c (node_of k) ≤ group_of k + 1 → get_or after (node_of k) 0 ≤ group_of k
  mark_falls low = subst (λ (l : List ℕ). get_or l (node_of k) 0 ≤ group_of k) (sym (is ∙ moves c k quiet owner)) (dite (ℕ_discrete (mark_of c (node_of k)) (group_of k + 1))
      (λ e. subst (λ (b : Bool). get_or (cond b (slice_set c.drained (node_of k) (group_of k)) c.drained) (node_of k) 0 ≤ group_of k) (sym (eq-eqb (mark_of c (node_of k)) (group_of k + 1) e))
      (dite (dec_lt (node_of k) (length c.drained))
      (λ there. omega (arith, get_or-set_same c.drained (node_of k) (group_of k) 0 there))
      (λ out. absurd (omega (arith, e, none_past c.drained (node_of k) (omega (arith, out)))))))
      (λ n. subst (λ (b : Bool). get_or (cond b (slice_set c.drained (node_of k) (group_of k)) c.drained) (node_of k) 0 ≤ group_of k) (sym (ne_eqb (mark_of c (node_of k)) (group_of k + 1) n)) (omega (arith, low, n))))

  mark_exact : mark_of c (node_of k) ≡ group_of k + 1 → get_or after (node_of k) 0 ≡ group_of k
  mark_exact e = subst (λ (l : List ℕ). get_or l (node_of k) 0 ≡ group_of k) (sym (is ∙ moves c k quiet owner))
      (subst (λ (b : Bool). get_or (cond b (slice_set c.drained (node_of k) (group_of k)) c.drained) (node_of k) 0 ≡ group_of k) (sym (eq-eqb (mark_of c (node_of k)) (group_of k + 1) e))
      (dite (dec_lt (node_of k) (length c.drained))
      (λ there. get_or-set_same c.drained (node_of k) (group_of k) 0 there)
      (λ out. absurd (omega (arith, e, none_past c.drained (node_of k) (omega (arith, out)))))))

  other_marks : (n : ℕ) → n ≢ node_of k → get_or after n 0 ≡ get_or c.drained n 0
  other_marks n ne = subst (λ (l : List ℕ). get_or l n 0 ≡ get_or c.drained n 0) (sym (is ∙ moves c k quiet owner)) (by (mark_of c (node_of k) == group_of k + 1))
    where
      by : (b : Bool) → get_or (cond b (slice_set c.drained (node_of k) (group_of k)) c.drained) n 0 ≡ get_or c.drained n 0
      by true = get_or-set_other c.drained (node_of k) n (group_of k) 0 ne
      by false = refl

-- a draw that comes after all that a later view has seen
draw_before : (shape : Shape) (v u : View) (m : List Made) (s : List ℕ) (id node : ℕ) (d : Draw) → Gains v u m s → IsDraw shape u id node d → IsDraw shape v id node d
draw_before shape v u m s id node d g o = record { there = o.there; some = o.some; born = o.born; room = o.room; later = counted_before shape v u m s (place_number (group_place id node d.group)) (length d.items) d.number g o.later }

module _ (shape : Shape) (v u w : View) (id node : ℕ) (by : Serial) (before mid after : List Object) (top : ℕ) (o : IsDraining shape v u id node by before mid top) where
  -- the marks and the lists so far if nothing was drawn
  still : (others : (n : ℕ) → n ≢ node → mark_of w.claims n ≡ mark_of u.claims n) → Gains u w [] [] → after ≡ mid → AreDraws shape v w id node by before after o.ds
  still others g same = record {
    each = o.draws.each;
    falling = o.draws.falling;
    gains = subst (λ (l : List Made). Gains v w l []) (append-nil (made_by_draws id node by o.ds)) (gains_then v u w (made_by_draws id node by o.ds) [] [] [] o.draws.gains g);
    objects = same ∙ o.draws.objects;
    others = λ n ne. others n ne ∙ o.draws.others n ne;
  }

  -- the call stops at the next list, of which nothing changed
  pub drawing_stops : (group : ℕ) → top ≡ group + 1 → DrawsNone u w mid after → w.claims.drained ≡ u.claims.drained → StopsAt shape v w id node by before after group
  drawing_stops group next none marks = record {
    ds = o.ds;
    draws = still (λ n ne. ap (λ (l : List ℕ). slice_index l n) marks) none.gains none.objects;
    above = Each-weaker (λ (d : Draw). top ≤ d.group) (λ (d : Draw). group < d.group) (λ d h. omega (arith, h, next)) o.ds o.low;
    mark = λ h. ap (λ (l : List ℕ). slice_index l node) marks ∙ (o.exact h ∙ next);
  }

  module _ (group : ℕ) (near : group < top) (node-is : node_of (place_number (group_place id node group)) ≡ node) (group-is : group_of (place_number (group_place id node group)) ≡ group) (id-is : place_id (place_number (group_place id node group)) ≡ id)
      (quiet : u.claims.quiet ≡ true) (owns : u.claims.owner ≡ Some id) (marks : w.claims.drained ≡ drained_after u.claims (place_number (group_place id node group)) []) where
    k : ℕ
    k = place_number (group_place id node group)

    owner : u.claims.owner ≡ Some (place_id (place_number (group_place id node group)))
    owner = owns ∙ ap (λ (x : ℕ). Some x) (sym id-is)

    others : (n : ℕ) → n ≢ node → mark_of w.claims n ≡ mark_of u.claims n
    others n ne = other_marks u.claims (place_number (group_place id node group)) quiet owner w.claims.drained marks n (λ e. ne (e ∙ node-is))

    falls : top ≡ group + 1 → mark_of v.claims node ≤ groups_in shape → mark_of w.claims node ≤ group
    falls next h = let low = o.mark h in subst (λ (x : ℕ). mark_of w.claims x ≤ group) node-is (let fall = mark_falls u.claims (place_number (group_place id node group)) quiet owner w.claims.drained marks (omega (arith, low, next, group-is, ap (λ (x : ℕ). mark_of u.claims x) node-is)) in omega (arith, fall, group-is))

    falls_to : top ≡ group + 1 → mark_of v.claims node ≡ groups_in shape → mark_of w.claims node ≡ group
    falls_to next h = subst (λ (x : ℕ). mark_of w.claims x ≡ group) node-is (mark_exact u.claims (place_number (group_place id node group)) quiet owner w.claims.drained marks (ap (λ (x : ℕ). mark_of u.claims x) node-is ∙ (o.exact h ∙ (next ∙ ap (λ (x : ℕ). x + 1) (sym group-is)))) ∙ group-is)

    -- one turn of the loop over falling groups
    pub drawing_next : top ≡ group + 1 → IsListDrawn shape u w (group_place id node group) by mid after → IsDraining shape v w id node by before after group
    drawing_next next drawn-one = ⊎_elim
        (λ none. record { ds = o.ds; draws = still others none.gains none.objects; low = Each-weaker (λ (d : Draw). top ≤ d.group) (λ (d : Draw). group ≤ d.group) (λ d h. omega (arith, h, near)) o.ds o.low; mark = falls next; exact = falls_to next })
        (λ one. let d : Draw = one.draw in let here = one.here in record {
          ds = o.ds ++ d ∷ [];
          draws = record {
            each = Each-push (IsDraw shape v id node) o.ds d (draw_before shape v u (made_by_draws id node by o.ds) [] id node d o.draws.gains one.is) o.draws.each;
            falling = all_pairs_push (λ (a b : Draw). b.group < a.group) o.ds d o.draws.falling (λ j x lt. let h = at_each (λ (y : Draw). top ≤ y.group) o.ds j x o.low lt in omega (arith, h, here, near));
            gains = subst (λ (l : List Made). Gains v w l []) (sym (made_push id node by o.ds d)) (gains_then v u w (made_by_draws id node by o.ds) (made_by_draws id node by (d ∷ [])) [] [] o.draws.gains one.gains);
            objects = one.objects ∙ (ap (λ (l : List Object). l ++ d.items) o.draws.objects ∙ (append_assoc before (drawn o.ds) d.items ∙ ap (λ (l : List Object). before ++ l) (sym (drawn_push o.ds d))));
            others = λ n ne. others n ne ∙ o.draws.others n ne;
          };
          low = Each-push (λ (x : Draw). group ≤ x.group) o.ds d (omega (arith, here)) (Each-weaker (λ (x : Draw). top ≤ x.group) (λ (x : Draw). group ≤ x.group) (λ x h. omega (arith, h, near)) o.ds o.low);
          mark = falls next;
          exact = falls_to next;
        })
        drawn-one

-- a list that was met, as an earlier view sees it
pub met_before : (shape : Shape) (v u w : View) (m : List Made) (s : List ℕ) (k : ℕ) (old : Listed) → Gains v u m s → WasMet shape u w k old → WasMet shape v w k old
met_before shape v u w m s k old g met = let o = met.was in record {
  was = record { «open» = o.«open»; most_items = o.most_items; most_entries = o.most_entries; later = counted_before shape v u m s k (length old.items) (length old.entries) g o.later; journal = o.journal };
  known = met.known;
}

-- a list that held an object after some calls is told of the view before them
pub filled_before : (shape : Shape) (v u w : View) (m : List Made) (s : List ℕ) (id node group : ℕ) (old : Listed) → Gains v u m s → IsFilled shape u w id node group old → IsFilled shape v w id node group old
filled_before shape v u w m s id node group old g h = record { there = h.there; some = h.some; met = met_before shape v u w m s (place_number (group_place id node group)) old g h.met }

-- the same for a list without room
pub worn_before : (shape : Shape) (v u w : View) (m : List Made) (s : List ℕ) (id node group : ℕ) (by : Serial) (sp : Spent) → Gains v u m s → DrainWorn shape u w id node group by sp → DrainWorn shape v w id node group by sp
worn_before shape v u w m s id node group by (spent.List place entries items) g h = record { old = h.old; here = h.here; filled = filled_before shape v u w m s id node group h.old g h.filled; worn = h.worn }
worn_before shape v u w m s id node group by (spent.Lookups i seen) g h = h
worn_before shape v u w m s id node group by (spent.Charges charges uncharges) g h = h
