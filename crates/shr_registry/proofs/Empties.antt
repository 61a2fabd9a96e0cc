-- SPDX-License-Identifier: GPL-2.0-only
-- Emptying the lists of an owned id, node after node.
use Rattle.shr_registry.proofs.Common.{◌≡◌, ℕ, zero, suc, ◌+◌, ◌<◌, ◌≤◌, List, [], ◌∷◌, ◌++◌, length, get_or, sym, refl, ap, subst, ◌∙◌, arith, append_assoc, length-append, true, Some, append-nil, dite, ℕ_discrete, some, get_elem?, at_last, HalfWhy, place_number, Gains, group_place, Object, Serial, Each, View, Shape, Made, Claims, no_rooms, mark_of, undrained, Draw, made_from, drawn_from, AreNodeDraws, AreDrained, StoppedBy, some-injective, some-ne-none, made_by_draws, drawn, IsDraw, AreDraws, Emptied, EmptyStops}
use Rattle.shr_seats.specs.Shapes.{groups_in}
use Rattle.shr_node.proofs.Gaining.{gains_none, gains_then, counted_before}

-- the draws of one node more, at the end
made_push : (id node : ℕ) (by : Serial) (draws : List (List Draw)) (ds : List Draw) → made_from id node by (draws ++ ds ∷ []) ≡ made_from id node by draws ++ made_by_draws id (node + length draws) by ds
made_push id node by [] ds = let same : node ≡ node + 0 = omega arith in append-nil (made_by_draws id node by ds) ∙ ap (λ (n : ℕ). made_by_draws id n by ds) same
made_push id node by (d ∷ draws) ds = let same : node + 1 + length draws ≡ node + length (d ∷ draws) = omega arith in
    ap (λ (l : List Made). made_by_draws id node by d ++ l) (made_push id (node + 1) by draws ds) ∙ (sym (append_assoc (made_by_draws id node by d) (made_from id (node + 1) by draws) (made_by_draws id (node + 1 + length draws) by ds))
    ∙ ap (λ (n : ℕ). (made_by_draws id node by d ++ made_from id (node + 1) by draws) ++ made_by_draws id n by ds) same)

drawn_push : (draws : List (List Draw)) (ds : List Draw) → drawn_from (draws ++ ds ∷ []) ≡ drawn_from draws ++ drawn ds
drawn_push [] ds = append-nil (drawn ds)
drawn_push (d ∷ draws) ds = ap (λ (l : List Object). drawn d ++ l) (drawn_push draws ds) ∙ sym (append_assoc (drawn d) (drawn_from draws) (drawn ds))

-- what holds of each at its place, and of one more
each_push : {A : Type 0} (P : ℕ → A → Type 0) (l : List A) (x : A) → ((n : ℕ) (y : A) → get_elem? l n ≡ some y → P n y) → P (length l) x → (n : ℕ) (y : A) → get_elem? (l ++ x ∷ []) n ≡ some y → P n y
each_push P [] x old new zero y at = subst (P 0) (some-injective x y at) new
each_push P [] x old new (suc n) y at = absurd (some-ne-none y (sym at))
each_push P (z ∷ l) x old new zero y at = old 0 y at
each_push P (z ∷ l) x old new (suc n) y at = each_push (λ m. P (suc m)) l x (λ m w e. old (suc m) w e) new n y at

-- a node's draws, as an earlier view sees them
pub draws_before : (shape : Shape) (v u : View) (m : List Made) (id node : ℕ) (ds : List Draw) → Gains v u m [] → Each (IsDraw shape u id node) ds → Each (IsDraw shape v id node) ds
draws_before shape v u m id node ds g all j d at = let f = all j d at in record { there = f.there; some = f.some; born = f.born; later = counted_before shape v u m [] (place_number (group_place id node d.group)) (length d.items) d.number g f.later; room = f.room }

-- the lists of the nodes below this one were emptied, and the marks of the others are as they were
pub record SoFar (shape : Shape) (v w : View) (id node : ℕ) (by : Serial) (before after : List Object) : Type 0 where
  pub emptied : Emptied shape v w id node by before after
  pub others : (n : ℕ) → node ≤ n → mark_of w.claims n ≡ mark_of v.claims n

-- no node yet
pub none_yet : (shape : Shape) (v : View) (id : ℕ) (by : Serial) (objects : List Object) → SoFar shape v v id 0 by objects objects
none_yet shape v id by objects = record {
  emptied = record {
    draws = [];
    all = refl;
    drained = record { each = λ n ds at. absurd (some-ne-none ds (sym at)); objects = sym (append-nil objects); gains = gains_none v };
    down = λ n low. absurd (omega (arith, low));
  };
  others = λ n far. refl;
}

module _ (shape : Shape) (v u w : View) (id node : ℕ) (by : Serial) (before middle after : List Object) (four : node < 4) (s : SoFar shape v u id node by before middle) where
  -- the seat owns the id still, and has no room in hand
  pub owner_still : v.claims.owner ≡ Some id → u.claims.owner ≡ Some id
  owner_still owns = ap (λ (c : Claims). c.owner) s.emptied.drained.gains.claims ∙ owns

  -- a drain leaves the owner quiet
  pub quiet_still : v.claims.quiet ≡ true → u.claims.quiet ≡ true
  quiet_still quiet = ap (λ (c : Claims). c.quiet) s.emptied.drained.gains.claims ∙ quiet

  -- and no room in hand
  pub rooms_still : v.holding ≡ no_rooms → u.holding ≡ no_rooms
  rooms_still none = s.emptied.drained.gains.holding ∙ none

  -- what the draws of one node more leave
  module _ (ds : List Draw) (a : AreDraws shape u w id node by middle after ds) where
    abbrev draws : List (List Draw)
    draws = s.emptied.draws ++ ds ∷ []

    further : AreDrained shape v w id by before after draws
    further = let e = s.emptied in let d = e.drained in let long : ◌≡◌ {A = ℕ} (0 + length e.draws) node = omega (arith, e.all) in record {
      each = each_push (λ n l. AreNodeDraws shape v id n l) e.draws ds d.each (subst (λ (n : ℕ). AreNodeDraws shape v id n ds) (sym e.all) (record { each = draws_before shape v u (made_from id 0 by e.draws) id node ds d.gains a.each; falling = a.falling }));
      objects = a.objects ∙ (ap (λ (l : List Object). l ++ drawn ds) d.objects ∙ (append_assoc before (drawn_from e.draws) (drawn ds) ∙ ap (λ (l : List Object). before ++ l) (sym (drawn_push e.draws ds))));
      gains = subst (λ (l : List Made). Gains v w l []) (sym (made_push id 0 by e.draws ds ∙ ap (λ (n : ℕ). made_from id 0 by e.draws ++ made_by_draws id n by ds) long))
          (gains_then v u w (made_from id 0 by e.draws) (made_by_draws id node by ds) [] [] d.gains a.gains);
    }

    -- it stopped at a list of the node
    pub stopped : (group : ℕ) (why : HalfWhy) → node < shape.nodes → Each (λ (d : Draw). group < d.group) ds → StoppedBy shape v w id node group by why → EmptyStops shape v w id by before after why
    stopped group why near above is = let e = s.emptied in record {
      draws = draws;
      drained = further;
      stops = record {
        node = node;
        group = group;
        last = omega (arith, length-append e.draws (ds ∷ []), e.all);
        near = near;
        above = λ l at. subst (λ (x : List Draw). Each (λ (d : Draw). group < d.group) x) (some-injective ds l (sym (at_last e.draws ds node e.all) ∙ at)) above;
        stopped = is;
      };
    }

    -- the node's mark is down
    pub node_down : v.claims.drained ≡ undrained shape → (mark_of u.claims node ≤ groups_in shape → mark_of w.claims node ≡ 0) → SoFar shape v w id (node + 1) by before after
    node_down fresh low = let mark : mark_of u.claims node ≡ groups_in shape = s.others node (omega arith) ∙ (ap (λ (l : List ℕ). get_or l node 0) fresh ∙ four_at (groups_in shape) node four) in record {
      emptied = record {
        draws = draws;
        all = omega (arith, length-append s.emptied.draws (ds ∷ []), s.emptied.all);
        drained = further;
        down = λ n below. dite (ℕ_discrete n node) (λ e. ap (mark_of w.claims) e ∙ low (omega (arith, mark))) (λ ne. a.others n ne ∙ s.emptied.down n (omega (arith, below, ne)));
      };
      others = λ n far. a.others n (λ e. omega (arith, e, far)) ∙ s.others n (omega (arith, far));
    }
      where
        four_at : (g node : ℕ) → node < 4 → get_or (g ∷ g ∷ g ∷ g ∷ []) node 0 ≡ g
        four_at g zero h = refl
        four_at g (suc zero) h = refl
        four_at g (suc (suc zero)) h = refl
        four_at g (suc (suc (suc zero))) h = refl
        four_at g (suc (suc (suc (suc n)))) h = absurd (omega (arith, h))
