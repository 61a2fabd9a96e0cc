-- SPDX-License-Identifier: GPL-2.0-only
-- What stays and what is known over splices, and the states between the steps of handing over.
use Rattle.shr_offline.proofs.Common.{◌≡◌, ℕ, suc, ◌+◌, ◌*◌, ◌/◌, ◌%◌, List, [], ◌∷◌, length, refl, sym, ap, subst, ◌∙◌, arith, None, Place, View, Shape, Claims, IsIdle, SpliceAnswer, IsSpliced, AreSpliced, AllGives, first_places, all_places, count_of_places, place_by_number, zero, ◌<◌, get_or, Contains, get_or-map-range_with_len, length-map-range_with_len, Known, OwesNoMore, group_place, AreClosed}
use Rattle.std.proofs.Math.Nat.{div-lt_iff_lt-mul, div-add-mod}
use Rattle.std.proofs.lemmas.Nat.{div-mul-add}
use Rattle.std.proofs.lemmas.List.Elements.{Contains-append_left}
use Rattle.shr_model.specs.PlaceNumbers.{place_number}
use Rattle.shr_seats.specs.Weights.{Begins}
use Rattle.shr_seats.proofs.Weighing.{begins_all, begins_more}
use Rattle.shr_node.specs.Gains.{KnowsClosed}
use Rattle.shr_node.specs.declared.answers.SpliceAnswer.TheVariants as splice

-- what splices leave of a view
pub record Stays (v w : View) : Type 0 where
  pub owed : OwesNoMore v w
  pub rooms : w.holding ≡ v.holding
  pub claims : v.claims.owner ≡ None → w.claims ≡ v.claims
  pub known : Begins v.traces.known w.traces.known

stays_none : (v : View) → Stays v v
stays_none v = record { owed = λ k h. h; rooms = refl; claims = λ free. refl; known = begins_all v.traces.known }

stays_then : (u v w : View) → Stays u v → Stays v w → Stays u w
stays_then u v w a b = record {
  owed = λ k h. a.owed k (b.owed k h);
  rooms = b.rooms ∙ a.rooms;
  claims = λ free. b.claims (ap (λ (c : Claims). c.owner) (a.claims free) ∙ free) ∙ a.claims free;
  known = begins_more u.traces.known v.traces.known w.traces.known a.known b.known;
}

module _ (shape : Shape) where
  spliced_stays : (v w : View) (id node group moved : ℕ) → IsSpliced shape v w id node group moved → Stays v w
  spliced_stays v w id node group moved s = let g = s.closings.gains in record { owed = g.owed; rooms = g.holding; claims = g.marks; known = g.adds.known }

  all_stays : (ps : List Place) (moved : ℕ) (v w : View) → AreSpliced shape ps moved v w → Stays v w
  all_stays [] moved v w h = subst (Stays v) h.1 (stays_none v)
  all_stays (p ∷ ps) moved v w (u, first, rest, sums, one, others) = stays_then v u w (spliced_stays v u p.id p.node p.group first one) (all_stays ps rest u w others)

  -- whatever the splices came to
  pub splices_stay : (group : ℕ) (answer : SpliceAnswer) (v w : View) → AllGives shape group answer v w → Stays v w
  splices_stay group (splice.Spliced moved) v w h = all_stays (all_places shape group) moved v w h
  splices_stay group (splice.Worn s) v w h = let g = h.stopped.stops.closings.gains in stays_then v h.between w (all_stays (first_places shape group h.reached) h.moved v h.between h.spliced) (record { owed = g.owed; rooms = g.holding; claims = g.marks; known = g.adds.known })
  splices_stay group splice.Memory v w h = let g = h.stopped.stops.closings.gains in stays_then v h.between w (all_stays (first_places shape group h.reached) h.moved v h.between h.spliced) (record { owed = g.owed; rooms = g.holding; claims = g.marks; known = g.adds.known })

  closed_still : (v w : View) (k : ℕ) → Stays v w → KnowsClosed v k → KnowsClosed w k
  closed_still v w k s h = (h.0, subst (λ (l : List Known). Contains l (record { place = k; entries = h.0 })) (sym s.known.1) (Contains-append_left v.traces.known s.known.0 (record { place = k; entries = h.0 }) h.1), h.2)

  own_closed : (ps : List Place) (moved : ℕ) (v w : View) → AreSpliced shape ps moved v w → (i : ℕ) (d : Place) → i < length ps → KnowsClosed w (place_number (get_or ps i d))
  own_closed [] moved v w h i d low = absurd (omega (arith, low))
  own_closed (p ∷ ps) moved v w (u, first, rest, sums, one, others) zero d low = closed_still u w (place_number p) (all_stays ps rest u w others) one.own
  own_closed (p ∷ ps) moved v w (u, first, rest, sums, one, others) (suc i) d low = own_closed ps rest u w others i d (omega (arith, low))

  number_of : (id node : ℕ) → node < shape.nodes → ((id * shape.nodes + node) / shape.nodes ≡ id) × ((id * shape.nodes + node) % shape.nodes ≡ node)
  number_of id node low = let d = div-mul-add id shape.nodes node low in let a = div-add-mod (id * shape.nodes + node) shape.nodes in
      let b : (id * shape.nodes + node) / shape.nodes * shape.nodes ≡ id * shape.nodes = ap (λ (q : ℕ). q * shape.nodes) d in (d, omega (arith, a, b))

  -- the group's own lists are known to be closed
  all_own : (group moved : ℕ) (v w : View) → AreSpliced shape (all_places shape group) moved v w → (id node : ℕ) → id < shape.ids → node < shape.nodes → KnowsClosed w (place_number (group_place id node group))
  all_own group moved v w h id node low lower =
      let n : ℕ = id * shape.nodes + node in let is = number_of id node lower in
      let some-nodes : 0 < shape.nodes = omega (arith, lower) in
      let inside : n < count_of_places shape = (div-lt_iff_lt-mul {k = shape.nodes} {x = n} {y = shape.ids} some-nodes).0 (subst (λ (q : ℕ). q < shape.ids) (sym is.0) low) in
      let d : Place = place_by_number shape group 0 in
      let long = length-map-range_with_len (place_by_number shape group) 0 (count_of_places shape) in
      let at : get_or (all_places shape group) n d ≡ place_by_number shape group n = get_or-map-range_with_len (place_by_number shape group) 0 (count_of_places shape) n n d inside (omega arith) in
      let same : place_by_number shape group n ≡ group_place id node group = λ i. group_place (is.0 i) (is.1 i) group in
      subst (λ (p : Place). KnowsClosed w (place_number p)) (at ∙ same) (own_closed (all_places shape group) moved v w h n d (omega (arith, long, inside)))

  -- and so all lists at or below the group are
  pub all_closed : (group moved : ℕ) (v w : View) → AreSpliced shape (all_places shape group) moved v w → AreClosed shape group w
  all_closed group moved v w h = record { own = all_own group moved v w h; closed = λ id node child low lower there on. (group, on, all_own group moved v w h id node low lower) }

-- nothing is in hand, held or owned after splices
pub idle_still : (v w : View) → Stays v w → IsIdle v → IsIdle w
idle_still v w s idle = let same = s.claims idle.owner in record {
  rooms = s.rooms ∙ idle.rooms;
  held = ap (λ (c : Claims). c.held) same ∙ idle.held;
  owner = ap (λ (c : Claims). c.owner) same ∙ idle.owner;
}
