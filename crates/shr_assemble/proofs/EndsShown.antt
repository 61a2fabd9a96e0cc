-- SPDX-License-Identifier: GPL-2.0-only
-- What a worker has made, seen and knows after a step is so in the report, of a run whose workers are done.
use Rattle.shr_assemble.proofs.Common.{◌≡◌, ℕ, ◌+◌, ◌*◌, ◌/◌, ◌<◌, ◌≤◌, List, length, sym, ap, subst, ◌∙◌, arith, eq-eqb, slice_get, bit_at, eqb-true, slice_get_within, PoolEntry, place_number, unit_of, bit_of, decl_at, registrations, Each, times, Begins, View, place_at, map_number, map_of, IsLeft, Made, Known, Counted, Tried, IsTurn, Shared, IsShared, Report, parents_of, journals_of, items_before, IsThere, Step, StandsIn, IsMapOf, all_cleared, all_sets, at_some}
use Rattle.shr_assemble.proofs.ScriptGroups.{sized_of}
use Rattle.shr_base.specs.declared.ends.Closed.{Closed}
use Rattle.shr_core.specs.Layout as layout
use Rattle.shr_assemble.proofs.EndsJournals.{by_number, there_of, items_stand}

module _ (x : Shared) (shared : IsShared x) (r : Report) (v : View) (closed : Closed) (left : IsLeft x.core.setting v closed) (same : r.places.items ≡ closed.places.items) (pool : r.pool.items ≡ closed.pool.items) where
  now_at : (k : ℕ) → journals_of r (place_at k) ≡ left.now k
  now_at k = by_number x shared r v closed left same k

  pub made_shown : Each (λ (m : Made). IsThere x.script (place_at m.place) × StandsIn (parents_of x.script) (journals_of r) m) v.traces.made
  made_shown j m e =
      let t = left.made j m e in
      let entry = at_some (left.now m.place) m.number m.entry t.0 in
      let within = slice_get_within (left.now m.place) m.number m.entry entry in (
        there_of x shared r v closed left same m.place (omega (arith, within)),
        record {
          entry = ap (λ l. slice_get l m.number) (now_at m.place) ∙ entry;
          items = t.1 ∙ items_stand x shared r v closed left same m.place m.number (omega (arith, within));
        },
      )

  pub known_shown : Each (λ (k : Known). Begins k.entries (journals_of r (place_at k.place))) v.traces.known
  known_shown j k e = subst (Begins k.entries) (sym (now_at k.place)) (left.known j k e)

  pub seen_shown : Each (λ (c : Counted). (c.version ≤ length (journals_of r (place_at c.place))) × (c.len ≡ length (items_before x.script r (place_at c.place) c.version))) v.traces.seen
  seen_shown j c e = let t = left.seen j c e in
      (subst (λ l. c.version ≤ length l) (sym (now_at c.place)) t.0, t.1 ∙ ap (λ l. length l) (items_stand x shared r v closed left same c.place c.version t.0))

  pub maps_shown : (workers : List (List Step)) → v.marks.cleared ≡ all_cleared workers → v.marks.sets ≡ all_sets workers → Each (IsMapOf x.script workers) v.marks.maps
  maps_shown workers cleared sets j m e = record {
    set = λ place there of some none.
        let sized = sized_of x shared in let ids = shared.ids in let node = there.node in let group = there.group in let id = there.id in let nodes = sized.nodes in let groups = sized.groups in
        let map_is : map_of (place_number place) ≡ m.map = (let e : map_of (place_number place) ≡ map_number place.node place.group (unit_of place.id) = omega (arith, node, group, nodes, groups) in e) ∙ of in
        let bit : layout.place_bit (place_number place) ≡ bit_of place.id = omega (arith, node, group, nodes, groups) in
        let set = left.mapped j m e (place_number place) (omega (arith, id, node, group, nodes, groups, ids)) map_is some (ap (times (place_number place)) cleared ∙ none) in
        eq-eqb (bit_at m.bits (bit_of place.id)) 1 (ap (bit_at m.bits) (sym bit) ∙ set);
    of_ids = λ bit few some. let id = left.none_shown j m e bit few (eqb-true (bit_at m.bits bit) 1 some) in subst (λ n. 64 * (m.map / 1024) + bit < n) shared.ids id;
    shown = λ place there of some.
        let sized = sized_of x shared in let ids = shared.ids in let node = there.node in let group = there.group in let id = there.id in let nodes = sized.nodes in let groups = sized.groups in
        let map_is : map_of (place_number place) ≡ m.map = (let e : map_of (place_number place) ≡ map_number place.node place.group (unit_of place.id) = omega (arith, node, group, nodes, groups) in e) ∙ of in
        let bit : layout.place_bit (place_number place) ≡ bit_of place.id = omega (arith, node, group, nodes, groups) in
        let one : bit_at m.bits (bit_of place.id) ≡ 1 = eqb-true (bit_at m.bits (bit_of place.id)) 1 some in
        subst (λ (l : List ℕ). 0 < times (place_number place) l) sets (left.shown j m e (place_number place) (omega (arith, id, node, group, nodes, groups, ids)) map_is (ap (bit_at m.bits) bit ∙ one));
  }

  pub tried_shown : Each (λ (a : Tried). (a.id < x.script.ids) × (a.held ≡ decl_at a.number (registrations a.id r.pool.items))) v.claims.attempts
  tried_shown j a e = let t = left.tried j a e in
      (subst (λ n. a.id < n) shared.ids t.0, t.1 ∙ ap (λ es. decl_at a.number (registrations a.id es)) (sym pool))

  pub turns_shown : Each (IsTurn r.pool.items) v.turns.made
  turns_shown j t e = subst (λ (es : List PoolEntry). IsTurn es t) (sym pool) (left.turned j t e)

  pub heard_shown : Each (λ (es : List PoolEntry). Begins es r.pool.items) v.turns.heard
  heard_shown j es e = subst (Begins es) (sym pool) (left.heard j es e)
