-- SPDX-License-Identifier: GPL-2.0-only
-- The bits that are told are of ids that are there, have a reason, and aren't lost, of a run.
use Rattle.shr_lawful.proofs.Common.{◌≡◌, ◌≢◌, ◌⊎◌, inl, inr, ⊎_elim, ℕ, suc, ◌+◌, ◌*◌, ◌<◌, Bool, true, false, not, ◌||◌, List, [], ◌∷◌, ◌++◌, length, take, map, sym, refl, ap, subst, ◌∙◌, arith, eq-eqb, ne_eqb, slice_get, Option, Some, None, filter, flat_map, ◌==◌, nat_lt, bit_at, AllByRecursion, range_with_len, IsSomeAnd, cases_Bool, dite, ℕ_discrete, MapEnd, Entry, Add, MovedIn, Object, Place, Serial, Script, Attempt, MapSeen, Outcome, WalkRecord, is_held, counts_of, is_set, lists_moved_at, IsOutcome, first_moved, step, place_number, is_place, unit_of, bit_of, place_in, clearings_of, each_weaker, Has, Has_map, map_has, Has_flat_map, flat_map_has, Has_filter, filter_has, each_has, Contains_from_Has, is_place_itself, times, only, some_term, only_no, place_at, map_number, map_of, Made, Report, IsLawfulWalk, IsCountRight, IsOutcomeOf, cache_of, parents_of, serial_of, journals_of, items_before, all_walks, walk_at, IsThere, FillsPlace, Covers, Fills, IsListFilled, IsMarked, all_sets, IsRun, Step, IsAmong, gathered, steps_of, is_setting, set_by_walk, at_some, some_at, ids_seen, set_bits_of, ids_in, is_since, was_cleared_since, is_set_again, set_again_in, WasFilled, HasReason, bit_place, AreBitsTold, items_from_push}
use Rattle.std.proofs.Common.{lt-ltb}
use Rattle.shr_base.specs.declared.walks.GoneThen.TheVariants as gone
use Rattle.shr_base.specs.declared.walks.Outcome.TheVariants as outcome
use Rattle.shr_model.specs.Items.{items_from}
use Rattle.shr_model.specs.MovedItems.{moved_from}
use Rattle.shr_core.specs.Layout as layout
use Rattle.shr_lawful.proofs.BitsKeptLaw.{was_cleared_by}
use Rattle.shr_lawful.proofs.Listed.{all_walks_are, WalkOf, walk_of, walk_there, among_has, has_among, all_has, take_next, range_has}
use Rattle.shr_lawful.proofs.FreeExists.{outcome_at}
use Rattle.shr_lawful.proofs.Gathering.{has_step, gathered_has, each_among, flat_among, made_stands, back_there}
use Rattle.shr_lawful.proofs.VersionsLaw.{lawful_walk}
use Rattle.shr_lawful.proofs.WalksLaw.{any_yes, clearing_of, IsMapSeen, map_seen, map_shown, covered, below_root, IsFillOf, fill_of}

-- ---- the ids of a bit word
each_id : (P : ℕ → Type 0) (unit bits : ℕ) → ((bit : ℕ) → bit < 64 → is_set bits bit ≡ true → P (64 * unit + bit)) → AllByRecursion P (ids_in unit bits)
each_id P unit bits h = all_has P (ids_in unit bits) (λ id has.
    let b = map_has (λ bit. 64 * unit + bit) (set_bits_of bits) id has in
    let f = filter_has (is_set bits) (range_with_len 0 64) b.0 b.1 in
    subst P b.2 (h b.0 (range_has 64 b.0 f.0) f.1))

-- ---- a list that an entry filled
items_next : (moved : List (List Object)) (items : List Object) (es : List Entry) (n : ℕ) (e : Entry) → slice_get es n ≡ Some e
    → items_from moved items (take (suc n) es) ≡ step (first_moved (moved_from moved (take n es))) (items_from moved items (take n es)) e
items_next moved items es n e at = ap (items_from moved items) (take_next es n e at) ∙ items_from_push moved items (take n es) e

some_behind : (xs ys : List Object) → 0 < length xs → 0 < length (xs ++ ys)
some_behind [] ys lt = absurd (omega (arith, lt))
some_behind (x ∷ xs) ys lt = omega arith

filled_step : (moved items : List Object) (e : Entry) → Fills items e → IsOutcome moved items e → 0 < length (step moved items e)
filled_step moved items (Add by birth added key value) none is = subst (λ (l : List Object). 0 < length (step moved l (Add by birth added key value))) (sym none) (omega arith)
filled_step moved items (MovedIn child objects) some is = some_behind moved items (omega (arith, some, is))
filled_step moved items e fills is = absurd fills

some_and : {A : Type 0} {Q : Type 0} (o : Option A) (P : A → Type 0) → ((a : A) → P a → Q) → IsSomeAnd o P → Q
some_and None P f h = absurd h
some_and (Some a) P f h = f a h

since : (worker k : ℕ) (w : WalkRecord) → (w.by.worker ≢ worker) ⊎ (k < w.by.command) → is_since worker k w ≡ true
since worker k w (inl other) = ap (λ (b : Bool). not b || nat_lt k w.by.command) (ne_eqb w.by.worker worker other)
since worker k w (inr later) = ap (λ (b : Bool). not (w.by.worker == worker) || b) (lt-ltb k w.by.command later) ∙ (elim (not (w.by.worker == worker)) as (λ (b : Bool). (b || true) ≡ true) [ true ↦ refl | false ↦ refl ])

module _ (s : Script) (r : Report) (workers : List (List Step)) (run : IsRun s r workers) where
  -- a step filled the list
  was_filled : (place : Place) → IsThere s place → (worker k : ℕ) (x : Step) → slice_get (steps_of workers worker) k ≡ Some x → IsListFilled x.work.core.made (place_number place) → WasFilled s r place
  was_filled place there worker k x at f =
      let m : Made = f.entry in
      let stands = made_stands s r workers run worker k x at f.among.0 m f.among.1 in
      let here : place_at m.place ≡ place = ap place_at f.here ∙ back_there s r workers run place there in
      let moved : List (List Object) = lists_moved_at (parents_of s) (journals_of r) (place_at m.place) in
      let es : List Entry = journals_of r (place_at m.place) in
      let is = outcome_at moved [] es m.number m.entry (run.journals.legal (place_at m.place)).outcomes stands.1.entry in
      let fills = subst (λ (l : List Object). Fills l m.entry) stands.1.items f.fills in
      let some : 0 < length (items_before s r (place_at m.place) (suc m.number)) = subst (λ (l : List Object). 0 < length l) (sym (items_next moved [] es m.number m.entry stands.1.entry)) (filled_step (first_moved (moved_from moved (take m.number es))) (items_from moved [] (take m.number es)) m.entry fills is) in
      (suc m.number, subst (λ (p : Place). 0 < length (items_before s r p (suc m.number))) here some)

  -- a count of some objects
  counted_some : (place : Place) (len version : ℕ) → 0 < len → len ≡ length (items_before s r place version) → WasFilled s r place
  counted_some place len version some is = (version, subst (λ (n : ℕ). 0 < n) is some)

  -- a walk set it again
  module _ (worker n : ℕ) (w : WalkRecord) (of : WalkOf s r workers run worker n w) where
    lawful : IsLawfulWalk s r worker n w
    lawful = lawful_walk s r workers run worker n w of

    set_again : (k : ℕ) (a : Attempt) (o : Outcome) → slice_get w.attempts.items k ≡ Some a → a.outcome ≡ o → is_setting o ≡ true → HasReason s r (place_in w a.id)
    set_again k a (outcome.Gone number gone.Set) at is sets =
        let walks : Has (all_walks r) w = subst (λ l. Has l w) (sym (all_walks_are s r workers run)) (among_has (gathered (λ x. x.work.walks) workers) w (gathered_has (λ (y : Step). y.work.walks) workers worker of.k of.step w of.at (of.i, some_at of.step.work.walks of.i w of.own))) in
        let attempts : Has w.attempts.items a = among_has w.attempts.items a (k, some_at w.attempts.items k a at) in
        inr (Contains_from_Has (flat_map set_again_in (all_walks r)) (place_in w a.id)
        (Has_flat_map set_again_in (all_walks r) w (place_in w a.id) walks
        (Has_map (λ (b : Attempt). place_in w b.id) (filter (λ (b : Attempt). is_set_again b.outcome) w.attempts.items) a (Has_filter (λ (b : Attempt). is_set_again b.outcome) w.attempts.items a attempts (ap is_set_again is)))))
    set_again k a (outcome.RestoredSkip number first len version) at is sets =
        let counts = subst (λ (o : Outcome). AllByRecursion (IsCountRight s r (place_in w a.id)) (counts_of o)) is (lawful.counts k a at) in
        let kinds = lawful.kinds k a at (ap is_held is) in
        some_and (cache_of s r a) (λ d. IsOutcomeOf w.priority d a.outcome) (λ d kind. let skipped = subst (IsOutcomeOf w.priority d) is kind in inl (counted_some (place_in w a.id) len version skipped.0 counts.1.0.len)) kinds
    set_again k a (outcome.RestoredRan number first pass) at is sets =
        let counts = subst (λ (o : Outcome). AllByRecursion (IsCountRight s r (place_in w a.id)) (counts_of o)) is (lawful.counts k a at) in
        let kinds = lawful.kinds k a at (ap is_held is) in
        some_and (cache_of s r a) (λ d. IsOutcomeOf w.priority d a.outcome) (λ d kind. let ran = subst (IsOutcomeOf w.priority d) is kind in let above = ran.0 in inl (counted_some (place_in w a.id) pass.len pass.version (omega (arith, above)) counts.1.0.len)) kinds
    set_again k a (outcome.Gone number gone.Clear) at is sets = absurd (cc)
    set_again k a o at is sets = absurd (cc)

  walked_again : (place : Place) → IsThere s place → (worker k : ℕ) (x : Step) → slice_get (steps_of workers worker) k ≡ Some x → IsAmong (place_number place) (flat_map set_by_walk x.work.walks) → HasReason s r place
  walked_again place there worker k x at has =
      let v = flat_among set_by_walk x.work.walks (place_number place) has in
      let q = map_has place_number (map (λ (a : Attempt). place_in v.0 a.id) (filter (λ (a : Attempt). is_setting a.outcome) v.0.attempts.items)) (place_number place) (among_has (set_by_walk v.0) (place_number place) v.2) in
      let a = map_has (λ (b : Attempt). place_in v.0 b.id) (filter (λ (b : Attempt). is_setting b.outcome) v.0.attempts.items) q.0 q.1 in
      let kept = filter_has (λ (z : Attempt). is_setting z.outcome) v.0.attempts.items a.0 a.1 in
      let b = has_among v.0.attempts.items a.0 kept.0 in
      let own = at_some x.work.walks v.1.0 v.0 v.1.1 in
      let at_a = at_some v.0.attempts.items b.0 a.0 b.1 in
      let d = (run.steps.each worker k x at).did.walks.each v.1.0 v.0 own in
      let q_there : IsThere s (place_in v.0 a.0.id) = record { id = (d.attempts b.0 a.0 at_a).id; node = d.node; group = d.group } in
      let same : place_in v.0 a.0.id ≡ place = a.2 ∙ (sym (back_there s r workers run q.0 (subst (IsThere s) a.2 q_there)) ∙ (ap place_at q.2 ∙ back_there s r workers run place there)) in
      let number = length x.before.walks + v.1.0 in
      let of = walk_of s r workers run worker number v.0 (walk_there s r workers run worker k v.1.0 x v.0 at own) in
      subst (HasReason s r) same (set_again worker number v.0 of b.0 a.0 a.0.outcome at_a refl kept.1)

  reason : (place : Place) → IsThere s place → 0 < times (place_number place) (all_sets workers) → HasReason s r place
  reason place there lt =
      let t = some_term (only (place_number place)) (all_sets workers) lt in
      let number : t.1 ≡ place_number place = dite (ℕ_discrete t.1 (place_number place)) (λ e. e) (λ ne. absurd (omega (arith, t.3, only_no (place_number place) t.1 ne))) in
      let of = has_step (λ (x : Step). x.work.core.sets) workers t.1 (t.0, t.2) in
      let why = each_among (λ (k : ℕ). IsListFilled of.step.work.core.made k ⊎ IsAmong k (flat_map set_by_walk of.step.work.walks)) of.step.work.core.sets t.1 (run.steps.each of.worker of.k of.step of.at).did.entries.sets of.has in
      ⊎_elim
      (λ f. inl (was_filled place there of.worker of.k of.step of.at (subst (IsListFilled of.step.work.core.made) number f)))
      (λ w. walked_again place there of.worker of.k of.step of.at (subst (λ (k : ℕ). IsAmong k (flat_map set_by_walk of.step.work.walks)) number w)) why

  -- ---- the bits at the end
  each_end : (P : MapEnd → ℕ → Type 0) → ((m : MapEnd) → IsMarked s workers m → (bit : ℕ) → bit < 64 → is_set m.bits bit ≡ true → P m (64 * m.unit + bit)) → AllByRecursion (λ (m : MapEnd). AllByRecursion (P m) (ids_in m.unit m.bits)) r.maps.items
  each_end P h = each_weaker (IsMarked s workers) (λ (m : MapEnd). AllByRecursion (P m) (ids_in m.unit m.bits)) (λ m marked. each_id (P m) m.unit m.bits (h m marked)) r.maps.items run.marks

  -- ---- the bits that walks saw
  shown : (worker n : ℕ) (w : WalkRecord) → walk_at r worker n ≡ Some w → AllByRecursion (λ id. (id < s.ids) × HasReason s r (place_in w id)) (ids_seen w)
  shown worker n w at_w = all_has (λ id. (id < s.ids) × HasReason s r (place_in w id)) (ids_seen w) (λ id has.
      let m = flat_map_has (λ (m : MapSeen). ids_in m.unit m.bits) w.maps.items id has in
      each_has (λ id. (id < s.ids) × HasReason s r (place_in w id)) (ids_in m.0.unit m.0.bits) id (each_id (λ id. (id < s.ids) × HasReason s r (place_in w id)) m.0.unit m.0.bits (seen m.0 (has_among w.maps.items m.0 m.1))) m.2) where
        of : WalkOf s r workers run worker n w
        of = walk_of s r workers run worker n w at_w

        seen : (m : MapSeen) → IsAmong m w.maps.items → (bit : ℕ) → bit < 64 → is_set m.bits bit ≡ true → (64 * m.unit + bit < s.ids) × HasReason s r (place_in w (64 * m.unit + bit))
        seen m among bit few set =
            let x = map_seen s r workers run worker n w of among.0 m (at_some w.maps.items among.0 m among.1) in
            let place : Place = place_in w (64 * m.unit + bit) in
            let of_map = map_shown s r workers run worker of.k of.step x.map_is of.at x.among in
            let mine : is_set x.map_is.bits bit ≡ true = ap (λ (b : ℕ). is_set b bit) x.bits ∙ set in
            let near : 64 * m.unit + bit < s.ids = (let id = of_map.of_ids bit few mine in let map = x.number in let node = of.did.node in let group = of.did.group in let nodes = run.sized.nodes in let groups = run.sized.groups in let lt : 64 * m.unit + bit < s.ids = omega (arith, id, map, node, group, nodes, groups) in lt) in
            let there : IsThere s place = record { id = near; node = of.did.node; group = of.did.group } in
            let unit_is : unit_of place.id ≡ m.unit = omega (arith, few) in
            let bit_is : bit_of place.id ≡ bit = omega (arith, few) in
            (near, reason place there (of_map.shown place there (ap (map_number w.node w.group) unit_is ∙ sym x.number) (ap (is_set x.map_is.bits) bit_is ∙ mine)))

  -- ---- the bits that a worker set
  kept : (worker n : ℕ) (w : WalkRecord) → walk_at r worker n ≡ Some w → (i k : ℕ) (m : MapSeen) (place : Place) → slice_get w.maps.items i ≡ Some m → Covers w m place
      → k < w.by.command → FillsPlace s r (serial_of worker k) place → was_cleared_since r place worker k ≡ false → is_set m.bits (bit_of place.id) ≡ true
  kept worker n w at_w i k m place at_m covers lt fills none = elim (cases_Bool (is_set m.bits (bit_of place.id))) [
    | inl has ↦ has
    | inr lacking ↦ absurd (lacks lacking)
  ] where
    of : WalkOf s r workers run worker n w
    of = walk_of s r workers run worker n w at_w

    f : (x : Step) × (slice_get (steps_of workers worker) k ≡ Some x) × IsFillOf s r workers run x place
    f = fill_of s r workers run worker k place (subst (λ (g : ℕ). 0 < g) covers.group (below_root s r workers run worker n w of i m at_m)) fills

    seen : IsMapSeen s r workers run of.step w m
    seen = map_seen s r workers run worker n w of i m at_m

    lacks : is_set m.bits (bit_of place.id) ≡ false → ⊥
    lacks lacking =
        let there = f.2.there in let node = there.node in let group = there.group in let id = there.id in let nodes = run.sized.nodes in let groups = run.sized.groups in
        let map_is : map_of (place_number place) ≡ seen.map_is.map = (let e : map_of (place_number place) ≡ map_number place.node place.group (unit_of place.id) = omega (arith, node, group, nodes, groups) in e) ∙ (covered s r workers run w m place covers ∙ sym seen.number) in
        let bit : layout.place_bit (place_number place) ≡ bit_of place.id = omega (arith, node, group, nodes, groups) in
        let command : w.by.command ≡ of.k = ap (λ (b : Serial). b.command) (of.did.by ∙ of.is.by) in
        let c = was_cleared_by s r workers run worker k of.k (place_number place) f.0 of.step seen.map_is (omega (arith, lt, command)) f.1 of.at f.2.last seen.among
        (λ t so one. absurd (let set : is_set m.bits (bit_of place.id) ≡ true = eq-eqb (bit_at m.bits (bit_of place.id)) 1 (sym (ap (λ (b : ℕ). bit_at b (bit_of place.id)) seen.bits) ∙ (sym (ap (bit_at seen.map_is.bits) bit) ∙ (so (place_number place) (omega (arith, id, node, group, nodes, groups)) map_is ∙ one))) in let bad : true ≡ false = sym set ∙ lacking in cc)) in
        let v = clearing_of s r workers run place there c.by c.number c.step c.at c.has in
        let later : is_since worker k v.walk ≡ true = since worker k v.walk (⊎_elim (λ other. inl (λ same. other (ap (λ (z : Serial). z.worker) (sym v.by) ∙ same))) (λ less. inr (subst (λ (z : Serial). k < z.command) (sym v.by) less)) c.since) in
        let told : was_cleared_since r place worker k ≡ true = any_yes s r workers run (is_place place) (flat_map clearings_of (filter (is_since worker k) (all_walks r))) place
        (Has_flat_map clearings_of (filter (is_since worker k) (all_walks r)) v.walk place (Has_filter (is_since worker k) (all_walks r) v.walk v.there later) v.clears) (is_place_itself place) in
        let bad : true ≡ false = sym told ∙ none in cc

  pub bits_told : AreBitsTold s r
  bits_told = record {
    of_ids = each_end (λ m id. id < s.ids) (λ m marked bit few set. (marked bit few set).0.id);
    raised = each_end (λ m id. HasReason s r (bit_place m id)) (λ m marked bit few set. let k = marked bit few set in reason (bit_place m (64 * m.unit + bit)) k.0 k.1);
    shown = shown;
    kept = kept;
  }
