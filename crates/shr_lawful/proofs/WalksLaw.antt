-- SPDX-License-Identifier: GPL-2.0-only
-- The law of walks, of a run.
use Rattle.shr_lawful.proofs.Common.{◌≡◌, ℕ, zero, suc, ◌<◌, ◌≤◌, ◌≢◌, inl, inr, ⊎_elim, Bool, true, false, ◌||◌, cond, List, [], ◌∷◌, ◌++◌, length, map, sym, refl, ap, subst, ◌∙◌, arith, slice_get, Option, Some, flat_map, filter, count_by, option_and_then, AllByRecursion, list_any, IsSomeAnd, append-nil, dite, ℕ_discrete, same_Some, none-some, Place, Serial, Entry, Scan, Answered, Reply, Command, Put, Script, Attempt, MapSeen, WalkRecord, Count, counts_of, is_clearing, is_set, ops_by, is_refused, is_serial, jobs_of, place_number, is_place, unit_of, bit_of, job_of, place_in, passes_at, versions_at, clearings_of, is_place_same, is_place_itself, times, only, Begins, total-append, some_term, only_no, place_at, map_number, Made, Mapped, back, Report, parents_of, limit_of, journals_of, serial_of, walks_by, walk_at, all_walks, cited_at, cited_by, uses_at, items_before, at, IsThere, IsToldBy, FillsPlace, Covers, Step, IsAmong, gathered, steps_of, IsSetLast, IsMadeAsCited, mapped_in, cleared_by_walk, map_word, DidRoundsOf, DidJobs, AreWalksFor, ops_at, all_cleared, IsMapOf, IsRun, Has, filter_has, map_has, Has_flat_map, at_some, by_slices, some_at, serial_itself, filter_both, IsOfPass, AreRoundsOf, AreWalksOf, MayMake, was_cleared, AreWalksLawful, no_test}
use Rattle.shr_model.proofs.Weights.{is_serial_same}
use Rattle.shr_base.specs.declared.replies.Reply.TheVariants as reply
use Rattle.shr_lawful.specs.Entries as entries
use Rattle.shr_lawful.proofs.Gathering.{each_among, gathered_has, among_right, among_begins, among_flat, flat_among, has_step, work_of, grows, made_stands, maker, Stepped, stepped, replies, back_there}
use Rattle.shr_lawful.proofs.Listed.{ops_are, has_among, among_has, all_walks_are, WalkOf, walk_of, walk_there}
use Rattle.shr_lawful.proofs.VersionsLaw.{lawful_walk, count_made, among_map, versions_fall_not}
use Rattle.shr_lawful.proofs.DeferredLaw.{filter_none}

-- ---- the walks of a command

filter_all : {A : Type 0} (p : A → Bool) (xs : List A) → ((k : ℕ) (x : A) → slice_get xs k ≡ Some x → p x ≡ true) → filter p xs ≡ xs
filter_all p [] h = refl
filter_all p (x ∷ xs) h = ap (λ b. cond b (x ∷ filter p xs) (filter p xs)) (h 0 x refl) ∙ ap (λ l. x ∷ l) (filter_all p xs (λ k y e. h (suc k) y e))

-- the part of one element, where the test holds of its part and of no other
pub filter_part : {A B : Type 0} (p : B → Bool) (f : A → List B) (xs : List A) (i : ℕ) (x : A) → slice_get xs i ≡ Some x
    → ((j : ℕ) (y : B) → slice_get (f x) j ≡ Some y → p y ≡ true) → ((k j : ℕ) (z : A) (y : B) → slice_get xs k ≡ Some z → k ≢ i → slice_get (f z) j ≡ Some y → p y ≡ false) → filter p (flat_map f xs) ≡ f x
filter_part p f [] i x at own others = absurd (none-some x at)
filter_part {A} {B} p f (z ∷ xs) zero x at own others = let same : z ≡ x = same_Some z x at in
    filter_both p (f z) (flat_map f xs) ∙ (ap (λ l. l ++ filter p (flat_map f xs)) (ap (λ v. filter p (f v)) same ∙ filter_all p (f x) own)
    ∙ (ap (λ l. f x ++ l) (nothing xs (λ k j v y e d. others (suc k) j v y e (λ s. omega (arith, s)) d)) ∙ append-nil (f x))) where
      nothing : (vs : List A) → ((k j : ℕ) (v : A) (y : B) → slice_get vs k ≡ Some v → slice_get (f v) j ≡ Some y → p y ≡ false) → filter p (flat_map f vs) ≡ []
      nothing [] h = refl
      nothing (v ∷ vs) h = filter_both p (f v) (flat_map f vs) ∙ (ap (λ l. l ++ filter p (flat_map f vs)) (filter_none p (f v) (λ j y d. h 0 j v y refl d)) ∙ nothing vs (λ k j u y e d. h (suc k) j u y e d))
filter_part p f (z ∷ xs) (suc i) x at own others = filter_both p (f z) (flat_map f xs)
    ∙ (ap (λ l. l ++ filter p (flat_map f xs)) (filter_none p (f z) (λ j y d. others 0 j z y refl (λ s. omega (arith, s)) d)) ∙ filter_part p f xs i x at own (λ k j v y e ne d. others (suc k) j v y e (λ s. ne (omega (arith, s))) d))

-- the part of one of a worker's steps, where what each step has bears the step's serial
pub filter_serial : {A B : Type 0} (serial : B → Serial) (f : A → List B) (worker : ℕ) (xs : List A) (k : ℕ) (x : A) → slice_get xs k ≡ Some x
    → ((j i : ℕ) (y : A) (b : B) → slice_get xs j ≡ Some y → slice_get (f y) i ≡ Some b → serial b ≡ serial_of worker j) → filter (λ (b : B). is_serial (serial_of worker k) (serial b)) (flat_map f xs) ≡ f x
filter_serial {A} {B} serial f worker xs k x at by_of = filter_part (λ (b : B). is_serial (serial_of worker k) (serial b)) f xs k x at
    (λ j b e. ap (is_serial (serial_of worker k)) (by_of k j x b at e) ∙ serial_itself (serial_of worker k))
    (λ i j y b at_y ne e. no_test (is_serial (serial_of worker k) (serial b)) (λ same. ne (ap (λ (z : Serial). z.command) (sym (is_serial_same (serial_of worker k) (serial b) same ∙ by_of i j y b at_y e)))))

module _ (s : Script) (r : Report) (workers : List (List Step)) (run : IsRun s r workers) where
  pub walks_are : (worker k : ℕ) (x : Step) → slice_get (steps_of workers worker) k ≡ Some x → walks_by r (serial_of worker k) ≡ x.work.walks
  walks_are worker k x at = ap (filter (λ (w : WalkRecord). is_serial (serial_of worker k) w.by)) (run.steps.walks worker)
      ∙ filter_serial (λ (w : WalkRecord). w.by) (λ (y : Step). y.work.walks) worker (steps_of workers worker) k x at
      (λ j i y w at_y at_w. let is = run.steps.each worker j y at_y in (is.did.walks.each i w at_w).by ∙ is.by)

  -- ---- the Scan entries are those of passes
  scan_of_pass : (place : Place) (e : Entry) (x : Step) (m : Made) (worker k : ℕ) → slice_get (steps_of workers worker) k ≡ Some x → place_at m.place ≡ place → entries.MayMakeEntry s x m e → IsOfPass r place e
  scan_of_pass place (Scan w n asked policy visits freed stopped) x m worker k at here may = λ low. ⊎_elim
      (λ t. let own : w ≡ worker = t.own ∙ ap (λ (z : Serial). z.worker) (run.steps.each worker k x at).by in
      let there : walk_at r w n ≡ Some t.walk = ap (λ v. walk_at r v n) own ∙ (ap (walk_at r worker) t.number ∙ walk_there s r workers run worker k t.index x t.walk at t.there) in
      subst (λ (o : Option WalkRecord). IsSomeAnd o (λ v. 0 < length (passes_at place v))) (sym there) (subst (λ p. 0 < length (passes_at p t.walk)) here t.passes))
      (λ t. absurd (let high = t.high in omega (arith, high, low))) may
  scan_of_pass place e x m worker k at here may = tt

  no_others : (place : Place) (n : ℕ) (e : Entry) → slice_get (journals_of r place) n ≡ Some e → IsOfPass r place e
  no_others place n e stands =
      let m = maker s r workers run place n e stands in
      let may = each_among (λ (z : Made). entries.MayMakeEntry s m.step z z.entry) m.step.work.core.made m.made (run.steps.each m.worker m.k m.step m.at).did.entries.each m.among in
      scan_of_pass place e m.step m.made m.worker m.k m.at m.place_is (subst (entries.MayMakeEntry s m.step m.made) m.entry may)

  -- ---- the walks are those of the commands
  rounds_are : (by : Serial) (c : Command) (x : Step) (rounds : List ℕ) → ((g : ℕ) → ops_by by (uses_at r g) ≡ ops_at g x.work.ops) → DidRoundsOf s x rounds c → AreRoundsOf s r by c x.answered.reply rounds
  rounds_are by (Put to key value) x rounds ops d = record {
    few = d.few;
    above = d.above;
    refusals = λ h. d.refusals h ∙ sym (ap (count_by (is_refused (limit_of s h))) (ops h));
    all = d.all;
  }
  rounds_are by c x rounds ops d = d

  pub jobs_did : (by : Serial) (c : Command) (a : Answered) (t : Stepped s r workers run by c a) → DidJobs s t.step c
  jobs_did by c a t = subst (AreWalksFor s t.step) t.command t.did.walks.asked

  walks_of_command : (by : Serial) (c : Command) (a : Answered) → Stepped s r workers run by c a → AreWalksOf s r by c a.reply
  walks_of_command by c a t = let d = jobs_did by c a t in record {
    rounds = d.rounds;
    refused = subst (λ (y : Answered). AreRoundsOf s r by c y.reply d.rounds) t.answered (rounds_are by c t.step d.rounds ops d.refused);
    made = subst (λ (l : List WalkRecord). MayMake a.reply (jobs_of (parents_of s) s.nodes d.rounds c) (map job_of l)) (sym (walks_are by.worker by.command t.step t.at))
        (subst (λ (y : Answered). MayMake y.reply (jobs_of (parents_of s) s.nodes d.rounds c) (map job_of t.step.work.walks)) t.answered d.made);
  } where
    ops : (g : ℕ) → ops_by by (uses_at r g) ≡ ops_at g t.step.work.ops
    ops g = ap (λ (b : Serial). ops_by b (uses_at r g)) (sym t.own) ∙ ops_are s r workers run by.worker by.command t.step g t.at

  told_by : (by : Serial) (c : Command) (a : Answered) → Stepped s r workers run by c a → IsToldBy s (walks_by r by) c a.reply
  told_by by c a t = subst (λ (l : List WalkRecord). IsToldBy s l c a.reply) (sym (walks_are by.worker by.command t.step t.at))
      (subst (λ (y : Answered). IsToldBy s t.step.work.walks c y.reply) t.answered (jobs_did by c a t).told)

  -- ---- counts come after what was told before
  later : (worker n : ℕ) (w : WalkRecord) → walk_at r worker n ≡ Some w → (k entry : ℕ) (place : Place) → k < w.by.command → cited_at r (serial_of worker k) ≡ Some (at place entry) → AllByRecursion (λ version. entry < version) (versions_at place w)
  later worker n w at_w k entry place lt cites =
      let of = walk_of s r workers run worker n w at_w in
      let a = replies s r workers run cited_by worker k (at place entry) cites in
      let c : IsMadeAsCited s a.step (at place entry) = (run.steps.each worker k a.step a.at).did.entries.cited (at place entry) a.reply in
      let number : w.by.command ≡ of.k = ap (λ (b : Serial). b.command) (of.did.by ∙ of.is.by) in
      let done : IsAmong c.made a.step.after.core.traces.made = subst (λ l. IsAmong c.made l) (sym (work_of s r workers run worker k a.step a.at).core.made) (among_right a.step.before.core.traces.made a.step.work.core.made c.made c.among) in
      let before : IsAmong c.made of.step.before.core.traces.made = among_begins a.step.after.core.traces.made of.step.before.core.traces.made c.made (grows s r workers run worker k of.k a.step of.step (omega (arith, lt, number)) a.at of.at).made done in
      all_versions w.attempts.items (λ j b at_b same d e. count_after of j b d at_b same e a.step c before) where
        count_after : (of : WalkOf s r workers run worker n w) (j : ℕ) (b : Attempt) (d : Count) → slice_get w.attempts.items j ≡ Some b → is_place place (place_in w b.id) ≡ true → IsAmong d (counts_of b.outcome) → (x : Step) (c : IsMadeAsCited s x (at place entry)) → IsAmong c.made of.step.before.core.traces.made → entry < d.version
        count_after of j b d at_b same e x c before =
            let f = count_made s r workers run worker n w of j b d at_b e in
            let fresh = (of.is.did.walks.fresh.each f.0 (record { place = place_number (place_in w b.id); len = d.len; version = d.version }) f.1).made before.0 c.made before.1 in
            let here : c.made.place ≡ place_number (place_in w b.id) = sym (back c.made.place) ∙ ap place_number (c.place ∙ is_place_same place (place_in w b.id) same) in
            omega (arith, fresh here, c.number)

        all_versions : (xs : List Attempt) → ((j : ℕ) (b : Attempt) → slice_get xs j ≡ Some b → is_place place (place_in w b.id) ≡ true → (d : Count) → IsAmong d (counts_of b.outcome) → entry < d.version)
            → AllByRecursion (λ version. entry < version) (flat_map (λ (b : Attempt). map (λ (d : Count). d.version) (counts_of b.outcome)) (filter (λ (b : Attempt). is_place place (place_in w b.id)) xs))
        all_versions xs h = by_slices (λ version. entry < version) (flat_map (λ (b : Attempt). map (λ (d : Count). d.version) (counts_of b.outcome)) (filter (λ (b : Attempt). is_place place (place_in w b.id)) xs))
            (λ i v e. let t = flat_among (λ (b : Attempt). map (λ (d : Count). d.version) (counts_of b.outcome)) (filter (λ (b : Attempt). is_place place (place_in w b.id)) xs) v (i, some_at (flat_map (λ (b : Attempt). map (λ (d : Count). d.version) (counts_of b.outcome)) (filter (λ (b : Attempt). is_place place (place_in w b.id)) xs)) i v e) in
            let f = filter_has (λ (b : Attempt). is_place place (place_in w b.id)) xs t.0 (among_has (filter (λ (b : Attempt). is_place place (place_in w b.id)) xs) t.0 t.1) in
            let g = has_among xs t.0 f.0 in
            let u = map_has (λ (d : Count). d.version) (counts_of t.0.outcome) v (among_has (map (λ (d : Count). d.version) (counts_of t.0.outcome)) v t.2) in
            subst (λ m. entry < m) u.2 (h g.0 t.0 (at_some xs g.0 t.0 g.1) f.1 u.0 (has_among (counts_of t.0.outcome) u.0 u.1)))

  -- ---- a map has the bits that its worker had set
  weighs_times : (k : ℕ) (xs ys : List ℕ) → Begins xs ys → times k xs ≤ times k ys
  weighs_times k xs ys b = omega (arith, ap (times k) b.1, total-append (only k) xs b.0)

  pub any_yes : {A : Type 0} (test : A → Bool) (xs : List A) (x : A) → Has xs x → test x ≡ true → list_any test xs ≡ true
  any_yes test [] x has passes = absurd has
  any_yes test (y ∷ xs) x (inl e) passes = ap (λ b. b || list_any test xs) (ap test e ∙ passes)
  any_yes test (y ∷ xs) x (inr has) passes = (elim (test y) as (λ (b : Bool). list_any test xs ≡ true → (b || list_any test xs) ≡ true) [ true ↦ λ e. refl | false ↦ λ e. e ]) (any_yes test xs x has passes)

  -- the walk of the report that tells a clearing of a step
  pub record HasClearing (worker k : ℕ) (place : Place) : Type 0 where
    pub walk : WalkRecord
    pub there : Has (all_walks r) walk
    pub clears : Has (clearings_of walk) place
    pub by : walk.by ≡ serial_of worker k

  pub clearing_of : (place : Place) → IsThere s place → (worker k : ℕ) (x : Step) → slice_get (steps_of workers worker) k ≡ Some x → IsAmong (place_number place) x.work.core.cleared → HasClearing worker k place
  clearing_of place there worker k x at has =
      let is = run.steps.each worker k x at in
      let v = flat_among cleared_by_walk x.work.walks (place_number place) (subst (λ l. IsAmong (place_number place) l) (sym is.did.walks.cleared) has) in
      let q = map_has place_number (clearings_of v.0) (place_number place) (among_has (cleared_by_walk v.0) (place_number place) v.2) in
      let a = map_has (λ (b : Attempt). place_in v.0 b.id) (filter (λ (b : Attempt). is_clearing b.outcome) v.0.attempts.items) q.0 q.1 in
      let b = has_among v.0.attempts.items a.0 (filter_has (λ (z : Attempt). is_clearing z.outcome) v.0.attempts.items a.0 a.1).0 in
      let d = is.did.walks.each v.1.0 v.0 (at_some x.work.walks v.1.0 v.0 v.1.1) in
      let q_there : IsThere s (place_in v.0 a.0.id) = record { id = (d.attempts b.0 a.0 (at_some v.0.attempts.items b.0 a.0 b.1)).id; node = d.node; group = d.group } in
      let same : q.0 ≡ place = sym (back_there s r workers run q.0 (subst (IsThere s) a.2 q_there)) ∙ (ap place_at q.2 ∙ back_there s r workers run place there) in
      record {
        walk = v.0;
        there = subst (λ l. Has l v.0) (sym (all_walks_are s r workers run)) (among_has (gathered (λ x. x.work.walks) workers) v.0 (gathered_has (λ (y : Step). y.work.walks) workers worker k x v.0 at v.1));
        clears = subst (Has (clearings_of v.0)) same q.1;
        by = d.by ∙ is.by;
      }

  -- a place whose bit no walk cleared
  not_cleared : (place : Place) → IsThere s place → was_cleared r place ≡ false → times (place_number place) (all_cleared workers) ≡ 0
  not_cleared place there none = by_cases (times (place_number place) (all_cleared workers)) refl where
    found : 0 < times (place_number place) (all_cleared workers) → ⊥
    found lt =
        let t = some_term (only (place_number place)) (all_cleared workers) lt in
        let number : t.1 ≡ place_number place = dite (ℕ_discrete t.1 (place_number place)) (λ e. e) (λ ne. absurd (omega (arith, t.3, only_no (place_number place) t.1 ne))) in
        let of = has_step (λ (x : Step). x.work.core.cleared) workers t.1 (t.0, t.2) in
        let c = clearing_of place there of.worker of.k of.step of.at (subst (λ n. IsAmong n of.step.work.core.cleared) number of.has) in
        let cleared : was_cleared r place ≡ true = any_yes (is_place place) (flat_map clearings_of (all_walks r)) place (Has_flat_map clearings_of (all_walks r) c.walk place c.there c.clears) (is_place_itself place) in
        let t : true ≡ false = sym cleared ∙ none in cc

    by_cases : (n : ℕ) → times (place_number place) (all_cleared workers) ≡ n → times (place_number place) (all_cleared workers) ≡ 0
    by_cases zero e = e
    by_cases (suc n) e = absurd (found (omega (arith, e)))

  -- the map of a walk of the report among its step's
  pub record IsMapSeen (x : Step) (w : WalkRecord) (m : MapSeen) : Type 0 where
    pub map_is : Mapped
    pub among : IsAmong map_is x.work.core.maps
    pub number : map_is.map ≡ map_number w.node w.group m.unit
    pub bits : map_is.bits ≡ m.bits

  pub map_seen : (worker n : ℕ) (w : WalkRecord) (of : WalkOf s r workers run worker n w) (i : ℕ) (m : MapSeen) → slice_get w.maps.items i ≡ Some m → IsMapSeen of.step w m
  map_seen worker n w of i m at_m =
      let pair : IsAmong (map_number w.node w.group m.unit, m.bits) (map map_word of.step.work.core.maps) = subst (λ l. IsAmong (map_number w.node w.group m.unit, m.bits) l) of.is.did.walks.maps
      (among_flat mapped_in of.step.work.walks w (map_number w.node w.group m.unit, m.bits) (of.i, some_at of.step.work.walks of.i w of.own) (among_map (λ (z : MapSeen). (map_number w.node w.group z.unit, z.bits)) w.maps.items m (i, some_at w.maps.items i m at_m))) in
      let x = map_has map_word of.step.work.core.maps (map_number w.node w.group m.unit, m.bits) (among_has (map map_word of.step.work.core.maps) (map_number w.node w.group m.unit, m.bits) pair) in
      record { map_is = x.0; among = has_among of.step.work.core.maps x.0 x.1; number = ap (λ p. p.0) x.2; bits = ap (λ p. p.1) x.2 }

  -- what is so of a map of a step
  pub map_shown : (worker k : ℕ) (x : Step) (m : Mapped) → slice_get (steps_of workers worker) k ≡ Some x → IsAmong m x.work.core.maps → IsMapOf s workers m
  map_shown worker k x m at among = let shown = among_right x.before.core.marks.maps x.work.core.maps m among in
      (run.steps.shown worker k x at).maps shown.0 m (subst (λ l. IsAmong m l) (sym (work_of s r workers run worker k x at).core.maps) shown).1

  -- it is the map of the places that it covers
  pub covered : (w : WalkRecord) (m : MapSeen) (place : Place) → Covers w m place → map_number place.node place.group (unit_of place.id) ≡ map_number w.node w.group m.unit
  covered w m place covers = sym (ap (λ g. map_number w.node g m.unit) covers.group ∙ (ap (λ v. map_number v place.group m.unit) covers.node ∙ ap (λ u. map_number place.node place.group u) covers.unit))

  -- a walk that has a map is below the root
  pub below_root : (worker n : ℕ) (w : WalkRecord) → WalkOf s r workers run worker n w → (i : ℕ) (m : MapSeen) → slice_get w.maps.items i ≡ Some m → 0 < w.group
  below_root worker n w of i m at_m = by_cases w.group refl where
    by_cases : (g : ℕ) → w.group ≡ g → 0 < w.group
    by_cases zero e = absurd (none-some m (sym (ap (λ l. slice_get l i) (of.did.record_is.root e).0) ∙ at_m))
    by_cases (suc g) e = omega (arith, e)

  -- the entry by which a command filled a list below the root, with the bit that it set there
  pub record IsFillOf (x : Step) (place : Place) : Type 0 where
    pub there : IsThere s place
    pub set : 0 < times (place_number place) x.work.core.sets
    pub last : IsSetLast x (place_number place)

  pub fill_of : (worker k : ℕ) (place : Place) → 0 < place.group → FillsPlace s r (serial_of worker k) place → (x : Step) × (slice_get (steps_of workers worker) k ≡ Some x) × IsFillOf x place
  fill_of worker k place below fills =
      let a = replies s r workers run (λ x. Some x) worker k (reply.Added (at place fills.entry)) (ap (option_and_then (λ (x : Reply). Some x)) fills.added) in
      let answered : a.step.answered.reply ≡ reply.Added (at place fills.entry) = same_Some a.step.answered.reply (reply.Added (at place fills.entry)) a.reply in
      let c : IsMadeAsCited s a.step (at place fills.entry) = (run.steps.each worker k a.step a.at).did.entries.cited (at place fills.entry) (ap cited_by answered) in
      let stands = made_stands s r workers run worker k a.step a.at c.among.0 c.made c.among.1 in
      let number : c.made.place ≡ place_number place = sym (back c.made.place) ∙ ap place_number c.place in
      let items : c.made.items ≡ [] = stands.1.items ∙ (ap (λ p. items_before s r p c.made.number) c.place ∙ (ap (items_before s r place) c.number ∙ fills.empty)) in
      let set = c.filled answered below items in
      (a.step, a.at, record { there = subst (IsThere s) c.place stands.0; set = subst (λ (j : ℕ). 0 < times j a.step.work.core.sets) number set.0; last = subst (IsSetLast a.step) number set.1 })

  bits : (worker n : ℕ) (w : WalkRecord) → walk_at r worker n ≡ Some w → (i k : ℕ) (m : MapSeen) (place : Place) → slice_get w.maps.items i ≡ Some m → Covers w m place
      → k < w.by.command → FillsPlace s r (serial_of worker k) place → was_cleared r place ≡ false → is_set m.bits (bit_of place.id) ≡ true
  bits worker n w at_w i k m place at_m covers lt fills none =
      let of = walk_of s r workers run worker n w at_w in
      let f = fill_of worker k place (subst (λ (g : ℕ). 0 < g) covers.group (below_root worker n w of i m at_m)) fills in
      let command : w.by.command ≡ of.k = ap (λ (b : Serial). b.command) (of.did.by ∙ of.is.by) in
      let mine = weighs_times (place_number place) f.0.after.core.marks.sets of.step.before.core.marks.sets (grows s r workers run worker k of.k f.0 of.step (omega (arith, lt, command)) f.1 of.at).sets in
      let x = map_seen worker n w of i m at_m in
      let begins = weighs_times (place_number place) of.step.before.core.marks.sets x.map_is.set (of.is.did.walks.set x.among.0 x.map_is x.among.1) in
      let all = map_shown worker of.k of.step x.map_is of.at x.among in
      let own = (let e = (work_of s r workers run worker k f.0 f.1).core.sets in let set = f.2.set in let sum : 0 < times (place_number place) f.0.after.core.marks.sets = omega (arith, set, ap (times (place_number place)) e, total-append (only (place_number place)) f.0.before.core.marks.sets f.0.work.core.sets) in sum) in
      ap (λ b. is_set b (bit_of place.id)) (sym x.bits) ∙ all.set place f.2.there (covered w m place covers ∙ sym x.number) (omega (arith, own, mine, begins)) (not_cleared place f.2.there none)

  pub walks_lawful : AreWalksLawful s r
  walks_lawful = record {
    each = λ worker n w at. lawful_walk s r workers run worker n w (walk_of s r workers run worker n w at);
    no_others = no_others;
    walks = λ by c a command answer. walks_of_command by c a (stepped s r workers run by c a command answer);
    told = λ by c a command answer. told_by by c a (stepped s r workers run by c a command answer);
    versions = versions_fall_not s r workers run;
    later = later;
    bits = bits;
  }
