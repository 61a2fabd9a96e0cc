-- SPDX-License-Identifier: GPL-2.0-only
-- Rounds over some groups in some order, round by round.
use Rattle.shr_audit_walks.proofs.RoundsCommon.{◌≡◌, ℕ, zero, suc, ◌+◌, ◌-◌, ◌<◌, ◌≤◌, Bool, true, false, List, [], ◌∷◌, ◌++◌, length, get_or, map, flat_map, refl, sym, ap, subst, ◌∙◌, arith, ◌↔◌, ◌==◌, ◌||◌, not, Decides, AllByRecursion, range_with_len, eqb-true, eq-eqb, length-append, length-drop, WalkRecord, IsTree, preorder_of, Job, job_of, preorder_of-group, AreAlike, FitsRounds, IsWithout, TakesOut, times_over, BeginsAsDue, IsBehind, IsMadeAsDue, IsNotBegun, jobs_made, job, subtrees_of, round_over}
use Rattle.shr_model.specs.Commands.{round_of, rounds_from}
use Rattle.shr_audit_walks.proofs.Alike.{alike_with, alike_without, all_alike, all_without, nothing_alike, out_so, own_time}
use Rattle.shr_audit_walks.proofs.Due.{not_taken, taken}
use Rattle.shr_audit_walks.proofs.Begun.{begins_back, begins_empty, begins_front, begins_then}

pub some_left : (n : ℕ) → false ≡ (n == 0) → 0 < n
some_left zero e = absurd cc
some_left (suc n) e = omega arith

pub nothing_left : (n : ℕ) → true ≡ (n == 0) → n ≡ 0
nothing_left n e = eqb-true n 0 (sym e)

module _ (parents : List ℕ) (nodes : ℕ) (tree : IsTree parents) (some : 0 < nodes) where
  abbrev There : List ℕ → Type 0
  There groups = AllByRecursion (λ (g : ℕ). g < length parents) groups

  -- a round begins with the walk of its group on node 0
  round_first : (p g : ℕ) → g < length parents → (tail : List Job) × (round_of parents nodes p g ≡ job g 0 p false ∷ tail)
  round_first p g lt = by nodes some
    where
      on : ℕ → List ℕ → List Job
      on node groups = map (λ (h : ℕ). job h node p false) groups

      by : (n : ℕ) → 0 < n → (tail : List Job) × (flat_map (λ node. on node (preorder_of parents g)) (range_with_len 0 n) ≡ job g 0 p false ∷ tail)
      by zero h = absurd (omega arith)
      by (suc n) h = (
        on 0 (subtrees_of parents g) ++ flat_map (λ node. on node (preorder_of parents g)) (range_with_len (0 + 1) n),
        ap (λ (groups : List ℕ). on 0 groups ++ flat_map (λ node. on node (preorder_of parents g)) (range_with_len (0 + 1) n)) (preorder_of-group parents tree g lt),
      )

  rounds_none : (p : ℕ) → rounds_from parents nodes p [] ≡ []
  unfolding rounds_from
  rounds_none p = refl

  rounds_next : (p g : ℕ) (gs : List ℕ) → rounds_from parents nodes p (g ∷ gs) ≡ round_of parents nodes p g ++ rounds_from parents nodes (p - 1) gs
  unfolding rounds_from
  rounds_next p g gs = refl

  -- what begins with a round is over its group
  first_is : (w : Bool) (p g : ℕ) (due : List Job) (m : Job) (ms : List Job) → g < length parents → BeginsAsDue w (round_of parents nodes p g ++ due) (m ∷ ms) → m ≡ job g 0 p false
  first_is w p g due m ms lt h = let f = round_first p g lt in (subst (λ (js : List Job). BeginsAsDue w (js ++ due) (m ∷ ms)) f.1 h).0

  -- where walks were made, the rounds have a first one, over the group of the first walk
  abbrev Heads : Bool → ℕ → List ℕ → Job → List Job → Type 0
  Heads w p groups m ms = (others : List ℕ) × (AreAlike (m.group ∷ others) groups × (BeginsAsDue w (round_of parents nodes p m.group ++ rounds_from parents nodes (p - 1) others) (m ∷ ms)
      × (length (m ∷ ms) ≤ length (round_of parents nodes p m.group ++ rounds_from parents nodes (p - 1) others))))

  heads : (w : Bool) (p : ℕ) (groups : List ℕ) (m : Job) (ms : List Job) → There groups → FitsRounds parents nodes w p groups (m ∷ ms) → Heads w p groups m ms
  heads w p groups m ms there h = by h.rounds h.alike h.made
    where
      at_group : (g : ℕ) (gs : List ℕ) → g ≡ m.group → AreAlike (g ∷ gs) groups → IsMadeAsDue w (rounds_from parents nodes p (g ∷ gs)) (m ∷ ms) → Heads w p groups m ms
      at_group g gs e same made =
          let whole = rounds_next p g gs ∙ ap (λ (x : ℕ). round_of parents nodes p x ++ rounds_from parents nodes (p - 1) gs) e in (
            gs,
            (
              subst (λ (x : ℕ). AreAlike (x ∷ gs) groups) e same,
              (
                subst (λ (due : List Job). BeginsAsDue w due (m ∷ ms)) whole made.begins,
                subst (λ (due : List Job). length (m ∷ ms) ≤ length due) whole made.few,
              ),
            ),
          )

      by : (rounds : List ℕ) → AreAlike rounds groups → IsMadeAsDue w (rounds_from parents nodes p rounds) (m ∷ ms) → Heads w p groups m ms
      by [] same made = absurd (let e = ap length (rounds_none p) in let few = made.few in omega (arith, e, few))
      by (g ∷ gs) same made =
          let lt : g < length parents = (all_alike (λ (x : ℕ). x < length parents) (g ∷ gs) groups same there).0 in
          let is = first_is w p g (rounds_from parents nodes (p - 1) gs) m ms lt (subst (λ (due : List Job). BeginsAsDue w due (m ∷ ms)) (rounds_next p g gs) made.begins) in
          at_group g gs (sym (ap (λ (j : Job). j.group) is)) same made

  -- a round whose group isn't there is none
  pub not_there : (w : Bool) (p : ℕ) (groups : List ℕ) (m : Job) (ms : List Job) → There groups → times_over m.group groups ≡ 0 → FitsRounds parents nodes w p groups (m ∷ ms) → ⊥
  not_there w p groups m ms there none h =
      let f = heads w p groups m ms there h in
      let e = f.1.0 m.group in let own = own_time m.group f.0 in omega (arith, e, own, none)

  pub not_begun : (w : Bool) (p : ℕ) (groups : List ℕ) (m : Job) (ms : List Job) → There groups → IsNotBegun w (round_of parents nodes p m.group) (m ∷ ms) → FitsRounds parents nodes w p groups (m ∷ ms) → ⊥
  not_begun w p groups m ms there none h =
      let f = heads w p groups m ms there h in
      none (begins_front w (round_of parents nodes p m.group) (rounds_from parents nodes (p - 1) f.0) (m ∷ ms) f.1.1.0)

  -- behind a round are the walks of the others
  pub round_taken : (w : Bool) (p : ℕ) (groups new : List ℕ) (m : Job) (ms rest : List Job) → There groups → IsWithout m.group groups new → IsBehind w (round_of parents nodes p m.group) (m ∷ ms) rest
      → FitsRounds parents nodes w (p - 1) new rest ↔ FitsRounds parents nodes w p groups (m ∷ ms)
  round_taken w p groups new m ms rest there out behind = (to, from)
    where
      own : List Job
      own = round_of parents nodes p m.group

      short : (n : ℕ) → length rest ≤ n → length (m ∷ ms) ≤ length own + n
      short n le = let e = ap length behind.behind in let d = length-drop (length own) (m ∷ ms) in omega (arith, e, d, le)

      back : (n : ℕ) → length (m ∷ ms) ≤ length own + n → length rest ≤ n
      back n le = let e = ap length behind.behind in let d = length-drop (length own) (m ∷ ms) in omega (arith, e, d, le)

      to : FitsRounds parents nodes w (p - 1) new rest → FitsRounds parents nodes w p groups (m ∷ ms)
      to h =
          let more = rounds_from parents nodes (p - 1) h.rounds in
          let whole = sym (rounds_next p m.group h.rounds) in
          record {
            rounds = m.group ∷ h.rounds;
            alike = alike_with m.group h.rounds groups new h.alike out;
            made = record {
              begins = subst (λ (due : List Job). BeginsAsDue w due (m ∷ ms)) whole (begins_then w own more (m ∷ ms) behind.begins (subst (BeginsAsDue w more) behind.behind h.made.begins));
              few = subst (λ (due : List Job). length (m ∷ ms) ≤ length due) whole (let s = short (length more) h.made.few in let l = length-append own more in omega (arith, s, l));
            };
          }

      from : FitsRounds parents nodes w p groups (m ∷ ms) → FitsRounds parents nodes w (p - 1) new rest
      from h =
          let f = heads w p groups m ms there h in
          let more = rounds_from parents nodes (p - 1) f.0 in
          record {
            rounds = f.0;
            alike = alike_without m.group f.0 groups new f.1.0 out;
            made = record {
              begins = subst (BeginsAsDue w more) (sym behind.behind) (begins_back w own more (m ∷ ms) f.1.1.0);
              few = back (length more) (let l = length-append own more in let few = f.1.1.1 in omega (arith, l, few));
            };
          }

  -- ---- where no walk is left

  made_none : (p : ℕ) (groups : List ℕ) → There groups → FitsRounds parents nodes true p groups [] → groups ≡ []
  made_none p groups there h = by h.rounds h.alike h.made
    where
      by : (rounds : List ℕ) → AreAlike rounds groups → IsMadeAsDue true (rounds_from parents nodes p rounds) [] → groups ≡ []
      by [] same made = nothing_alike groups same
      by (g ∷ gs) same made =
          let lt : g < length parents = (all_alike (λ (x : ℕ). x < length parents) (g ∷ gs) groups same there).0 in
          let f = round_first p g lt in
          let bad : ◌≡◌ {A = Bool} true false = subst (λ (js : List Job). BeginsAsDue true (js ++ rounds_from parents nodes (p - 1) gs) []) f.1 (subst (λ (due : List Job). BeginsAsDue true due []) (rounds_next p g gs) made.begins) in
          absurd cc

  none_made : (p : ℕ) → FitsRounds parents nodes true p [] []
  none_made p = record { rounds = []; alike = λ h. refl; made = record { begins = subst (λ (due : List Job). BeginsAsDue true due []) (sym (rounds_none p)) tt; few = omega arith } }

  -- where not the whole need be there, no walk may be
  none_needed : (p : ℕ) (groups : List ℕ) → FitsRounds parents nodes false p groups []
  none_needed p groups = record { rounds = groups; alike = λ h. refl; made = record { begins = begins_empty false (rounds_from parents nodes p groups) refl; few = omega arith } }

  pub none_left : (w : Bool) (p : ℕ) (groups : List ℕ) (empty : Bool) → There groups → Decides empty (groups ≡ []) → Decides (not w || empty) (FitsRounds parents nodes w p groups [])
  none_left false p groups empty there d = (λ t. none_needed p groups, λ h. refl)
  none_left true p groups empty there d = (
    λ t. subst (λ (gs : List ℕ). FitsRounds parents nodes true p gs []) (sym (d.0 t)) (none_made p),
    λ h. d.1 (made_none p groups there h),
  )

  -- ---- by the walks themselves

  module _ (w : Bool) (p : ℕ) (groups : List ℕ) (walks : List WalkRecord) (first : WalkRecord) (there : There groups) (some_walk : 0 < length walks) (is : first ≡ get_or walks 0 first) where
    seen : (m : Job) × ((ms : List Job) × ((jobs_made walks ≡ m ∷ ms) × (m.group ≡ first.group)))
    seen = by walks some_walk is
      where
        by : (ws : List WalkRecord) → 0 < length ws → first ≡ get_or ws 0 first → (m : Job) × ((ms : List Job) × ((jobs_made ws ≡ m ∷ ms) × (m.group ≡ first.group)))
        by [] lt e = absurd (omega arith)
        by (v ∷ vs) lt e = (job_of v, (jobs_made vs, (refl, ap (λ (x : WalkRecord). x.group) (sym e))))

    pub walks_not_there : times_over first.group groups ≡ 0 → FitsRounds parents nodes w p groups (jobs_made walks) → ⊥
    walks_not_there none h =
        not_there w p groups seen.0 seen.1.0 there (ap (λ (g : ℕ). times_over g groups) seen.1.1.1 ∙ none) (subst (λ (js : List Job). FitsRounds parents nodes w p groups js) seen.1.1.0 h)

    pub walks_not_begun : IsNotBegun w (round_of parents nodes p first.group) (jobs_made walks) → FitsRounds parents nodes w p groups (jobs_made walks) → ⊥
    walks_not_begun none h =
        not_begun w p groups seen.0 seen.1.0 there
        (subst (λ (g : ℕ). IsNotBegun w (round_of parents nodes p g) (seen.0 ∷ seen.1.0)) (sym seen.1.1.1) (subst (λ (js : List Job). IsNotBegun w (round_of parents nodes p first.group) js) seen.1.1.0 none))
        (subst (λ (js : List Job). FitsRounds parents nodes w p groups js) seen.1.1.0 h)

    pub walks_taken : (new : List ℕ) (rest : List Job) → IsWithout first.group groups new → IsBehind w (round_of parents nodes p first.group) (jobs_made walks) rest → FitsRounds parents nodes w (p - 1) new rest ↔ FitsRounds parents nodes w p groups (jobs_made walks)
    walks_taken new rest out behind =
        subst (λ (js : List Job). FitsRounds parents nodes w (p - 1) new rest ↔ FitsRounds parents nodes w p groups js) (sym seen.1.1.0)
        (round_taken w p groups new seen.0 seen.1.0 rest there (subst (λ (g : ℕ). IsWithout g groups new) (sym seen.1.1.1) out)
        (subst (λ (g : ℕ). IsBehind w (round_of parents nodes p g) (seen.0 ∷ seen.1.0) rest) (sym seen.1.1.1) (subst (λ (js : List Job). IsBehind w (round_of parents nodes p first.group) js rest) seen.1.1.0 behind)))

  pub walks_none_left : (w : Bool) (p : ℕ) (groups : List ℕ) (walks : List WalkRecord) (empty : Bool) → There groups → length walks ≡ 0 → empty ≡ (length groups == 0) → Decides (not w || empty) (FitsRounds parents nodes w p groups (jobs_made walks))
  walks_none_left w p groups walks empty there none e = subst (λ (ws : List WalkRecord). Decides (not w || empty) (FitsRounds parents nodes w p groups (jobs_made ws))) (sym (no_walks walks none)) (none_left w p groups empty there is_empty)
    where
      no_walks : (ws : List WalkRecord) → length ws ≡ 0 → ws ≡ []
      no_walks [] h = refl
      no_walks (v ∷ vs) h = absurd (omega arith)

      is_empty : Decides empty (groups ≡ [])
      is_empty = (λ t. no_groups groups (eqb-true (length groups) 0 (sym e ∙ t)), λ h. e ∙ eq-eqb (length groups) 0 (ap length h))
        where
          no_groups : (gs : List ℕ) → length gs ≡ 0 → gs ≡ []
          no_groups [] h = refl
          no_groups (g ∷ gs) h = absurd (omega arith)

  -- ---- round by round, where what is left fits just if the whole does

  module _ (w : Bool) (p : ℕ) (groups new : List ℕ) (walks : List WalkRecord) (first : WalkRecord) (b : Bool) (Whole : Type 0) (there : There groups) (way : FitsRounds parents nodes w p groups (jobs_made walks) ↔ Whole)
      (some_walk : 0 < length walks) (is : first ≡ get_or walks 0 first) (takes : TakesOut b first.group groups new) where
    pub group_there : b ≡ true → first.group < length parents
    group_there took = out_so (λ (g : ℕ). g < length parents) first.group groups new (taken b first.group groups new takes took) there

    pub still_there : b ≡ true → There new
    still_there took = all_without (λ (g : ℕ). g < length parents) first.group groups new (taken b first.group groups new takes took) there

    pub group_fails : b ≡ false → Decides false Whole
    group_fails isnt = (λ t. absurd cc, λ h. absurd (walks_not_there w p groups walks first there some_walk is (not_taken b first.group groups new takes isnt) (way.1 h)))

    module _ (order : List ℕ) (ordered : order ≡ preorder_of parents first.group) where
      pub round_fails : IsNotBegun w (round_over nodes p order) (jobs_made walks) → Decides false Whole
      round_fails none = (
        λ t. absurd cc,
        λ h. absurd (walks_not_begun w p groups walks first there some_walk is (subst (λ (gs : List ℕ). IsNotBegun w (round_over nodes p gs) (jobs_made walks)) ordered none) (way.1 h)),
      )

      pub round_more : (rest : List Job) (next : ℕ) → b ≡ true → next ≡ p - 1 → IsBehind w (round_over nodes p order) (jobs_made walks) rest → FitsRounds parents nodes w next new rest ↔ Whole
      round_more rest next took e behind =
          let step = walks_taken w p groups walks first there some_walk is new rest (taken b first.group groups new takes took) (subst (λ (gs : List ℕ). IsBehind w (round_over nodes p gs) (jobs_made walks) rest) ordered behind) in
          (λ h. way.0 (step.0 (subst (λ (q : ℕ). FitsRounds parents nodes w q new rest) e h)), λ h. subst (λ (q : ℕ). FitsRounds parents nodes w q new rest) (sym e) (step.1 (way.1 h)))

  pub all_rounds : (w : Bool) (p : ℕ) (groups : List ℕ) (walks : List WalkRecord) (empty : Bool) (Whole : Type 0) → There groups → (FitsRounds parents nodes w p groups (jobs_made walks) ↔ Whole) → length walks ≡ 0 → empty ≡ (length groups == 0) → Decides (not w || empty) Whole
  all_rounds w p groups walks empty Whole there way none e =
      let d = walks_none_left w p groups walks empty there none e in
      (λ t. way.0 (d.0 t), λ h. d.1 (way.1 h))
