-- SPDX-License-Identifier: GPL-2.0-only
-- A put's parts: what its tries and walks made first, and then what its cache's list made.
use Rattle.shr_assemble.proofs.Common.{◌≡◌, ℕ, ◌+◌, ◌<◌, ◌⊎◌, inl, cond, List, [], ◌++◌, length, map, refl, sym, ap, subst, ◌∙◌, arith, true, false, slice_get, Some, flat_map, sum_by, All, AllPairs, append-nil, map-append, All-nil, filter_map-append, Entry, Scan, At, Place, Serial, Answered, Found, Command, Script, Carry, PassRecord, WalkRecord, decl_named, asks_online, jobs_of, sum_at, Family, is_below, is_place, job_of, passes_at, is_cut, takes_of, gives_of, takes_both, gives_both, Each, Begins, Each-append, Made, Mapped, AreFresh, WorkerState, Work, then_work, MayBeOffline, pool_seen, pool_made, parents_of, cited_by, id_found, IsReply, IsBefore, scan_made, scans_made, IsCausedBy, DidCharges, DidCarry, StandsIn, MayMakeEntry, IsListFilled, IsMadeAsCited, IsFoundBy, number_made, numbers_tried, number_found, KnowsOnline, MeetsGroups, Step, BringsWork, DidRoundsOf, counted_in, mapped_in, cleared_by_walk, set_by_walk, map_word, steps_walked, told_step, IsWant, slice_left}
use Rattle.shr_charge.specs.Views as charge
use Rattle.shr_laws.specs.WalksLawful as walks
use Rattle.shr_assemble.proofs.QuietTenant.{brings_of, brings_then}
use Rattle.shr_assemble.proofs.Filling.{IsSet, set_walked, set_filled, filled_among}
use Rattle.shr_lawful.proofs.Gathering.{among_left, among_right}
use Rattle.shr_assemble.proofs.QuietSteps.{HasDid, still_pool, still_tree, IsToldOnce, none_moved}
use Rattle.shr_assemble.proofs.WalkingSteps.{OnlyScan, step_of, Has, walk_later, Walked}
use Rattle.shr_assemble.proofs.WalkingChain.{FrontHad, any_cut, front_pairs}

-- what came after the walks: no walk, no move, and no entry of a scan or of the other journals
pub record IsTail (q : Work) : Type 0 where
  pub walks : q.walks ≡ []
  pub seen : q.core.seen ≡ []
  pub maps : q.core.maps ≡ []
  pub cleared : q.core.cleared ≡ []
  pub turns : q.core.turns ≡ []
  pub tree : q.tree ≡ []
  pub takes : takes_of q.moves ≡ []
  pub gives : gives_of q.moves ≡ []
  pub carries : q.carries ≡ []
  pub scans : (place worker n : ℕ) → scans_made place worker n q.core.made ≡ []

behind : {A : Type 0} (xs ys : List A) → ys ≡ [] → xs ++ ys ≡ xs
behind xs ys e = ap (λ l. xs ++ l) e ∙ append-nil xs

pub both_none : {A : Type 0} (xs ys : List A) → xs ≡ [] → ys ≡ [] → xs ++ ys ≡ []
both_none xs ys d e = ap (λ l. l ++ ys) d ∙ e

module _ (script : Script) (by : Serial) (c : Command) (a : Answered) (s m t : WorkerState) (v q : Work) where
  abbrev pub whole : Step
  whole = step_of script by (Some c) a s t (then_work v q)

  -- what is asked of the parts together
  pub record IsWhole : Type 0 where
    pub may : Each (λ (y : Made). MayMakeEntry script whole y y.entry) q.core.made
    pub reply : (family : Family) → Each (StandsIn (parents_of script) family) (v.core.made ++ q.core.made) → IsReply (parents_of script) family by c (id_found a) a.reply
    pub sets : Each (IsListFilled q.core.made) q.core.sets
    pub cited : (at : At) → cited_by a.reply ≡ Some at → IsMadeAsCited script whole at
    pub numbers : map number_made q.core.attempts ≡ number_found a.found
    pub found : (decl : ℕ) (f : Found) → decl_named c ≡ Some decl → a.found ≡ Some f → IsFoundBy whole decl f
    pub rounds : List ℕ
    pub refused : DidRoundsOf script whole rounds c
    pub made : walks.MayMake a.reply (jobs_of (parents_of script) script.nodes rounds c) (map job_of v.walks)
    pub told : walks.IsToldBy script (v.walks ++ q.walks) c a.reply
    pub cut : FrontHad v.walks
    pub cut_told : any_cut v.walks ≡ true → IsWant a.reply
    pub charges : DidCharges script whole
    pub known : IsToldOnce whole (pool_seen a)
    pub unmade : pool_made a.reply ≡ []
    pub online : (group : ℕ) → asks_online c ≡ Some group → 0 < group → MayBeOffline a.reply ⊎ KnowsOnline s.tree group
    pub meets : MeetsGroups script whole
    pub cause : IsCausedBy script whole a.reply

  module _ (walked : Walked script by (Some c) a s m v) (does : BringsWork m t q) (tail : IsTail q) where
    may_scan : (y : Made) (e : Entry) → OnlyScan by (length s.walks) v.walks y e → MayMakeEntry script whole y e
    may_scan y (Scan worker n asked policy visits freed stopped) h = inl (record { own = h.own; index = h.index; number = h.number; walk = h.walk; there = slice_left v.walks q.walks h.index h.walk h.there; passes = h.passes })
    may_scan y e h = absurd h

    -- what the walks did they did in the whole
    in_whole : (n : ℕ) → Has script by (Some c) a s m v s t (then_work v q) n
    in_whole n = record {
      attempts = λ y h. among_left v.core.attempts q.core.attempts y h;
      loaded = λ y h. among_left v.core.loaded q.core.loaded y h;
      words = λ y h. among_left v.words q.words y h;
      scans = λ place. filter_map-append (scan_made place by.worker n) v.core.made q.core.made ∙ behind (scans_made place by.worker n v.core.made) (scans_made place by.worker n q.core.made) (tail.scans place by.worker n);
      known = does.core.known;
      charges = let e : t.uses.charges ≡ m.uses.charges + q.charges = ap (λ (u : charge.Uses). u.charges) does.uses in omega (arith, e);
      uncharges = let e : t.uses.uncharges ≡ m.uses.uncharges + q.uncharges = ap (λ (u : charge.Uses). u.uncharges) does.uses in omega (arith, e);
      online = λ group k. k;
    }

    walks_same : v.walks ++ q.walks ≡ v.walks
    walks_same = behind v.walks q.walks tail.walks

    none_carried : v.carries ++ q.carries ≡ []
    none_carried = both_none v.carries q.carries walked.carries tail.carries

    abbrev taken_by : Place → Carry → ℕ
    taken_by p k = cond (is_place p k.place) k.amount 0

    abbrev given_by : Place → Carry → ℕ
    given_by p k = cond (is_below (parents_of script) p k.place) k.amount 0

    no_pairs : (R : Carry → Carry → Type 0) → AllPairs R []
    no_pairs R = λ i j d lt within. absurd (omega (arith, within))

    whole_does : BringsWork s t (then_work v q)
    whole_does = brings_then s m t v q (brings_of walked.does) does

    pub whole_did : IsWhole → HasDid script by c a s t
    whole_did h = record {
      work = then_work v q;
      does = whole_does;
      did = record {
        entries = record {
          each = Each-append (λ (y : Made). MayMakeEntry script whole y y.entry) v.core.made q.core.made (λ j y e. may_scan y y.entry (walked.scans j y e)) h.may;
          reply = h.reply;
          sets = Each-append (IsSet (v.core.made ++ q.core.made) (v.walks ++ q.walks)) v.core.sets q.core.sets
              (set_walked (v.core.made ++ q.core.made) (v.walks ++ q.walks) v.core.sets (ap (flat_map set_by_walk) walks_same ∙ walked.sets))
              (set_filled (v.core.made ++ q.core.made) (v.walks ++ q.walks) q.core.sets (filled_among q.core.made (v.core.made ++ q.core.made) (λ y has. among_right v.core.made q.core.made y has) q.core.sets h.sets));
          cited = h.cited;
        };
        lookups = record {
          numbers = map-append number_made v.core.attempts q.core.attempts ∙ (ap (λ l. l ++ map number_made q.core.attempts) (walked.numbers ∙ ap (flat_map numbers_tried) (sym walks_same)) ∙ ap (λ l. flat_map numbers_tried (v.walks ++ q.walks) ++ l) h.numbers);
          found = h.found;
        };
        walks = record {
          each = λ i w at. walk_later script by (Some c) a s m v s t (then_work v q) (length s.walks + i) (in_whole (length s.walks + i)) w (walked.each i w (ap (λ (l : List WalkRecord). slice_get l i) (sym walks_same) ∙ at));
          asked = record {
            rounds = h.rounds;
            refused = h.refused;
            made = subst (λ (l : List WalkRecord). walks.MayMake a.reply (jobs_of (parents_of script) script.nodes h.rounds c) (map job_of l)) (sym walks_same) h.made;
            told = h.told;
            cut = subst (AllPairs (λ (k l : WalkRecord). is_cut k.answer ≡ false)) (sym walks_same) (front_pairs v.walks h.cut);
            cut_told = λ e. h.cut_told (ap any_cut (sym walks_same) ∙ e);
          };
          seen = ap (flat_map counted_in) walks_same ∙ (walked.seen ∙ sym (behind v.core.seen q.core.seen tail.seen));
          maps = ap (flat_map mapped_in) walks_same ∙ (walked.maps ∙ ap (map map_word) (sym (behind v.core.maps q.core.maps tail.maps)));
          cleared = ap (flat_map cleared_by_walk) walks_same ∙ (walked.cleared ∙ sym (behind v.core.cleared q.core.cleared tail.cleared));
          fresh = subst (AreFresh s.core) (sym (behind v.core.seen q.core.seen tail.seen)) walked.fresh;
          set = subst (λ (l : List Mapped). Each (λ (k : Mapped). Begins s.core.marks.sets k.set) l) (sym (behind v.core.maps q.core.maps tail.maps)) walked.set;
        };
        charges = h.charges;
        moves = record {
          taken = λ p. let z : sum_by (taken_by p) (v.carries ++ q.carries) ≡ 0 = ap (sum_by (taken_by p)) none_carried in let e = ap (sum_at p) (takes_both v.moves q.moves ∙ behind (takes_of v.moves) (takes_of q.moves) tail.takes) in
              let f = ap (λ (l : List WalkRecord). sum_by (λ (k : PassRecord). k.nr) (flat_map (passes_at p) l)) walks_same in omega (arith, walked.taken p, z, e, f);
          given = λ p. let z : sum_by (given_by p) (v.carries ++ q.carries) ≡ 0 = ap (sum_by (given_by p)) none_carried in let e = ap (sum_at p) (gives_both v.moves q.moves ∙ behind (gives_of v.moves) (gives_of q.moves) tail.gives) in
              let f = ap (λ (l : List WalkRecord). sum_by (λ (k : PassRecord). k.next) (flat_map (passes_at p) l)) walks_same in omega (arith, walked.given p, z, e, f);
          carries = subst (All (DidCarry script whole)) (sym none_carried) (All-nil (DidCarry script whole));
          rise = subst (AllPairs (λ (k l : Carry). IsBefore k.place.id k.place.node l.place.id l.place.node)) (sym none_carried) (no_pairs (λ (k l : Carry). IsBefore k.place.id k.place.node l.place.id l.place.node));
          handed = [];
          places = inl refl;
          noted = none_carried;
          steps = ap (map told_step) (behind v.moves q.moves (none_moved q.moves tail.takes tail.gives)) ∙ (walked.steps ∙ (ap (flat_map steps_walked) (sym walks_same) ∙ sym (append-nil _)));
        };
        pool = still_pool script whole whole_does.core.pool (record { turns = both_none v.core.turns q.core.turns walked.turns tail.turns; made = h.unmade }) h.known;
        tree = still_tree script whole (both_none v.tree q.tree walked.tree tail.tree) h.online h.meets;
        cause = h.cause;
      };
    }
