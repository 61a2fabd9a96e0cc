-- SPDX-License-Identifier: GPL-2.0-only
-- A put that asked for its charge, or didn't: what is left to say of its answer.
use Rattle.shr_assemble.proofs.Common.{◌≡◌, ◌⊎◌, ⊎_elim, inl, inr, ℕ, ◌<◌, ◌≤◌, List, [], ◌∷◌, ◌++◌, length, map, refl, sym, ap, subst, ◌∙◌, arith, true, false, cond, Bool, ◌-◌, Some, None, sum_by, replicate, is_some, AllByRecursion, append-nil, sum_by-append, same_Some, none-some, UseStep, At, Serial, Target, Answered, Found, Reply, Command, Put, Family, IsAtOrAbove, Job, job_of, Each, Each-none, LoadsWord, Asks, AreRising, Made, hierarchy_of, GroupState, shape_of, Admission, times_of, times_both, charged, MayBeOffline, pool_seen, pool_made, pool_told, is_past_group, parents_of, cited_by, id_found, IsReply, over_at, WorkerState, Work, no_work, then_work, Does, Shared, does_none, does_then, IsCausedBy, added_below, made_freed_below, StandsIn, MayMakeEntry, IsListFilled, IsMadeAsCited, IsFoundBy, number_made, number_found, KnowsOnline, MeetsGroups, Step, BringsWork, IsAmong, IsWant, refusals_of, was_charged, is_at_or_above, DidRounds, LoadedState, append_assoc, cons_option, ScanMade, Moves, takes_of, gives_of, Uncharges, Loaded, scans_made}
use Rattle.shr_base.specs.declared.replies.Reply.TheVariants as reply
use Rattle.shr_model.specs.Commands.{rounds_from}
use Rattle.shr_charge.specs.declared.answers.GroupState.TheVariants as state
use Rattle.shr_walk.specs.declared.admission.Admission.TheVariants as admission
use Rattle.shr_laws.specs.WalksLawful as walks
use Rattle.shr_assemble.proofs.QuietTenant.{brings_of, brings_then, without}
use Rattle.shr_assemble.proofs.PutAdmits.{Admits, admits, stands_in, named_by, admitted_front, admitted_told, stood_by, ops_same, put_charges, ops_back}
use Rattle.shr_assemble.proofs.PutOver.{over_caused}
use Rattle.shr_assemble.proofs.PutParts.{IsTail, whole, whole_did, both_none}
use Rattle.shr_assemble.proofs.PutRounds.{EndsOver}
use Rattle.shr_assemble.proofs.PutTries.{AreOps}
use Rattle.shr_assemble.proofs.PutWays.{Closed}
use Rattle.shr_assemble.proofs.QuietSteps.{HasDid, none_made, IsToldOnce, some_met, loading, does_load, knows_online, online_apart, offering}
use Rattle.shr_assemble.proofs.WalkingCharges.{none_added}
use Rattle.shr_assemble.proofs.WalkingSteps.{Walked, walked_still, walked_then}
use Rattle.shr_assemble.proofs.WalkingWell.{IsTableOf, begins_prefix}
use Rattle.shr_assemble.proofs.WalkingChain.{front_had}
use Rattle.shr_assemble.proofs.Outcomes.{met_at, no_answers}
use Rattle.shr_assemble.proofs.QuietCharges.{uncharging}

pub tail_none : IsTail no_work
tail_none = record { walks = refl; seen = refl; maps = refl; cleared = refl; turns = refl; tree = refl; takes = refl; gives = refl; carries = refl; scans = λ place worker n. refl }

-- steps beside a charge that make no operation
pub ops_quiet : (x : Shared) (by : Serial) (group tries : ℕ) (over kept : List ℕ) (v q : Work) → AreOps x by group tries over kept v → q.ops ≡ [] → q.charges ≡ 0 → q.uncharges ≡ 0
    → ((g : ℕ) → sum_by (made_freed_below (parents_of x.script) g) q.core.made ≡ 0) → AreOps x by group tries over kept (then_work v q)
ops_quiet x by group tries over kept v q h ops charges uncharges freed = ops_same x by group tries over kept v (then_work v q) h (ap (λ l. v.ops ++ l) ops ∙ append-nil v.ops) (omega (arith, charges)) (omega (arith, uncharges))
    (λ g. let e = sum_by-append (made_freed_below (parents_of x.script) g) v.core.made q.core.made in let f = freed g in omega (arith, e, f))

no_rounds : (parents : List ℕ) (nodes : ℕ) → [] ≡ rounds_from parents nodes 12 []
unfolding rounds_from
no_rounds parents nodes = refl

module _ (x : Shared) (table : IsTableOf x) (by : Serial) (to : Target) (key value : List ℕ) (inside : to.group < length (parents_of x.script)) where
  abbrev pub command : Command
  command = Put to key value

  rounds_did : (z : Step) (tries : ℕ) (rounds named kept : List ℕ) → length rounds ≤ 13 → AllByRecursion (λ h. IsAtOrAbove (parents_of x.script) h to.group) rounds → AreOps x by to.group tries (rounds ++ named) kept z.work
      → ((h : ℕ) → over_at h z.answered.reply ≡ times_of h named) → ((g operation usage : ℕ) → z.answered.reply ≡ reply.Over g operation usage → length rounds ≡ 13)
      → refusals_of rounds z.answered.reply ≡ rounds ++ named → replicate (tries - length (rounds ++ named)) false ≡ cond (was_charged (is_some z.answered.found) z.answered.reply) (false ∷ []) [] → DidRounds x.script z to.group rounds
  rounds_did z tries rounds named kept few above ops over all named_are charged_are = record {
    few = few;
    above = above;
    refusals = λ h. let n = ops.refusals h in let b = times_both h rounds named in let o = over h in omega (arith, n, b, o);
    all = all;
    tried = λ h. ops.tried h ∙ (λ i. cond (is_at_or_above (parents_of x.script) h to.group) (met_at (parents_of x.script) h (sym named_are i) ++ charged_are i) []);
  }

  pub load_walked : (a : Answered) (found : GroupState) (s t : WorkerState) → LoadsWord x to.group found s t → Walked x.script by (Some command) a s t (loading to.group found)
  load_walked a found s t h = walked_still x.script by (Some command) a [] 0 0 (record { group = to.group; state = found } ∷ []) s t (does_load x to.group found s t h)

  -- its own group is that which it asks for
  online_at : (s t : WorkerState) → LoadsWord x to.group state.Online s t → (g : ℕ) → Some to.group ≡ Some g → KnowsOnline s.tree g
  online_at s t h g e = subst (KnowsOnline s.tree) (same_Some to.group g e) (knows_online (hierarchy_of (shape_of x.core)) s.tree to.group state.Online online_apart h.shows)

  -- ---- the charge was not asked for

  nothing_ops : (words : List LoadedState) → AreOps x by to.group 0 [] [] (then_work (record no_work { words = words }) no_work)
  nothing_ops words = record {
    charges = refl;
    uncharges = omega arith;
    own = tt;
    there = tt;
    each = refl;
    most = λ g. omega arith;
    net = λ g lt. refl;
    refusals = λ g. refl;
    settled = λ g b long down. closed_of b long;
    ends = λ g. tt;
    tried = λ g. sym (no_answers (parents_of x.script) to.group g);
  } where
    closed_of : (b : List UseStep) → length b ≡ 0 → Closed b
    closed_of [] e = tt
    closed_of (o ∷ b) e = absurd (omega (arith, e))

  pub unasked_did : (r : Reply) (words : List LoadedState) (s t : WorkerState) → Walked x.script by (Some command) (without r) s t (record no_work { words = words })
      → ((family : Family) → IsReply (parents_of x.script) family by command None r) → cited_by r ≡ None → ((h : ℕ) → over_at h r ≡ 0) → ((g operation usage : ℕ) → r ≡ reply.Over g operation usage → ⊥)
      → ((g : ℕ) → charged (parents_of x.script) g (Some command) (Some r) ≡ 0) → refusals_of [] r ≡ [] → was_charged false r ≡ false → pool_told r ≡ [] → pool_made r ≡ [] → MayBeOffline r ⊎ KnowsOnline s.tree to.group
      → MeetsGroups x.script (whole x.script by command (without r) s t t (record no_work { words = words }) no_work)
      → IsCausedBy x.script (whole x.script by command (without r) s t t (record no_work { words = words }) no_work) r → HasDid x.script by command (without r) s t
  unasked_did r words s t walked row uncited over other uncharged unrefused unstood untold unmade offline meets cause =
      let v : Work = record no_work { words = words } in
      let z : Step = whole x.script by command (without r) s t t v no_work in
      whole_did x.script by command (without r) s t t v no_work walked (brings_of (does_none t)) tail_none record {
        may = Each-none (λ (y : Made). MayMakeEntry x.script z y y.entry);
        reply = λ family stands. row family;
        sets = Each-none (IsListFilled []);
        cited = λ at e. absurd (none-some at (sym uncited ∙ e));
        numbers = refl;
        found = λ d f e has. absurd (none-some f has);
        rounds = [];
        refused = rounds_did z 0 [] [] [] (omega arith) tt (nothing_ops words) over (λ g operation usage e. absurd (other g operation usage e)) unrefused (ap (λ (b : Bool). cond b (false ∷ []) []) (sym unstood));
        made = subst (λ (due : List Job). walks.MayMake r due []) (no_rounds (parents_of x.script) x.script.nodes) (none_made r);
        told = tt;
        cut = front_had [] refl;
        cut_told = λ e. absurd (let f : false ≡ true = e in cc);
        charges = put_charges x table by to.group inside z 0 [] [] refl refl (omega arith) (nothing_ops words) (λ g lt. sym (uncharged g)) (λ g. sym (uncharged g));
        known = subst (IsToldOnce z) (sym untold) tt;
        unmade = unmade;
        online = λ g e above. ⊎_elim (λ (h : MayBeOffline r). inl h) (λ (h : KnowsOnline s.tree to.group). inr (subst (KnowsOnline s.tree) (same_Some to.group g e) h)) offline;
        meets = meets;
        cause = cause;
      }

  -- ---- the charge was asked for

  module _ (a : Answered) (answer : Admission) (s charged_at t : WorkerState) (asks : Asks x by to.group answer s charged_at) where
    pub adm : Admits x table by command a to.group inside answer asks.loaded charged_at
    adm = admits x table by command a to.group inside answer asks.loaded charged_at asks.admission

    abbrev pub first : Work
    first = then_work (loading to.group state.Online) adm.work

    pub walked_first : Walked x.script by (Some command) a s charged_at first
    walked_first = walked_then x.script by (Some command) a s asks.loaded charged_at (loading to.group state.Online) adm.work (load_walked a state.Online s asks.loaded asks.online) adm.walked

    pub first_ops : AreOps x by to.group adm.tries (adm.rounds ++ named_by answer) (stands_in x to.group answer) first
    first_ops = ops_same x by to.group adm.tries (adm.rounds ++ named_by answer) (stands_in x to.group answer) adm.work first adm.ops refl (omega arith) (omega arith) (λ g. refl)

    -- what is left to show where these steps came after the charge
    pub record IsAsked (q : Work) (kept : List ℕ) : Type 0 where
      pub does : BringsWork charged_at t q
      pub tail : IsTail q
      pub ops : AreOps x by to.group adm.tries (adm.rounds ++ named_by answer) kept (then_work first q)
      pub may : Each (λ (y : Made). MayMakeEntry x.script (whole x.script by command a s charged_at t first q) y y.entry) q.core.made
      pub row : (family : Family) → Each (StandsIn (parents_of x.script) family) (first.core.made ++ q.core.made) → IsReply (parents_of x.script) family by command (id_found a) a.reply
      pub sets : Each (IsListFilled q.core.made) q.core.sets
      pub cited : (at : At) → cited_by a.reply ≡ Some at → IsMadeAsCited x.script (whole x.script by command a s charged_at t first q) at
      pub numbers : map number_made q.core.attempts ≡ number_found a.found
      pub found : (f : Found) → a.found ≡ Some f → IsFoundBy (whole x.script by command a s charged_at t first q) to.decl f
      pub over : (h : ℕ) → over_at h a.reply ≡ times_of h (named_by answer)
      pub all : (g operation usage : ℕ) → a.reply ≡ reply.Over g operation usage → length adm.rounds ≡ 13
      pub named_are : refusals_of adm.rounds a.reply ≡ adm.rounds ++ named_by answer
      pub charged_are : replicate (stood_by answer) false ≡ cond (was_charged (is_some a.found) a.reply) (false ∷ []) []
      pub made : walks.MayMake a.reply (rounds_from (parents_of x.script) x.script.nodes 12 adm.rounds) (map job_of adm.work.walks)
      pub stands : (g : ℕ) → g < length (parents_of x.script) → times_of g kept ≡ charged (parents_of x.script) g (Some command) (Some a.reply)
      pub added : (g : ℕ) → sum_by (λ (m : Made). added_below (parents_of x.script) g m.entry) (first.core.made ++ q.core.made) ≡ charged (parents_of x.script) g (Some command) (Some a.reply)
      pub known : IsToldOnce (whole x.script by command a s charged_at t first q) (pool_seen a)
      pub unmade : pool_made a.reply ≡ []
      pub want : answer ≡ admission.Memory → IsWant a.reply
      pub unnoted : (g : ℕ) → a.reply ≡ reply.NotMade g → ⊥
      pub cause : IsCausedBy x.script (whole x.script by command a s charged_at t first q) a.reply

    pub asked_did : (q : Work) (kept : List ℕ) → IsAsked q kept → HasDid x.script by command a s t
    asked_did q kept h = let z : Step = whole x.script by command a s charged_at t first q in whole_did x.script by command a s charged_at t first q walked_first h.does h.tail record {
      may = h.may;
      reply = h.row;
      sets = h.sets;
      cited = h.cited;
      numbers = h.numbers;
      found = λ d f e has. subst (λ (n : ℕ). IsFoundBy z n f) (same_Some to.decl d e) (h.found f has);
      rounds = adm.rounds;
      refused = rounds_did z adm.tries adm.rounds (named_by answer) kept adm.few adm.above h.ops h.over h.all h.named_are
          (ap (λ (n : ℕ). replicate n false) (let e = adm.stood in let n : adm.tries - length (adm.rounds ++ named_by answer) ≡ stood_by answer = omega (arith, e) in n) ∙ h.charged_are);
      made = h.made;
      told = tt;
      cut = admitted_front answer adm.work.walks adm.cut;
      cut_told = admitted_told answer (IsWant a.reply) adm.work.walks adm.cut h.want;
      charges = put_charges x table by to.group inside z adm.tries (adm.rounds ++ named_by answer) kept refl refl adm.fourteen h.ops h.stands h.added;
      known = h.known;
      unmade = h.unmade;
      online = λ g e above. inr (online_at s asks.loaded asks.online g e);
      meets = record { unmade = λ g e. absurd (h.unnoted g e); met = λ g e. inr (state.Online, refl, subst (λ n. IsAmong {A = LoadedState} (record { group = n; state = state.Online }) z.work.words) (some_met (is_past_group a.reply) to.group g e) (0, refl)) };
      cause = h.cause;
    }

    -- nothing came after the charge
    pub ops_alone : AreOps x by to.group adm.tries (adm.rounds ++ named_by answer) (stands_in x to.group answer) (then_work first no_work)
    ops_alone = ops_quiet x by to.group adm.tries (adm.rounds ++ named_by answer) (stands_in x to.group answer) first no_work first_ops refl refl refl (λ g. refl)

    pub none_added_first : (g : ℕ) → sum_by (λ (m : Made). added_below (parents_of x.script) g m.entry) first.core.made ≡ 0
    none_added_first g = none_added (parents_of x.script) g by (length s.walks) first.walks first.core.made walked_first.scans

    pub none_added_alone : (g : ℕ) → sum_by (λ (m : Made). added_below (parents_of x.script) g m.entry) (first.core.made ++ []) ≡ 0
    none_added_alone g = ap (sum_by (λ (m : Made). added_below (parents_of x.script) g m.entry)) (append-nil first.core.made) ∙ none_added_first g

  -- it was refused at last
  pub over_did : (g operation usage : ℕ) (s t : WorkerState) → Asks x by to.group (admission.Over g operation usage) s t → AreRising s.uses.ops → HasDid x.script by command (without (reply.Over g operation usage)) s t
  over_did g operation usage s t asks rise =
      let a : Answered = without (reply.Over g operation usage) in
      let answer : Admission = admission.Over g operation usage in
      let d = adm a answer s t t asks in
      let v : Work = first a answer s t t asks in
      let z : Step = whole x.script by command a s t t v no_work in
      let last = d.over g operation usage refl in
      let does : Does s t (then_work v no_work) = does_then s t t v no_work (walked_first a answer s t t asks).does (does_none t) in
      asked_did a answer s t t asks no_work [] record {
        does = brings_of (does_none t);
        tail = tail_none;
        ops = ops_alone a answer s t t asks;
        may = Each-none (λ (y : Made). MayMakeEntry x.script z y y.entry);
        row = λ family stands. tt;
        sets = Each-none (IsListFilled []);
        cited = λ at e. absurd (none-some at e);
        numbers = refl;
        found = λ f e. absurd (none-some f e);
        over = λ h. omega arith;
        all = λ g' operation' usage' e. d.all g operation usage refl;
        named_are = refl;
        charged_are = refl;
        made = d.made;
        stands = λ h lt. refl;
        added = λ h. none_added_alone a answer s t t asks h;
        known = tt;
        unmade = refl;
        want = λ e. absurd (cc);
        unnoted = λ h e. absurd (cc);
        cause = over_caused x table by to.group d.tries (d.rounds ++ g ∷ []) [] (record { group = g; operation = operation; usage = usage }) z refl refl (ops_alone a answer s t t asks) last.1 last.2
            (subst (EndsOver x by (record { group = g; operation = operation; usage = usage })) (sym (append-nil v.ops)) last.0) does rise;
      }

  -- memory lacked in its rounds, or for them
  pub memory_did : (s t : WorkerState) → Asks x by to.group admission.Memory s t → HasDid x.script by command (without reply.Memory) s t
  memory_did s t asks =
      let a : Answered = without reply.Memory in
      let d = adm a admission.Memory s t t asks in
      let v : Work = first a admission.Memory s t t asks in
      let z : Step = whole x.script by command a s t t v no_work in
      asked_did a admission.Memory s t t asks no_work [] record {
        does = brings_of (does_none t);
        tail = tail_none;
        ops = ops_alone a admission.Memory s t t asks;
        may = Each-none (λ (y : Made). MayMakeEntry x.script z y y.entry);
        row = λ family stands. tt;
        sets = Each-none (IsListFilled []);
        cited = λ at e. absurd (none-some at e);
        numbers = refl;
        found = λ f e. absurd (none-some f e);
        over = λ h. refl;
        all = λ g operation usage e. absurd (cc);
        named_are = sym (append-nil d.rounds);
        charged_are = refl;
        made = begins_prefix (map job_of d.work.walks) d.made.0 (rounds_from (parents_of x.script) x.script.nodes 12 d.rounds) d.made.1;
        stands = λ h lt. refl;
        added = λ h. none_added_alone a admission.Memory s t t asks h;
        known = tt;
        unmade = refl;
        want = λ e. tt;
        unnoted = λ h e. absurd (cc);
        cause = tt;
      }

-- an uncharge
back_brings : (x : Shared) (by : Serial) (group : ℕ) (s t : WorkerState) (h : Uncharges x by group s t) → BringsWork s t (uncharging h.ops)
back_brings x by group s t h = subst (λ (u : WorkerState). BringsWork s u (uncharging h.ops)) (sym h.rest) (assumption (subst (λ (u : WorkerState). AreRising s.uses.ops → AreRising u.uses.ops) h.rest h.rise, brings_of (does_none s)))

pub tail_back : (q : Work) (ops : List UseStep) → IsTail q → IsTail (then_work q (uncharging ops))
tail_back q ops h = record {
  walks = both_none q.walks [] h.walks refl;
  seen = both_none q.core.seen [] h.seen refl;
  maps = both_none q.core.maps [] h.maps refl;
  cleared = both_none q.core.cleared [] h.cleared refl;
  turns = both_none q.core.turns [] h.turns refl;
  tree = both_none q.tree [] h.tree refl;
  takes = ap (λ (m : Moves). takes_of m) (append-nil q.moves) ∙ h.takes;
  gives = ap (λ (m : Moves). gives_of m) (append-nil q.moves) ∙ h.gives;
  carries = both_none q.carries [] h.carries refl;
  scans = λ place worker n. ap (scans_made place worker n) (append-nil q.core.made) ∙ h.scans place worker n;
}

-- an entry that is no Scan
pub not_scanned : (b : Bool) → cons_option {X = ScanMade} (cond b None None) [] ≡ []
not_scanned true = refl
not_scanned false = refl

pub offering_tail : (decl : ℕ) (f : Found) (words : List Loaded) (made : List Made) (set : List ℕ) → ((place worker n : ℕ) → scans_made place worker n made ≡ []) → IsTail (offering decl f words made set)
offering_tail decl f words made set h = record { walks = refl; seen = refl; maps = refl; cleared = refl; turns = refl; tree = refl; takes = refl; gives = refl; carries = refl; scans = h }

module _ (x : Shared) (table : IsTableOf x) (by : Serial) (to : Target) (key value : List ℕ) (on : to.node < x.script.nodes) (inside : to.group < length (parents_of x.script)) where
  -- the charge is taken back after steps that make no operation
  module _ (a : Answered) (s charged_at refused t : WorkerState) (asks : Asks x by to.group admission.Charged s charged_at)
      (q : Work) (does : Does charged_at refused q) (ops : q.ops ≡ []) (charges : q.charges ≡ 0) (uncharges : q.uncharges ≡ 0) (freed : (g : ℕ) → sum_by (made_freed_below (parents_of x.script) g) q.core.made ≡ 0)
      (back : Uncharges x by to.group refused t) where
    pub vain_does : BringsWork charged_at t (then_work q (uncharging back.ops))
    vain_does = brings_then charged_at refused t q (uncharging back.ops) (brings_of does) (back_brings x by to.group refused t back)

    abbrev pub before : Work
    before = first x table by to key value inside a admission.Charged s charged_at t asks

    pub vain_ops : AreOps x by to.group (adm x table by to key value inside a admission.Charged s charged_at t asks).tries ((adm x table by to key value inside a admission.Charged s charged_at t asks).rounds ++ []) []
        (then_work before (then_work q (uncharging back.ops)))
    vain_ops =
        let d = adm x table by to key value inside a admission.Charged s charged_at t asks in
        let one = ops_quiet x by to.group d.tries (d.rounds ++ []) _ before q (first_ops x table by to key value inside a admission.Charged s charged_at t asks) ops charges uncharges freed in
        let two = ops_back x table by to.group inside d.tries (d.rounds ++ []) (then_work before q) back.ops one back.downs in
        ops_same x by to.group d.tries (d.rounds ++ []) [] (then_work (then_work before q) (uncharging back.ops)) (then_work before (then_work q (uncharging back.ops))) two
        (sym (append_assoc before.ops q.ops back.ops)) (omega arith) (omega arith)
        (λ g. ap (sum_by (made_freed_below (parents_of x.script) g)) (sym (append_assoc before.core.made q.core.made [])))
