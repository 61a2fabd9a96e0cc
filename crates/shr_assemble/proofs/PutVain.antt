-- SPDX-License-Identifier: GPL-2.0-only
-- A put that was not added after its charge, which was taken back.
use Rattle.shr_assemble.proofs.Common.{◌≡◌, ℕ, ◌+◌, ◌<◌, ◌≤◌, inl, inr, Bool, true, false, not, ◌==◌, List, [], ◌∷◌, ◌++◌, length, length-append, map, refl, sym, ap, subst, ◌∙◌, arith, Some, None, sum_by, if◌then◌else◌, append-nil, append_cancel_left, none-some, Entry, Add, Object, At, Serial, Target, Answered, Found, Reply, Spent, Command, fresh, holds, rounds_from, is_live_decl, job_of, Each, Each-none, View, nothing, Adds, Made, Loaded, shape_of, add_entry, Listed, AddGives, parents_of, WorkerState, Work, then_work, Does, Shared, added_below, made_freed_below, MayMakeEntry, IsListFilled, Step, PutsInVain, HoldsCache, Calls, Gains, Uncharges, Asks, Family, over_at, refusals_of, was_charged, charged, pool_told, pool_made, pool_seen, cited_by, IsReply, IsCausedBy, cond, scans_made, take_all}
use Rattle.shr_base.specs.declared.replies.Reply.TheVariants as reply
use Rattle.shr_base.specs.declared.replies.Spent.TheVariants as spent
use Rattle.shr_node.specs.declared.answers.NodeAnswer.{NodeAnswer}
use Rattle.shr_node.specs.declared.answers.NodeAnswer.TheVariants as answers
use Rattle.shr_cache.specs.Puts.{Offers}
use Rattle.shr_cache.specs.Replies.{add_says, answer_reply}
use Rattle.shr_walk.specs.declared.admission.Admission.TheVariants as admission
use Rattle.shr_laws.specs.WalksLawful as walks
use Rattle.shr_lawful.proofs.Gathering.{among_left, among_right}
use Rattle.shr_lawful.proofs.Listed.{contains_among}
use Rattle.shr_assemble.proofs.Filling.{filled_by}
use Rattle.shr_assemble.proofs.PutAsked.{command, adm, first, asked_did, none_added_alone, tail_back, not_scanned, offering_tail, vain_does, vain_ops}
use Rattle.shr_assemble.proofs.PutFound.{IsOffered, silent_did, noted_did}
use Rattle.shr_assemble.proofs.PutParts.{whole}
use Rattle.shr_assemble.proofs.QuietSteps.{HasDid, IsToldOnce, gaining, does_gain, offering, offering_does}
use Rattle.shr_assemble.proofs.QuietCharges.{uncharging}
use Rattle.shr_assemble.proofs.QuietTenant.{without, list_full, made_entry, made_bits}
use Rattle.shr_assemble.proofs.WalkingWell.{IsTableOf, begins_prefix}

-- the replies of a put that was not added
abbrev pub IsVain : Reply → Type 0
IsVain (reply.Added c) = ⊥
IsVain r = Unit {0}

module _ (x : Shared) (table : IsTableOf x) (by : Serial) (to : Target) (key value : List ℕ) (on : to.node < x.script.nodes) (inside : to.group < length (parents_of x.script)) where
  abbrev Command_of : Command
  Command_of = command x table by to key value inside

  abbrev object : Object
  object = fresh by to.group key value

  -- what the answers after a charge that was taken back have in common
  record IsVainReply (found : Bool) (r : Reply) : Type 0 where
    over : (g : ℕ) → over_at g r ≡ 0
    other : (g operation usage : ℕ) → r ≡ reply.Over g operation usage → ⊥
    plain : (rounds : List ℕ) → refusals_of rounds r ≡ rounds
    charged_at_last : was_charged found r ≡ true
    uncharged : (g : ℕ) → charged (parents_of x.script) g (Some Command_of) (Some r) ≡ 0
    unmade : pool_made r ≡ []

  -- ---- the cache wasn't found

  module _ (r : Reply) (s charged_at refused t : WorkerState) (asks : Asks x by to.group admission.Charged s charged_at) (words : List Loaded) (does : Does charged_at refused (gaining (record nothing { loaded = words; gives = 1 }))) (back : Uncharges x by to.group refused t) where
    abbrev looked_up : Work
    looked_up = gaining (record nothing { loaded = words; gives = 1 })

    abbrev missed : Step
    missed = whole x.script by Command_of (without r) s charged_at t (first x table by to key value inside (without r) admission.Charged s charged_at t asks) (then_work looked_up (uncharging back.ops))

    missed_did : IsVainReply false r → ((family : Family) → IsReply (parents_of x.script) family by Command_of None r) → cited_by r ≡ None → ((g : ℕ) → r ≡ reply.NotMade g → ⊥)
        → walks.MayMake r (rounds_from (parents_of x.script) x.script.nodes 12 (adm x table by to key value inside (without r) admission.Charged s charged_at t asks).rounds) (map job_of (adm x table by to key value inside (without r) admission.Charged s charged_at t asks).work.walks)
        → IsToldOnce missed (pool_seen (without r)) → IsCausedBy x.script missed r → HasDid x.script by Command_of (without r) s t
    missed_did vain row uncited unnoted due known cause = asked_did x table by to key value inside (without r) admission.Charged s charged_at t asks (then_work looked_up (uncharging back.ops)) [] record {
      does = vain_does x table by to key value on inside (without r) s charged_at refused t asks looked_up does refl refl refl (λ n. refl) back;
      tail = tail_back looked_up back.ops (record { walks = refl; seen = refl; maps = refl; cleared = refl; turns = refl; tree = refl; takes = refl; gives = refl; carries = refl; scans = λ place worker n. refl });
      ops = vain_ops x table by to key value on inside (without r) s charged_at refused t asks looked_up does refl refl refl (λ n. refl) back;
      may = Each-none (λ (y : Made). MayMakeEntry x.script missed y y.entry);
      row = λ family stands. row family;
      sets = Each-none (IsListFilled []);
      cited = λ at e. absurd (none-some at (sym uncited ∙ e));
      numbers = refl;
      found = λ f e. absurd (none-some f e);
      over = vain.over;
      all = λ g operation usage e. absurd (vain.other g operation usage e);
      named_are = vain.plain _ ∙ sym (append-nil _);
      charged_are = ap (λ (b : Bool). cond b (false ∷ []) []) (sym vain.charged_at_last);
      made = due;
      stands = λ g lt. sym (vain.uncharged g);
      added = λ g. none_added_alone x table by to key value inside (without r) admission.Charged s charged_at t asks g ∙ sym (vain.uncharged g);
      known = known;
      unmade = vain.unmade;
      want = λ e. absurd (cc);
      unnoted = unnoted;
      cause = cause;
    }

  module _ (s t : WorkerState) where
    no_cache : (entry : ℕ) → PutsInVain x by to.group to.node to.decl object None (reply.NoCache entry) s t → HasDid x.script by Command_of (without (reply.NoCache entry)) s t
    no_cache entry h =
        let m = h.puts.offered in let words = m.answers.gains.words in
        let does : Does h.puts.charged h.refused (gaining (record nothing { loaded = words; gives = 1 })) = does_gain h.puts.charged h.refused (record nothing { loaded = words; gives = 1 }) m.answers.gains.adds m.rest in
        let same : t.core.turns.known ≡ h.refused.core.turns.known = ap (λ (u : WorkerState). u.core.turns.known) h.back.rest in
        let long : entry ≡ length t.core.turns.known = m.answers.after ∙ ap (λ l. length l) (sym same) in
        missed_did (reply.NoCache entry) s h.puts.charged h.refused t h.puts.asks words does h.back
        (record { over = λ g. refl; other = λ g operation usage e. cc; plain = λ rounds. refl; charged_at_last = refl; uncharged = λ g. refl; unmade = refl })
        (λ family. tt) refl (λ g e. cc) (adm x table by to key value inside (without (reply.NoCache entry)) admission.Charged s h.puts.charged t h.puts.asks).made long (record {
          decl = to.decl;
          named = refl;
          known = omega (arith, long);
          none = ap (is_live_decl x.script.ids to.decl) (take_all entry t.core.turns.known (omega (arith, long)) ∙ same) ∙ (ap (λ (n : ℕ). is_live_decl n to.decl h.refused.core.turns.known) (sym table.shared.ids) ∙ m.answers.missing);
        })

    no_number : (id number : ℕ) → PutsInVain x by to.group to.node to.decl object None (reply.Worn (spent.Lookups id number)) s t → HasDid x.script by Command_of (without (reply.Worn (spent.Lookups id number))) s t
    no_number id number h =
        let r : Reply = reply.Worn (spent.Lookups id number) in let m = h.puts.offered in let used = m.answers.worn in let words = used.loads.words in
        let gained = m.answers.gains.adds in
        let same : m.answers.gains.words ≡ words = append_cancel_left h.puts.charged.core.claims.loaded m.answers.gains.words words (sym gained.loaded ∙ used.loads.since) in
        let adds : Adds h.puts.charged.core h.refused.core (record nothing { loaded = words; gives = 1 }) = subst (λ (l : List Loaded). Adds h.puts.charged.core h.refused.core (record nothing { loaded = l; gives = 1 })) same gained in
        let does : Does h.puts.charged h.refused (gaining (record nothing { loaded = words; gives = 1 })) = does_gain h.puts.charged h.refused (record nothing { loaded = words; gives = 1 }) adds m.rest in
        let v : Work = first x table by to key value inside (without r) admission.Charged s h.puts.charged t h.puts.asks in
        missed_did r s h.puts.charged h.refused t h.puts.asks words does h.back
        (record { over = λ g. refl; other = λ g operation usage e. cc; plain = λ rounds. refl; charged_at_last = refl; uncharged = λ g. refl; unmade = refl })
        (λ family. tt) refl (λ g e. cc) (adm x table by to key value inside (without r) admission.Charged s h.puts.charged t h.puts.asks).made tt (record {
          over = used.most;
          word = used.first;
          loaded = among_right v.core.loaded (words ++ []) (record { id = id; word = used.first }) (among_left words [] (record { id = id; word = used.first }) (contains_among words (record { id = id; word = used.first }) used.loads.shown));
          shown = used.shown;
        })

  -- ---- it was found

  -- what an add calls
  abbrev adds : Found → NodeAnswer Bool → View → View → Type 0
  adds f answer v w = AddGives (shape_of x.core) v f.id to.node object answer w

  abbrev adding : Listed → Entry
  adding old = add_entry old object

  grown : (b : Bool) (items more : List Object) → length (if b then items else items ++ more) ≤ length items + length more
  grown true items more = omega arith
  grown false items more = omega (arith, length-append items more)

  -- its list was called, and then the charge was taken back
  module _ (f : Found) (r : Reply) (s charged_at refused t : WorkerState) (asks : Asks x by to.group admission.Charged s charged_at) (back : Uncharges x by to.group refused t)
      (call : View → View → Type 0) (held : WorkerState) (holds : HoldsCache x to.decl f charged_at held) (calls : Calls call held refused) (made : List Made) (set : List ℕ) (g : Gains held.core calls.called made set) where
    abbrev answer : Answered
    answer = record { reply = r; found = Some f }

    abbrev offered : Work
    offered = offering to.decl f holds.answers.gains.words made set

    abbrev refusing : Step
    refusing = whole x.script by Command_of answer s charged_at t (first x table by to key value inside answer admission.Charged s charged_at t asks) (then_work offered (uncharging back.ops))

    is_offered : ((place worker n : ℕ) → scans_made place worker n made ≡ []) → ((n : ℕ) → sum_by (made_freed_below (parents_of x.script) n) made ≡ 0) → Each (IsListFilled made) set → IsVainReply true r → pool_told r ≡ []
        → walks.MayMake r (rounds_from (parents_of x.script) x.script.nodes 12 (adm x table by to key value inside answer admission.Charged s charged_at t asks).rounds) (map job_of (adm x table by to key value inside answer admission.Charged s charged_at t asks).work.walks)
        → ((n : ℕ) → sum_by (λ (m : Made). added_below (parents_of x.script) n m.entry) made ≡ 0) → IsCausedBy x.script refusing r
        → IsOffered x table by to key value on inside f r s charged_at refused t asks call held holds calls (then_work offered (uncharging back.ops)) [] made
    is_offered unscanned freed filled vain untold due unadded cause = assumption (
      vain_does x table by to key value on inside answer s charged_at refused t asks offered does refl refl refl freed back,
      tail_back offered back.ops (offering_tail to.decl f holds.answers.gains.words made set unscanned),
      vain_ops x table by to key value on inside answer s charged_at refused t asks offered does refl refl refl freed back,
      append-nil made,
      subst (Each (IsListFilled made)) (sym (append-nil set)) filled,
      ap (λ (u : WorkerState). u.core) back.rest,
      (λ (n : ℕ) (lt : n < length (parents_of x.script)). sym (vain.uncharged n)),
      (λ (n : ℕ). unadded n ∙ sym (vain.uncharged n)),
      vain,
    ) where
      does : Does charged_at refused offered
      does = offering_does x to.decl f call charged_at held refused holds calls made set g

  module _ (f : Found) (s t : WorkerState) where
    exists : (c : At) (h : PutsInVain x by to.group to.node to.decl object (Some f) (reply.Exists c) s t) → Offers x to.node to.decl object f (answers.Told c false) h.puts.charged h.refused → HasDid x.script by Command_of (record { reply = reply.Exists c; found = Some f }) s t
    exists c h o =
        let r : Reply = reply.Exists c in let acts = o.calls.made in
        let call : View → View → Type 0 = adds f (answers.Told c false) in
        let so : List Object → Type 0 = λ items. not (holds to.group key items) ≡ false in
        let m : Made = made_entry x to.decl f call h.puts.charged o.held h.refused o.holds o.calls table to.node on to.group inside c so adding acts in
        let set : List ℕ = made_bits x to.decl f call h.puts.charged o.held h.refused o.holds o.calls table to.node on to.group inside c so adding acts in
        let is : adding acts.old ≡ Add by to.group false key value = ap (λ b. Add by to.group b key value) acts.before in
        noted_did x table by to key value on inside f r s h.puts.charged h.refused t h.puts.asks call o.held o.holds o.calls (then_work (offering to.decl f o.holds.answers.gains.words (m ∷ []) set) (uncharging h.back.ops)) [] c so adding acts
        (is_offered f r s h.puts.charged h.refused t h.puts.asks h.back call o.held o.holds o.calls (m ∷ []) set acts.gains (λ place worker n. not_scanned (m.place == place)) (λ n. refl) (filled_by m)
        (record { over = λ g. refl; other = λ g operation usage e. cc; plain = λ rounds. refl; charged_at_last = refl; uncharged = λ g. refl; unmade = refl }) refl
        (adm x table by to key value inside (record { reply = r; found = Some f }) admission.Charged s h.puts.charged t h.puts.asks).made (λ n. ap (λ (e : Entry). 0 + added_below (parents_of x.script) n e) is) tt)
        (λ told. told) (Add by to.group false key value) is (λ family cites. cites) refl (λ e above empty. absurd (cc))

    -- the first open list was full
    worn : (w : Spent) (h : PutsInVain x by to.group to.node to.decl object (Some f) (reply.Worn w) s t) → Offers x to.node to.decl object f (answers.Worn w) h.puts.charged h.refused → HasDid x.script by Command_of (record { reply = reply.Worn w; found = Some f }) s t
    worn (spent.Lookups id number) h o = absurd o.calls.made
    worn (spent.Charges charges uncharges) h o = absurd o.calls.made
    worn (spent.List place entries items) h o =
        let r : Reply = reply.Worn (spent.List place entries items) in let full = o.calls.made in
        let call : View → View → Type 0 = adds f (answers.Worn (spent.List place entries items)) in
        let more = grown (holds to.group key full.old.items) full.old.items (object ∷ []) in let long = full.full.worn.items_then in
        silent_did x table by to key value on inside f r s h.puts.charged h.refused t h.puts.asks call o.held o.holds o.calls (then_work (offering to.decl f o.holds.answers.gains.words [] []) (uncharging h.back.ops)) [] [] [] full.full.gains
        (is_offered f r s h.puts.charged h.refused t h.puts.asks h.back call o.held o.holds o.calls [] [] full.full.gains (λ place' worker n. refl) (λ n. refl) (Each-none (IsListFilled []))
        (record { over = λ g. refl; other = λ g operation usage e. cc; plain = λ rounds. refl; charged_at_last = refl; uncharged = λ g. refl; unmade = refl }) refl
        (adm x table by to key value inside (record { reply = r; found = Some f }) admission.Charged s h.puts.charged t h.puts.asks).made (λ n. refl)
        (list_full x to.decl f call h.puts.charged o.held h.refused o.holds o.calls table to.node on to.group inside entries items place adding full (refusing f r s h.puts.charged h.refused t h.puts.asks h.back call o.held o.holds o.calls [] [] full.full.gains) (ap (λ (u : WorkerState). u.core.traces.known) h.back.rest)
        (inr (inl (record { most = omega (arith, more, long); put = refl; refused = λ c e. cc })))))
        refl (λ family. tt) refl

    lacking : (h : PutsInVain x by to.group to.node to.decl object (Some f) reply.Memory s t) → Offers x to.node to.decl object f answers.Memory h.puts.charged h.refused → HasDid x.script by Command_of (record { reply = reply.Memory; found = Some f }) s t
    lacking h o =
        let gains = o.calls.made.free.gains in
        let call : View → View → Type 0 = adds f answers.Memory in
        let d = adm x table by to key value inside (record { reply = reply.Memory; found = Some f }) admission.Charged s h.puts.charged t h.puts.asks in
        silent_did x table by to key value on inside f reply.Memory s h.puts.charged h.refused t h.puts.asks call o.held o.holds o.calls (then_work (offering to.decl f o.holds.answers.gains.words [] []) (uncharging h.back.ops)) [] [] [] gains
        (is_offered f reply.Memory s h.puts.charged h.refused t h.puts.asks h.back call o.held o.holds o.calls [] [] gains (λ place worker n. refl) (λ n. refl) (Each-none (IsListFilled []))
        (record { over = λ g. refl; other = λ g operation usage e. cc; plain = λ rounds. refl; charged_at_last = refl; uncharged = λ g. refl; unmade = refl }) refl
        (begins_prefix (map job_of d.work.walks) [] (rounds_from (parents_of x.script) x.script.nodes 12 d.rounds) (sym (append-nil (map job_of d.work.walks) ∙ d.made))) (λ n. refl) tt)
        refl (λ family. tt) refl

    each : (a : NodeAnswer Bool) → IsVain (answer_reply add_says a) → (h : PutsInVain x by to.group to.node to.decl object (Some f) (answer_reply add_says a) s t) → Offers x to.node to.decl object f a h.puts.charged h.refused → HasDid x.script by Command_of (record { reply = answer_reply add_says a; found = Some f }) s t
    each (answers.Told c true) vain h o = absurd vain
    each (answers.Told c false) vain h o = exists c h o
    each (answers.Worn w) vain h o = worn w h o
    each answers.Memory vain h o = lacking h o

    pub vain_found : (r : Reply) → IsVain r → PutsInVain x by to.group to.node to.decl object (Some f) r s t → HasDid x.script by Command_of (record { reply = r; found = Some f }) s t
    vain_found r vain h = let said = h.puts.offered in subst (λ (y : Reply). IsVain y → (h : PutsInVain x by to.group to.node to.decl object (Some f) y s t) → Offers x to.node to.decl object f said.answer h.puts.charged h.refused → HasDid x.script by Command_of (record { reply = y; found = Some f }) s t) (sym said.told) (each said.answer) vain h said.did

  pub vain_unfound : (r : Reply) (s t : WorkerState) → PutsInVain x by to.group to.node to.decl object None r s t → HasDid x.script by Command_of (without r) s t
  vain_unfound (reply.NoCache entry) s t h = no_cache s t entry h
  vain_unfound (reply.Worn (spent.Lookups id number)) s t h = no_number s t id number h
  vain_unfound (reply.Worn w) s t h = absurd h.puts.offered.answers.worn
  vain_unfound r s t h = absurd h.puts.offered
