-- SPDX-License-Identifier: GPL-2.0-only
-- A put whose cache was found after its charge: with the entry that it cites, or with none.
use Rattle.shr_assemble.proofs.Common.{◌≡◌, ℕ, ◌<◌, ◌≤◌, List, [], ◌∷◌, ◌++◌, length, map, refl, sym, ap, subst, ◌∙◌, arith, false, true, cond, Bool, Some, None, sum_by, sum_by-append, same_Some, none-some, Entry, Object, At, Serial, Target, Answered, Found, Reply, Command, rounds_from, Family, job_of, place_number, Each, times, Each-none, HoldsCache, Calls, Asks, View, place_at, Made, Known, shape_of, Listed, Acts, Gains, times_of, charged, pool_told, pool_made, parents_of, cited_by, IsReply, Cites, over_at, WorkerState, Work, then_work, Shared, IsCausedBy, added_below, IsTenantEntry, MayMakeEntry, IsSetLast, IsListFilled, IsMadeAsCited, IsFoundBy, number_made, Step, IsAmong, BringsWork, refusals_of, was_charged, append-nil, each_before, each_one, IsWant, StandsIn}
use Rattle.shr_base.specs.declared.replies.Reply.TheVariants as reply
use Rattle.shr_walk.specs.declared.admission.Admission.TheVariants as admission
use Rattle.shr_laws.specs.WalksLawful as walks
use Rattle.shr_assemble.proofs.FirstLists.{first_for}
use Rattle.shr_lawful.proofs.Gathering.{among_right}
use Rattle.shr_assemble.proofs.PutAsked.{command, adm, first, walked_first, asked_did, none_added_first}
use Rattle.shr_assemble.proofs.PutParts.{IsTail, whole}
use Rattle.shr_assemble.proofs.PutTries.{AreOps}
use Rattle.shr_assemble.proofs.QuietSteps.{HasDid, IsToldOnce, tried_by, offered_entry, offered_by, offered_known}
use Rattle.shr_assemble.proofs.QuietTenant.{is_told, made_entry, made_same, made_later, made_known, made_cites}
use Rattle.shr_assemble.proofs.WalkingWell.{IsTableOf}
use Rattle.shr_assemble.proofs.WalkingRecord.{each_left}

module _ (x : Shared) (table : IsTableOf x) (by : Serial) (to : Target) (key value : List ℕ) (on : to.node < x.script.nodes) (inside : to.group < length (parents_of x.script)) where
  abbrev Command_of : Command
  Command_of = command x table by to key value inside

  -- the cache was found from the charged state, its list was called, and all steps after the charge are these
  module _ (f : Found) (r : Reply) (s charged_at offered t : WorkerState) (asks : Asks x by to.group admission.Charged s charged_at)
      (call : View → View → Type 0) (held : WorkerState) (holds : HoldsCache x to.decl f charged_at held) (calls : Calls call held offered) (q : Work) (kept : List ℕ) where
    abbrev a : Answered
    a = record { reply = r; found = Some f }

    abbrev pub first_work : Work
    first_work = first x table by to key value inside a admission.Charged s charged_at t asks

    abbrev pub step_is : Step
    step_is = whole x.script by Command_of a s charged_at t first_work q

    -- what both kinds of answers have
    pub record IsOffered (made : List Made) : Type 0 where
      pub does : BringsWork charged_at t q
      pub tail : IsTail q
      pub ops : AreOps x by to.group (adm x table by to key value inside a admission.Charged s charged_at t asks).tries ((adm x table by to key value inside a admission.Charged s charged_at t asks).rounds ++ []) kept (then_work first_work q)
      pub attempts : q.core.attempts ≡ tried_by to.decl f ∷ []
      pub made_are : q.core.made ≡ made
      pub filled : Each (IsListFilled made) q.core.sets
      pub core : t.core ≡ offered.core
      pub over : (h : ℕ) → over_at h r ≡ 0
      pub other : (g operation usage : ℕ) → r ≡ reply.Over g operation usage → ⊥
      pub plain : (rounds : List ℕ) → refusals_of rounds r ≡ rounds
      pub charged_at_last : was_charged true r ≡ true
      pub due : walks.MayMake r (rounds_from (parents_of x.script) x.script.nodes 12 (adm x table by to key value inside a admission.Charged s charged_at t asks).rounds)
          (map job_of (adm x table by to key value inside a admission.Charged s charged_at t asks).work.walks)
      pub stands : (g : ℕ) → g < length (parents_of x.script) → times_of g kept ≡ charged (parents_of x.script) g (Some Command_of) (Some r)
      pub added : (g : ℕ) → sum_by (λ (m : Made). added_below (parents_of x.script) g m.entry) made ≡ charged (parents_of x.script) g (Some Command_of) (Some r)
      pub untold : pool_told r ≡ []
      pub unmade : pool_made r ≡ []
      pub cause : IsCausedBy x.script (whole x.script by Command_of a s charged_at t first_work q) r

    module _ (made : List Made) (bits : List ℕ) (g : Gains held.core calls.called made bits) (h : IsOffered made) where
      same_turns : t.core.turns ≡ offered.core.turns
      same_turns = ap (λ (v : View). v.turns) h.core

      found_is : (d : Found) → Some f ≡ Some d → IsFoundBy step_is to.decl d
      found_is d e = subst (IsFoundBy step_is to.decl) (same_Some f d e) (offered_by x to.decl f call charged_at held offered holds calls made bits g step_is same_turns
          (among_right first_work.core.attempts q.core.attempts (tried_by to.decl f) (subst (IsAmong (tried_by to.decl f)) (sym h.attempts) (0, refl))))

      known_is : IsToldOnce step_is (f.entry ∷ pool_told r)
      known_is = subst (λ (ns : List ℕ). IsToldOnce step_is (f.entry ∷ ns)) (sym h.untold) (offered_entry x to.decl f call charged_at held offered holds calls made bits g ∙ ap (λ y. length y.known) (sym same_turns))

      added_is : (n : ℕ) → sum_by (λ (m : Made). added_below (parents_of x.script) n m.entry) (first_work.core.made ++ q.core.made) ≡ charged (parents_of x.script) n (Some Command_of) (Some r)
      added_is n = let e = sum_by-append (λ (m : Made). added_below (parents_of x.script) n m.entry) first_work.core.made q.core.made in let z = none_added_first x table by to key value inside a admission.Charged s charged_at t asks n in
          let d = ap (sum_by (λ (m : Made). added_below (parents_of x.script) n m.entry)) h.made_are in let k = h.added n in omega (arith, e, z, d, k)

      -- what is left to say are the entries that were made, and the one that is cited
      offered_did : Each (λ (y : Made). MayMakeEntry x.script step_is y y.entry) q.core.made → ((family : Family) → Each (StandsIn (parents_of x.script) family) (first_work.core.made ++ q.core.made) → IsReply (parents_of x.script) family by Command_of (Some f.id) r)
          → ((at : At) → cited_by r ≡ Some at → IsMadeAsCited x.script step_is at) → ((n : ℕ) → r ≡ reply.NotMade n → ⊥) → HasDid x.script by Command_of (record { reply = r; found = Some f }) s t
      offered_did may row cited unnoted =
          let rounds : List ℕ = (adm x table by to key value inside a admission.Charged s charged_at t asks).rounds in
          let all : (n operation usage : ℕ) → r ≡ reply.Over n operation usage → length rounds ≡ 13 = λ n operation usage e. absurd (h.other n operation usage e) in
          let want : admission.Charged ≡ admission.Memory → IsWant r = λ e. absurd (cc) in
          asked_did x table by to key value inside a admission.Charged s charged_at t asks q kept (assumption (
            subst (λ (l : List Made). Each (IsListFilled l) q.core.sets) (sym h.made_are) h.filled,
            ap (map number_made) h.attempts,
            h.plain rounds ∙ sym (append-nil rounds),
            ap (λ (b : Bool). cond b (false ∷ []) []) (sym h.charged_at_last),
            found_is,
            all,
            added_is,
            known_is,
            want,
          ))

      -- no entry was made, and none is cited
      module _ (none : made ≡ []) (row : (family : Family) → IsReply (parents_of x.script) family by Command_of (Some f.id) r) (uncited : cited_by r ≡ None) where
        pub silent_did : HasDid x.script by Command_of (record { reply = r; found = Some f }) s t
        silent_did = offered_did
            (subst (λ (l : List Made). Each (λ (y : Made). MayMakeEntry x.script step_is y y.entry) l) (sym (h.made_are ∙ none)) (Each-none (λ (y : Made). MayMakeEntry x.script step_is y y.entry)))
            (λ family stands. row family) (λ at e. absurd (none-some at (sym uncited ∙ e))) (λ n e. subst (λ y. IsReply (parents_of x.script) (λ p. []) by Command_of (Some f.id) y) e (row (λ p. [])))

    -- one entry was made, which the answer cites
    module _ (c : At) (so : List Object → Type 0) (e : Listed → Entry) (acts : Acts (shape_of x.core) held.core calls.called f.id to.node to.group c so e) where
      abbrev pub noted : Made
      noted = made_entry x to.decl f call charged_at held offered holds calls table to.node on to.group inside c so e acts

      module _ (h : IsOffered (noted ∷ [])) (may : IsTenantEntry step_is noted by → MayMakeEntry x.script step_is noted (e acts.old)) (en : Entry) (is : e acts.old ≡ en) (row : (family : Family) → Cites family c f.id to.node en → IsReply (parents_of x.script) family by Command_of (Some f.id) r)
          (cites : cited_by r ≡ Some c) (filled : r ≡ reply.Added c → 0 < c.place.group → acts.old.items ≡ [] → (0 < times (place_number c.place) (first_work.core.sets ++ q.core.sets)) × IsSetLast step_is (place_number c.place)) where
        same_place : place_at (place_number c.place) ≡ c.place
        same_place = made_same x to.decl f call charged_at held offered holds calls table to.node on to.group inside c so e acts

        among : IsAmong noted (first_work.core.made ++ q.core.made)
        among = among_right first_work.core.made q.core.made noted (subst (IsAmong noted) (sym h.made_are) (0, refl))

        cited_is : IsMadeAsCited x.script step_is c
        cited_is = record {
          made = noted;
          among = among;
          place = same_place;
          number = sym acts.number;
          later = each_left (λ (m : Made). m.place ≡ place_number c.place → m.number < length acts.old.entries) s.core.traces.made first_work.core.made
              (subst (λ (l : List Made). Each (λ (m : Made). m.place ≡ place_number c.place → m.number < length acts.old.entries) l) (walked_first x table by to key value inside a admission.Charged s charged_at t asks).does.core.made
              (made_later x to.decl f call charged_at held offered holds calls table to.node on to.group inside c so e acts));
          known = each_before (λ (k : Known). k.place ≡ place_number c.place → length k.entries ≤ length acts.old.entries) s.core.traces.known charged_at.core.traces.known
              (walked_first x table by to key value inside a admission.Charged s charged_at t asks).does.core.known (made_known x to.decl f call charged_at held offered holds calls table to.node on to.group inside c so e acts);
          first = first_for x table calls.called f.id to.node to.group c.place acts.first step_is (ap (λ (v : View). v.traces.known) h.core ∙ offered_known x to.decl f call charged_at held offered holds calls (noted ∷ []) _ acts.gains) refl inside;
          filled = filled;
        }

        pub noted_did : HasDid x.script by Command_of (record { reply = r; found = Some f }) s t
        noted_did = offered_did (noted ∷ []) _ acts.gains h
            (subst (λ (l : List Made). Each (λ (y : Made). MayMakeEntry x.script step_is y y.entry) l) (sym h.made_are) (each_one (λ (y : Made). MayMakeEntry x.script step_is y y.entry) noted (may (is_told step_is noted c same_place (sym acts.number) cites))))
            (λ family stands. row family (made_cites x to.decl f call charged_at held offered holds calls table to.node on to.group inside c so e acts family en (stands among.0 noted among.1) is))
            (λ d eq. subst (IsMadeAsCited x.script step_is) (same_Some c d (sym cites ∙ eq)) cited_is) (λ n e. none-some c (ap cited_by (sym e) ∙ cites))
