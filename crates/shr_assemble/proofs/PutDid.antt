-- SPDX-License-Identifier: GPL-2.0-only
-- What a put did.
use Rattle.shr_assemble.proofs.Common.{◌≡◌, ℕ, ◌+◌, ◌<◌, inl, inr, Bool, true, false, ◌&&◌, not, cond, ◌==◌, List, [], ◌∷◌, ◌++◌, length, refl, sym, ap, subst, ◌∙◌, arith, Option, Some, None, nat_lt, if◌then◌else◌, Entry, Add, Object, At, Place, Serial, Target, Answered, Found, Reply, Command, Put, is_at_or_above, path_of, is_later, Hierarchy, step, fresh, holds, place_number, times, only, total, total-append, only_yes, AreRising, spent_by, View, group_of, Made, shape_of, add_entry, Listed, AddGives, is_raised, bits_for, times_of, parents_of, IsObjectWithin, content_of, WorkerState, Work, no_work, Does, Shared, does_none, unfound, same_Some, none-some, hierarchy_of, added_below, KnowsUnmade, IsAmong, Step, Puts, PutFrom, PutNone, PutAs, CommandGives}
use Rattle.std.proofs.Common.{lt-ltb}
use Rattle.shr_model.proofs.Booleans.{not_true}
use Rattle.shr_base.specs.declared.replies.Reply.TheVariants as reply
use Rattle.shr_base.specs.declared.replies.Spent.TheVariants as spent
use Rattle.shr_node.specs.declared.answers.NodeAnswer.{NodeAnswer}
use Rattle.shr_node.specs.declared.answers.NodeAnswer.TheVariants as answers
use Rattle.shr_cache.specs.Puts.{Offers}
use Rattle.shr_cache.specs.Replies.{ListReplies, add_says, answer_reply}
use Rattle.shr_walk.specs.declared.admission.Admission.TheVariants as admission
use Rattle.shr_laws.specs.Parts as report
use Rattle.shr_charge.specs.Views as charge
use Rattle.shr_assemble.proofs.QuietTenant.{brings_of, without, group_in, made_entry, made_bits, made_same}
use Rattle.shr_charge.specs.declared.answers.GroupState.TheVariants as state
use Rattle.shr_assemble.proofs.PutParts.{whole}
use Rattle.shr_assemble.proofs.Filling.{filled_by, set_last}
use Rattle.shr_assemble.proofs.PutAsked.{adm, first, walked_first, first_ops, load_walked, unasked_did, over_did, memory_did, ops_quiet, not_scanned, offering_tail}
use Rattle.shr_assemble.proofs.PutFound.{noted_did}
use Rattle.shr_assemble.proofs.PutTries.{charge_parents}
use Rattle.shr_assemble.proofs.PutVain.{vain_found, vain_unfound}
use Rattle.shr_assemble.proofs.QuietSteps.{HasDid, meets_none, hierarchy_is, knows_online, knows_unmade, offering, offering_does}
use Rattle.shr_assemble.proofs.QuietCharges.{charges_worn}
use Rattle.shr_assemble.proofs.WalkingCharges.{tree_is, path_once}
use Rattle.shr_assemble.proofs.WalkingSteps.{walked_still}
use Rattle.shr_assemble.proofs.WalkingWell.{IsTableOf}

-- the bit of a list that was empty and isn't the root's is set
filled_bit : (k : ℕ) (items new : List Object) → items ≡ [] → 0 < length new → 0 < group_of k → 0 < times k (bits_for k items new)
filled_bit k items new none some low = subst (λ (l : List Object). 0 < times k (bits_for k l new)) (sym none) (subst (λ (b : Bool). 0 < times k (cond b (k ∷ []) [])) (sym both) one) where
  both : is_raised k [] new ≡ true
  both = ap (λ (b : Bool). true && b && nat_lt 0 (group_of k)) (lt-ltb 0 (length new) some) ∙ lt-ltb 0 (group_of k) low

  one : 0 < total (only k) (k ∷ [])
  one = omega (arith, only_yes k k refl)

-- the list that was offered an object told that it was added
told_added : (so : NodeAnswer Bool → Type 0) (c : At) → ListReplies add_says so (reply.Added c) → so (answers.Told c true)
told_added so c h = each h.answer h.told h.did where
  each : (a : NodeAnswer Bool) → reply.Added c ≡ answer_reply add_says a → so a → so (answers.Told c true)
  each (answers.Told d true) e o = let same : c ≡ d = cc in subst (λ (y : At). so (answers.Told y true)) (sym same) o
  each (answers.Told d false) e o = absurd (cc)
  each (answers.Worn w) e o = absurd (cc)
  each answers.Memory e o = absurd (cc)

module _ (x : Shared) (table : IsTableOf x) (by : Serial) (to : Target) (key value : List ℕ) (within : IsObjectWithin (content_of x.script) to key) where
  pub inside : to.group < length (parents_of x.script)
  inside = group_in x to.group within.in_group

  abbrev Command_of : Command
  Command_of = Put to key value

  abbrev object : Object
  object = fresh by to.group key value

  -- ---- the object was added

  added : (f : Found) (c : At) (s t : WorkerState) → Puts x by to.group to.node to.decl object (Some f) (reply.Added c) s t → HasDid x.script by Command_of (record { reply = reply.Added c; found = Some f }) s t
  added f c s t h =
      let r : Reply = reply.Added c in
      let a : Answered = record { reply = r; found = Some f } in
      let o = told_added (λ answer. Offers x to.node to.decl object f answer h.charged t) c h.offered in
      let e : Listed → Entry = λ old. add_entry old object in
      let call : View → View → Type 0 = λ v w. AddGives (shape_of x.core) v f.id to.node object (answers.Told c true) w in
      let so : List Object → Type 0 = λ items. not (holds to.group key items) ≡ true in
      let acts = o.calls.made in
      let m : Made = made_entry x to.decl f call h.charged o.held t o.holds o.calls table to.node within.on_node to.group inside c so e acts in
      let set : List ℕ = made_bits x to.decl f call h.charged o.held t o.holds o.calls table to.node within.on_node to.group inside c so e acts in
      let q : Work = offering to.decl f o.holds.answers.gains.words (m ∷ []) set in
      let is : e acts.old ≡ Add by to.group true key value = ap (λ b. Add by to.group b key value) acts.before in
      let d = adm x table by to key value inside a admission.Charged s h.charged t h.asks in
      let v : Work = first x table by to key value inside a admission.Charged s h.charged t h.asks in
      let same = made_same x to.decl f call h.charged o.held t o.holds o.calls table to.node within.on_node to.group inside c so e acts in
      let grew : step [] acts.old.items (e acts.old) ≡ acts.old.items ++ object ∷ [] = ap (λ b. if b then acts.old.items else acts.old.items ++ object ∷ []) (not_true (holds to.group key acts.old.items) acts.before) in
      noted_did x table by to key value within.on_node inside f r s h.charged t t h.asks call o.held o.holds o.calls q (path_of x.charge.shape.parents.items to.group) c so e acts (record {
        does = brings_of (offering_does x to.decl f call h.charged o.held t o.holds o.calls (m ∷ []) set acts.gains);
        tail = offering_tail to.decl f o.holds.answers.gains.words (m ∷ []) set (λ place worker n. not_scanned (m.place == place));
        ops = ops_quiet x by to.group d.tries (d.rounds ++ []) (path_of x.charge.shape.parents.items to.group) v q (first_ops x table by to key value inside a admission.Charged s h.charged t h.asks) refl refl refl (λ n. refl);
        attempts = refl;
        made_are = refl;
        filled = filled_by m;
        core = refl;
        over = λ n. refl;
        other = λ n operation usage eq. cc;
        plain = λ rounds. refl;
        charged_at_last = refl;
        due = d.made;
        stands = λ n lt. ap (λ p. times_of n (path_of p to.group)) (charge_parents x table) ∙ path_once (parents_of x.script) (tree_is x table) to.group n inside;
        added = λ n. ap (λ (en : Entry). 0 + added_below (parents_of x.script) n en) is ∙ none_before (cond {A = ℕ} (is_at_or_above (parents_of x.script) n to.group) 1 0);
        untold = refl;
        unmade = refl;
        cause = tt;
      }) (λ told. told) (Add by to.group true key value) is (λ family cites. cites) refl
      (λ eq above empty. let low = ap (λ (p : Place). p.group) same in
      let long = ap (λ (l : List Object). length l) (grew ∙ ap (λ l. l ++ object ∷ []) empty) in
      let bit = filled_bit (place_number c.place) acts.old.items (step [] acts.old.items (e acts.old)) empty (omega (arith, long)) (omega (arith, low, above)) in
      let all = total-append (only (place_number c.place)) v.core.sets set in
      let last = set_last s.core h.charged.core t.core v.core q.core (brings_of (walked_first x table by to key value inside a admission.Charged s h.charged t h.asks).does).core (brings_of (offering_does x to.decl f call h.charged o.held t o.holds o.calls (m ∷ []) set acts.gains)).core (place_number c.place) bit refl in
      (omega (arith, all, bit), record { front = last.0; back = last.1; did = last.2; clears_none = last.3 })) where
        none_before : (n : ℕ) → 0 + n ≡ n
        none_before n = omega arith

  -- ---- by the reply

  from : (f : Found) (r : Reply) (s t : WorkerState) → (h : PutFrom x by to.group to.node to.decl object f r s t) → HasDid x.script by Command_of (record { reply = r; found = Some f }) s t
  from f (reply.Added c) s t h = added f c s t h
  from f r s t h = vain_found x table by to key value within.on_node inside f s t r tt h

  abbrev vain_step : Reply → List charge.LoadedState → WorkerState → WorkerState → Step
  vain_step r words s t = whole x.script by Command_of (without r) s t t (record no_work { words = words }) no_work

  none : (r : Reply) (s t : WorkerState) → AreRising s.uses.ops → (h : PutNone x by to.group to.node to.decl object r s t) → HasDid x.script by Command_of (without r) s t
  none (reply.Worn (spent.Charges charges uncharges)) s t rise h = let r : Reply = reply.Worn (spent.Charges charges uncharges) in
      unasked_did x table by to key value inside r [] s t (walked_still x.script by (Some Command_of) (without r) [] 0 0 [] s t (subst (λ (u : WorkerState). Does s u no_work) (sym h.rest) (does_none s)))
      (λ family. tt) refl (λ n. refl) (λ n operation usage e. cc) (λ n. refl) refl refl refl refl (inl tt) (meets_none x.script (vain_step r [] s t) (λ g e. absurd (cc)) (λ g e. none-some g e)) (charges_worn _ charges uncharges (ap (λ (u : WorkerState). spent_by u.uses) h.rest ∙ h.numbers))
  none (reply.Offline number) s t rise h = let r : Reply = reply.Offline number in
      unasked_did x table by to key value inside r (record { group = to.group; state = state.Offline number } ∷ []) s t (load_walked x table by to key value inside (without r) (state.Offline number) s t h.offline)
      (λ family. tt) refl (λ n. refl) (λ n operation usage e. cc) (λ n. refl) refl refl refl refl (inl tt)
      (record { unmade = λ g e. absurd (cc); met = λ g e. inr (state.Offline number, refl, subst (λ n. IsAmong {A = charge.LoadedState} (record { group = n; state = state.Offline number }) (record { group = to.group; state = state.Offline number } ∷ [])) (same_Some to.group g e) (0, refl)) })
      (record { group = to.group; met = refl; told = inl (0, refl) })
  none (reply.NotMade g) s t rise h = let r : Reply = reply.NotMade g in
      unasked_did x table by to key value inside r (record { group = to.group; state = state.NotMade } ∷ []) s t (load_walked x table by to key value inside (without r) state.NotMade s t h.not_made)
      (λ family. tt) refl (λ n. refl) (λ n operation usage e. cc) (λ n. refl) refl refl refl refl
      (inr (knows_online (hierarchy_of (shape_of x.core)) s.tree to.group state.NotMade (λ entry e. absurd (cc)) h.not_made.shows))
      (record {
        unmade = λ n e. let named : g ≡ n = cc in subst (KnowsUnmade (report.script_hierarchy x.script) s.tree) (sym h.same ∙ named) (subst (λ (q : Hierarchy). KnowsUnmade q s.tree to.group) (hierarchy_is x table.shared) (knows_unmade (hierarchy_of (shape_of x.core)) s.tree to.group h.not_made.shows));
        met = λ n e. absurd (none-some n e);
      })
      (record { met = ap Some (sym h.same); late = subst (λ (q : Hierarchy). is_later q.later g ≡ true) (hierarchy_is x table.shared) (subst (λ n. is_later (hierarchy_of (shape_of x.core)).later n ≡ true) (sym h.same) (h.not_made.shows.late refl)) })
  none (reply.Over over operation usage) s t rise h = over_did x table by to key value inside over operation usage s t h rise
  none reply.Memory s t rise h = memory_did x table by to key value inside s t h
  none r s t rise h = vain_unfound x table by to key value within.on_node inside r s t h

  as_found : (found : Option Found) (r : Reply) (s t : WorkerState) → AreRising s.uses.ops → (h : PutAs x by to.group to.node to.decl object found r s t) → HasDid x.script by Command_of (record { reply = r; found = found }) s t
  as_found None r s t rise h = none r s t rise h
  as_found (Some f) r s t rise h = from f r s t h

  -- no memory for a copy of the key and the value
  no_copy : (s t : WorkerState) → t ≡ s → HasDid x.script by Command_of (unfound reply.Memory) s t
  no_copy s t rest = unasked_did x table by to key value inside reply.Memory [] s t (walked_still x.script by (Some Command_of) (without reply.Memory) [] 0 0 [] s t (subst (λ (u : WorkerState). Does s u no_work) (sym rest) (does_none s)))
      (λ family. tt) refl (λ n. refl) (λ n operation usage e. cc) (λ n. refl) refl refl refl refl (inl tt) (meets_none x.script (vain_step reply.Memory [] s t) (λ g e. absurd (cc)) (λ g e. none-some g e)) tt

  -- It takes that the numbers of each group's operations rose before.
  pub put_did : (a : Answered) (s t : WorkerState) → AreRising s.uses.ops → CommandGives x by (Put to key value) a s t → HasDid x.script by (Put to key value) a s t
  put_did a s t rise (inl none) = subst (λ (b : Answered). HasDid x.script by (Put to key value) b s t) (sym none.told) (no_copy s t none.rest)
  put_did a s t rise (inr h) = as_found a.found a.reply s t rise h
