-- SPDX-License-Identifier: GPL-2.0-only
-- What an unregister did.
use Rattle.shr_assemble.proofs.Common.{◌≡◌, ◌⊎◌, inl, inr, ⊎_elim, ℕ, zero, suc, ◌+◌, ◌<◌, ◌≤◌, List, [], ◌∷◌, ◌++◌, length, length-append, append_assoc, take, refl, sym, ap, subst, ◌∙◌, arith, Some, None, sum_by, AllByRecursion, none-some, some, some-injective, get_elem?, Entry, PoolEntry, Unregistered, Idle, UseStep, Object, is_past_group, added_below, made_freed_below, Place, Serial, Answered, HalfWhy, Reply, Spent, Command, Family, born_below, place_number, is_live_decl, phase_of, from_of, Each, nothing, Adds, place_id, Made, Loaded, Turn, groups_in, Shape, shape_of, AreDowns, spent_by, Draw, group_place, made_from, drawn_from, within_of_valid, content_of, IsWithin, Each-none, Each-weaker, Shared, paths_of, WorkerState, Work, no_work, does_none, unfound, parents_of, cited_by, Step, IsAmong, IsReplyTo, MayMakeEntry, Drains, DidEntries, IsCausedBy, IsWhyBy, DidPool, IsTurnOf, IsListWorn, each_one, AreNodeDraws, ended_turn, Frees, Halves, StoppedBy, UnregisterGives, unregister_reply, objects_drained, IsWorkerSpent, take_all, take-append_seam, BringsWork}
use Rattle.shr_assemble.proofs.ScriptGroups.{sized_of}
use Rattle.shr_base.specs.declared.replies.HalfWhy.TheVariants as why
use Rattle.shr_base.specs.declared.replies.Reply.TheVariants as reply
use Rattle.shr_base.specs.declared.replies.Spent.TheVariants as spent
use Rattle.shr_base.specs.declared.scripts.Command.TheVariants as command
use Rattle.shr_charge.specs.Seat.{counted}
use Rattle.shr_registry.specs.declared.answers.UnregisterAnswer.{UnregisterAnswer}
use Rattle.shr_registry.specs.declared.answers.UnregisterAnswer.TheVariants as unregister
use Rattle.shr_assemble.proofs.Spending.{spent_is}
use Rattle.shr_walk.specs.Keeping as keeping
use Rattle.shr_worker.specs.Commands as worker
use Rattle.shr_worker.specs.Uncharging.{UnchargesEach}
use Rattle.shr_worker.proofs.Drained.{drained_from}
use Rattle.shr_lawful.proofs.Listed.{contains_among}
use Rattle.shr_assemble.proofs.QuietSteps.{step_of, HasDid, still_pool, still_tree, meets_none, never_met, unmade_apart, quiet_did, AreTables, tree_is}
use Rattle.shr_assemble.proofs.Filling.{IsSet}
use Rattle.shr_assemble.proofs.QuietTenant.{without, no_entries, unfound_lookups, brings_of}
use Rattle.shr_assemble.proofs.QuietCharges.{uncharged_charges, nothing_did, charges_worn}
use Rattle.shr_assemble.proofs.QuietSplices.{IsDrainOf, each_rec, rec_each, in_all, drains_freed, drains_added, drains_counted}
use Rattle.shr_lawful.proofs.FreshLaw.{begins_length}

take_start : {A : Type 0} (n : ℕ) (xs ys : List A) → n ≡ length xs → take n (xs ++ ys) ≡ xs
take_start n xs ys e = ap (λ (m : ℕ). take m (xs ++ ys)) e ∙ take-append_seam xs ys

each_two : {A : Type 0} (P : A → Type 0) (a b : A) → P a → P b → Each P (a ∷ b ∷ [])
each_two P a b p q zero y e = subst P (some-injective a y e) p
each_two P a b p q (suc j) y e = each_one P b q j y e

module _ (x : Shared) (tables : AreTables x) (by : Serial) (decl : ℕ) (s t : WorkerState) where
  abbrev asked : Command
  asked = command.Unregister decl

  abbrev ps : List ℕ
  ps = parents_of x.script

  -- what an unregistering brought, and the uncharges
  abbrev ending : List Made → List Loaded → List Turn → ℕ → List UseStep → ℕ → Work
  ending made words turns gives ops uncharges = record no_work { core = record nothing { made = made; turns = turns; loaded = words; gives = gives }; ops = ops; uncharges = uncharges }

  module _ (r : Reply) (objects : List Object) (u : UnchargesEach (keeping.shared_parents x) by objects s t) (made : List Made) (words : List Loaded) (turns : List Turn) (gives : ℕ) where
    abbrev ends : Step
    ends = step_of by asked (without r) s t (ending made words turns gives u.ops (length objects))

    ended : Adds s.core t.core (record nothing { made = made; turns = turns; loaded = words; gives = gives }) → DidEntries x.script ends
        → AllByRecursion (λ (o : Object). o.birth < length ps) objects → ((g : ℕ) → sum_by (made_freed_below ps g) made ≡ born_below ps g objects) → ((g : ℕ) → sum_by (λ (m : Made). added_below ps g m.entry) made ≡ 0)
        → DidPool x.script ends → IsCausedBy x.script ends r → HasDid x.script by asked (without r) s t
    ended adds entries born freed added pool cause =
        quiet_did ends.work tt (record { walks = refl; seen = refl; maps = refl; cleared = refl; takes = refl; gives = refl; carries = refl })
        (subst (λ (y : WorkerState). BringsWork s y ends.work) (sym u.rest) (assumption (adds, u, brings_of (does_none s))))
        entries (unfound_lookups x.script ends refl refl)
        (uncharged_charges x.script ends objects (within_of_valid (content_of x.script) tables.shared.script).tree (assumption (born, subst (λ (l : List ℕ). AreDowns by (paths_of l objects) u.ops) (tree_is x tables.shared) u.downs, freed, added))) pool
        (still_tree x.script ends refl (λ g asks above. absurd (none-some g asks)) (meets_none x.script ends (λ g e. unmade_apart x.script ends g refl (subst (IsCausedBy x.script ends) e cause)) (λ g e. never_met (is_past_group r) g e)))
        cause

  abbrev shape : Shape
  shape = shape_of x.core

  within : IsWithin (content_of x.script)
  within = within_of_valid (content_of x.script) tables.shared.script

  same_groups : groups_in shape ≡ length ps
  same_groups = ap (λ (l : List ℕ). length l) (tree_is x tables.shared)

  few_groups : groups_in shape ≤ 256
  few_groups = let same = same_groups in let most = (sized_of x tables.shared).groups in omega (arith, same, most)

  few_nodes : shape.nodes ≤ 4
  few_nodes = let same = tables.shared.nodes in let most = within.nodes in omega (arith, same, most)

  abbrev AreDraws : ℕ → List (List Draw) → Type 0
  AreDraws id draws = (node : ℕ) (ds : List Draw) → get_elem? draws node ≡ some ds → AreNodeDraws shape s.core id node ds

  -- the objects that were drained were born in groups of the tree
  born_in : (id : ℕ) (draws : List (List Draw)) (objects : List Object) → AreDraws id draws → length draws ≤ shape.nodes → objects ≡ drawn_from draws → AllByRecursion (λ (o : Object). o.birth < length ps) objects
  born_in id draws objects each short same = subst (λ (l : List Object). AllByRecursion (λ (o : Object). o.birth < length ps) l) (sym same) (subst (λ (n : ℕ). AllByRecursion (λ (o : Object). o.birth < n) (drawn_from draws)) same_groups
      (rec_each (λ (o : Object). o.birth < groups_in shape) (drawn_from draws) (drained_from shape s.core id draws each tables.shared.most_items few_groups few_nodes short).born))

  drains : (id : ℕ) (draws : List (List Draw)) → AreDraws id draws → length draws ≤ shape.nodes → Each (IsDrainOf id by) (made_from id 0 by draws)
  drains id draws each short = let four = few_nodes in each_rec (IsDrainOf id by) (made_from id 0 by draws) (in_all id by 0 draws (omega (arith, four, short))
      (rec_each (λ (ds : List Draw). AllByRecursion (λ (d : Draw). d.group < 256) ds) draws (λ j ds at. rec_each (λ (d : Draw). d.group < 256) ds (λ i d e. let there = ((each j ds at).each i d e).there in let most = few_groups in omega (arith, there, most)))))

  -- the entries of an answer that drained lists of this id
  drain_entries : (id : ℕ) (draws : List (List Draw)) → AreDraws id draws → length draws ≤ shape.nodes → (z : Step) → z.by ≡ by → Drains id z.answered.reply → ((i : ℕ) → Drains id z.answered.reply → i ≡ id → Drains i z.answered.reply) → z.work.core.made ≡ made_from id 0 by draws
      → ((family : Family) → IsReplyTo ps family z.by z.command None z.answered.reply) → z.answered.found ≡ None → cited_by z.answered.reply ≡ None → Each (λ (m : Made). MayMakeEntry x.script z m m.entry) z.work.core.made
  drain_entries id draws each short z own of move made row none uncited = subst (λ (l : List Made). Each (λ (m : Made). MayMakeEntry x.script z m m.entry) l) (sym made)
      (Each-weaker (IsDrainOf id by) (λ (m : Made). MayMakeEntry x.script z m m.entry) (λ m d. subst (λ (e : Entry). MayMakeEntry x.script z m e) (sym d.entry) (record { own = sym own; drains = move (place_id m.place) of d.place })) (made_from id 0 by draws) (drains id draws each short))

  -- what the journal of registrations is before the Unregistered
  taken_is : (entry id to : ℕ) (before more : List PoolEntry) → entry ≡ length before → t.core.turns.known ≡ before ++ Unregistered decl id to ∷ more → take entry t.core.turns.known ≡ before
  taken_is entry id to before more e known = ap (take entry) known ∙ take_start entry before (Unregistered decl id to ∷ more) e

  known_past : (entry id to : ℕ) (before more : List PoolEntry) → entry ≡ length before → t.core.turns.known ≡ before ++ Unregistered decl id to ∷ more → entry < length t.core.turns.known
  known_past entry id to before more e known = omega (arith, e, ap (λ (l : List PoolEntry). length l) known, length-append before (Unregistered decl id to ∷ more))

  freed_did : (id entry from to : ℕ) (objects : List Object) → Frees shape s.core decl by id entry from to objects t.core → UnchargesEach (keeping.shared_parents x) by objects s t → HasDid x.script by asked (without (reply.Freed id entry from to (length objects))) s t
  freed_did id entry from to objects h u =
      let r : Reply = reply.Freed id entry from to (length objects) in
      let late : length s.core.turns.known ≤ length h.before = begins_length s.core.turns.known h.before h.seen in
      let idle : Turn = record { number = length h.then; entry = Idle id } in
      let turn : Turn = ended_turn h.before decl id to in
      let made : List Made = made_from id 0 by h.draws in
      let z : Step = ends r objects u made h.gains.words (turn ∷ idle ∷ []) 2 in
      let number = h.ended.number in
      let more : List PoolEntry = h.begins.0 ++ Idle id ∷ [] in
      let known : t.core.turns.known ≡ h.before ++ Unregistered decl id to ∷ more = h.known ∙ (ap (λ (l : List PoolEntry). l ++ Idle id ∷ []) h.begins.1 ∙ (append_assoc (h.before ++ Unregistered decl id to ∷ []) h.begins.0 (Idle id ∷ []) ∙ append_assoc h.before (Unregistered decl id to ∷ []) more)) in
      let taken = taken_is entry id to h.before more number known in
      let long : length h.then ≡ length h.before + 1 + length h.begins.0 = omega (arith, ap (λ (l : List PoolEntry). length l) h.begins.1, length-append (h.before ++ Unregistered decl id to ∷ []) h.begins.0, length-append h.before (Unregistered decl id to ∷ [])) in
      let whole : length t.core.turns.known ≡ length h.then + 1 = omega (arith, ap (λ (l : List PoolEntry). length l) h.known, length-append h.then (Idle id ∷ [])) in
      let short : length h.draws ≤ shape.nodes = (let e = h.nodes in omega (arith, e)) in
      let then_is : take (length h.then) t.core.turns.known ≡ h.then = ap (take (length h.then)) h.known ∙ take_start (length h.then) h.then (Idle id ∷ []) refl in
      ended r objects u made h.gains.words (turn ∷ idle ∷ []) 2 h.gains.adds
      (record {
        each = drain_entries id h.draws h.each short z refl refl (λ i own e. sym e) refl (λ family. tt) refl refl;
        reply = λ family stands. tt;
        sets = Each-none (IsSet made []);
        cited = λ c e. absurd (none-some c e);
      })
      (born_in id h.draws objects h.each short h.drained) (λ g. drains_freed id by ps g h.draws ∙ ap (born_below ps g) (sym h.drained)) (λ g. drains_added id by ps g h.draws)
      (record {
        turns = each_two (λ (y : Turn). IsTurnOf t.core.turns.known y.entry y.number r) turn idle (sym number) (refl, omega (arith, number, long), omega (arith, whole), (ap (phase_of id) then_is ∙ (h.between ∙ ap (λ (l : List PoolEntry). phase_of id l + 1) (sym taken))));
        later = each_two (λ (y : Turn). length s.core.turns.known ≤ y.number) turn idle late (omega (arith, late, long));
        seen = tt;
        rise = λ k d lt. absurd (omega (arith, lt));
        made = (known_past entry id to h.before more number known, tt);
      })
      (record {
        unregistered = record {
          decl = decl;
          named = refl;
          made = (0, λ i. some (record { number = sym number i; entry = Unregistered decl id to }));
          known = known_past entry id to h.before more number known;
          began = h.ended.began ∙ ap (from_of id) (sym taken);
          drained = ap (λ (l : List Object). length l) h.drained ∙ drains_counted id by h.draws;
        };
        number = length h.then;
        idle = (1, refl);
      })

  half_did : (id entry from to : ℕ) (objects : List Object) (half : HalfWhy) → Halves shape s.core decl by id entry from to objects half t.core → UnchargesEach (keeping.shared_parents x) by objects s t → HasDid x.script by asked (without (reply.Half id entry from to (length objects) half)) s t
  half_did id entry from to objects half h u =
      let r : Reply = reply.Half id entry from to (length objects) half in
      let turn : Turn = ended_turn h.before decl id to in
      let made : List Made = made_from id 0 by h.draws in
      let z : Step = ends r objects u made h.gains.words (turn ∷ []) 1 in
      let number = h.ended.number in
      let taken = taken_is entry id to h.before [] number h.known in
      let short : length h.draws ≤ shape.nodes = (let e = h.stops.last in let lt = h.stops.near in omega (arith, e, lt)) in
      ended r objects u made h.gains.words (turn ∷ []) 1 h.gains.adds
      (record {
        each = drain_entries id h.draws h.each short z refl refl (λ i own e. sym e) refl (λ family. tt) refl refl;
        reply = λ family stands. tt;
        sets = Each-none (IsSet made []);
        cited = λ c e. absurd (none-some c e);
      })
      (born_in id h.draws objects h.each short h.drained) (λ g. drains_freed id by ps g h.draws ∙ ap (born_below ps g) (sym h.drained)) (λ g. drains_added id by ps g h.draws)
      (record {
        turns = each_one (λ (y : Turn). IsTurnOf t.core.turns.known y.entry y.number r) turn (sym number);
        later = each_one (λ (y : Turn). length s.core.turns.known ≤ y.number) turn (begins_length s.core.turns.known h.before h.seen);
        seen = tt;
        rise = λ k d lt. absurd (omega (arith, lt));
        made = (known_past entry id to h.before [] number h.known, tt);
      })
      (record {
        unregistered = record {
          decl = decl;
          named = refl;
          made = (0, λ i. some (record { number = sym number i; entry = Unregistered decl id to }));
          known = known_past entry id to h.before [] number h.known;
          began = h.ended.began ∙ ap (from_of id) (sym taken);
          drained = ap (λ (l : List Object). length l) h.drained ∙ drains_counted id by h.draws;
        };
        reason = why_is half h.stops.stopped z refl;
      }) where
        why_is : (w : HalfWhy) → StoppedBy shape s.core t.core id h.stops.node h.stops.group by w → (z : Step) → z.after ≡ t → IsWhyBy x.script z w
        why_is why.Memory k z end = tt
        why_is (why.Worn (spent.Lookups i seen)) k z end = absurd k
        why_is (why.Worn (spent.Charges charges uncharges)) k z end = absurd k
        why_is (why.Worn (spent.List place entries items)) k z end =
            let here : Place = group_place id h.stops.node h.stops.group in
            let near = h.ended.live.near in let ids = tables.shared.ids in let on = h.stops.near in let nodes = tables.shared.nodes in let there = k.filled.there in let groups = same_groups in
            subst (λ (p : Place). IsListWorn x.script z p entries items) (sym k.here) (record {
              there = record { id = omega (arith, near, ids); node = omega (arith, on, nodes); group = omega (arith, there, groups) };
              over = ⊎_elim (λ (lt : k.old.most_entries < entries). let m = k.filled.met.was.most_entries ∙ tables.most_entries in inl (omega (arith, lt, m))) (λ (lt : k.old.most_items < items). let m = k.filled.met.was.most_items ∙ tables.most_items in inr (omega (arith, lt, m))) k.worn.over;
              known = k.old.entries;
              held = k.old.items;
              list = record {
                knows = subst (λ (v : WorkerState). IsAmong (record { place = place_number here; entries = k.old.entries }) v.core.traces.known) (sym end) (contains_among t.core.traces.known (record { place = place_number here; entries = k.old.entries }) k.filled.met.known);
                journal = k.filled.met.was.journal;
              };
              one_more = k.worn.entries_then;
              most = inl (let n = k.worn.items_then in omega (arith, n));
            })

  by_answer : (answer : UnregisterAnswer) → UnregisterGives shape s.core decl by answer t.core → UnchargesEach (keeping.shared_parents x) by (objects_drained answer) s t → HasDid x.script by asked (unfound (unregister_reply answer)) s t
  by_answer (unregister.NoCache entry) h u =
      let r : Reply = reply.NoCache entry in let z : Step = ends r [] u [] h.gains.words [] 1 in let after = h.after in
      ended r [] u [] h.gains.words [] 1 h.gains.adds (no_entries x.script z refl refl (λ family. tt) refl) tt (λ g. refl) (λ g. refl) (still_pool x.script z h.gains.adds.pool (record { turns = refl; made = refl }) h.after)
      (record {
        decl = decl;
        named = refl;
        known = omega (arith, after);
        none = ap (is_live_decl x.script.ids decl) (take_all entry t.core.turns.known (omega (arith, h.after))) ∙ (ap (λ (n : ℕ). is_live_decl n decl t.core.turns.known) (sym tables.shared.ids) ∙ h.missing);
      })
  by_answer unregister.Memory h u =
      let z : Step = ends reply.Memory [] u [] h.gains.words [] 1 in
      ended reply.Memory [] u [] h.gains.words [] 1 h.gains.adds (no_entries x.script z refl refl (λ family. tt) refl) tt (λ g. refl) (λ g. refl) (still_pool x.script z h.gains.adds.pool (record { turns = refl; made = refl }) tt) tt
  by_answer (unregister.Freed id entry from to objects) h u = freed_did id entry from to objects.items h u
  by_answer (unregister.Half id entry from to objects half) h u = half_did id entry from to objects.items half h u

  none_did : (a : Answered) → worker.UnregistersNone a s t → HasDid x.script by asked a s t
  none_did a h = subst (λ (b : Answered). HasDid x.script by asked b s t) (sym h.told) (by_spent h.spent h.used_up) where
    by_spent : (w : Spent) → IsWorkerSpent w s t → HasDid x.script by asked (unfound (reply.Worn w)) s t
    by_spent w k = subst (λ (y : Spent). HasDid x.script by asked (unfound (reply.Worn y)) s t) (sym (spent_is s.uses w k.numbers))
        (nothing_did x.script by asked (reply.Worn (spent.Charges (counted s.uses.charges) (counted s.uses.uncharges))) s t k.rest tt (λ family. tt) refl (λ g. refl) refl refl (λ g asks above. inl tt)
        (meets_none x.script (step_of by asked (without (reply.Worn (spent.Charges (counted s.uses.charges) (counted s.uses.uncharges)))) s t no_work) (λ g e. absurd (cc)) (λ g e. none-some g e))
        (charges_worn (step_of by asked (without (reply.Worn (spent.Charges (counted s.uses.charges) (counted s.uses.uncharges)))) s t no_work) (counted s.uses.charges) (counted s.uses.uncharges)
        (ap (λ (v : WorkerState). spent_by v.uses) k.rest ∙ (k.numbers ∙ ap Some (spent_is s.uses w k.numbers)))))

-- an unregister
pub unregister_did : (x : Shared) (tables : AreTables x) (by : Serial) (decl : ℕ) (a : Answered) (s t : WorkerState) → worker.UnregistersNone a s t ⊎ worker.Unregisters x by decl a s t → HasDid x.script by (command.Unregister decl) a s t
unregister_did x tables by decl a s t (inl h) = none_did x tables by decl s t a h
unregister_did x tables by decl a s t (inr h) = subst (λ (b : Answered). HasDid x.script by (command.Unregister decl) b s t) (sym h.told) (by_answer x tables by decl s t h.answer h.ended h.uncharged)
