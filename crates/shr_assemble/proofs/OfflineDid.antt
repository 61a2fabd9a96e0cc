-- SPDX-License-Identifier: GPL-2.0-only
-- What an offline did.
use Rattle.shr_assemble.proofs.Common.{◌≡◌, ◌⊎◌, inl, inr, ⊎_elim, ℕ, zero, suc, ◌<◌, ◌≤◌, Bool, true, false, not, ◌||◌, List, [], ◌∷◌, length, length-append, refl, sym, ap, subst, ◌∙◌, arith, Some, None, slice_index_or, Contains, All, slice_get, sum_by, AllByRecursion, sum_by-cons, All-nil, All-append, All-from_recursion, none-some, same_Some, TreeEntry, Begin, Done, Serial, Answered, Reply, Command, Family, begin_of, is_made, undone_child, IsTreeJournal, Begins, shape_of, Entry, born_below, freed_by, View, ◌*◌, ◌/◌, ◌%◌, range_with_len, Place, Spent, Hierarchy, is_later, IsTree, is_child, parent_of, place_number, IsAtOrAbove-le, Shape, groups_in, hierarchy_of, Closing, AreClosings, group_place, AreSpliced, IsWithin, content_of, within_of_valid, GroupState, is_there, IsListWorn, nothing, MayHaveBegun, added_below, made_freed_below, MayMakeEntry, IsClosedByOffline, begin_at, begun_before, done_at, done_found, begin_found, gave, IsNamed, TreeView, begin_grows, begun_made, is_made_grows, unfound, Shared, WorkerState, Work, no_work, then_work, Does, does_none, does_then, parents_of, cited_by, pool_told, pool_made, is_past_group, IsReply, Step, IsAmong, IsCausedBy, KnowsOnline, IsEntryOf, MeetsGroups, KnowsUnmade, Contains-push, child_again, WasState, offline_reply, done_of, made_of, place_by_number, first_places, AllGives, TreeMade, LoadedState, no_test}
use Rattle.std.specs.Option.{is_some}
use Rattle.shr_base.specs.declared.replies.Reply.TheVariants as reply
use Rattle.shr_base.specs.declared.scripts.Command.TheVariants as command
use Rattle.shr_base.specs.declared.replies.Spent.TheVariants as spent
use Rattle.shr_node.specs.declared.answers.SpliceAnswer.TheVariants as splice
use Rattle.shr_core.specs.Parts as core
use Rattle.shr_charge.specs.declared.answers.BeginAnswer.{BeginAnswer}
use Rattle.shr_charge.specs.declared.answers.BeginAnswer.TheVariants as began
use Rattle.shr_assemble.proofs.QuietTenant.{brings_of, without, no_entries, unfound_lookups}
use Rattle.shr_lawful.proofs.Listed.{begins_slice, slice_contains, contains_among, contains_slice}
use Rattle.shr_assemble.proofs.QuietSplices.{each_rec, IsMovedIn, IsShut, IsSpliceEntry, IsSplicedTo, spliced_one, spliced_all, spliced_then}
use Rattle.shr_assemble.proofs.Filling.{set_filled}
use Rattle.shr_charge.specs.declared.answers.GroupState.TheVariants as state
use Rattle.shr_charge.specs.declared.answers.DoneAnswer.TheVariants as ended
use Rattle.shr_offline.specs.declared.answers.OfflineAnswer.{OfflineAnswer}
use Rattle.shr_offline.specs.declared.answers.OfflineAnswer.TheVariants as answered
use Rattle.shr_offline.specs.Offlined as offlined
use Rattle.shr_worker.specs.Commands as worker
use Rattle.shr_assemble.proofs.QuietSteps.{step_of, HasDid, still_charges, still_pool, still_tree, IsToldOnce, some_met, meets_none, quiet_did, AreTables, tree_is, hierarchy_is, gaining, does_gain, known_meets}
use Rattle.shr_assemble.proofs.ScriptGroups.{core_hierarchy, sized_of}
use Rattle.shr_assemble.proofs.QuietCharges.{nothing_did}

-- the worker has not the room of the journal of the tree in hand
pub record IsHandless (t : TreeView) : Type 0 where
  pub out : t.in_hand ≡ false
  pub none : t.hand ≡ []

-- the room was taken and given back, with these entries more
abbrev pub giving : List TreeMade → Work
giving made = record no_work { tree = made; gives = 1 }

pub does_give : (s t : WorkerState) (made : List TreeMade) → IsHandless s.tree → t.tree ≡ gave s.tree made t.tree.known → Begins s.tree.known t.tree.known → t ≡ record s { tree = t.tree } → Does s t (giving made)
does_give s t made home gives grows rest = let n = does_none s in subst (λ (u : WorkerState). Does s u (giving made)) (sym rest) record {
  core = n.core;
  uses = n.uses;
  noted = n.noted;
  words = ap (λ (y : TreeView). y.loaded) gives ∙ n.words;
  tree = ap (λ (y : TreeView). y.made) gives;
  gives = ap (λ (y : TreeView). y.gives) gives;
  known = grows;
  heard = ap (λ (y : TreeView). y.heard) gives;
  hand = (ap (λ (y : TreeView). y.in_hand) gives ∙ sym home.out, ap (λ (y : TreeView). y.hand) gives ∙ sym home.none);
  rise = n.rise;
  few = n.few;
  moves = n.moves;
  walks = n.walks;
  carries = n.carries;
}

-- the hand is empty once the room was given back
pub handless_after : (s t : TreeView) (made : List TreeMade) → t ≡ gave s made t.known → IsHandless t
handless_after s t made gives = record { out = ap (λ (y : TreeView). y.in_hand) gives; none = ap (λ (y : TreeView). y.hand) gives }

-- a worker whose journal before had no Begin of the group didn't know that it went offline
pub knew_online : (h : Hierarchy) (group : ℕ) (t : TreeView) (before : List TreeEntry) → begin_of before group ≡ None → Begins t.known before → All (IsNamed h before) t.loaded → KnowsOnline t group
knew_online h group t before none grows named = record {
  loaded = λ k d lt here entry is. none-some entry (sym none ∙ told (slice_index_or t.loaded k d) entry (named k d lt) here is);
  known = λ entry e. none-some entry (sym none ∙ subst (λ (l : List TreeEntry). begin_of l group ≡ Some entry) (sym grows.1) (begin_grows t.known group grows.0 entry e));
} where
  told : (l : LoadedState) (entry : ℕ) → IsNamed h before l → l.group ≡ group → l.state ≡ state.Offline entry → begin_of before group ≡ Some entry
  told l entry named here is = let was : WasState h before group (state.Offline entry) = subst (WasState h before group) is (subst (λ (g : ℕ). WasState h before g l.state) here named) in was.1

-- a group whose Begin is known is made
pub begun_there : (h : Hierarchy) (es : List TreeEntry) (group n : ℕ) → IsTreeJournal h es → slice_get es n ≡ Some (Begin group) → is_made h es group ≡ true
begun_there h es group n legal at = let f = begin_found es group n at in begun_made h es group f.0 legal f.1

-- a group that isn't made by a journal isn't by what was known before, and no word said that it is
pub unmade_before : (h : Hierarchy) (group : ℕ) (t : TreeView) (es : List TreeEntry) → is_made h es group ≡ false → Begins t.known es → All (IsNamed h es) t.loaded → KnowsUnmade h t group
unmade_before h group t es unmade grows named = record {
  loaded = λ k d lt here. absent (slice_index_or t.loaded k d).state (subst (λ (g : ℕ). WasState h es g (slice_index_or t.loaded k d).state) here (named k d lt));
  known = no_test (is_made h t.known group) (λ made. apart (subst (λ (l : List TreeEntry). is_made h l group ≡ true) (sym grows.1) (is_made_grows h t.known grows.0 group made)));
} where
  apart : is_made h es group ≡ true → ⊥
  apart made = let no : false ≡ true = sym unmade ∙ made in absurd (cc)

  absent : (found : GroupState) → WasState h es group found → is_there found ≡ false
  absent state.Online was = absurd (apart was)
  absent (state.Offline entry) was = absurd (apart was.0)
  absent state.NotMade was = refl

-- and it is a later one
pub unmade_late : (h : Hierarchy) (es : List TreeEntry) (group : ℕ) → is_made h es group ≡ false → is_later h.later group ≡ true
unmade_late h es group unmade = (elim (is_later h.later group) as (λ (b : Bool). (not b || is_some (made_of es group)) ≡ false → b ≡ true) [ true ↦ λ e. refl | false ↦ λ e. sym e ]) unmade

module _ (x : Shared) (tables : AreTables x) (by : Serial) (group : ℕ) (s t : WorkerState) (home : IsHandless s.tree) where
  abbrev asked : Command
  asked = command.Offline group

  -- the room was given back as it was
  looked_did : (r : Reply) → t.tree ≡ gave s.tree [] t.tree.known → Begins s.tree.known t.tree.known → t ≡ record s { tree = t.tree } → ((family : Family) → IsReply (parents_of x.script) family by asked None r) → cited_by r ≡ None → pool_told r ≡ [] → pool_made r ≡ []
      → MeetsGroups x.script (step_of by asked (without r) s t (giving [])) → IsCausedBy x.script (step_of by asked (without r) s t (giving [])) r → HasDid x.script by asked (without r) s t
  looked_did r gives grows rest row uncited untold unmade meets cause =
      let z : Step = step_of by asked (without r) s t (giving []) in
      let does = does_give s t [] home gives grows rest in
      quiet_did (giving []) tt (record { walks = refl; seen = refl; maps = refl; cleared = refl; takes = refl; gives = refl; carries = refl })
      (brings_of does) (no_entries x.script z refl refl row uncited) (unfound_lookups x.script z refl refl)
      (still_charges x.script z (record { ops = refl; charges = refl; uncharges = refl; freed = λ g. refl; added = λ g. refl; charged = λ g. refl }))
      (still_pool x.script z does.core.pool (record { turns = refl; made = unmade }) (subst (IsToldOnce z) (sym untold) tt))
      (still_tree x.script z refl (λ g asks above. absurd (none-some g asks)) meets) cause

  -- an offline that met its group
  looked_meets : (r : Reply) → is_made (hierarchy_of (shape_of x.core)) t.tree.known group ≡ true → ((g : ℕ) → r ≡ reply.NotMade g → ⊥) → MeetsGroups x.script (step_of by asked (without r) s t (giving []))
  looked_meets r made apart = known_meets x tables.shared (step_of by asked (without r) s t (giving [])) group made (λ g e. some_met (is_past_group r) group g e) apart

  -- the root is never taken offline
  pub root_did : offlined.BeginsOffline x group began.Root s t → HasDid x.script by asked (without reply.Root) s t
  root_did h = nothing_did x.script by asked reply.Root s t (h.rest ∙ ap (λ (y : TreeView). record s { tree = y }) h.leaves) tt (λ family. tt) refl (λ g. refl) refl refl (λ g asks above. absurd (none-some g asks))
      (known_meets x tables.shared (step_of by asked (without reply.Root) s t no_work) group (ap {B = Bool} (λ (b : Bool). not b || is_some (made_of t.tree.known group)) (ap (is_later (hierarchy_of (shape_of x.core)).later) h.tells ∙ (core_hierarchy x tables.shared).root)) (λ g e. same_Some group g e) (λ g e. absurd (cc))) (ap Some h.tells)

  pub children_did : (child entry : ℕ) → offlined.BeginsOffline x group (began.HasChildren child entry) s t → HasDid x.script by asked (without (reply.HasChildren child entry)) s t
  children_did child entry h = looked_did (reply.HasChildren child entry) h.leaves h.knows.grows h.rest (λ family. tt) refl refl refl (looked_meets (reply.HasChildren child entry) h.tells.there (λ g e. absurd (cc))) (record {
    group = group;
    below = h.tells.below_root;
    named = refl;
    all = h.tells.all;
    lowest = subst (λ (q : Hierarchy). undone_child q t.tree.known group ≡ Some child) (hierarchy_is x tables.shared) h.tells.lowest;
    shown = subst (λ (q : Hierarchy). All (IsNamed q t.tree.known) t.tree.loaded) (hierarchy_is x tables.shared) h.knows.seen.loaded;
  })

  pub done_before_did : (entry : ℕ) → offlined.BeginsOffline x group (began.AlreadyDone entry) s t → HasDid x.script by asked (without (reply.AlreadyDone entry)) s t
  done_before_did entry h = looked_did (reply.AlreadyDone entry) h.leaves h.knows.grows h.rest (λ family. tt) refl refl refl
      (looked_meets (reply.AlreadyDone entry) (let b = begun_before (hierarchy_of (shape_of x.core)) (core_hierarchy x tables.shared) t.tree.known h.knows.legal group entry (done_at t.tree.known group entry h.tells.done) in begun_there (hierarchy_of (shape_of x.core)) t.tree.known group b.0 h.knows.legal b.1) (λ g e. absurd (cc))) (record { group = group; named = refl; done = h.tells.done })

  pub lacked_did : offlined.BeginsOffline x group began.Memory s t → HasDid x.script by asked (without reply.Memory) s t
  lacked_did h = looked_did reply.Memory h.leaves h.knows.grows h.rest (λ family. tt) refl refl refl (meets_none x.script (step_of by asked (without reply.Memory) s t (giving [])) (λ g e. absurd (cc)) (λ g e. none-some g e)) tt

  pub none_did : t ≡ s → HasDid x.script by asked (without reply.Memory) s t
  none_did same = nothing_did x.script by asked reply.Memory s t same tt (λ family. tt) refl (λ g. refl) refl refl (λ g asks above. absurd (none-some g asks)) (meets_none x.script (step_of by asked (without reply.Memory) s t no_work) (λ g e. absurd (cc)) (λ g e. none-some g e)) tt

  -- the group isn't made
  pub not_made_did : (g : ℕ) → offlined.BeginsOffline x group (began.NotMade g) s t → HasDid x.script by asked (without (reply.NotMade g)) s t
  not_made_did g h = looked_did (reply.NotMade g) h.leaves h.knows.grows h.rest (λ family. tt) refl refl refl
      (record {
        unmade = λ n e. let named : g ≡ n = cc in subst (λ (q : Hierarchy). KnowsUnmade q s.tree n) (hierarchy_is x tables.shared) (subst (KnowsUnmade (hierarchy_of (shape_of x.core)) s.tree) (sym h.tells.same ∙ named)
            (unmade_before (hierarchy_of (shape_of x.core)) group s.tree t.tree.known h.tells.not_made h.knows.grows (subst (λ (l : List LoadedState). All (IsNamed (hierarchy_of (shape_of x.core)) t.tree.known) l) (ap (λ (y : TreeView). y.loaded) h.leaves) h.knows.seen.loaded)));
        met = λ n e. absurd (none-some n e);
      })
      (record { met = ap Some (sym h.tells.same); late = subst (λ (q : Hierarchy). is_later q.later g ≡ true) (hierarchy_is x tables.shared) (subst (λ n. is_later (hierarchy_of (shape_of x.core)).later n ≡ true) (sym h.tells.same) (unmade_late (hierarchy_of (shape_of x.core)) t.tree.known group h.tells.not_made)) })

-- ---- a call that began, now or before, and then spliced

-- a group that isn't done in a journal isn't done in what was known of it before
not_done : (group : ℕ) (known es : List TreeEntry) → done_of es group ≡ None → Begins known es → (n : ℕ) → slice_get known n ≡ Some (Done group) → ⊥
not_done group known es none begins n at = let f = done_found es group n (begins_slice known es n (Done group) begins at) in none-some f.0 (sym none ∙ f.1)

-- the group began, with these entries of the journal of the tree
pub record HasBegunTo (x : Shared) (group : ℕ) (s u : WorkerState) : Type 0 where
  pub below : 0 < group
  pub made : List TreeMade
  pub does : Does s u (giving made)
  pub hand : IsHandless u.tree
  pub known : Contains u.tree.known (Begin group)
  pub met : is_made (hierarchy_of (shape_of x.core)) u.tree.known group ≡ true
  pub same : u ≡ record s { tree = u.tree }
  -- the worker didn't know before that the group was done
  pub undone : (n : ℕ) → slice_get s.tree.known n ≡ Some (Done group) → ⊥
  pub each : (z : Step) → z.before ≡ s → z.command ≡ Some (command.Offline group) → MayHaveBegun z.answered.reply → All (λ (m : TreeMade). (length z.before.tree.known ≤ m.number) × IsEntryOf x.script z m.number m.entry) made

pub begun_to : (x : Shared) (group : ℕ) (s u : WorkerState) → IsHandless s.tree → (answer : BeginAnswer) → offlined.MayGoOn answer → offlined.BeginsOffline x group answer s u → HasBegunTo x group s u
begun_to x group s u home (began.Begun entry) on h =
    let made : List TreeMade = record { number = entry; entry = Begin group } ∷ [] in
    let b = h.tells in
    let number = b.gains.number_is in
    let longer = b.seen.known in
    let known : Contains u.tree.known (Begin group) = subst (λ (l : List TreeEntry). Contains l (Begin group)) (sym b.gains.whole) (Contains-push b.before (Begin group)) in
    let long : length s.tree.known ≤ entry = omega (arith, number, ap (λ (l : List TreeEntry). length l) longer.1, length-append s.tree.known longer.0) in
    record {
      below = b.may.below;
      made = made;
      does = does_give s u made home h.leaves h.knows.grows h.rest;
      hand = handless_after s.tree u.tree made h.leaves;
      known = known;
      met = let at = contains_slice u.tree.known (Begin group) known in begun_there (hierarchy_of (shape_of x.core)) u.tree.known group at.0 h.knows.legal at.1;
      same = h.rest;
      undone = not_done group s.tree.known b.before b.undone longer;
      each = λ z start asked may. All-from_recursion (λ (m : TreeMade). (length z.before.tree.known ≤ m.number) × IsEntryOf x.script z m.number m.entry) made (
        (
          omega (arith, long, ap (λ (v : WorkerState). length v.tree.known) start),
          record {
            command = asked;
            answer = may;
            first = subst (λ (v : WorkerState). KnowsOnline v.tree group) (sym start) (knew_online (hierarchy_of (shape_of x.core)) group s.tree b.before b.may.once b.seen.known b.seen.loaded);
          },
        ),
        tt,
      );
    }
begun_to x group s u home (began.Resumed entry) on h = record {
  below = h.tells.below_root;
  made = [];
  does = does_give s u [] home h.leaves h.knows.grows h.rest;
  hand = handless_after s.tree u.tree [] h.leaves;
  known = slice_contains u.tree.known entry (Begin group) (begin_at u.tree.known group entry h.tells.begun);
  met = begun_made (hierarchy_of (shape_of x.core)) u.tree.known group entry h.knows.legal h.tells.begun;
  same = h.rest;
  undone = not_done group s.tree.known u.tree.known h.tells.undone h.knows.grows;
  each = λ z start asked may. All-nil (λ (m : TreeMade). (length z.before.tree.known ≤ m.number) × IsEntryOf x.script z m.number m.entry);
}
begun_to x group s u home answer on h = absurd on

-- entries of splices free and add nothing
pub spliced_freed : (parents ps : List ℕ) (group g : ℕ) (v : View) (all ms : List core.Made) → AllByRecursion (IsSpliceEntry ps group v all) ms → (sum_by (made_freed_below parents g) ms ≡ 0) × (sum_by (λ (m : core.Made). added_below parents g m.entry) ms ≡ 0)
spliced_freed parents ps group g v all [] h = (refl, refl)
spliced_freed parents ps group g v all (m ∷ ms) h = let r = spliced_freed parents ps group g v all ms h.1 in let one = by_kind m h.0.kind in
    (omega (arith, r.0, one.0, sum_by-cons (made_freed_below parents g) m ms), omega (arith, r.1, one.1, sum_by-cons (λ (y : core.Made). added_below parents g y.entry) m ms)) where
      by_kind : (y : core.Made) {child : ℕ} → IsMovedIn child all y ⊎ IsShut child y → (made_freed_below parents g y ≡ 0) × (added_below parents g y.entry ≡ 0)
      by_kind y (inl a) = (ap (λ (e : Entry). born_below parents g (freed_by y.items e)) a.entry, ap (added_below parents g) a.entry)
      by_kind y (inr b) = (ap (λ (e : Entry). born_below parents g (freed_by y.items e)) b.entry, ap (added_below parents g) b.entry)

-- each entry of a splice may be made by an offline of its group that was answered so
pub spliced_may : (x : Shared) (z : Step) (group : ℕ) (all ms : List core.Made) → z.work.core.made ≡ all → z.command ≡ Some (command.Offline group) → MayHaveBegun z.answered.reply → Contains z.after.tree.known (Begin group)
    → AllByRecursion (IsSpliceEntry (parents_of x.script) group z.before.core all) ms → AllByRecursion (λ (m : core.Made). MayMakeEntry x.script z m m.entry) ms
spliced_may x z group all [] made named may known h = tt
spliced_may x z group all (m ∷ ms) made named may known h = (by_kind h.0.kind, spliced_may x z group all ms made named may known h.1) where
  closing : IsClosedByOffline x.script z m h.0.child
  closing = record { group = group; command = named; answer = may; below = h.0.below; begun = known; later = h.0.later }

  by_kind : IsMovedIn h.0.child all m ⊎ IsShut h.0.child m → MayMakeEntry x.script z m m.entry
  by_kind (inl a) = subst (λ (e : Entry). MayMakeEntry x.script z m e) (sym a.entry) (record { closing = closing; closed = a.closed; among = subst (λ (l : List core.Made). IsAmong a.closed l) (sym made) a.among; place = a.place; entry = a.shut })
  by_kind (inr b) = subst (λ (e : Entry). MayMakeEntry x.script z m e) (sym b.entry) (subst (λ (c : ℕ). IsClosedByOffline x.script z m c) (sym b.group) closing)

module _ (x : Shared) (tables : AreTables x) (by : Serial) (group : ℕ) (s u t : WorkerState) (b : HasBegunTo x group s u) (sp : IsSplicedTo (parents_of x.script) group u.core t.core) (rest : t ≡ record u { core = t.core }) where
  abbrev spliced_work : Work
  spliced_work = then_work (giving b.made) (gaining (record nothing { made = sp.made; sets = sp.sets }))

  abbrev spliced_step : Reply → Step
  spliced_step r = step_of by (command.Offline group) (without r) s t spliced_work

  -- it spliced some lists, and told of none
  pub spliced_did : (r : Reply) → MayHaveBegun r → ((family : Family) → IsReply (parents_of x.script) family by (command.Offline group) None r) → cited_by r ≡ None → pool_told r ≡ [] → pool_made r ≡ [] → IsCausedBy x.script (spliced_step r) r → HasDid x.script by (command.Offline group) (without r) s t
  spliced_did r may row uncited untold unmade cause =
      let z : Step = spliced_step r in
      let does = does_then s u t (giving b.made) (gaining (record nothing { made = sp.made; sets = sp.sets })) b.does (does_gain u t (record nothing { made = sp.made; sets = sp.sets }) sp.adds rest) in
      let known : Contains t.tree.known (Begin group) = subst (λ (v : WorkerState). Contains v.tree.known (Begin group)) (sym rest) b.known in
      let each = subst (λ (v : View). AllByRecursion (IsSpliceEntry (parents_of x.script) group v sp.made) sp.made) (ap (λ (v : WorkerState). v.core) b.same) sp.each in
      quiet_did spliced_work tt (record { walks = refl; seen = refl; maps = refl; cleared = refl; takes = refl; gives = refl; carries = refl })
      (brings_of does)
      (record {
        each = each_rec (λ (m : core.Made). MayMakeEntry x.script z m m.entry) sp.made (spliced_may x z group sp.made sp.made refl refl may known each);
        reply = λ family stands. row family;
        sets = set_filled sp.made [] sp.sets sp.filled;
        cited = λ c e. absurd (none-some c (sym uncited ∙ e));
      }) (unfound_lookups x.script z refl refl)
      (still_charges x.script z (record {
        ops = refl;
        charges = refl;
        uncharges = refl;
        freed = λ g. (spliced_freed (parents_of x.script) (parents_of x.script) group g s.core sp.made sp.made each).0;
        added = λ g. (spliced_freed (parents_of x.script) (parents_of x.script) group g s.core sp.made sp.made each).1;
        charged = λ g. refl;
      }))
      (still_pool x.script z does.core.pool (record { turns = refl; made = unmade }) (subst (IsToldOnce z) (sym untold) tt))
      (record {
        each = All-append (λ (m : TreeMade). (length s.tree.known ≤ m.number) × IsEntryOf x.script z m.number m.entry) b.made [] (b.each z refl refl may) (All-nil (λ (m : TreeMade). (length s.tree.known ≤ m.number) × IsEntryOf x.script z m.number m.entry));
        online = λ g asks above. absurd (none-some g asks);
        meets = known_meets x tables.shared z group (subst (λ (v : WorkerState). is_made (hierarchy_of (shape_of x.core)) v.tree.known group ≡ true) (sym rest) b.met) (λ g e. some_met (is_past_group r) group g e) (λ g e. subst MayHaveBegun e may);
      }) cause

-- ---- a call whose splices stopped

module _ (x : Shared) (tables : AreTables x) (by : Serial) (group : ℕ) (s u t : WorkerState) (b : HasBegunTo x group s u) (rest : t ≡ record u { core = t.core }) where
  abbrev shape : Shape
  shape = shape_of x.core

  abbrev parents : List ℕ
  parents = (shape_of x.core).parents.items

  within : IsWithin (content_of x.script)
  within = within_of_valid (content_of x.script) tables.shared.script

  is_tree : IsTree parents
  is_tree = subst IsTree (sym (tree_is x tables.shared)) within.tree

  same_groups : groups_in shape ≡ length (parents_of x.script)
  same_groups = ap (λ (l : List ℕ). length l) (tree_is x tables.shared)

  few_groups : groups_in shape ≤ 256
  few_groups = let same = same_groups in let most = (sized_of x tables.shared).groups in omega (arith, same, most)

  -- all that was spliced before a place, and in it
  spliced_up : (n moved : ℕ) (between : View) (cs : List Closing) → AreSpliced shape (first_places shape group n) moved u.core between → AreClosings shape between t.core (place_by_number shape group n).id (place_by_number shape group n).node group cs → IsSplicedTo (parents_of x.script) group u.core t.core
  spliced_up n moved between cs before last = subst (λ (l : List ℕ). IsSplicedTo l group u.core t.core) (tree_is x tables.shared)
      (spliced_then parents group u.core between t.core (spliced_all shape is_tree few_groups group (range_with_len 0 n) moved u.core between before) (spliced_one shape is_tree few_groups group between t.core (place_by_number shape group n).id (place_by_number shape group n).node cs last))

  pub lacking_did : AllGives shape group splice.Memory u.core t.core → HasDid x.script by (command.Offline group) (without reply.Memory) s t
  lacking_did h = spliced_did x tables by group s u t b (spliced_up h.reached h.moved h.between h.stopped.stops.cs h.spliced h.stopped.stops.closings) rest reply.Memory tt (λ family. tt) refl refl refl tt

  -- the place of the number of a place
  in_row : (n ids nodes : ℕ) → nodes ≤ 4 → n < ids * nodes → (n / nodes < ids) × (n % nodes < nodes)
  in_row n ids zero most lt = absurd (omega (arith, lt))
  in_row n ids (suc (suc (suc (suc (suc k))))) most lt = absurd (omega (arith, most))
  in_row n ids nodes most lt = (omega (arith, lt), omega arith)

  few_nodes : shape.nodes ≤ 4
  few_nodes = let same = tables.shared.nodes in let most = within.nodes in omega (arith, same, most)

  pub worn_did : (worn : Spent) → AllGives shape group (splice.Worn worn) u.core t.core → HasDid x.script by (command.Offline group) (without (reply.Worn worn)) s t
  worn_did (spent.Lookups id seen) h = absurd h.stopped.worn
  worn_did (spent.Charges charges uncharges) h = absurd h.stopped.worn
  worn_did (spent.List place entries items) h =
      let r : Reply = reply.Worn (spent.List place entries items) in
      let sp = spliced_up h.reached h.moved h.between h.stopped.stops.cs h.spliced h.stopped.stops.closings in
      spliced_did x tables by group s u t b sp rest r tt (λ family. tt) refl refl refl (cause (spliced_step x tables by group s u t b sp rest r) refl) where
        cause : (z : Step) → z.after ≡ t → IsListWorn x.script z place entries items
        cause z end =
            let k = h.stopped.worn in
            let child = h.stopped.child in
            let p : Place = place_by_number shape group h.reached in
            let up : Place = group_place p.id p.node (parent_of parents child) in
            let row = in_row h.reached shape.ids shape.nodes few_nodes h.within in
            let ids = tables.shared.ids in
            let nodes = tables.shared.nodes in
            let there = h.stopped.stops.there in
            let above : group ≤ child = IsAtOrAbove-le parents is_tree group child there h.stopped.stops.below in
            let low = b.below in
            let lower : parent_of parents child < child = is_tree.lower child (omega (arith, above, low)) there in
            let groups = same_groups in
            let a = row.0 in
            let c = row.1 in
            subst (λ (q : Place). IsListWorn x.script z q entries items) (sym k.here) (record {
              there = record { id = omega (arith, a, ids); node = omega (arith, c, nodes); group = omega (arith, lower, there, groups) };
              over = ⊎_elim (λ (lt : k.old.most_entries < entries). let m = k.pair.above_met.was.most_entries ∙ tables.most_entries in inl (omega (arith, lt, m))) (λ (lt : k.old.most_items < items). let m = k.pair.above_met.was.most_items ∙ tables.most_items in inr (omega (arith, lt, m))) k.worn.over;
              known = k.old.entries;
              held = k.old.items;
              list = record {
                knows = subst (λ (v : WorkerState). IsAmong (record { place = place_number up; entries = k.old.entries }) v.core.traces.known) (sym end) (contains_among t.core.traces.known (record { place = place_number up; entries = k.old.entries }) k.pair.above_met.known);
                journal = k.pair.above_met.was.journal;
              };
              one_more = k.worn.entries_then;
              most = inr (inr (record {
                child = child;
                below = subst (λ (l : List ℕ). is_child l (parent_of parents child) child ≡ true) (tree_is x tables.shared) (child_again parents (parent_of parents child) child (record { above = omega (arith, above, low); there = there; parent = refl }));
                apart = k.pair.apart;
                child_entries = k.given.entries;
                child_items = k.given.items;
                list = record {
                  knows = subst (λ (v : WorkerState). IsAmong (record { place = place_number (group_place p.id p.node child); entries = k.given.entries }) v.core.traces.known) (sym end) (contains_among t.core.traces.known (record { place = place_number (group_place p.id p.node child); entries = k.given.entries }) k.pair.met.known);
                  journal = k.pair.met.was.journal;
                };
                most = (let n = k.worn.items_then in omega (arith, n, length-append k.given.items k.old.items));
              }));
            })

-- ---- an offline, but for what came of a call that handed all over

module _ (x : Shared) (tables : AreTables x) (by : Serial) (group : ℕ) (s t : WorkerState) (home : IsHandless s.tree)
    (done : (entry moved deferred : ℕ) (u : WorkerState) → HasBegunTo x group s u → offlined.HandsOver x by group moved deferred (ended.Done entry) u t → HasDid x.script by (command.Offline group) (without (reply.OfflineDone entry moved deferred)) s t)
    (done_before : (entry : ℕ) (u : WorkerState) → HasBegunTo x group s u → offlined.WasDoneBefore x by group entry u t → HasDid x.script by (command.Offline group) (without (reply.AlreadyDone entry)) s t) where
  begins : {next : WorkerState → Type 0} (h : offlined.BegunThen x group next s) → HasBegunTo x group s h.begun
  begins h = begun_to x group s h.begun home h.answer h.goes_on h.begins

  by_answer : (answer : OfflineAnswer) → offlined.OfflineGives x by group answer s t → HasDid x.script by (command.Offline group) (unfound (offline_reply answer)) s t
  by_answer (answered.Done entry moved deferred) h = done entry moved deferred h.begun (begins h) h.next
  by_answer (answered.AlreadyDone entry) (inl h) = done_before_did x tables by group s t home entry h
  by_answer (answered.AlreadyDone entry) (inr h) = done_before entry h.begun (begins h) h.next
  by_answer answered.Root h = root_did x tables by group s t home h
  by_answer (answered.NotMade g) h = not_made_did x tables by group s t home g h
  by_answer (answered.HasChildren child entry) h = children_did x tables by group s t home child entry h
  by_answer (answered.Worn worn) h = worn_did x tables by group s h.begun t (begins h) h.next.rest worn h.next.spliced
  by_answer answered.Memory (inl same) = none_did x tables by group s t home same
  by_answer answered.Memory (inr (inl h)) = lacked_did x tables by group s t home h
  by_answer answered.Memory (inr (inr h)) = lacking_did x tables by group s h.begun t (begins h) h.next.rest h.next.spliced

  pub offline_did : (a : Answered) → worker.Offlines x by group a s t → HasDid x.script by (command.Offline group) a s t
  offline_did a h = subst (λ (b : Answered). HasDid x.script by (command.Offline group) b s t) (sym h.told) (by_answer h.answer h.offlined)
