-- SPDX-License-Identifier: GPL-2.0-only
-- What the commands on objects share: those that were refused before their list call, and those that called a list.
use Rattle.shr_assemble.proofs.Common.{Option, ◌≡◌, ℕ, List, ◌++◌, ap, ◌∙◌, arith, append_assoc, UseStep, begins_more, Uses, both_uses, adds_then, both, WorkerState, Work, then_work, Does, BringsWork, moves_assoc, ◌<◌, ◌≤◌, ◌⊎◌, inl, inr, ⊎_elim, [], ◌∷◌, length, refl, sym, subst, true, Some, None, option_and_then, slice_get, map, flat_map, same_Some, none-some, get_elem?, length-map, append_cancel_left, sum_by-cons, At, Place, Serial, Entry, Answered, Found, Reply, Spent, Command, Release, Grab, Script, group_named, decl_named, asks_online, Family, items_at, Object, IsAtOrAbove, is_later, Hierarchy, step, place_number, is_live_decl, IsAtOrAbove-le, Each, times, Begins, Each-none, View, Gained, nothing, Adds, place_at, Made, Known, Loaded, hierarchy_of, shape_of, place_back, Listed, Acts, TenantIsWorn, Gains, bits_for, IsFirstOpen, entry_made, IsWithin, content_of, within_of_valid, GroupState, is_there, Shared, does_then, LoadsWord, OnCache, parents_of, cited_by, id_found, at, IsThere, charged, pool_told, pool_made, made_shown, IsReply, Cites, group_met, Step, IsAmong, IsReplyTo, StandsIn, IsTenantEntry, MayMakeEntry, IsSetLast, IsListFilled, IsMadeAsCited, DidEntries, IsFoundBy, number_made, numbers_tried, number_found, IsCausedBy, IsUsedUpBy, made_freed_below, added_below, KnowsOnline, MeetsGroups, KnowsUnmade, IsWornBy, IsListWorn, IsOneMore, AreBoth, each_before, each_one, IsGroup, MissesCache, RefusedAs, DidLookups, take_all, HoldsCache, Calls}
use Rattle.shr_assemble.proofs.ScriptGroups.{sized_of}
use Rattle.shr_base.specs.declared.replies.Reply.TheVariants as reply
use Rattle.shr_base.specs.declared.replies.Spent.TheVariants as spent
use Rattle.shr_charge.specs.declared.answers.GroupState.TheVariants as state
use Rattle.shr_laws.specs.Parts as report
use Rattle.shr_charge.specs.Views as charge
use Rattle.shr_assemble.proofs.Filling.{IsSet, filled_by, set_filled, set_none}
use Rattle.shr_assemble.proofs.FirstLists.{first_for}
use Rattle.shr_lawful.proofs.Listed.{contains_among}
use Rattle.shr_assemble.proofs.QuietSteps.{step_of, HasDid, IsCalm, still_charges, still_pool, still_tree, IsToldOnce, quiet_did, AreTables, tree_is, loading, gaining, does_load, does_gain, knows_online, online_apart, on_list, on_list_does, on_list_online, found_entry, found_by, known_is, made_is, known_before, hierarchy_is, knows_unmade, offered_made}
use Rattle.shr_node.specs.declared.answers.NodeAnswer.{NodeAnswer}
use Rattle.shr_cache.specs.Replies.{AsksList, ListReplies, answer_reply}
pub use Rattle.shr_walk.proofs.Doing.{called_then}

-- what a call does it brings
pub brings_of : {s t : WorkerState} {w : Work} → Does s t w → BringsWork s t w
brings_of d = assumption

abbrev pub called : List UseStep → ℕ → ℕ → Uses
called ops charges uncharges = record { ops = ops; charges = charges; uncharges = uncharges; seats = 0 }

-- what one call brings and then another is the work of both
pub brings_then : (s t u : WorkerState) (w x : Work) → BringsWork s t w → BringsWork t u x → BringsWork s u (then_work w x)
brings_then s t u w x a b = record {
  core = adds_then s.core t.core u.core w.core x.core a.core b.core;
  uses = b.uses ∙ (ap (λ y. both_uses y (called x.ops x.charges x.uncharges)) a.uses ∙ called_then s.uses w.ops x.ops w.charges x.charges w.uncharges x.uncharges);
  noted = b.noted ∙ (ap (λ l. l ++ x.ops) a.noted ∙ append_assoc s.noted w.ops x.ops);
  words = b.words ∙ (ap (λ l. l ++ x.words) a.words ∙ append_assoc s.tree.loaded w.words x.words);
  tree = b.tree ∙ (ap (λ l. l ++ x.tree) a.tree ∙ append_assoc s.tree.made w.tree x.tree);
  gives = omega (arith, a.gives, b.gives);
  known = begins_more s.tree.known t.tree.known u.tree.known a.known b.known;
  heard = b.heard ∙ a.heard;
  hand = (b.hand.0 ∙ a.hand.0, b.hand.1 ∙ a.hand.1);
  rise = λ r. b.rise (a.rise r);
  moves = b.moves ∙ (ap (λ m. both m x.moves) a.moves ∙ moves_assoc s.moves w.moves x.moves);
  walks = b.walks ∙ (ap (λ l. l ++ x.walks) a.walks ∙ append_assoc s.walks w.walks x.walks);
  carries = b.carries ∙ (ap (λ l. l ++ x.carries) a.carries ∙ append_assoc s.carries w.carries x.carries);
}

-- an answer with no cache
abbrev pub without : Reply → Answered
without r = record { reply = r; found = None }

-- ---- entries

-- no entry was made, and none is cited
pub no_entries : (s : Script) (z : Step) → z.work.core.made ≡ [] → z.work.core.sets ≡ [] → ((family : Family) → IsReplyTo (parents_of s) family z.by z.command (id_found z.answered) z.answered.reply) → cited_by z.answered.reply ≡ None → DidEntries s z
no_entries s z none unset row uncited = record {
  each = subst (λ (l : List Made). Each (λ (m : Made). MayMakeEntry s z m m.entry) l) (sym none) (Each-none (λ (m : Made). MayMakeEntry s z m m.entry));
  reply = λ family stands. row family;
  sets = set_none z.work.core.made z.work.walks z.work.core.sets unset;
  cited = λ c e. absurd (none-some c (sym uncited ∙ e));
}

-- one entry was made, which the answer cites
pub one_entry : (s : Script) (z : Step) (m : Made) (c : At) → z.work.core.made ≡ m ∷ [] → z.work.core.sets ≡ bits_for m.place m.items (step [] m.items m.entry) → MayMakeEntry s z m m.entry
    → ((family : Family) → StandsIn (parents_of s) family m → IsReplyTo (parents_of s) family z.by z.command (id_found z.answered) z.answered.reply)
    → cited_by z.answered.reply ≡ Some c → IsMadeAsCited s z c → DidEntries s z
one_entry s z m c made sets may row cites cited = record {
  each = subst (λ (l : List Made). Each (λ (y : Made). MayMakeEntry s z y y.entry) l) (sym made) (each_one (λ (y : Made). MayMakeEntry s z y y.entry) m may);
  reply = λ family stands. row family (stands 0 m (ap (λ (l : List Made). get_elem? l 0) made));
  sets = subst (λ (l : List Made). Each (IsSet l z.work.walks) z.work.core.sets) (sym made) (set_filled (m ∷ []) z.work.walks z.work.core.sets (subst (Each (IsListFilled (m ∷ []))) (sym sets) (filled_by m)));
  cited = λ d e. subst (IsMadeAsCited s z) (same_Some c d (sym cites ∙ e)) cited;
}

-- the answer tells of an entry of the command
pub is_told : (z : Step) (m : Made) (c : At) → place_at m.place ≡ c.place → m.number ≡ c.entry → cited_by z.answered.reply ≡ Some c → IsTenantEntry z m z.by
is_told z m c place number cites = record { own = refl; cited = cites ∙ sym (λ i. Some (at (place i) (number i))) }

-- ---- lookups

pub found_lookups : (s : Script) (z : Step) (decl : ℕ) (f : Found) → map number_made z.work.core.attempts ≡ flat_map numbers_tried z.work.walks ++ number_found z.answered.found
    → option_and_then decl_named z.command ≡ Some decl → z.answered.found ≡ Some f → IsFoundBy z decl f → DidLookups s z
found_lookups s z decl f numbers named found is = record {
  numbers = numbers;
  found = λ d g names has. subst (λ (n : ℕ). IsFoundBy z n g) (same_Some decl d (sym named ∙ names)) (subst (IsFoundBy z decl) (same_Some f g (sym found ∙ has)) is);
}

pub unfound_lookups : (s : Script) (z : Step) → map number_made z.work.core.attempts ≡ flat_map numbers_tried z.work.walks ++ number_found z.answered.found → z.answered.found ≡ None → DidLookups s z
unfound_lookups s z numbers none = record { numbers = numbers; found = λ d g names has. absurd (none-some g (sym none ∙ has)) }

-- ---- places

module _ (x : Shared) (tables : AreTables x) where
  within : IsWithin (content_of x.script)
  within = within_of_valid (content_of x.script) tables.shared.script

  -- a place that is first open is one of the script's, and has its number
  pub there_is : (w : View) (id node birth : ℕ) (place : Place) → id < x.script.ids → node < x.script.nodes → birth < length (parents_of x.script) → IsFirstOpen (shape_of x.core) w id node birth place → IsThere x.script place
  there_is w id node birth place near on there first = record {
    id = subst (λ (n : ℕ). n < x.script.ids) (sym first.same_id) near;
    node = subst (λ (n : ℕ). n < x.script.nodes) (sym first.same_node) on;
    group = omega (arith, there, below);
  } where
    below : place.group ≤ birth
    below = IsAtOrAbove-le (parents_of x.script) within.tree place.group birth there (subst (λ (ps : List ℕ). IsAtOrAbove ps place.group birth) (tree_is x tables.shared) first.above)

  pub back_is : (place : Place) → IsThere x.script place → place_at (place_number place) ≡ place
  back_is place there = let sized = sized_of x tables.shared in let nodes = sized.nodes in let groups = sized.groups in
      let a = there.node in let b = there.group in place_back place (omega (arith, a, nodes)) (omega (arith, b, groups))

-- a group of the script is one of its tree
pub group_in : (x : Shared) (group : ℕ) → IsGroup (content_of x.script) group → group < length (parents_of x.script)
group_in x group lt = let same = length-map x.script.groups.items (λ g. g.parent) in omega (arith, same, lt)

-- ---- what the commands on objects have in common

-- a command that names a cache found a counter at the tables of the caches used up
used_up : (s : Script) (z : Step) (c : Command) (y : Spent) (decl : ℕ) → decl_named c ≡ Some decl → IsWornBy s z y → IsUsedUpBy s z (Some c) y
used_up s z (Release node pool units) y decl named h = tt
used_up s z (Grab node pool) y decl named h = tt
used_up s z c y decl named h = h

pub record IsTenant (s : Script) (by : Serial) (c : Command) (group decl : ℕ) : Type 0 where
  pub calm : IsCalm c
  pub asks : (g : ℕ) → asks_online c ≡ Some g → group ≡ g
  pub met : group_met s c ≡ Some group
  pub group_is : group_named c ≡ Some group
  pub decl_is : decl_named c ≡ Some decl
  pub charged : (parents : List ℕ) (g : ℕ) (r : Reply) → charged parents g (Some c) (Some r) ≡ 0
  -- each may be answered so before its list call
  pub offline : (family : Family) (entry : ℕ) → IsReply (parents_of s) family by c None (reply.Offline entry)
  pub no_cache : (family : Family) (entry : ℕ) → IsReply (parents_of s) family by c None (reply.NoCache entry)
  pub worn : (family : Family) (id seen : ℕ) → IsReply (parents_of s) family by c None (reply.Worn (spent.Lookups id seen))
  pub not_made : (family : Family) (g : ℕ) → IsReply (parents_of s) family by c None (reply.NotMade g)
  -- and it isn't answered so after it
  pub was_made : (family : Family) (id g : ℕ) → IsReply (parents_of s) family by c (Some id) (reply.NotMade g) → ⊥
  -- a group that an answer shows is its own
  pub shows : (r : Reply) (g : ℕ) → made_shown c r ≡ Some g → group ≡ g
  pub unshown : (g n : ℕ) → made_shown c (reply.NotMade g) ≡ Some n → ⊥

module _ (x : Shared) (tables : AreTables x) (by : Serial) (c : Command) (group decl : ℕ) (is : IsTenant x.script by c group decl) where
  -- the group that it asks for is its own
  pub own_online : (t : _) → KnowsOnline t group → (g : ℕ) → asks_online c ≡ Some g → KnowsOnline t g
  own_online t h g e = subst (KnowsOnline t) (is.asks g e) h

  -- its group was met where the word that it loaded said that it is there
  pub own_met : (z : Step) (found : GroupState) → is_there found ≡ true → z.command ≡ Some c → IsAmong {A = charge.LoadedState} (record { group = group; state = found }) z.work.words → ((g : ℕ) → z.answered.reply ≡ reply.NotMade g → ⊥) → MeetsGroups x.script z
  own_met z found there same among apart = record {
    unmade = λ g e. absurd (apart g e);
    met = λ g e. inr (found, there, subst (λ n. IsAmong {A = charge.LoadedState} (record { group = n; state = found }) z.work.words) (is.shows z.answered.reply g (ap (option_and_then (λ d. made_shown d z.answered.reply)) (sym same) ∙ e)) among);
  }

  -- its group isn't made
  not_made_did : (g : ℕ) (s t : WorkerState) → g ≡ group → LoadsWord x group state.NotMade s t → HasDid x.script by c (without (reply.NotMade g)) s t
  not_made_did g s t own h = let z : Step = step_of by c (without (reply.NotMade g)) s t (loading group state.NotMade) in let does = does_load x group state.NotMade s t h in quiet_did (loading group state.NotMade) is.calm (record { walks = refl; seen = refl; maps = refl; cleared = refl; takes = refl; gives = refl; carries = refl })
      (brings_of does)
      (no_entries x.script z refl refl (λ family. is.not_made family g) refl) (unfound_lookups x.script z refl refl)
      (still_charges x.script z (record { ops = refl; charges = refl; uncharges = refl; freed = λ n. refl; added = λ n. refl; charged = λ n. is.charged (parents_of x.script) n (reply.NotMade g) }))
      (still_pool x.script z does.core.pool (record { turns = refl; made = refl }) tt)
      (still_tree x.script z refl (λ n e above. inr (own_online s.tree (knows_online (hierarchy_of (shape_of x.core)) s.tree group state.NotMade (λ entry e. absurd (cc)) h.shows) n e)) (record {
        unmade = λ n e. let named : g ≡ n = cc in subst (KnowsUnmade (report.script_hierarchy x.script) s.tree) (sym own ∙ named) (subst (λ (q : Hierarchy). KnowsUnmade q s.tree group) (hierarchy_is x tables.shared) (knows_unmade (hierarchy_of (shape_of x.core)) s.tree group h.shows));
        met = λ n e. absurd (is.unshown g n e);
      }))
      (record { met = is.met ∙ ap Some (sym own); late = subst (λ (q : Hierarchy). is_later q.later g ≡ true) (hierarchy_is x tables.shared) (subst (λ n. is_later (hierarchy_of (shape_of x.core)).later n ≡ true) (sym own) (h.shows.late refl)) })

  offline_did : (entry : ℕ) (s t : WorkerState) → LoadsWord x group (state.Offline entry) s t → HasDid x.script by c (without (reply.Offline entry)) s t
  offline_did entry s t h = let z : Step = step_of by c (without (reply.Offline entry)) s t (loading group (state.Offline entry)) in let does = does_load x group (state.Offline entry) s t h in quiet_did (loading group (state.Offline entry)) is.calm (record { walks = refl; seen = refl; maps = refl; cleared = refl; takes = refl; gives = refl; carries = refl })
      (brings_of does)
      (no_entries x.script z refl refl (λ family. is.offline family entry) refl) (unfound_lookups x.script z refl refl)
      (still_charges x.script z (record { ops = refl; charges = refl; uncharges = refl; freed = λ g. refl; added = λ g. refl; charged = λ g. is.charged (parents_of x.script) g (reply.Offline entry) }))
      (still_pool x.script z does.core.pool (record { turns = refl; made = refl }) tt)
      (still_tree x.script z refl (λ g e above. inl tt) (own_met z (state.Offline entry) refl refl (0, refl) (λ g e. absurd (cc))))
      (record { group = group; met = is.met; told = inl (0, refl) })

  no_cache_did : (entry : ℕ) (s t : WorkerState) → MissesCache x group decl (reply.NoCache entry) s t → HasDid x.script by c (without (reply.NoCache entry)) s t
  no_cache_did entry s t h =
      let words = h.misses.answers.gains.words in
      let g : Gained = record nothing { loaded = words; gives = 1 } in
      let work : Work = then_work (loading group state.Online) (gaining g) in
      let z : Step = step_of by c (without (reply.NoCache entry)) s t work in
      let does : Does s t work = does_then s h.loaded t (loading group state.Online) (gaining g) (does_load x group state.Online s h.loaded h.online) (does_gain h.loaded t g h.misses.answers.gains.adds h.misses.rest) in
      let whole : entry ≡ length t.core.turns.known = h.misses.answers.after in
      quiet_did work is.calm (record { walks = refl; seen = refl; maps = refl; cleared = refl; takes = refl; gives = refl; carries = refl })
      (brings_of does)
      (no_entries x.script z refl refl (λ family. is.no_cache family entry) refl) (unfound_lookups x.script z refl refl)
      (still_charges x.script z (record { ops = refl; charges = refl; uncharges = refl; freed = λ g. refl; added = λ g. refl; charged = λ g. is.charged (parents_of x.script) g (reply.NoCache entry) }))
      (still_pool x.script z does.core.pool (record { turns = refl; made = refl }) whole)
      (still_tree x.script z refl (λ g e above. inr (own_online s.tree (knows_online (hierarchy_of (shape_of x.core)) s.tree group state.Online online_apart h.online.shows) g e)) (own_met z state.Online refl refl (0, refl) (λ g e. absurd (cc))))
      (record {
        decl = decl;
        named = is.decl_is;
        known = omega (arith, whole);
        none = ap (is_live_decl x.script.ids decl) (take_all entry t.core.turns.known (omega (arith, whole))) ∙ (ap (λ (n : ℕ). is_live_decl n decl t.core.turns.known) (sym tables.shared.ids) ∙ h.misses.answers.missing);
      })

  worn_did : (worn : Spent) (s t : WorkerState) → MissesCache x group decl (reply.Worn worn) s t → HasDid x.script by c (without (reply.Worn worn)) s t
  worn_did (spent.List place entries items) s t h = absurd h.misses.answers.worn
  worn_did (spent.Charges charges uncharges) s t h = absurd h.misses.answers.worn
  worn_did (spent.Lookups id seen) s t h =
      let used = h.misses.answers.worn in
      let words = used.loads.words in
      let g : Gained = record nothing { loaded = words; gives = 1 } in
      let work : Work = then_work (loading group state.Online) (gaining g) in
      let z : Step = step_of by c (without (reply.Worn (spent.Lookups id seen))) s t work in
      let a = h.misses.answers.gains.adds in
      let same : h.misses.answers.gains.words ≡ words = append_cancel_left h.loaded.core.claims.loaded h.misses.answers.gains.words words (sym a.loaded ∙ used.loads.since) in
      let adds : Adds h.loaded.core t.core g = subst (λ (l : List Loaded). Adds h.loaded.core t.core (record nothing { loaded = l; gives = 1 })) same a in
      let does : Does s t work = does_then s h.loaded t (loading group state.Online) (gaining g) (does_load x group state.Online s h.loaded h.online) (does_gain h.loaded t g adds h.misses.rest) in
      quiet_did work is.calm (record { walks = refl; seen = refl; maps = refl; cleared = refl; takes = refl; gives = refl; carries = refl })
      (brings_of does)
      (no_entries x.script z refl refl (λ family. is.worn family id seen) refl) (unfound_lookups x.script z refl refl)
      (still_charges x.script z (record { ops = refl; charges = refl; uncharges = refl; freed = λ g. refl; added = λ g. refl; charged = λ g. is.charged (parents_of x.script) g (reply.Worn (spent.Lookups id seen)) }))
      (still_pool x.script z does.core.pool (record { turns = refl; made = refl }) tt)
      (still_tree x.script z refl (λ g e above. inl tt) (own_met z state.Online refl refl (0, refl) (λ g e. absurd (cc))))
      (used_up x.script z c (spent.Lookups id seen) decl is.decl_is (record { over = used.most; word = used.first; loaded = contains_among words (record { id = id; word = used.first }) used.loads.shown; shown = used.shown }))

  -- a command that was refused before its list call
  pub refused_did : (r : Reply) (s t : WorkerState) → RefusedAs x group decl r s t → HasDid x.script by c (without r) s t
  refused_did (reply.Offline entry) s t h = offline_did entry s t h
  refused_did (reply.NoCache entry) s t h = no_cache_did entry s t h
  refused_did (reply.Worn worn) s t h = worn_did worn s t h
  refused_did (reply.NotMade g) s t h = not_made_did g s t h.0 h.1
  refused_did r s t h = absurd h

  -- one that is told what a list answered
  pub replied_did : {A : Type 0} (says : At → A → Reply) (so : NodeAnswer A → Type 0) (f : Found) (r : Reply) (s t : WorkerState) → ((a : NodeAnswer A) → so a → HasDid x.script by c (record { reply = answer_reply says a; found = Some f }) s t) → ListReplies says so r → HasDid x.script by c (record { reply = r; found = Some f }) s t
  replied_did says so f r s t each h = subst (λ (y : Reply). HasDid x.script by c (record { reply = y; found = Some f }) s t) (sym h.told) (each h.answer h.did)

  -- one that is no more than a call on a list
  pub asked_did : {A : Type 0} (says : At → A → Reply) (gives : ℕ → View → NodeAnswer A → View → Type 0) (found : Option Found) (r : Reply) (s t : WorkerState) → ((f : Found) (a : NodeAnswer A) → OnCache x group decl f (λ v w. gives f.id v a w) s t → HasDid x.script by c (record { reply = answer_reply says a; found = Some f }) s t)
      → AsksList x group decl says gives found r s t → HasDid x.script by c (record { reply = r; found = found }) s t
  asked_did says gives None r s t each h = refused_did r s t h
  asked_did says gives (Some f) r s t each h = replied_did says (λ a. OnCache x group decl f (λ v w. gives f.id v a w) s t) f r s t (each f) h

-- ---- a list that was called after a find

module _ (x : Shared) (decl : ℕ) (f : Found) (call : View → View → Type 0) (s held t : WorkerState) (holds : HoldsCache x decl f s held) (calls : Calls call held t) where
  module _ (tables : AreTables x) (node : ℕ) (on : node < x.script.nodes) (birth : ℕ) (there : birth < length (parents_of x.script)) where
    near : f.id < x.script.ids
    near = subst (λ (n : ℕ). f.id < n) tables.shared.ids holds.answers.live.near

    -- it acted on the first open list, with one entry
    module _ (c : At) (so : List Object → Type 0) (e : Listed → Entry) (a : Acts (shape_of x.core) held.core calls.called f.id node birth c so e) where
      abbrev pub made_entry : Made
      made_entry = entry_made (place_number c.place) a.old (e a.old)

      abbrev pub made_bits : List ℕ
      made_bits = bits_for (place_number c.place) a.old.items (step [] a.old.items (e a.old))

      pub made_there : IsThere x.script c.place
      made_there = there_is x tables calls.called f.id node birth c.place near on there a.first

      pub made_same : place_at (place_number c.place) ≡ c.place
      made_same = back_is x tables c.place made_there

      -- it comes after all that was made at its place before
      pub made_later : Each (λ (m : Made). m.place ≡ place_number c.place → m.number < length a.old.entries) s.core.traces.made
      made_later = subst (λ (l : List Made). Each (λ (m : Made). m.place ≡ place_number c.place → m.number < length a.old.entries) l) (offered_made x decl f call s held t holds calls) a.was.later.made

      -- and after all that was known there
      pub made_known : Each (λ (k : Known). k.place ≡ place_number c.place → length k.entries ≤ length a.old.entries) s.core.traces.known
      made_known = each_before (λ (k : Known). k.place ≡ place_number c.place → length k.entries ≤ length a.old.entries) s.core.traces.known held.core.traces.known holds.answers.gains.adds.known a.was.later.known

      pub made_cites : (family : Family) (en : Entry) → StandsIn (parents_of x.script) family (entry_made (place_number c.place) a.old (e a.old)) → e a.old ≡ en → Cites family c f.id node en
      made_cites family en stands same = record {
        id_is = a.first.same_id;
        node_is = a.first.same_node;
        stands = ap (λ (p : Place). slice_get (family p) c.entry) (sym made_same) ∙ (ap (slice_get (family (place_at (place_number c.place)))) a.number ∙ (stands.entry ∙ ap Some same));
      }

    -- the first open list had no room
    pub list_full : (entries items : ℕ) (place : Place) (e : Listed → Entry) (a : TenantIsWorn (shape_of x.core) held.core calls.called f.id node birth place e entries items) (z : Step) → z.after.core.traces.known ≡ t.core.traces.known
        → (items ≤ length a.old.items) ⊎ (IsOneMore z a.old.items items ⊎ AreBoth x.script z place a.old.entries a.old.items items) → IsListWorn x.script z place entries items
    list_full entries items place e a z end most = record {
      there = there_is x tables calls.called f.id node birth place near on there a.first;
      over = ⊎_elim (λ (h : a.old.most_entries < entries). let m = a.full.was.most_entries ∙ tables.most_entries in inl (omega (arith, h, m))) (λ (h : a.old.most_items < items). let m = a.full.was.most_items ∙ tables.most_items in inr (omega (arith, h, m))) a.full.worn.over;
      known = a.old.entries;
      held = a.old.items;
      list = record {
        knows = subst (λ (l : List Known). IsAmong (record { place = place_number place; entries = a.old.entries }) l) (sym (end ∙ ap (λ (u : WorkerState). u.core.traces.known) calls.rest))
            (contains_among calls.called.traces.known (record { place = place_number place; entries = a.old.entries }) a.full.known);
        journal = a.full.was.journal;
      };
      one_more = a.full.worn.entries_then;
      most = most;
    }

-- ---- the commands that called a list

-- the parts of what a command did that called a list, whatever entry it made
module _ (x : Shared) (tables : AreTables x) (by : Serial) (c : Command) (group node decl : ℕ) (is : IsTenant x.script by c group decl) (f : Found) (call : View → View → Type 0) (r : Reply) (s t : WorkerState)
    (o : OnCache x group decl f call s t) where
  abbrev pub held : Reply → Answered
  held q = record { reply = q; found = Some f }

  -- it acted on the first open list, with one entry
  module _ (birth : ℕ) (c_at : At) (so : List Object → Type 0) (e : Listed → Entry) (a : Acts (shape_of x.core) o.held.core o.calls.called f.id node birth c_at so e)
      (on : node < x.script.nodes) (there : birth < length (parents_of x.script)) where
    abbrev pub entry : Made
    entry = entry_made (place_number c_at.place) a.old (e a.old)

    abbrev pub bits : List ℕ
    bits = bits_for (place_number c_at.place) a.old.items (step [] a.old.items (e a.old))

    pub place_same : place_at (place_number c_at.place) ≡ c_at.place
    place_same = made_same x decl f call o.loaded o.held t o.holds o.calls tables node on birth there c_at so e a

    pub cited_is : (z : Step) → z.before ≡ s → z.after.core.traces.known ≡ t.core.traces.known → option_and_then group_named z.command ≡ Some birth → IsAmong entry z.work.core.made
        → (z.answered.reply ≡ reply.Added c_at → 0 < c_at.place.group → a.old.items ≡ [] → (0 < times (place_number c_at.place) z.work.core.sets) × IsSetLast z (place_number c_at.place)) → IsMadeAsCited x.script z c_at
    cited_is z start end named among filled = record {
      made = entry;
      among = among;
      place = place_same;
      number = sym a.number;
      later = subst (λ (l : List Made). Each (λ (m : Made). m.place ≡ place_number c_at.place → m.number < length a.old.entries) l) (made_is x group decl f call s t o (entry ∷ []) bits a.gains ∙ ap (λ (u : WorkerState). u.core.traces.made) (sym start)) a.was.later.made;
      known = each_before (λ (k : Known). k.place ≡ place_number c_at.place → length k.entries ≤ length a.old.entries) z.before.core.traces.known o.held.core.traces.known
          (subst (λ (u : WorkerState). Begins u.core.traces.known o.held.core.traces.known) (sym start) (known_before x group decl f call s t o (entry ∷ []) bits a.gains)) a.was.later.known;
      first = first_for x tables o.calls.called f.id node birth c_at.place a.first z (end ∙ known_is x group decl f call s t o (entry ∷ []) bits a.gains) named there;
      filled = filled;
    }

    -- the answer cites the entry, and the items before it are those of the list
    pub cites_is : (family : Family) (en : Entry) → StandsIn (parents_of x.script) family entry → e a.old ≡ en → Cites family c_at f.id node en
    cites_is = made_cites x decl f call o.loaded o.held t o.holds o.calls tables node on birth there c_at so e a

    pub items_is : (family : Family) → StandsIn (parents_of x.script) family entry → items_at (parents_of x.script) family c_at.place c_at.entry ≡ a.old.items
    items_is family stands = ap (λ (p : Place). items_at (parents_of x.script) family p c_at.entry) (sym place_same) ∙ (ap (items_at (parents_of x.script) family (place_at (place_number c_at.place))) a.number ∙ sym stands.items)

    abbrev pub acted_step : Step
    acted_step = step_of by c (held r) s t (on_list group decl f o.holds.answers.gains.words (entry ∷ []) bits)

    -- a command that made an entry which freed nothing and added nothing
    pub acted_did : group_named c ≡ Some birth → (IsTenantEntry acted_step entry by → MayMakeEntry x.script acted_step entry (e a.old)) → ((family : Family) → StandsIn (parents_of x.script) family entry → IsReply (parents_of x.script) family by c (Some f.id) r)
        → cited_by r ≡ Some c_at → (r ≡ reply.Added c_at → ⊥) → ((g : ℕ) → made_freed_below (parents_of x.script) g entry ≡ 0) → ((g : ℕ) → added_below (parents_of x.script) g (e a.old) ≡ 0)
        → pool_told r ≡ [] → pool_made r ≡ [] → IsCausedBy x.script acted_step r → HasDid x.script by c (held r) s t
    acted_did named may row cites unadded unfreed none_added untold unmade cause =
        let does = on_list_does x group decl f call s t o (entry ∷ []) bits a.gains in
        let z : Step = acted_step in
        quiet_did z.work is.calm (record { walks = refl; seen = refl; maps = refl; cleared = refl; takes = refl; gives = refl; carries = refl })
        (brings_of does)
        (one_entry x.script z entry c_at refl refl (may (is_told z entry c_at place_same (sym a.number) cites)) row cites (cited_is z refl refl named (0, refl) (λ added below empty. absurd (unadded added))))
        (found_lookups x.script z decl f refl is.decl_is refl (found_by x group decl f call s t o (entry ∷ []) bits a.gains z refl (0, refl)))
        (still_charges x.script z (record {
          ops = refl;
          charges = refl;
          uncharges = refl;
          freed = λ g. let w = unfreed g in omega (arith, sum_by-cons (made_freed_below (parents_of x.script) g) entry [], w);
          added = λ g. let w = none_added g in omega (arith, sum_by-cons (λ (m : Made). added_below (parents_of x.script) g m.entry) entry [], w);
          charged = λ g. is.charged (parents_of x.script) g r;
        }))
        (still_pool x.script z does.core.pool (record { turns = refl; made = unmade }) (subst (λ (ns : List ℕ). IsToldOnce z (f.entry ∷ ns)) (sym untold) (found_entry x group decl f call s t o (entry ∷ []) bits a.gains)))
        (still_tree x.script z refl (λ g asked above. inr (own_online x tables by c group decl is s.tree (on_list_online x group decl f call s t o (entry ∷ []) bits a.gains) g asked)) (own_met x tables by c group decl is z state.Online refl refl (0, refl) (λ g e. absurd (none-some c_at (ap cited_by (sym e) ∙ cites)))))
        cause

  -- the first open list had no room
  module _ (birth entries items : ℕ) (place : Place) (e : Listed → Entry) (a : TenantIsWorn (shape_of x.core) o.held.core o.calls.called f.id node birth place e entries items)
      (on : node < x.script.nodes) (there : birth < length (parents_of x.script)) where
    pub list_worn : (z : Step) → z.after ≡ t → (items ≤ length a.old.items) ⊎ (IsOneMore z a.old.items items ⊎ AreBoth x.script z place a.old.entries a.old.items items) → IsListWorn x.script z place entries items
    list_worn z end most = list_full x decl f call o.loaded o.held t o.holds o.calls tables node on birth there entries items place e a z (ap (λ (u : WorkerState). u.core.traces.known) end) most

  -- a command that made no entry
  abbrev pub stood_step : Step
  stood_step = step_of by c (held r) s t (on_list group decl f o.holds.answers.gains.words [] [])

  pub stood_did : Gains o.held.core o.calls.called [] [] → ((family : Family) → IsReply (parents_of x.script) family by c (Some f.id) r) → cited_by r ≡ None → pool_told r ≡ [] → pool_made r ≡ [] → IsCausedBy x.script stood_step r → HasDid x.script by c (held r) s t
  stood_did gains row uncited untold unmade cause =
      let does = on_list_does x group decl f call s t o [] [] gains in
      let z : Step = stood_step in
      quiet_did z.work is.calm (record { walks = refl; seen = refl; maps = refl; cleared = refl; takes = refl; gives = refl; carries = refl })
      (brings_of does) (no_entries x.script z refl refl row uncited)
      (found_lookups x.script z decl f refl is.decl_is refl (found_by x group decl f call s t o [] [] gains z refl (0, refl)))
      (still_charges x.script z (record { ops = refl; charges = refl; uncharges = refl; freed = λ g. refl; added = λ g. refl; charged = λ g. is.charged (parents_of x.script) g r }))
      (still_pool x.script z does.core.pool (record { turns = refl; made = unmade }) (subst (λ (ns : List ℕ). IsToldOnce z (f.entry ∷ ns)) (sym untold) (found_entry x group decl f call s t o [] [] gains)))
      (still_tree x.script z refl (λ g asked above. inr (own_online x tables by c group decl is s.tree (on_list_online x group decl f call s t o [] [] gains) g asked)) (own_met x tables by c group decl is z state.Online refl refl (0, refl) (λ g e. is.was_made (λ p. []) f.id g (subst (λ y. IsReply (parents_of x.script) (λ p. []) by c (Some f.id) y) e (row (λ p. []))))))
      cause

-- a command whose first open list had no room
pub full_did : (x : Shared) (tables : AreTables x) (by : Serial) (c : Command) (group node decl : ℕ) (is : IsTenant x.script by c group decl) (f : Found) (call : View → View → Type 0) (entries items : ℕ) (place : Place) (s t : WorkerState) (o : OnCache x group decl f call s t)
    (e : Listed → Entry) (a : TenantIsWorn (shape_of x.core) o.held.core o.calls.called f.id node group place e entries items) → node < x.script.nodes → group < length (parents_of x.script)
    → ((family : Family) → IsReply (parents_of x.script) family by c (Some f.id) (reply.Worn (spent.List place entries items))) → items ≤ length a.old.items
    → HasDid x.script by c (record { reply = reply.Worn (spent.List place entries items); found = Some f }) s t
full_did x tables by c group node decl is f call entries items place s t o e a on there row few = let r : Reply = reply.Worn (spent.List place entries items) in
    let z : Step = stood_step x tables by c group node decl is f call r s t o in
    stood_did x tables by c group node decl is f call r s t o a.full.gains row refl refl refl
    (used_up x.script z c (spent.List place entries items) decl is.decl_is (list_worn x tables by c group node decl is f call r s t o group entries items place e a on there z refl (inl few)))
