-- SPDX-License-Identifier: GPL-2.0-only
-- The parts of what a command did that are empty, and what each step of a tenant's command adds to its worker's state.
use Rattle.shr_assemble.proofs.Common.{◌≡◌, ℕ, ◌<◌, ◌≤◌, pos, ◌-ℤ◌, Bool, true, false, cond, List, [], ◌∷◌, ◌++◌, inl, length, refl, sym, ap, subst, ◌∙◌, arith, ◌⊎◌, slice_get, Option, Some, None, option_and_then, map, flat_map, sum_by, All, AllPairs, AllByRecursion, list_any, IsSomeAnd, All-nil, none-some, same_Some, UseStep, Serial, Answered, Reply, Command, Put, Shrink, Balance, Script, Carry, WalkRecord, asks_online, jobs_of, sum_at, ups, usage_after, given_at, taken_at, Job, job_of, is_cut, Moves, takes_of, gives_of, Each, Begins, Each-none, Made, Mapped, Turn, WorkerState, Work, AreFresh, parents_of, charged, MayBeOffline, made_shown, pool_seen, pool_made, group_met, steps_walked, IsToldBy, IsBefore, AreNotFalling, Step, BringsWork, IsPut, DidRoundsOf, AreWalksFor, counted_in, mapped_in, cleared_by_walk, map_word, DidCharges, ops_at, added_below, made_freed_below, DidMoves, DidCarry, told_step, DidPool, IsTurnOf, IsEntryOf, KnowsOnline, MeetsGroups, Did, IsFreshAt, DidWalks, DidTree, IsUnmadeBy, MayMake, DidEntries, DidLookups, IsCausedBy, ◌^◌, take, slice_index_or, Contains, append-nil, PoolEntry, Found, is_live, decl_of, from_of, View, Gained, nothing, Adds, Hierarchy, hierarchy_of, shape_of, with_put, is_made, is_there, GroupState, TreeView, Gains, Shared, IsShared, no_work, then_work, Does, does_none, does_then, adds_put, Groups, LoadsWord, OnCache, IsAmong, IsFoundBy, KnowsUnmade, All-contains_itself, Shows, LoadedState, no_test, take_all, Calls, HoldsCache, IsSized}
use Rattle.shr_base.specs.declared.replies.Reply.TheVariants as reply
use Rattle.shr_deferred.specs.Moves as moves
use Rattle.shr_charge.specs.Views as charge
use Rattle.shr_lawful.proofs.FreshLaw.{begins_length}
use Rattle.shr_core.specs.Parts as core
use Rattle.shr_charge.specs.declared.answers.GroupState.TheVariants as state
use Rattle.shr_laws.specs.Parts as report
use Rattle.shr_lawful.proofs.Listed.{contains_among}

-- a step by its parts
abbrev pub step_of : Serial → Command → Answered → WorkerState → WorkerState → Work → Step
step_of by c a before after work = record { by = by; command = Some c; answered = a; before = before; after = after; work = work }

-- what a command added between two states, and that it did so
pub record HasDid (s : Script) (by : Serial) (c : Command) (a : Answered) (before after : WorkerState) : Type 0 where
  pub work : Work
  pub does : BringsWork before after work
  pub did : Did s (step_of by c a before after work)

-- ---- no walk

-- the commands that never walk
abbrev pub IsCalm : Command → Type 0
IsCalm (Put to key value) = ⊥
IsCalm (Shrink group node priority nofs) = ⊥
IsCalm (Balance node priority nofs) = ⊥
IsCalm c = Unit {0}

pub record WalksNot (w : Work) : Type 0 where
  pub walks : w.walks ≡ []
  pub seen : w.core.seen ≡ []
  pub maps : w.core.maps ≡ []
  pub cleared : w.core.cleared ≡ []

calm_rounds : (s : Script) (x : Step) (c : Command) → IsCalm c → DidRoundsOf s x [] c
calm_rounds s x (Put to key value) h = absurd h
calm_rounds s x (Shrink group node priority nofs) h = absurd h
calm_rounds s x (Balance node priority nofs) h = absurd h
calm_rounds s x c h = refl

calm_jobs : (parents : List ℕ) (nodes : ℕ) (c : Command) → IsCalm c → jobs_of parents nodes [] c ≡ []
calm_jobs parents nodes (Put to key value) h = absurd h
calm_jobs parents nodes (Shrink group node priority nofs) h = absurd h
calm_jobs parents nodes (Balance node priority nofs) h = absurd h
calm_jobs parents nodes c h = refl

calm_told : (s : Script) (ws : List WalkRecord) (c : Command) (r : Reply) → IsCalm c → IsToldBy s ws c r
calm_told s ws (Put to key value) r h = absurd h
calm_told s ws (Shrink group node priority nofs) r h = absurd h
calm_told s ws (Balance node priority nofs) r h = absurd h
calm_told s ws c r h = tt

-- no walk was due and none was made
pub none_made : (r : Reply) → MayMake r [] []
none_made reply.Memory = refl
none_made (reply.WalkMemory freed) = refl
none_made r = refl

no_element : {A : Type 0} (xs : List A) (i : ℕ) (x : A) → xs ≡ [] → slice_get xs i ≡ Some x → ⊥
no_element {A} xs i x none at = none-some x (subst (λ (l : List A). slice_get l i ≡ Some x) none at)

each_of_none : {A : Type 0} (P : A → Type 0) (xs : List A) → xs ≡ [] → Each P xs
each_of_none {A} P xs none = subst (λ (l : List A). Each P l) (sym none) (Each-none P)

all_of_none : {A : Type 0} (P : A → Type 0) (xs : List A) → xs ≡ [] → All P xs
all_of_none {A} P xs none = subst (λ (l : List A). All P l) (sym none) (All-nil P)

calm_asked : (s : Script) (x : Step) (o : Option Command) → IsSomeAnd o IsCalm → x.work.walks ≡ [] → AreWalksFor s x o
calm_asked s x None calm none = absurd calm
calm_asked s x (Some c) calm none = record {
  rounds = [];
  refused = calm_rounds s x c calm;
  made = subst (λ (ws : List WalkRecord). MayMake x.answered.reply (jobs_of (parents_of s) s.nodes [] c) (map job_of ws)) (sym none)
      (subst (λ (js : List Job). MayMake x.answered.reply js []) (sym (calm_jobs (parents_of s) s.nodes c calm)) (none_made x.answered.reply));
  told = calm_told s x.work.walks c x.answered.reply calm;
  cut = subst (AllPairs (λ (v w : WalkRecord). is_cut v.answer ≡ false)) (sym none) (λ i j d lt lj. absurd (omega (arith, lj)));
  cut_told = λ e. absurd (let f : false ≡ true = ap (λ (ws : List WalkRecord). list_any (λ (w : WalkRecord). is_cut w.answer) ws) (sym none) ∙ e in cc);
}

-- a command that makes no walk
pub calm_walks : (s : Script) (x : Step) → IsSomeAnd x.command IsCalm → WalksNot x.work → DidWalks s x
calm_walks s x calm none = record {
  each = λ i w at. absurd (no_element x.work.walks i w none.walks at);
  asked = calm_asked s x x.command calm none.walks;
  seen = ap (λ (ws : List WalkRecord). flat_map counted_in ws) none.walks ∙ sym none.seen;
  maps = ap (λ (ws : List WalkRecord). flat_map mapped_in ws) none.walks ∙ sym (ap (λ (ms : List Mapped). map map_word ms) none.maps);
  cleared = ap (λ (ws : List WalkRecord). flat_map cleared_by_walk ws) none.walks ∙ sym none.cleared;
  fresh = subst (AreFresh x.before.core) (sym none.seen) (record { each = Each-none (IsFreshAt x.before.core); rising = tt });
  set = each_of_none (λ (m : Mapped). Begins x.before.core.marks.sets m.set) x.work.core.maps none.maps;
}

-- ---- no move

pub record MovesNot (w : Work) : Type 0 where
  pub walks : w.walks ≡ []
  pub takes : takes_of w.moves ≡ []
  pub gives : gives_of w.moves ≡ []
  pub carries : w.carries ≡ []

pub none_moved : (m : Moves) → takes_of m ≡ [] → gives_of m ≡ [] → m ≡ []
none_moved [] takes gives = refl
none_moved (moves.took y ∷ m) takes gives = absurd (cc)
none_moved (moves.gave y ∷ m) takes gives = absurd (cc)

pub still_moves : (s : Script) (x : Step) → MovesNot x.work → DidMoves s x
still_moves s x none = record {
  taken = λ p. ap (sum_at p) none.takes ∙ sym (λ i. taken_at (none.walks i) (none.carries i) p);
  given = λ p. ap (sum_at p) none.gives ∙ sym (λ i. given_at (parents_of s) (none.walks i) (none.carries i) p);
  carries = all_of_none (DidCarry s x) x.work.carries none.carries;
  rise = subst (λ (cs : List Carry). AllPairs (λ (c d : Carry). IsBefore c.place.id c.place.node d.place.id d.place.node) cs) (sym none.carries) (λ i j d lt within. absurd (omega (arith, within)));
  handed = [];
  places = inl refl;
  noted = none.carries;
  steps = ap (map told_step) (none_moved x.work.moves none.takes none.gives) ∙ sym (ap (λ (ws : List WalkRecord). flat_map steps_walked ws ++ []) none.walks);
}

-- ---- no charge

-- no operation was made; nothing was added, and nothing that was charged was freed
pub record ChargesNot (s : Script) (x : Step) : Type 0 where
  pub ops : x.work.ops ≡ []
  pub charges : x.work.charges ≡ 0
  pub uncharges : x.work.uncharges ≡ 0
  pub freed : (group : ℕ) → sum_by (made_freed_below (parents_of s) group) x.work.core.made ≡ 0
  pub added : (group : ℕ) → sum_by (λ (m : Made). added_below (parents_of s) group m.entry) x.work.core.made ≡ 0
  pub charged : (group : ℕ) → charged (parents_of s) group x.command (Some x.answered.reply) ≡ 0

pub still_charges : (s : Script) (x : Step) → ChargesNot s x → DidCharges s x
still_charges s x none = record {
  own = all_of_none (λ (o : UseStep). o.by ≡ x.by) x.work.ops none.ops;
  there = all_of_none (λ (o : UseStep). o.group < length (parents_of s)) x.work.ops none.ops;
  taken_back = λ group n o at up above. absurd (no_element (ops_at group x.work.ops) n o (ap (ops_at group) none.ops) at);
  puts = all_of_none (λ (o : UseStep). o.up ≡ true → IsPut x.command) x.work.ops none.ops;
  fourteen = λ group. omega (arith, ap (λ (os : List UseStep). ups (ops_at group os)) none.ops);
  between = λ group n m lt first second. absurd (no_element (map (λ (o : UseStep). o.up) (ops_at group x.work.ops)) n _ (ap (λ (os : List UseStep). map (λ (o : UseStep). o.up) (ops_at group os)) none.ops) first);
  nets = λ group near. ap (λ (os : List UseStep). usage_after (ops_at group os)) none.ops ∙ sym (λ i. pos (none.charged group i) -ℤ pos (none.freed group i));
  added = λ group. none.added group ∙ sym (none.charged group);
  charges = omega (arith, none.charges);
  uncharges = omega (arith, none.uncharges);
}

-- ---- no entry of the journal of registrations, and none of the journal of the tree

pub record TurnsNot (x : Step) : Type 0 where
  pub turns : x.work.core.turns ≡ []
  pub made : pool_made x.answered.reply ≡ []

-- an answer speaks of one number of entries at most, which are those that the worker knows at its end
abbrev pub IsToldOnce : Step → List ℕ → Type 0
IsToldOnce x [] = Unit {0}
IsToldOnce x (n ∷ []) = n ≡ length x.after.core.turns.known
IsToldOnce x (n ∷ m ∷ ns) = ⊥

seen_once : (x : Step) (ns : List ℕ) → length x.before.core.turns.known ≤ length x.after.core.turns.known → IsToldOnce x ns → AllByRecursion (λ n. (length x.before.core.turns.known ≤ n) × (n ≤ length x.after.core.turns.known)) ns
seen_once x [] le h = tt
seen_once x (n ∷ []) le h = ((omega (arith, le, h), omega (arith, h)), tt)
seen_once x (n ∷ m ∷ ns) le h = absurd h

rise_once : (x : Step) (ns : List ℕ) → IsToldOnce x ns → AreNotFalling ns
rise_once x [] h = λ k d lt. absurd (omega (arith, lt))
rise_once x (n ∷ []) h = λ k d lt. absurd (omega (arith, lt))
rise_once x (n ∷ m ∷ ns) h = absurd h

pub still_pool : (s : Script) (x : Step) → Begins x.before.core.turns.known x.after.core.turns.known → TurnsNot x → IsToldOnce x (pool_seen x.answered) → DidPool s x
still_pool s x grows none told = record {
  turns = each_of_none (λ (t : Turn). IsTurnOf x.after.core.turns.known t.entry t.number x.answered.reply) x.work.core.turns none.turns;
  later = each_of_none (λ (t : Turn). length x.before.core.turns.known ≤ t.number) x.work.core.turns none.turns;
  seen = seen_once x (pool_seen x.answered) (begins_length x.before.core.turns.known x.after.core.turns.known grows) told;
  rise = rise_once x (pool_seen x.answered) told;
  made = subst (λ (ns : List ℕ). AllByRecursion (λ n. n < length x.after.core.turns.known) ns) (sym none.made) tt;
}

-- the answer tells of no group whether it is made
pub meets_none : (s : Script) (x : Step) → ((g : ℕ) → x.answered.reply ≡ reply.NotMade g → ⊥) → ((g : ℕ) → option_and_then (λ c. made_shown c x.answered.reply) x.command ≡ Some g → ⊥) → MeetsGroups s x
meets_none s x apart none = record { unmade = λ g e. absurd (apart g e); met = λ g e. absurd (none g e) }

-- a command of no group isn't answered that one isn't made
pub unmade_apart : (s : Script) (x : Step) (g : ℕ) → option_and_then (group_met s) x.command ≡ None → IsUnmadeBy s x g → ⊥
unmade_apart s x g none h = none-some g (sym none ∙ h.met)

-- a command that asks for no group shows none
pub never_met : (b : Bool) (g : ℕ) → cond {A = Option ℕ} b None None ≡ Some g → ⊥
never_met true g e = none-some g e
never_met false g e = none-some g e

-- one that asks for a group shows it or none
pub some_met : (b : Bool) (group g : ℕ) → cond b (Some group) None ≡ Some g → group ≡ g
some_met true group g e = same_Some group g e
some_met false group g e = absurd (none-some g e)

pub still_tree : (s : Script) (x : Step) → x.work.tree ≡ [] → ((group : ℕ) → option_and_then asks_online x.command ≡ Some group → 0 < group → MayBeOffline x.answered.reply ⊎ KnowsOnline x.before.tree group) → MeetsGroups s x → DidTree s x
still_tree s x none online meets = record {
  each = all_of_none (λ (m : charge.TreeMade). (length x.before.tree.known ≤ m.number) × IsEntryOf s x m.number m.entry) x.work.tree none;
  online = online;
  meets = meets;
}

-- ---- what a command did that made no walk and no move

pub record QuietWork (w : Work) : Type 0 where
  pub walks : w.walks ≡ []
  pub seen : w.core.seen ≡ []
  pub maps : w.core.maps ≡ []
  pub cleared : w.core.cleared ≡ []
  pub takes : takes_of w.moves ≡ []
  pub gives : gives_of w.moves ≡ []
  pub carries : w.carries ≡ []

pub quiet_did : {s : Script} {by : Serial} {c : Command} {a : Answered} {before after : WorkerState} (work : Work) → IsCalm c → QuietWork work → BringsWork before after work
    → DidEntries s (step_of by c a before after work) → DidLookups s (step_of by c a before after work) → DidCharges s (step_of by c a before after work) → DidPool s (step_of by c a before after work)
    → DidTree s (step_of by c a before after work) → IsCausedBy s (step_of by c a before after work) a.reply → HasDid s by c a before after
quiet_did {s} {by} {c} {a} {before} {after} work calm none does entries lookups charges pool tree cause = let z : Step = step_of by c a before after work in
    record { work = work; does = does; did = assumption (calm_walks s z calm (assumption none), still_moves s z (assumption none)) }

-- the tables are those of a run: they belong together, and have the limits that the report's laws speak of
pub record AreTables (x : Shared) : Type 0 where
  pub shared : IsShared x
  pub sized : IsSized x.script
  pub most_items : (shape_of x.core).most_items ≡ 20000
  pub most_entries : (shape_of x.core).most_entries ≡ 2 ^ 31

-- the tree of the core is that of the script
pub tree_is : (x : Shared) → IsShared x → (shape_of x.core).parents.items ≡ parents_of x.script
tree_is x h = h.parents ∙ ap (λ (g : Groups). g.parents) h.tree

-- the groups of the core are those of the script
pub hierarchy_is : (x : Shared) → IsShared x → hierarchy_of (shape_of x.core) ≡ report.script_hierarchy x.script
hierarchy_is x h = λ i. record { parents = tree_is x h i; later = (h.later ∙ ap (λ (g : Groups). g.later) h.tree) i }

-- ---- the work of each step

-- the word of a group was loaded
abbrev pub loading : ℕ → GroupState → Work
loading group found = record no_work { words = record { group = group; state = found } ∷ [] }

-- the core gained this
abbrev pub gaining : Gained → Work
gaining g = record no_work { core = g }

pub does_gain : (s t : WorkerState) (g : Gained) → Adds s.core t.core g → t ≡ record s { core = t.core } → Does s t (gaining g)
does_gain s t g a rest = subst (λ (u : WorkerState). Does s u (gaining g)) (sym rest) (assumption (a, does_none s))

pub does_load : (x : Shared) (group : ℕ) (found : GroupState) (s t : WorkerState) → LoadsWord x group found s t → Does s t (loading group found)
does_load x group found s t h = subst (λ (u : WorkerState). Does s u (loading group found)) (sym h.rest) (assumption (does_none s))

-- ---- a group that is online

-- a word that tells of no Begin agrees with what was known only where no Begin was
pub knows_online : (h : Hierarchy) (t : TreeView) (group : ℕ) (found : GroupState) → ((entry : ℕ) → found ≡ state.Offline entry → ⊥) → Shows h t group found → KnowsOnline t group
knows_online h t group found apart shows = record {
  loaded = λ k d lt here entry is. apart entry (shows.loaded entry (told (slice_index_or t.loaded k d) entry (All-contains_itself t.loaded k d lt) here is));
  known = λ entry e. apart entry (shows.known entry e);
} where
  told : (l : LoadedState) (entry : ℕ) → Contains t.loaded l → l.group ≡ group → l.state ≡ state.Offline entry → Contains t.loaded (record { group = group; state = state.Offline entry })
  told l entry has here is = subst (λ (y : LoadedState). Contains t.loaded y) (λ i. record { group = here i; state = is i }) has

-- a word that says that a group isn't made agrees with what was known only where nobody knew it to be
pub knows_unmade : (h : Hierarchy) (t : TreeView) (group : ℕ) → Shows h t group state.NotMade → KnowsUnmade h t group
knows_unmade h t group shows = record {
  loaded = λ k d lt here. no_test (is_there (slice_index_or t.loaded k d).state) (λ there. apart (shows.met (slice_index_or t.loaded k d).state there (told (slice_index_or t.loaded k d) (All-contains_itself t.loaded k d lt) here)));
  known = no_test (is_made h t.known group) (λ made. apart (shows.made made));
} where
  apart : false ≡ true → ⊥
  apart e = absurd (cc)

  told : (l : LoadedState) → Contains t.loaded l → l.group ≡ group → Contains t.loaded (record { group = group; state = l.state })
  told l has here = subst (λ (y : LoadedState). Contains t.loaded y) (λ i. record { group = here i; state = l.state }) has

pub online_apart : (entry : ℕ) → state.Online ≡ state.Offline entry → ⊥
online_apart entry is = absurd (cc)

-- a worker that knows that a group is made met it
pub known_meets : (x : Shared) → IsShared x → (z : Step) (group : ℕ) → is_made (hierarchy_of (shape_of x.core)) z.after.tree.known group ≡ true → ((g : ℕ) → option_and_then (λ c. made_shown c z.answered.reply) z.command ≡ Some g → group ≡ g) → ((g : ℕ) → z.answered.reply ≡ reply.NotMade g → ⊥) → MeetsGroups x.script z
known_meets x shared z group made own apart = record {
  unmade = λ g e. absurd (apart g e);
  met = λ g e. inl (subst (λ n. is_made (report.script_hierarchy x.script) z.after.tree.known n ≡ true) (own g e) (subst (λ (q : Hierarchy). is_made q z.after.tree.known group ≡ true) (hierarchy_is x shared) made));
}

-- ---- a cache that is held

abbrev pub tried_by : ℕ → Found → core.Tried
tried_by decl f = record { id = f.id; number = f.number; held = Some decl }

abbrev pub dated_by : Found → core.Dated
dated_by f = record { id = f.id; number = f.number; entries = f.entry }

-- the cache was found by one lookup, and words of ids were loaded
abbrev pub finding : ℕ → Found → List core.Loaded → Gained
finding decl f words = record nothing { attempts = tried_by decl f ∷ []; loaded = words; gives = 1 }

-- entries were made, and bits set
abbrev pub calling : List core.Made → List ℕ → Gained
calling made bits = record nothing { made = made; sets = bits }

-- the cache was found, and its list called
abbrev pub offering : ℕ → Found → List core.Loaded → List core.Made → List ℕ → Work
offering decl f words made bits = then_work (gaining (finding decl f words)) (gaining (calling made bits))

module _ (x : Shared) (decl : ℕ) (f : Found) (call : View → View → Type 0) (s held t : WorkerState) (holds : HoldsCache x decl f s held) (calls : Calls call held t) where
  module _ (made : List core.Made) (bits : List ℕ) (g : Gains held.core calls.called made bits) where
    pub offering_does : Does s t (offering decl f holds.answers.gains.words made bits)
    offering_does = does_then s held t (gaining (finding decl f holds.answers.gains.words)) (gaining (calling made bits)) (does_gain s held (finding decl f holds.answers.gains.words) holds.answers.gains.adds holds.rest)
        (does_gain held t (calling made bits) (subst (λ (v : View). Adds held.core v (calling made bits)) (sym core_is) (adds_put held.core calls.called (calling made bits) g.adds)) (calls.rest ∙ ap (λ (v : View). record held { core = v }) (sym core_is))) where
          core_is : t.core ≡ with_put calls.called
          core_is = ap (λ (u : WorkerState). u.core) calls.rest

    turns_is : t.core.turns ≡ held.core.turns
    turns_is = ap (λ (u : WorkerState). u.core.turns) calls.rest ∙ g.turns

    -- the journal of registrations that the worker knows at the end is that by which the cache was found
    pool_is : t.core.turns.known ≡ held.core.turns.known
    pool_is = ap (λ (y : core.Turns). y.known) turns_is

    pub offered_known : t.core.traces.known ≡ calls.called.traces.known
    offered_known = ap (λ (u : WorkerState). u.core.traces.known) calls.rest

    pub offered_entry : f.entry ≡ length t.core.turns.known
    offered_entry = holds.answers.after ∙ ap (λ (l : List PoolEntry). length l) (sym pool_is)

    pub offered_by : (z : Step) → z.after.core.turns ≡ t.core.turns → IsAmong (tried_by decl f) z.work.core.attempts → IsFoundBy z decl f
    offered_by z stay among = let e = offered_entry in let end : z.after.core.turns.known ≡ t.core.turns.known = ap (λ (y : core.Turns). y.known) stay in
        let journal : take f.entry z.after.core.turns.known ≡ held.core.turns.known = ap (take f.entry) end ∙ (take_all f.entry t.core.turns.known (omega (arith, e)) ∙ pool_is) in record {
          tried = among;
          known = omega (arith, e, ap (λ (l : List PoolEntry). length l) end);
          live = ap (is_live f.id) journal ∙ holds.answers.live.live;
          decl_is = ap (decl_of f.id) journal ∙ holds.answers.live.named;
          from = subst (λ (l : List PoolEntry). from_of f.id l ≤ f.number) (sym journal) holds.answers.began;
          dated = subst (IsAmong (dated_by f)) (sym (ap (λ (y : core.Turns). y.dated) (stay ∙ turns_is))) (contains_among held.core.turns.dated (dated_by f) holds.dated);
        }

  -- the entries that were made before the call are those of before the find
  pub offered_made : held.core.traces.made ≡ s.core.traces.made
  offered_made = holds.answers.gains.adds.made ∙ append-nil s.core.traces.made

-- the work of a command that called a list
abbrev pub on_list : ℕ → ℕ → Found → List core.Loaded → List core.Made → List ℕ → Work
on_list group decl f words made bits = then_work (loading group state.Online) (offering decl f words made bits)

module _ (x : Shared) (group decl : ℕ) (f : Found) (call : View → View → Type 0) (s t : WorkerState) (o : OnCache x group decl f call s t) (made : List core.Made) (bits : List ℕ) (g : Gains o.held.core o.calls.called made bits) where
  pub on_list_does : Does s t (on_list group decl f o.holds.answers.gains.words made bits)
  on_list_does = does_then s o.loaded t (loading group state.Online) (offering decl f o.holds.answers.gains.words made bits) (does_load x group state.Online s o.loaded o.online) (offering_does x decl f call o.loaded o.held t o.holds o.calls made bits g)

  pub on_list_online : KnowsOnline s.tree group
  on_list_online = knows_online (hierarchy_of (shape_of x.core)) s.tree group state.Online online_apart o.online.shows

  -- what the call knows of lists is known at the end
  pub known_is : t.core.traces.known ≡ o.calls.called.traces.known
  known_is = offered_known x decl f call o.loaded o.held t o.holds o.calls made bits g

  -- the entries that were made before the call are those of before the command
  pub made_is : o.held.core.traces.made ≡ s.core.traces.made
  made_is = offered_made x decl f call o.loaded o.held t o.holds o.calls ∙ ap (λ (u : WorkerState). u.core.traces.made) o.online.rest

  -- what was known of lists before the command was known at the call
  pub known_before : Begins s.core.traces.known o.held.core.traces.known
  known_before = subst (λ (l : List core.Known). Begins l o.held.core.traces.known) (ap (λ (u : WorkerState). u.core.traces.known) o.online.rest) o.holds.answers.gains.adds.known

  pub found_entry : f.entry ≡ length t.core.turns.known
  found_entry = offered_entry x decl f call o.loaded o.held t o.holds o.calls made bits g

  pub found_by : (z : Step) → z.after.core.turns ≡ t.core.turns → IsAmong (tried_by decl f) z.work.core.attempts → IsFoundBy z decl f
  found_by = offered_by x decl f call o.loaded o.held t o.holds o.calls made bits g
