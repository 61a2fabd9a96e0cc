-- SPDX-License-Identifier: GPL-2.0-only
-- Each step's state is so in the report, of a run whose workers are done.
use Rattle.shr_assemble.proofs.Common.{◌≡◌, ℕ, ◌≤◌, List, ◌∷◌, ◌++◌, sym, refl, ap, subst, ◌∙◌, arith, slice_get, Some, All, slice_get_within, PoolEntry, TreeEntry, UseStep, Hierarchy, Each, Begins, begins_more, Loaded, IsNamed, IsTreeEntryMade, Uses, Shared, WorkerState, CrewState, Ends, Report, lookups_at, uses_at, WorkerLog, AreEndsOf, firsts_at_start, new_worker, IsMadeOf, Step, IsAmong, steps_of, Grows, BringsWork, IsShownIn, AreRunSteps, at_some, some_at, IsHeard, StandsInHistory, script_hierarchy, ◌+◌, ◌<◌, Bool, true, false, cond, [], length, drop, ◌==◌, option_and_then, dite, dec_lt, Found, decl_named, Registered, Unregistered, Idle, last_number, number_after, lookups_of, Dated, past_none, IsFoundBy, id_of, is_before, end_of, zero, suc, ◌*◌, ◌/◌, ne_eqb, if◌then◌else◌, bit_at, AllByRecursion, eqb-true, MapEnd, Place, place_number, each_append, groups_in, times, units_in, map_number, map_of, parents_of, IsThere, IsMarked, bit_place}
use Rattle.shr_model.proofs.Lists.{there_at}
use Rattle.shr_assemble.proofs.ScriptGroups.{sized_of}
use Rattle.shr_walk.proofs.Shares.{same_hierarchy}
use Rattle.shr_laws.specs.Parts as report
use Rattle.shr_assemble.proofs.EndsGathered.{last, cleared_are, sets_are}
use Rattle.shr_assemble.proofs.EndsHistories.{history_is}
use Rattle.shr_assemble.proofs.EndsSteps.{lookups_at_below, workers, is_crew, steps}
use Rattle.shr_assemble.proofs.EndsShown as shown
use Rattle.shr_lawful.proofs.Gathering.{mine_at, among_right, among_flat, each_among}
use Rattle.shr_assemble.proofs.Joined as joined
use Rattle.shr_assemble.proofs.Lasts.{after_begins, after_grows, each_last, all_from_each}
use Rattle.shr_lawful.proofs.Listed.{all_slice, all_among}
use Rattle.shr_assemble.proofs.QuietSteps.{hierarchy_is}
use Rattle.shr_assemble.proofs.Rows.{DidEach}
use Rattle.shr_model.specs.Pool.{phase_of, number_from}
use Rattle.shr_assemble.proofs.EndsPool as pool
use Rattle.shr_assemble.proofs.Joined.{joined_dated}
use Rattle.shr_core.specs.Ending.{units_below, groups_below, nodes_below}
use Rattle.shr_core.specs.Layout as layout
use Rattle.shr_assemble.proofs.EndsJournals.{same_parents}

each_from_all : {A : Type 0} (P : A → Type 0) (xs : List A) → All P xs → Each P xs
each_from_all P xs all j z e = all_slice P xs j z all (at_some xs j z e)

module _ (x : Shared) (did : DidEach x) (logs : List WorkerLog) (e : Ends) (ends : AreEndsOf x logs e) (r : Report) (made : IsMadeOf x.script logs e r) where
  abbrev team : List (List Step)
  team = workers x did logs e ends r made

  -- the last state of a step's worker
  pub record HasLast (worker k : ℕ) (y : Step) : Type 1 where
    pub state : CrewState
    pub at : slice_get ends.lasts worker ≡ Some state
    pub grows : Grows y.after state.seats
    pub begins : {A : Type 0} (g : WorkerState → List A) (h : Step → List A) → ((z : Step) → BringsWork z.before z.after z.work → g z.after ≡ g z.before ++ h z) → Begins (g y.after) (g state.seats)

  pub has_last : (worker k : ℕ) (y : Step) → slice_get (steps_of team worker) k ≡ Some y → HasLast worker k y
  has_last worker k y at =
      let crew = is_crew x did logs e ends r made in let workers_are = crew.workers_are in let lasts_are = crew.lasts_are in
      let mine = mine_at team worker k y at in
      let within = slice_get_within team worker (steps_of team worker) mine in
      let log = there_at logs worker (omega (arith, within, workers_are)) in
      let t = there_at ends.lasts worker (omega (arith, within, workers_are, lasts_are)) in
      let row = crew.each worker log.0 t.0 (steps_of team worker) log.1 t.1 mine in
      record {
        state = t.0;
        at = t.1;
        grows = subst (Grows y.after) row.ends (after_grows (new_worker ends.opened worker).seats (steps_of team worker) k y row.chained at);
        begins = λ g h one. subst (λ (u : WorkerState). Begins (g y.after) (g u)) row.ends (after_begins g h one (new_worker ends.opened worker).seats (steps_of team worker) k y row.chained at);
      }

  loaded_shown : Each (λ (l : Loaded). l.word.lookups ≤ lookups_at r l.id) (last x did logs e ends r made).core.claims.loaded
  loaded_shown j l h = let t = ends.core.loaded j l h in let le = t.1 in
      let printed : lookups_at r l.id ≡ _ = ap (λ ns. report.lookups_at (record r { lookups = record r.lookups { items = ns } }) l.id) (made.lookups ∙ ends.core.lookups) ∙ lookups_at_below x.core.setting.shape.ids ends.core.look l.id t.0 in
      omega (arith, le, printed)

  pub shown_after : (worker k : ℕ) (y : Step) → slice_get (steps_of team worker) k ≡ Some y → IsShownIn x.script r team y.after
  shown_after worker k y at =
      let t = has_last worker k y at in let start = firsts_at_start ends.opened ends.standing in let all = last x did logs e ends r made in let left = ends.core in
      let lasts = ends.lasts in
      record {
        made = each_last _ (λ (w : CrewState). w.seats.core.traces.made) lasts all.core.traces.made start.core.traces.made (joined.joined_made start lasts) (shown.made_shown x ends.shared r all.core e.core left made.places made.pool) worker t.state t.at _
            (t.begins (λ (w : WorkerState). w.core.traces.made) (λ (z : Step). z.work.core.made) (λ z d. d.core.made));
        known = each_last _ (λ (w : CrewState). w.seats.core.traces.known) lasts all.core.traces.known start.core.traces.known (joined.joined_known start lasts) (shown.known_shown x ends.shared r all.core e.core left made.places made.pool) worker t.state t.at _ t.grows.known;
        seen = each_last _ (λ (w : CrewState). w.seats.core.traces.seen) lasts all.core.traces.seen start.core.traces.seen (joined.joined_seen start lasts) (shown.seen_shown x ends.shared r all.core e.core left made.places made.pool) worker t.state t.at _ t.grows.seen;
        maps = each_last _ (λ (w : CrewState). w.seats.core.marks.maps) lasts all.core.marks.maps start.core.marks.maps (joined.joined_maps start lasts) (shown.maps_shown x ends.shared r all.core e.core left made.places made.pool team (cleared_are x did logs e ends r made) (sets_are x did logs e ends r made)) worker t.state t.at _
            (t.begins (λ (w : WorkerState). w.core.marks.maps) (λ (z : Step). z.work.core.maps) (λ z d. d.core.maps));
        tried = each_last _ (λ (w : CrewState). w.seats.core.claims.attempts) lasts all.core.claims.attempts start.core.claims.attempts (joined.joined_attempts start lasts) (shown.tried_shown x ends.shared r all.core e.core left made.places made.pool) worker t.state t.at _
            (t.begins (λ (w : WorkerState). w.core.claims.attempts) (λ (z : Step). z.work.core.attempts) (λ z d. d.core.attempts));
        loaded = each_last _ (λ (w : CrewState). w.seats.core.claims.loaded) lasts all.core.claims.loaded start.core.claims.loaded (joined.joined_loaded start lasts) loaded_shown worker t.state t.at _
            (t.begins (λ (w : WorkerState). w.core.claims.loaded) (λ (z : Step). z.work.core.loaded) (λ z d. d.core.loaded));
        turns = each_last _ (λ (w : CrewState). w.seats.core.turns.made) lasts all.core.turns.made start.core.turns.made (joined.joined_turns start lasts) (shown.turns_shown x ends.shared r all.core e.core left made.places made.pool) worker t.state t.at _
            (t.begins (λ (w : WorkerState). w.core.turns.made) (λ (z : Step). z.work.core.turns) (λ z d. d.core.turned));
        pool = begins_more y.after.core.turns.known t.state.seats.core.turns.known r.pool.items t.grows.pool
            (each_among (λ (es : List PoolEntry). Begins es r.pool.items) all.core.turns.heard t.state.seats.core.turns.known (shown.heard_shown x ends.shared r all.core e.core left made.places made.pool)
            (subst (IsAmong t.state.seats.core.turns.known) (sym (joined.joined_heard start lasts))
            (among_right start.core.turns.heard _ t.state.seats.core.turns.known (among_flat (λ (w : CrewState). w.seats.core.turns.known ∷ w.seats.core.turns.heard) lasts t.state t.state.seats.core.turns.known (worker, some_at lasts worker t.state t.at) (0, refl)))));
        words = all_from_each _ y.after.tree.loaded (each_last _ (λ (w : CrewState). w.seats.tree.loaded) lasts all.tree.loaded start.tree.loaded (joined.joined_words start lasts)
            (subst (λ (es : List TreeEntry). Each (IsNamed (script_hierarchy x.script) es) all.tree.loaded) (sym made.tree) (each_from_all _ all.tree.loaded (subst (λ (h : Hierarchy). All (IsNamed h e.charge.tree.items) all.tree.loaded) (same_hierarchy x ends.shared ∙ hierarchy_is x ends.shared) ends.charge.tree.seen.loaded))) worker t.state t.at _ t.grows.words);
        entries = all_from_each _ y.after.tree.made (each_last _ (λ (w : CrewState). w.seats.tree.made) lasts all.tree.made start.tree.made (joined.joined_entries start lasts)
            (subst (λ (es : List TreeEntry). Each (IsTreeEntryMade es) all.tree.made) (sym made.tree) (each_from_all _ all.tree.made ends.charge.tree.seen.made)) worker t.state t.at _
            (t.begins (λ (w : WorkerState). w.tree.made) (λ (z : Step). z.work.tree) (λ z d. d.tree)));
        tree = begins_more y.after.tree.known t.state.seats.tree.known r.tree.items t.grows.tree
            (subst (λ (es : List TreeEntry). Begins t.state.seats.tree.known es) (sym made.tree)
            (all_among (IsHeard e.charge.tree.items) all.tree.heard t.state.seats.tree.known ends.charge.tree.seen.heard
            (subst (IsAmong t.state.seats.tree.known) (sym (joined.joined_tree_heard start lasts))
            (among_right start.tree.heard _ t.state.seats.tree.known (among_flat (λ (w : CrewState). w.seats.tree.known ∷ w.seats.tree.heard) lasts t.state t.state.seats.tree.known (worker, some_at lasts worker t.state t.at) (0, refl))))));
        ops = all_from_each (λ (o : UseStep). slice_get (uses_at r o.group) o.operation ≡ Some o) y.after.uses.ops (each_last (λ (o : UseStep). slice_get (uses_at r o.group) o.operation ≡ Some o) (λ (w : CrewState). w.seats.uses.ops) lasts all.uses.ops start.uses.ops (joined.joined_ops start lasts)
            (λ j o h. ap (λ l. slice_get l o.operation) (history_is x did logs e ends r made o.group) ∙ each_from_all (StandsInHistory ends.charge.history) all.uses.ops ends.charge.operations.there j o h) worker t.state t.at _
            (t.begins (λ (w : WorkerState). w.uses.ops) (λ (z : Step). z.work.ops) (λ z d. ap (λ (u : Uses). u.ops) d.uses)));
      }

  -- the steps of the run
  pub are_steps : AreRunSteps x.script r team
  are_steps = steps x did logs e ends r made shown_after

-- an entry of another id carries no number of this one
number_other : (id n : ℕ) (e : PoolEntry) → (id_of e == id) ≡ false → number_after id n e ≡ n
number_other id n (Registered d i from) other = ap (λ b. cond {A = ℕ} b from n) other
number_other id n (Unregistered d i to) other = ap (λ b. cond {A = ℕ} b to n) other
number_other id n (Idle i) other = refl

none_of : (b : Bool) (rest : ℕ) → cond {A = ℕ} b 1 0 + rest ≡ 0 → (b ≡ false) × (rest ≡ 0)
none_of true rest e = absurd (omega (arith, e))
none_of false rest e = (refl, omega (arith, e))

-- an id without an entry has no number
number_none : (id n : ℕ) (es : List PoolEntry) → phase_of id es ≡ 0 → number_from id n es ≡ n
unfolding phase_of number_from
number_none id n [] e = refl
number_none id n (x ∷ es) e = let t = none_of (id_of x == id) (phase_of id es) e in number_none id (number_after id n x) es t.1 ∙ number_other id n x t.0

module _ (x : Shared) (did : DidEach x) (logs : List WorkerLog) (e : Ends) (ends : AreEndsOf x logs e) (r : Report) (made : IsMadeOf x.script logs e r) where
  abbrev EndsLater : Dated → Type 0
  EndsLater d = is_before d.number (end_of d.id (drop d.entries r.pool.items)) ≡ true

  -- what any worker dated ended later
  dated_shown : Each EndsLater (last x did logs e ends r made).core.turns.dated
  dated_shown j d at = subst (λ (es : List PoolEntry). is_before d.number (end_of d.id (drop d.entries es)) ≡ true) (sym made.pool) (ends.core.dated j d at).ended

  -- the registration in which a found cache's lookup lies ended after it
  pub founds_end : (worker k decl : ℕ) (y : Step) (f : Found) → slice_get (steps_of (workers x did logs e ends r made) worker) k ≡ Some y → option_and_then decl_named y.command ≡ Some decl → y.answered.found ≡ Some f
      → is_before f.number (end_of f.id (drop f.entry r.pool.items)) ≡ true
  founds_end worker k decl y f at named found =
      let t = has_last x did logs e ends r made worker k y at in
      let start = firsts_at_start ends.opened ends.standing in
      let h : IsFoundBy y decl f = ((are_steps x did logs e ends r made).each worker k y at).did.lookups.found decl f named found in
      each_among EndsLater y.after.core.turns.dated (record { id = f.id; number = f.number; entries = f.entry })
      (each_last EndsLater (λ (w : CrewState). w.seats.core.turns.dated) ends.lasts (last x did logs e ends r made).core.turns.dated start.core.turns.dated (joined_dated start ends.lasts) dated_shown worker t.state t.at y.after.core.turns.dated t.grows.dated) h.dated

  -- the last number of an id in the journal of registrations is at most its lookups
  pub last_printed : (id : ℕ) → last_number id r.pool.items ≤ lookups_at r id
  last_printed id = dite (dec_lt id x.script.ids)
      (λ near. let below : last_number id r.pool.items ≤ lookups_of (ends.core.look id) = subst (λ (es : List PoolEntry). last_number id es ≤ lookups_of (ends.core.look id)) (sym made.pool) (ends.core.numbers id (subst (λ (n : ℕ). id < n) (sym ends.shared.ids) near)) in
      omega (arith, below, pool.printed_lookups x did logs e ends r made id near))
      (λ far. let none = past_none x.script.ids (length x.script.caches.items) id r.pool.items (pool.journal x did logs e ends r made) (omega (arith, far)) in
      let first = number_none id 0 r.pool.items none in omega (arith, first))

-- the bit word of a node, a group and a unit
abbrev word : (ℕ → ℕ) → ℕ → ℕ → ℕ → MapEnd
word bits node group unit = record { node = node; group = group; unit = unit; bits = bits (map_number node group unit) }

-- ---- what holds of each bit word below some numbers holds of those that are printed
all_units : (P : MapEnd → Type 0) (units node group : ℕ) (bits : ℕ → ℕ) → ((unit : ℕ) → unit < units → P (word bits node group unit)) → AllByRecursion P (units_below units node group bits)
unfolding units_below
all_units P zero node group bits h = tt
all_units P (suc unit) node group bits h = each_append P (units_below unit node group bits) (word bits node group unit ∷ []) (all_units P unit node group bits (λ u lt. h u (omega (arith, lt)))) (h unit (omega arith), tt)

all_groups : (P : MapEnd → Type 0) (units groups node : ℕ) (bits : ℕ → ℕ) → ((group unit : ℕ) → 0 < group → group < groups → unit < units → P (word bits node group unit)) → AllByRecursion P (groups_below units groups node bits)
unfolding groups_below
all_groups P units zero node bits h = tt
all_groups P units (suc group) node bits h = each_append P (groups_below units group node bits) (if group == 0 then [] else units_below units node group bits)
    (all_groups P units group node bits (λ g u low lt near. h g u low (omega (arith, lt)) near)) (own group h) where
      own : (g : ℕ) → ((n unit : ℕ) → 0 < n → n < suc g → unit < units → P (word bits node n unit)) → AllByRecursion P (if g == 0 then [] else units_below units node g bits)
      own zero k = tt
      own (suc g) k = subst (λ (b : Bool). AllByRecursion P (if b then [] else units_below units node (suc g) bits)) (sym (ne_eqb (suc g) 0 (λ e. absurd (omega (arith, e)))))
          (all_units P units node (suc g) bits (λ u lt. k (suc g) u (omega arith) (omega arith) lt))

all_nodes : (P : MapEnd → Type 0) (units groups nodes : ℕ) (bits : ℕ → ℕ) → ((node group unit : ℕ) → node < nodes → 0 < group → group < groups → unit < units → P (word bits node group unit)) → AllByRecursion P (nodes_below units groups nodes bits)
unfolding nodes_below
all_nodes P units groups zero bits h = tt
all_nodes P units groups (suc node) bits h = each_append P (nodes_below units groups node bits) (groups_below units groups node bits)
    (all_nodes P units groups node bits (λ n g u lt low near there. h n g u (omega (arith, lt)) low near there)) (all_groups P units groups node bits (λ g u low near there. h node g u (omega arith) low near there))

module _ (x : Shared) (did : DidEach x) (logs : List WorkerLog) (e : Ends) (ends : AreEndsOf x logs e) (r : Report) (made : IsMadeOf x.script logs e r) where
  marked : (node group unit : ℕ) → node < x.core.setting.shape.nodes → 0 < group → group < groups_in x.core.setting.shape → unit < units_in x.core.setting.shape.ids
      → IsMarked x.script (workers x did logs e ends r made) (word ends.core.bits node group unit)
  marked node group unit near below low there bit few set =
      let sized = sized_of x ends.shared in let nodes = sized.nodes in let groups = sized.groups in let ids = ends.shared.ids in let same_nodes = ends.shared.nodes in
      let same = ap (λ (l : List ℕ). length l) (same_parents x ends.shared r (last x did logs e ends r made).core e.core ends.core made.places) in
      let in_node : node < x.script.nodes = omega (arith, near, same_nodes) in
      let in_group : group < length (parents_of x.script) = omega (arith, low, same) in
      let place : Place = bit_place (word ends.core.bits node group unit) (64 * unit + bit) in
      let m : ℕ = map_number node group unit in
      let one : bit_at (ends.core.bits m) bit ≡ 1 = eqb-true (bit_at (ends.core.bits m) bit) 1 set in
      let is_unit : m / 1024 ≡ unit = omega (arith, in_node, in_group, nodes, groups) in
      let id : 64 * (m / 1024) + bit < x.core.setting.shape.ids = ends.core.none_else m bit (omega (arith, there, in_node, in_group, nodes, groups)) few one in
      let in_ids : 64 * unit + bit < x.core.setting.shape.ids = omega (arith, id, is_unit) in
      let is : IsThere x.script place = record { id = omega (arith, in_ids, ids); node = in_node; group = in_group } in
      let map_is : map_of (place_number place) ≡ m = omega (arith, few, in_node, in_group, nodes, groups) in
      let bit_is : layout.place_bit (place_number place) ≡ bit = omega (arith, few, in_node, in_group, nodes, groups) in
      let table : bit_at (ends.core.bits (map_of (place_number place))) (layout.place_bit (place_number place)) ≡ 1 = ap (λ (n : ℕ). bit_at (ends.core.bits n) (layout.place_bit (place_number place))) map_is ∙ (ap (bit_at (ends.core.bits m)) bit_is ∙ one) in
      let set_by = ends.core.raised (place_number place) (omega (arith, in_ids, in_node, in_group, nodes, groups)) table in
      (is, subst (λ (l : List ℕ). 0 < times (place_number place) l) (sets_are x did logs e ends r made) set_by)

  pub marks : AllByRecursion (IsMarked x.script (workers x did logs e ends r made)) r.maps.items
  marks = subst (AllByRecursion (IsMarked x.script (workers x did logs e ends r made))) (sym (made.maps ∙ ends.core.maps))
      (all_nodes (IsMarked x.script (workers x did logs e ends r made)) (units_in x.core.setting.shape.ids) (groups_in x.core.setting.shape) x.core.setting.shape.nodes ends.core.bits marked)
