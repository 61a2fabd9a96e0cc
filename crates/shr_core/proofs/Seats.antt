-- SPDX-License-Identifier: GPL-2.0-only
-- Splitting a seat, and taking one in, keep the rule.
use Rattle.shr_core.proofs.Common.{◌≡◌, ◌⊎◌, ℕ, ◌+◌, ◌<◌, ◌≢◌, true, false, List, [], ◌∷◌, ◌++◌, map, length, set, get_or, sym, refl, ap, ◌∙◌, inl, inr, ⊎_elim, arith, length-set, length-append, Some, None, none-some, length-map, some, get_elem?, Splits, Joins, at_map, set_else, PoolEntry, Each, AreSeats, total, times, only, Begins, total-append, total_join, Each-one, Each-set, Each-push, Each-append, Each-none, Each-join, Each-weaker, View, Slot, Shape, Setting, RoomContent, Hand, Holding, Traces, Marks, Claims, Turns, no_rooms, no_marks, no_claims, no_turns, counts_in, locks_in, bits_in, looks_in, homes_in, places_in, node_of, sizes_of, IsRoom, HasOwnEnd, Sound, Fits, IsRoomAtHome, Journals, Histories, AreRooms, AreRoomsOf, AreLists, AreInHand, AreTraces, IsMade, IsKnown, IsSeen, AreMarks, IsMapped, IsShown, HasOnlyIds, AreLookups, AreLookupsOf, IsTried, IsLoaded, IsHeld, AreOwned, IsOwner, AreTurns, AreDated, IsTurn, phases, is_room, has_room, hit, hit_attempt, hit_turn, spent, holding_of, traces_of, marks_of, claims_of, turns_of, view_standing, only_some, with_one_split, split_off, with_joined, AreSeats-split, AreSeats-join, no_traces, IsAtRest}
use mathlib.Core.Option.{Option}
use Rattle.shr_seats.proofs.Changed.{grown, kept, joined_list}
use Rattle.shr_core.proofs.Claiming.{R}
use Rattle.shr_core.proofs.Ordering as ordering
use Rattle.shr_core.proofs.Listing as listing
use Rattle.shr_core.proofs.Dating as dating
use Rattle.shr_core.proofs.Unregistering as unregistering

-- one more seat, which has nothing
room_more : (rooms : ℕ → Type 0) (lock : ℕ → ℕ) (home : ℕ → Option (Option Slot)) (keeps : ℕ → Slot → Type 0) (fits : ℕ → RoomContent → Type 0) (hs : List Holding) → AreRooms rooms lock home keeps fits hs → AreRooms rooms lock home keeps fits (hs ++ no_rooms ∷ [])
room_more rooms lock home keeps fits hs o = record {
  locks = λ r near. omega (arith, o.locks r near, total-append (has_room r) hs (no_rooms ∷ []));
  one = o.one;
  home = o.home;
  hand = Each-push (AreInHand rooms fits) hs no_rooms (Each-none (λ (h : Hand). rooms h.room × fits h.room h.content)) o.hand;
}

trace_more : (now : Journals) (after : Histories) (ts : List Traces) → AreTraces now after ts → AreTraces now after (ts ++ no_traces ∷ [])
trace_more now after ts o = record {
  once = λ k n. omega (arith, o.once k n, total-append (λ (t : Traces). total (hit k n) t.made) ts (no_traces ∷ []));
  made = Each-push (λ (t : Traces). Each (IsMade now after) t.made) ts no_traces (Each-none (IsMade now after)) o.made;
  known = Each-push (λ (t : Traces). Each (IsKnown now) t.known) ts no_traces (Each-none (IsKnown now)) o.known;
  seen = Each-push (λ (t : Traces). Each (IsSeen now after) t.seen) ts no_traces (Each-none (IsSeen now after)) o.seen;
}

mark_more : (ids : ℕ) (count bits phase : ℕ → ℕ) (ms : List Marks) → AreMarks ids count bits phase ms → AreMarks ids count bits phase (ms ++ no_marks ∷ [])
mark_more ids count bits phase ms o = let cleared : (k : ℕ) → total (λ (m : Marks). times k m.cleared) (ms ++ no_marks ∷ []) ≡ total (λ (m : Marks). times k m.cleared) ms = λ k. omega (arith, total-append (λ (m : Marks). times k m.cleared) ms (no_marks ∷ [])) in
    let sets : (k : ℕ) → total (λ (m : Marks). times k m.sets) (ms ++ no_marks ∷ []) ≡ total (λ (m : Marks). times k m.sets) ms = λ k. omega (arith, total-append (λ (m : Marks). times k m.sets) ms (no_marks ∷ [])) in record {
      flagged = λ k near below live some-items. ⊎_elim inl (λ h. inr (omega (arith, h, total-append (λ (m : Marks). times k m.owed) ms (no_marks ∷ [])))) (o.flagged k near below live some-items);
      settled = λ k near some-set none-cleared. o.settled k near (omega (arith, some-set, total-append (λ (m : Marks). times k m.sets) ms (no_marks ∷ []))) (omega (arith, none-cleared, cleared k));
      mapped = Each-push (λ (m : Marks). Each (IsMapped (places_in ids) (ms ++ no_marks ∷ [])) m.maps) ms no_marks (Each-none (IsMapped (places_in ids) (ms ++ no_marks ∷ [])))
          (λ j m e. Each-weaker (IsMapped (places_in ids) ms) (IsMapped (places_in ids) (ms ++ no_marks ∷ [])) (λ x old k near same was none-cleared. old k near same was (omega (arith, none-cleared, cleared k))) m.maps (o.mapped j m e));
      raised = λ k near is-one. omega (arith, o.raised k near is-one, sets k);
      shown = Each-push (λ (m : Marks). Each (IsShown (places_in ids) (ms ++ no_marks ∷ [])) m.maps) ms no_marks (Each-none (IsShown (places_in ids) (ms ++ no_marks ∷ [])))
          (λ j m e. Each-weaker (IsShown (places_in ids) ms) (IsShown (places_in ids) (ms ++ no_marks ∷ [])) (λ x old k near same is-one. omega (arith, old k near same is-one, sets k)) m.maps (o.shown j m e));
      none_else = o.none_else;
      none_shown = Each-push (λ (m : Marks). Each (HasOnlyIds ids) m.maps) ms no_marks (Each-none (HasOnlyIds ids)) o.none_shown;
    }

claim_more : (ids first : ℕ) (look : ℕ → ℕ) (pool : List PoolEntry) (cs : List Claims) → length cs < 65 → AreLookups ids first look pool cs → AreLookups ids first look pool (cs ++ no_claims ∷ [])
claim_more ids first look pool cs few o = record {
  few = omega (arith, few, length-append cs (no_claims ∷ []));
  refs = λ i near. omega (arith, o.refs i near, total-append (R i) cs (no_claims ∷ []));
  apart = Each-push (λ (c : Claims). (c.held ≡ None) ⊎ (c.probe ≡ None)) cs no_claims (inl refl) o.apart;
  space = λ i near. omega (arith, o.space i near, total-append (λ (c : Claims). only_some i c.may) cs (no_claims ∷ []));
  low = o.low;
  phase = o.phase;
  decl = o.decl;
  edges = o.edges;
  ended = o.ended;
  numbers = o.numbers;
  began = o.began;
  once = λ i n near. omega (arith, o.once i n near, total-append (λ (c : Claims). total (hit_attempt i n) c.attempts) cs (no_claims ∷ []));
  tried = Each-push (λ (c : Claims). Each (IsTried ids pool) c.attempts) cs no_claims (Each-none (IsTried ids pool)) o.tried;
  loaded = Each-push (λ (c : Claims). Each (IsLoaded ids look) c.loaded) cs no_claims (Each-none (IsLoaded ids look)) o.loaded;
  held = Each-push (λ (c : Claims). (i : ℕ) → c.held ≡ Some i → IsHeld ids look pool c i) cs no_claims (λ i e. absurd (none-some i e)) o.held;
}

own_more : (shape : Shape) (now : Journals) (after : Histories) (pool : List PoolEntry) (cs : List Claims) → AreOwned shape now after pool cs → AreOwned shape now after pool (cs ++ no_claims ∷ [])
own_more shape now after pool cs o = let held : (i : ℕ) → total (λ (d : Claims). only_some i d.held) (cs ++ no_claims ∷ []) ≡ total (λ (d : Claims). only_some i d.held) cs = λ i. omega (arith, total-append (λ (d : Claims). only_some i d.held) cs (no_claims ∷ [])) in record {
  one = λ i. omega (arith, o.one i, total-append (λ (c : Claims). only_some i c.owner) cs (no_claims ∷ []));
  owner = Each-push (λ (c : Claims). (i : ℕ) → c.owner ≡ Some i → IsOwner shape now after pool (cs ++ no_claims ∷ []) c i) cs no_claims (λ i e. absurd (none-some i e))
      (λ j c f i e. let d = o.owner j c f i e in record { near = d.near; dying = d.dying; quiet = (λ q. held i ∙ d.quiet q); nodes = d.nodes; unmoved = d.unmoved; drained = d.drained });
  outside = o.outside;
  resting = o.resting;
}

turn_more : (ids decls : ℕ) (pool : List PoolEntry) (ts : List Turns) (known : List PoolEntry) → Begins known pool → AreTurns ids decls pool ts → AreTurns ids decls pool (ts ++ record { made = []; known = known; gives = 0; heard = []; dated = [] } ∷ [])
turn_more ids decls pool ts known is o = let new : Turns = record { made = []; known = known; gives = 0; heard = []; dated = [] } in record {
  once = λ n. omega (arith, o.once n, total-append (λ (t : Turns). total (hit_turn n) t.made) ts (new ∷ []));
  made = Each-push (λ (t : Turns). Each (IsTurn pool) t.made) ts new (Each-none (IsTurn pool)) o.made;
  known = Each-push (λ (t : Turns). Begins t.known pool) ts new is o.known;
  heard = Each-push (λ (t : Turns). Each (λ (k : List PoolEntry). Begins k pool) t.heard) ts new (Each-none (λ (k : List PoolEntry). Begins k pool)) o.heard;
  journal = o.journal;
}

false_true : false ≡ true → ⊥
false_true e = cc

-- the rule holds after a split of the first seat
pub splits : (key : Setting) (id : ℕ) (v : View) → v.standing.first ≡ true → v.standing.gone ≡ false → v.standing.splits < 64 → Splits (Sound key) id v (with_one_split v) (split_off v)
splits key id v is present few s o me = let q = o.rules in let w : View = with_one_split v in let new : View = split_off v in
    let at = at_map view_standing s.views id v me in
    let shorter : length (map claims_of s.views) < 65 = omega (arith, length-map s.views claims_of, length-map s.views view_standing, q.seated.number id v.standing at is, few) in record {
      now = o.now;
      after = o.after;
      pool = o.pool;
      sized = o.sized;
      wide = o.wide;
      deep = o.deep;
      emptied = Each-push (λ (x : View). x.standing.gone ≡ true → x ≡ spent) (set s.views id w) new (λ t. absurd (false_true t)) (Each-set (λ (x : View). x.standing.gone ≡ true → x ≡ spent) s.views id w (λ t. absurd (false_true (sym present ∙ t))) o.emptied);
      ended = Each-push (HasOwnEnd o.pool) (set s.views id w) new (λ i e. absurd (none-some i e)) (Each-set (HasOwnEnd o.pool) s.views id w (o.ended id v me) o.ended);
      ordered = ordering.splits key.shape.ids key.first_lookup o.now o.pool (bits_in (sizes_of key.shape) s.words) (looks_in s.words) s.views id v me present o.ordered (sym (length-map s.views view_standing) ∙ o.rules.seated.number id v.standing (at_map view_standing s.views id v me) is);
      rules = record {
        counted = q.counted;
        roomed = kept s.views id v me holding_of w new (AreRoomsOf key o.now o.after o.pool (locks_in (sizes_of key.shape) s.words) s.homes) refl (room_more (IsRoom key.shape) (locks_in (sizes_of key.shape) s.words) (homes_in (sizes_of key.shape) s.homes) (IsRoomAtHome key.shape o.now o.after o.pool) (Fits key.shape o.now o.after o.pool) (map holding_of s.views) q.roomed);
        listed = kept s.views id v me holding_of w new (AreLists key.shape.parents.items o.now o.after) refl (listing.more key.shape.parents.items o.now o.after (map holding_of s.views) q.listed);
        traced = kept s.views id v me traces_of w new (AreTraces o.now o.after) refl (trace_more o.now o.after (map traces_of s.views) q.traced);
        marked = kept s.views id v me marks_of w new (AreMarks key.shape.ids (counts_in (sizes_of key.shape) s.words) (bits_in (sizes_of key.shape) s.words) (phases o.pool)) refl (mark_more key.shape.ids (counts_in (sizes_of key.shape) s.words) (bits_in (sizes_of key.shape) s.words) (phases o.pool) (map marks_of s.views) q.marked);
        looked = kept s.views id v me claims_of w new (AreLookupsOf key (looks_in s.words) o.pool) refl (claim_more key.shape.ids key.first_lookup (looks_in s.words) o.pool (map claims_of s.views) shorter q.looked);
        owned = kept s.views id v me claims_of w new (AreOwned key.shape o.now o.after o.pool) refl (own_more key.shape o.now o.after o.pool (map claims_of s.views) q.owned);
        turned = kept s.views id v me turns_of w new (AreTurns key.shape.ids key.shape.decls o.pool) refl (turn_more key.shape.ids key.shape.decls o.pool (map turns_of s.views) v.turns.known (q.turned.known id v.turns (at_map turns_of s.views id v me)) q.turned);
        dated = kept s.views id v me turns_of w new (AreDated key.shape.ids (looks_in s.words) o.pool) refl (dating.more key.shape.ids (looks_in s.words) o.pool (map turns_of s.views) new.turns refl q.dated);
        seated = grown s.views id v me view_standing w new AreSeats (AreSeats-split (map view_standing s.views) id v.standing at is q.seated);
      };
    }

room_join : (rooms : ℕ → Type 0) (lock : ℕ → ℕ) (home : ℕ → Option (Option Slot)) (keeps : ℕ → Slot → Type 0) (fits : ℕ → RoomContent → Type 0) (hs : List Holding) (id other : ℕ) (v u : Holding) → get_elem? hs id ≡ some v → other ≢ id → get_elem? hs other ≡ some u → u.hands ≡ []
    → AreRooms rooms lock home keeps fits hs → AreRooms rooms lock home keeps fits (set (set hs id v) other no_rooms)
room_join rooms lock home keeps fits hs id other v u at apart them none o = record {
  locks = λ r near. omega (arith, o.locks r near, total_join (has_room r) hs id other v u v no_rooms at apart them, ap (λ (l : List Hand). total (is_room r) l) none);
  one = o.one;
  home = o.home;
  hand = Each-join (AreInHand rooms fits) hs id other v no_rooms (o.hand id v at) (Each-none (λ (h : Hand). rooms h.room × fits h.room h.content)) o.hand;
}

trace_join : (now : Journals) (after : Histories) (ts : List Traces) (id other : ℕ) (v u : Traces) → get_elem? ts id ≡ some v → other ≢ id → get_elem? ts other ≡ some u
    → AreTraces now after ts → AreTraces now after (set (set ts id (record { made = v.made ++ u.made; known = v.known ++ u.known; seen = v.seen ++ u.seen; tries = v.tries ++ u.tries })) other no_traces)
trace_join now after ts id other v u at apart them o = let b : Traces = record { made = v.made ++ u.made; known = v.known ++ u.known; seen = v.seen ++ u.seen; tries = v.tries ++ u.tries } in record {
  once = λ k n. omega (arith, o.once k n, total_join (λ (t : Traces). total (hit k n) t.made) ts id other v u b no_traces at apart them, total-append (hit k n) v.made u.made);
  made = Each-join (λ (t : Traces). Each (IsMade now after) t.made) ts id other b no_traces (Each-append (IsMade now after) v.made u.made (o.made id v at) (o.made other u them)) (Each-none (IsMade now after)) o.made;
  known = Each-join (λ (t : Traces). Each (IsKnown now) t.known) ts id other b no_traces (Each-append (IsKnown now) v.known u.known (o.known id v at) (o.known other u them)) (Each-none (IsKnown now)) o.known;
  seen = Each-join (λ (t : Traces). Each (IsSeen now after) t.seen) ts id other b no_traces (Each-append (IsSeen now after) v.seen u.seen (o.seen id v at) (o.seen other u them)) (Each-none (IsSeen now after)) o.seen;
}

mark_join : (ids : ℕ) (count bits phase : ℕ → ℕ) (ms : List Marks) (id other : ℕ) (v u : Marks) → get_elem? ms id ≡ some v → other ≢ id → get_elem? ms other ≡ some u → u.owed ≡ []
    → AreMarks ids count bits phase ms → AreMarks ids count bits phase (set (set ms id (record { owed = v.owed; sets = v.sets ++ u.sets; cleared = v.cleared ++ u.cleared; maps = v.maps ++ u.maps })) other no_marks)
mark_join ids count bits phase ms id other v u at apart them none o = let places : ℕ = places_in ids in let b : Marks = record { owed = v.owed; sets = v.sets ++ u.sets; cleared = v.cleared ++ u.cleared; maps = v.maps ++ u.maps } in let ms' : List Marks = set (set ms id b) other no_marks in
    let cleared : (k : ℕ) → total (λ (m : Marks). times k m.cleared) ms' ≡ total (λ (m : Marks). times k m.cleared) ms = λ k. omega (arith, total_join (λ (m : Marks). times k m.cleared) ms id other v u b no_marks at apart them, total-append (only k) v.cleared u.cleared) in
    let sets : (k : ℕ) → total (λ (m : Marks). times k m.sets) ms' ≡ total (λ (m : Marks). times k m.sets) ms = λ k. omega (arith, total_join (λ (m : Marks). times k m.sets) ms id other v u b no_marks at apart them, total-append (only k) v.sets u.sets) in
    let old-shown : (m : Marks) → Each (IsShown places ms) m.maps → Each (IsShown places ms') m.maps = λ m. Each-weaker (IsShown places ms) (IsShown places ms') (λ x was k near same is-one. omega (arith, was k near same is-one, sets k)) m.maps in
    let old : (m : Marks) → Each (IsMapped places ms) m.maps → Each (IsMapped places ms') m.maps = λ m. Each-weaker (IsMapped places ms) (IsMapped places ms') (λ x was k near same some-set none-cleared. was k near same some-set (omega (arith, none-cleared, cleared k))) m.maps in record {
      flagged = λ k near below live some-items. ⊎_elim inl (λ h. inr (omega (arith, h, total_join (λ (m : Marks). times k m.owed) ms id other v u b no_marks at apart them, ap (times k) none))) (o.flagged k near below live some-items);
      settled = λ k near some-set none-cleared. o.settled k near (omega (arith, some-set, total_join (λ (m : Marks). times k m.sets) ms id other v u b no_marks at apart them, total-append (only k) v.sets u.sets)) (omega (arith, none-cleared, cleared k));
      mapped = Each-join (λ (m : Marks). Each (IsMapped places ms') m.maps) ms id other b no_marks (Each-append (IsMapped places ms') v.maps u.maps (old v (o.mapped id v at)) (old u (o.mapped other u them))) (Each-none (IsMapped places ms')) (λ j m e. old m (o.mapped j m e));
      raised = λ k near is-one. omega (arith, o.raised k near is-one, sets k);
      shown = Each-join (λ (m : Marks). Each (IsShown places ms') m.maps) ms id other b no_marks (Each-append (IsShown places ms') v.maps u.maps (old-shown v (o.shown id v at)) (old-shown u (o.shown other u them))) (Each-none (IsShown places ms')) (λ j m e. old-shown m (o.shown j m e));
      none_else = o.none_else;
      none_shown = Each-join (λ (m : Marks). Each (HasOnlyIds ids) m.maps) ms id other b no_marks (Each-append (HasOnlyIds ids) v.maps u.maps (o.none_shown id v at) (o.none_shown other u them)) (Each-none (HasOnlyIds ids)) o.none_shown;
    }

claim_join : (ids first : ℕ) (look : ℕ → ℕ) (pool : List PoolEntry) (cs : List Claims) (id other : ℕ) (v u : Claims) → get_elem? cs id ≡ some v → other ≢ id → get_elem? cs other ≡ some u → u.may ≡ None → u.held ≡ None → u.probe ≡ None
    → AreLookups ids first look pool cs → AreLookups ids first look pool (set (set cs id (record v { attempts = v.attempts ++ u.attempts; loaded = v.loaded ++ u.loaded })) other no_claims)
claim_join ids first look pool cs id other v u at apart them may held probe o = let b : Claims = record v { attempts = v.attempts ++ u.attempts; loaded = v.loaded ++ u.loaded } in record {
  few = omega (arith, o.few, length-set (set cs id b) other no_claims, length-set cs id b);
  refs = λ i near. omega (arith, o.refs i near, total_join (R i) cs id other v u b no_claims at apart them, ap (only_some i) held, ap (only_some i) probe);
  apart = Each-join (λ (c : Claims). (c.held ≡ None) ⊎ (c.probe ≡ None)) cs id other b no_claims (o.apart id v at) (inl refl) o.apart;
  space = λ i near. omega (arith, o.space i near, total_join (λ (c : Claims). only_some i c.may) cs id other v u b no_claims at apart them, ap (only_some i) may);
  low = o.low;
  phase = o.phase;
  decl = o.decl;
  edges = o.edges;
  ended = o.ended;
  numbers = o.numbers;
  began = o.began;
  once = λ i n near. omega (arith, o.once i n near, total_join (λ (c : Claims). total (hit_attempt i n) c.attempts) cs id other v u b no_claims at apart them, total-append (hit_attempt i n) v.attempts u.attempts);
  tried = Each-join (λ (c : Claims). Each (IsTried ids pool) c.attempts) cs id other b no_claims (Each-append (IsTried ids pool) v.attempts u.attempts (o.tried id v at) (o.tried other u them)) (Each-none (IsTried ids pool)) o.tried;
  loaded = Each-join (λ (c : Claims). Each (IsLoaded ids look) c.loaded) cs id other b no_claims (Each-append (IsLoaded ids look) v.loaded u.loaded (o.loaded id v at) (o.loaded other u them)) (Each-none (IsLoaded ids look)) o.loaded;
  held = Each-join (λ (c : Claims). (i : ℕ) → c.held ≡ Some i → IsHeld ids look pool c i) cs id other b no_claims (λ i e. let t = o.held id v at i e in record { near = t.near; busy = t.busy; below = t.below; last = t.last; decl = t.decl; met = t.met }) (λ i e. absurd (none-some i e)) o.held;
}

own_join : (shape : Shape) (now : Journals) (after : Histories) (pool : List PoolEntry) (cs : List Claims) (id other : ℕ) (v u b : Claims) → get_elem? cs id ≡ some v → other ≢ id → get_elem? cs other ≡ some u → b.owner ≡ v.owner → b.held ≡ v.held → b.quiet ≡ v.quiet → b.drained ≡ v.drained → u.owner ≡ None → u.held ≡ None
    → AreOwned shape now after pool cs → AreOwned shape now after pool (set (set cs id b) other no_claims)
own_join shape now after pool cs id other v u b at apart them a₁ a₂ a₃ a₄ owner held o =
    let cs' : List Claims = set (set cs id b) other no_claims in
    let holds : (i : ℕ) → total (λ (d : Claims). only_some i d.held) cs' ≡ total (λ (d : Claims). only_some i d.held) cs = λ i. omega (arith, total_join (λ (d : Claims). only_some i d.held) cs id other v u b no_claims at apart them, ap (only_some i) held, ap (only_some i) a₂) in record {
      one = λ i. omega (arith, o.one i, total_join (λ (d : Claims). only_some i d.owner) cs id other v u b no_claims at apart them, ap (only_some i) owner, ap (only_some i) a₁);
      owner = Each-join (λ (c : Claims). (i : ℕ) → c.owner ≡ Some i → IsOwner shape now after pool cs' c i) cs id other b no_claims
          (λ i e. let d = o.owner id v at i (sym a₁ ∙ e) in record {
            near = d.near;
            dying = d.dying;
            quiet = (λ q. holds i ∙ d.quiet (sym a₃ ∙ q));
            nodes = ap (λ (l : List ℕ). length l) a₄ ∙ d.nodes;
            unmoved = (λ n node small. omega (arith, d.unmoved (sym a₃ ∙ n) node small, ap (λ (l : List ℕ). get_or l node 0) a₄));
            drained = (λ k place mark. d.drained k place (omega (arith, mark, ap (λ (l : List ℕ). get_or l (node_of k) 0) a₄)));
          })
          (λ i e. absurd (none-some i e))
          (λ j c f i e. let d = o.owner j c f i e in record { near = d.near; dying = d.dying; quiet = (λ q. holds i ∙ d.quiet q); nodes = d.nodes; unmoved = d.unmoved; drained = d.drained });
      outside = o.outside;
      resting = o.resting;
    }

turn_join : (ids decls : ℕ) (pool : List PoolEntry) (ts : List Turns) (id other : ℕ) (v u : Turns) → get_elem? ts id ≡ some v → other ≢ id → get_elem? ts other ≡ some u
    → AreTurns ids decls pool ts → AreTurns ids decls pool (set (set ts id (record v { made = v.made ++ u.made; gives = v.gives + u.gives; heard = v.heard ++ u.known ∷ u.heard; dated = v.dated ++ u.dated })) other no_turns)
turn_join ids decls pool ts id other v u at apart them o = let b : Turns = record v { made = v.made ++ u.made; gives = v.gives + u.gives; heard = v.heard ++ u.known ∷ u.heard; dated = v.dated ++ u.dated } in record {
  once = λ n. omega (arith, o.once n, total_join (λ (t : Turns). total (hit_turn n) t.made) ts id other v u b no_turns at apart them, total-append (hit_turn n) v.made u.made);
  made = Each-join (λ (t : Turns). Each (IsTurn pool) t.made) ts id other b no_turns (Each-append (IsTurn pool) v.made u.made (o.made id v at) (o.made other u them)) (Each-none (IsTurn pool)) o.made;
  known = Each-join (λ (t : Turns). Begins t.known pool) ts id other b no_turns (o.known id v at) (pool, refl) o.known;
  heard = Each-join (λ (t : Turns). Each (λ (k : List PoolEntry). Begins k pool) t.heard) ts id other b no_turns (Each-append (λ (k : List PoolEntry). Begins k pool) v.heard (u.known ∷ u.heard) (o.heard id v at) (Each-append (λ (k : List PoolEntry). Begins k pool) (u.known ∷ []) u.heard (Each-one (λ (k : List PoolEntry). Begins k pool) u.known (o.known other u them)) (o.heard other u them))) (Each-none (λ (k : List PoolEntry). Begins k pool)) o.heard;
  journal = o.journal;
}

-- the rule holds after another seat at rest is joined into the first
pub joins : (key : Setting) (id : ℕ) (v : View) (other : ℕ) (u : View) → v.standing.first ≡ true → v.standing.gone ≡ false → u.standing.gone ≡ false → u.claims.may ≡ None → u.claims.probe ≡ None → IsAtRest u → Joins (Sound key) id v other u (with_joined v u) spent
joins key id v other u is present here may probe rest s o me apart them = let q = o.rules in let w : View = with_joined v u in
    let there : get_elem? s.views other ≡ some u = sym (set_else s.views id other w apart) ∙ them in record {
      now = o.now;
      after = o.after;
      pool = o.pool;
      sized = o.sized;
      wide = o.wide;
      deep = o.deep;
      emptied = Each-join (λ (x : View). x.standing.gone ≡ true → x ≡ spent) s.views id other w spent (λ t. absurd (false_true (sym present ∙ t))) (λ _. refl) o.emptied;
      ended = Each-join (HasOwnEnd o.pool) s.views id other w spent (λ i e. unregistering.more i o.pool v.turns.made u.turns.made (o.ended id v me i e)) (λ i e. absurd (none-some i e)) o.ended;
      ordered = ordering.joins key.shape.ids key.first_lookup o.now o.pool (bits_in (sizes_of key.shape) s.words) (looks_in s.words) s.views id v me present o.ordered other u apart there here (ordering.no_refs u.claims.held u.claims.probe rest.held probe);
      rules = record {
        counted = q.counted;
        roomed = joined_list holding_of (AreRoomsOf key o.now o.after o.pool (locks_in (sizes_of key.shape) s.words) s.homes) s.views id other w spent
            (room_join (IsRoom key.shape) (locks_in (sizes_of key.shape) s.words) (homes_in (sizes_of key.shape) s.homes) (IsRoomAtHome key.shape o.now o.after o.pool) (Fits key.shape o.now o.after o.pool) (map holding_of s.views) id other v.holding u.holding (at_map holding_of s.views id v me) apart (at_map holding_of s.views other u there) rest.rooms q.roomed);
        listed = joined_list holding_of (AreLists key.shape.parents.items o.now o.after) s.views id other w spent
            (listing.joins key.shape.parents.items o.now o.after (map holding_of s.views) id other v.holding u.holding (at_map holding_of s.views id v me) apart (at_map holding_of s.views other u there) rest.rooms q.listed);
        traced = joined_list traces_of (AreTraces o.now o.after) s.views id other w spent (trace_join o.now o.after (map traces_of s.views) id other v.traces u.traces (at_map traces_of s.views id v me) apart (at_map traces_of s.views other u there) q.traced);
        marked = joined_list marks_of (AreMarks key.shape.ids (counts_in (sizes_of key.shape) s.words) (bits_in (sizes_of key.shape) s.words) (phases o.pool)) s.views id other w spent
            (mark_join key.shape.ids (counts_in (sizes_of key.shape) s.words) (bits_in (sizes_of key.shape) s.words) (phases o.pool) (map marks_of s.views) id other v.marks u.marks (at_map marks_of s.views id v me) apart (at_map marks_of s.views other u there) rest.owed q.marked);
        looked = joined_list claims_of (AreLookupsOf key (looks_in s.words) o.pool) s.views id other w spent
            (claim_join key.shape.ids key.first_lookup (looks_in s.words) o.pool (map claims_of s.views) id other v.claims u.claims (at_map claims_of s.views id v me) apart (at_map claims_of s.views other u there) may rest.held probe q.looked);
        owned = joined_list claims_of (AreOwned key.shape o.now o.after o.pool) s.views id other w spent
            (own_join key.shape o.now o.after o.pool (map claims_of s.views) id other v.claims u.claims w.claims (at_map claims_of s.views id v me) apart (at_map claims_of s.views other u there) refl refl refl refl rest.owner rest.held q.owned);
        turned = joined_list turns_of (AreTurns key.shape.ids key.shape.decls o.pool) s.views id other w spent (turn_join key.shape.ids key.shape.decls o.pool (map turns_of s.views) id other v.turns u.turns (at_map turns_of s.views id v me) apart (at_map turns_of s.views other u there) q.turned);
        dated = joined_list turns_of (AreDated key.shape.ids (looks_in s.words) o.pool) s.views id other w spent (dating.joins key.shape.ids (looks_in s.words) o.pool (map turns_of s.views) id other v.turns u.turns w.turns (at_map turns_of s.views id v me) (at_map turns_of s.views other u there) refl q.dated);
        seated = joined_list view_standing AreSeats s.views id other w spent (AreSeats-join (map view_standing s.views) id other v.standing u.standing (at_map view_standing s.views id v me) apart (at_map view_standing s.views other u there) is here q.seated);
      };
    }
