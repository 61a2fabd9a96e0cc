-- SPDX-License-Identifier: GPL-2.0-only
-- What each step makes of its seat's view, and what it tells besides.
use Rattle.std.specs.Prelude.{◌≡◌, ◌≢◌, ℕ, ◌+◌, ◌*◌, ◌%◌, ◌<◌, ◌≤◌, List, [], ◌∷◌, ◌++◌, cond, ◌==◌, ◌&&◌, nat_lt, Bool, true, false, length, slice_set, if◌then◌else◌, Option, Some, None, Contains, take, slice_get}
use Rattle.std.specs.Int.{bit_at}
use Rattle.atomic_table.specs.Table.{Me}
use Rattle.shr_base.specs.declared.objects.Object.{Object}
use Rattle.shr_base.specs.declared.ends.LookupWord.{LookupWord}
use Rattle.shr_base.specs.declared.journals.Entry.{Entry}
use Rattle.shr_base.specs.declared.journals.Entry.TheVariants.{Add, Look, Drop, Pin, Scan, MovedIn, Closed, Drained}
use Rattle.shr_base.specs.declared.journals.PoolEntry.{PoolEntry}
use Rattle.shr_base.specs.declared.journals.PoolEntry.TheVariants.{Registered, Unregistered, Idle}
use Rattle.shr_model.specs.Groups.{parent_of, is_child}
use Rattle.shr_model.specs.Items.{step, IsOutcome, is_closed, HasJournal}
use Rattle.shr_model.specs.Families.{MayStand, moved_in}
use Rattle.shr_model.specs.Pool.{phase_of, decl_of, is_live_decl, lowest_idle}
use Rattle.shr_list.specs.Listed.{Listed}
use Rattle.shr_seats.specs.Views.{Each}
use Rattle.shr_seats.specs.Standing.{with_split, with_join}
use Rattle.shr_seats.specs.Lines.{Deed, by_seat}
use Rattle.shr_seats.specs.Weights.{without, Begins}
use Rattle.shr_core.specs.declared.view.View.{View}
use Rattle.shr_core.specs.Slots.{Slot}
use Rattle.shr_seats.specs.declared.shape.Shape.{Shape}
use Rattle.shr_core.specs.Parts.{RoomContent, Hand, Claims, Dated, Event, counted, made, looked, loaded, turned, put_back, raised, cleared, mapped}
use Rattle.shr_core.specs.Lookup.{last_lookups}
use Rattle.shr_core.specs.Layout.{places_in, place_id, node_of, group_of, beside}
use Rattle.shr_core.specs.Rule.{blank, has_room, mark_of, IsInside, AreBorn, is_some_of}
use Rattle.shr_seats.specs.Shapes.{groups_in}

-- a seat as the table knows it: its view, and the slots that it has taken
abbrev pub Sat : Type 0
Sat = Me Slot View

-- what a view did, with one event more
abbrev pub noted : View → Event → List (Deed Event)
noted v e = v.did ++ record { seat = v.seat; act = e } ∷ []

-- a count word was loaded; a place without items is not owed
abbrev pub with_count : View → ℕ → ℕ → ℕ → View
with_count v k len version = record v {
  traces = record v.traces { seen = v.traces.seen ++ record { place = k; len = len; version = version } ∷ [] };
  marks = record v.marks { owed = cond (len == 0) (without k v.marks.owed) v.marks.owed };
  did = noted v (counted (record { place = k; len = len; version = version }));
}

-- a count is at least as late as all that the seat knows and has seen of the place, and within the
-- limits
pub record IsCounted (shape : Shape) (v : View) (k len version : ℕ) : Type 0 where
  pub known : Each (λ x. x.place ≡ k → length x.entries ≤ version) v.traces.known
  pub seen : Each (λ x. x.place ≡ k → x.version ≤ version) v.traces.seen
  pub made : Each (λ x. x.place ≡ k → x.number < version) v.traces.made
  pub items : len ≤ shape.most_items
  pub entries : version ≤ shape.most_entries + 1

-- a bit word was loaded; the places set by then stand beside it
abbrev pub with_map : View → ℕ → ℕ → View
with_map v map bits = record v {
  marks = record v.marks { maps = v.marks.maps ++ record { map = map; bits = bits; set = v.marks.sets } ∷ [] };
  did = noted v (mapped (record { map = map; bits = bits; set = v.marks.sets }));
}

-- each set bit of a map stands for an id
abbrev pub IsOfIds : ℕ → ℕ → ℕ → Type 0
IsOfIds ids unit bits = (b : ℕ) → b < 64 → bit_at bits b ≡ 1 → 64 * unit + b < ids

-- a bit was set, which ends what is owed
abbrev pub with_set : View → ℕ → View
with_set v k = record v { marks = record v.marks { owed = without k v.marks.owed; sets = v.marks.sets ++ k ∷ [] }; did = noted v (raised k) }

-- a bit was cleared, and is owed
abbrev pub with_clear : View → ℕ → View
with_clear v k = record v { marks = record v.marks { owed = v.marks.owed ++ k ∷ []; cleared = v.marks.cleared ++ k ∷ [] }; did = noted v (cleared k) }

-- what the room with this number has, among the rooms in hand
abbrev pub content_in : ℕ → List Hand → RoomContent
content_in r [] = record { entries = []; items = []; most_items = 0; most_entries = 0; pool = [] }
content_in r (h ∷ hs) = if h.room == r then h.content else content_in r hs

-- what the room with this number has in the hand of a view
abbrev pub in_hand : View → ℕ → RoomContent
in_hand v r = content_in r v.holding.hands

-- the rooms in hand, without one
abbrev pub without_room : ℕ → List Hand → List Hand
without_room r [] = []
without_room r (h ∷ hs) = if h.room == r then hs else (h ∷ without_room r hs)

-- the rooms in hand, with one's content changed
abbrev pub with_content : ℕ → RoomContent → List Hand → List Hand
with_content r c [] = []
with_content r c (h ∷ hs) = if h.room == r then (record { room = r; content = c } ∷ hs) else (h ∷ with_content r c hs)

-- a room was taken, with its content
abbrev pub with_taken : View → ℕ → RoomContent → View
with_taken v r c = record v { holding = record v.holding { hands = record { room = r; content = c } ∷ v.holding.hands } }

-- a room was tried in vain
abbrev pub with_try : View → ℕ → View
with_try v k = record v { traces = record v.traces { tries = v.traces.tries ++ k ∷ [] } }

-- What a taken place's room has: all that the seat knows of the journal is a beginning of it, and
-- the list is within the core's limits, with the objects that its journal leaves, born in groups of
-- the shape
pub record IsTaken (shape : Shape) (v : View) (k : ℕ) (c : RoomContent) : Type 0 where
  pub known : Each (λ x. x.place ≡ k → Begins x.entries c.entries) v.traces.known
  pub seen : Each (λ x. x.place ≡ k → x.version ≤ length c.entries) v.traces.seen
  pub made : Each (λ x. x.place ≡ k → x.number < length c.entries) v.traces.made
  pub items : length c.items ≤ shape.most_items
  pub entries : length c.entries ≤ shape.most_entries + 1
  pub most_items : c.most_items ≡ shape.most_items
  pub most_entries : c.most_entries ≡ shape.most_entries
  pub births : AreBorn (groups_in shape) c.items
  pub journal : HasJournal c.entries c.items
  -- the list of a child that is known to be closed was moved in
  pub moved : Each (λ x. (child : ℕ) → is_child shape.parents.items (group_of k) child ≡ true → x.place ≡ beside k child → is_closed x.entries ≡ true → Contains (moved_in c.entries) child) v.traces.known
  -- the list of a child in hand was moved in where it is closed, and not where it is open and no
  -- splice is under way
  pub child_closed : (child : ℕ) → is_child shape.parents.items (group_of k) child ≡ true → 0 < has_room (beside k child) v.holding → is_closed (in_hand v (beside k child)).entries ≡ true → Contains (moved_in c.entries) child
  pub child_open : (child : ℕ) → is_child shape.parents.items (group_of k) child ≡ true → 0 < has_room (beside k child) v.holding → is_closed (in_hand v (beside k child)).entries ≡ false → v.holding.half ≡ None → ¬ Contains (moved_in c.entries) child
  -- the journal is legal
  pub stands : (n : ℕ) (e : Entry) → slice_get c.entries n ≡ Some e → MayStand shape.parents.items (group_of k) (take n c.entries) e

-- what the taken pool has: all that the seat knows of it is a beginning, and what it made stands
-- there
pub record IsTakenPool (v : View) (pool : List PoolEntry) : Type 0 where
  pub known : Begins v.turns.known pool
  pub made : Each (λ x. x.number < length pool) v.turns.made

-- the items in hand are none
abbrev pub is_empty : List Object → Bool
is_empty [] = true
is_empty (x ∷ xs) = false

-- the place is that up to which the quiet owner's mark can fall
abbrev pub is_drained : Claims → ℕ → List Object → Bool
is_drained c k items = c.quiet && is_some_of (place_id k) c.owner && (mark_of c (node_of k) == group_of k + 1) && is_empty items

-- the marks after a place was seen to have these items, as its room is given back or by a load
abbrev pub drained_after : Claims → ℕ → List Object → List ℕ
drained_after c k items = cond (is_drained c k items) (slice_set c.drained (node_of k) (group_of k)) c.drained

-- the room is out of hand, and its journal is known; a quiet owner's mark moves over an empty list
abbrev pub with_given : View → ℕ → View
with_given v k = record v {
  holding = record v.holding { hands = without_room k v.holding.hands };
  traces = record v.traces { known = v.traces.known ++ record { place = k; entries = (in_hand v k).entries } ∷ [] };
  claims = record v.claims { drained = drained_after v.claims k (in_hand v k).items };
}

-- a load showed no item at a place: a quiet owner's mark moves over it, and nothing is noted
abbrev pub with_drained : View → ℕ → View
with_drained v k = record v { claims = record v.claims { drained = drained_after v.claims k [] } }

-- an id, if there is one, that is held by this number over a journal of so many entries
abbrev pub dating_of : Option ℕ → ℕ → ℕ → List Dated
dating_of None number entries = []
dating_of (Some id) number entries = record { id = id; number = number; entries = entries } ∷ []

-- the id that is held, if one is, over a journal of so many entries
abbrev pub dated_now : Claims → ℕ → List Dated
dated_now c entries = dating_of c.held c.number entries

-- the pool's room is out of hand, and its journal is known; an id that is held is dated
abbrev pub with_pool_given : View → ℕ → View
with_pool_given v r = record v {
  holding = record v.holding { hands = without_room r v.holding.hands };
  turns = record v.turns {
    known = (in_hand v r).pool;
    gives = v.turns.gives + 1;
    dated = v.turns.dated ++ dated_now v.claims (length (in_hand v r).pool);
  };
}

-- the last entry of a journal, or a Closed where there is none
abbrev pub last_entry : List Entry → Entry
last_entry [] = Closed
last_entry (e ∷ []) = e
last_entry (e ∷ x ∷ es) = last_entry (x ∷ es)

-- a place below the root whose length rises from 0 is owed
abbrev pub owed_after : ℕ → ℕ → ℕ → List ℕ → List ℕ
owed_after k old new owed = cond ((old == 0) && nat_lt 0 new && nat_lt 0 (group_of k)) (owed ++ k ∷ []) owed

-- the child's place whose splice is under way after an entry at a place, if one is
abbrev pub half_after : Option ℕ → ℕ → Entry → Option ℕ
half_after half k (Add by birth added key value) = half
half_after half k (Look by birth key hit) = half
half_after half k (Drop by birth key kind) = half
half_after half k (Pin by birth key pinned hit) = half
half_after half k (Scan worker walk asked policy visits freed stopped) = half
half_after half k (MovedIn child objects) = Some (beside k child)
half_after half k Closed = None
half_after half k (Drained by objects) = half

-- the count of a list in hand with one entry more was stored
abbrev pub with_stored : View → ℕ → Entry → List Object → View
with_stored v k e items = let c : RoomContent = in_hand v k in record v {
  holding = record { hands = with_content k (record c { entries = c.entries ++ e ∷ []; items = items }) v.holding.hands; half = half_after v.holding.half k e };
  traces = record v.traces { made = v.traces.made ++ record { place = k; number = length c.entries; entry = e; items = c.items } ∷ [] };
  marks = record v.marks { owed = owed_after k (length c.items) (length items) v.marks.owed };
  did = noted v (made (record { place = k; number = length c.entries; entry = e; items = c.items }));
}

-- an entry that is stored now has a number that is not below a version seen
abbrev pub IsLater : View → ℕ → Type 0
IsLater v k = Each (λ x. x.place ≡ k → x.version ≤ length (in_hand v k).entries) v.traces.seen

-- the objects that an entry moves: those that the child has in hand
abbrev pub moved_in_hand : View → ℕ → Entry → List Object
moved_in_hand v k (MovedIn child objects) = (in_hand v (beside k child)).items
moved_in_hand v k e = []

-- no splice is under way in the place, as its child or as its parent
abbrev pub IsUnspliced : Shape → View → ℕ → Type 0
IsUnspliced shape v k = (child : ℕ) → v.holding.half ≡ Some child → (k ≢ child) × (k ≢ beside child (parent_of shape.parents.items (group_of child)))

-- What an entry needs of the seat that stores it. An Add or a Scan needs that the seat holds the id,
-- and an Add that it is of a group. A Drained needs that the seat owns the id and that a load
-- showed no reference. A MovedIn needs the child's room, and is followed by the child's Closed.
-- Nothing else is stored in the two places between these two.
abbrev pub IsBacked : Shape → View → ℕ → Entry → Type 0
IsBacked shape v k (Add by birth added key value) = (v.claims.held ≡ Some (place_id k)) × (birth < groups_in shape) × IsUnspliced shape v k
IsBacked shape v k (Look by birth key hit) = IsUnspliced shape v k
IsBacked shape v k (Drop by birth key kind) = IsUnspliced shape v k
IsBacked shape v k (Pin by birth key pinned hit) = IsUnspliced shape v k
IsBacked shape v k (Scan worker walk asked policy visits freed stopped) = (v.claims.held ≡ Some (place_id k)) × IsUnspliced shape v k
IsBacked shape v k (MovedIn child objects) = (v.holding.half ≡ None) × (0 < has_room (beside k child) v.holding) × (is_closed (in_hand v (beside k child)).entries ≡ false)
IsBacked shape v k Closed = v.holding.half ≡ Some k
IsBacked shape v k (Drained by objects) = (v.claims.owner ≡ Some (place_id k)) × (v.claims.quiet ≡ true) × IsUnspliced shape v k

-- the list is the one in hand with one legal entry more, and the seat may store it
pub record MayStore (shape : Shape) (v : View) (k : ℕ) (list : Listed) : Type 0 where
  pub inside : IsInside shape k
  pub room : 0 < has_room k v.holding
  pub entries : list.entries ≡ (in_hand v k).entries ++ last_entry list.entries ∷ []
  pub stands : MayStand shape.parents.items (group_of k) (in_hand v k).entries (last_entry list.entries)
  pub outcome : IsOutcome (moved_in_hand v k (last_entry list.entries)) (in_hand v k).items (last_entry list.entries)
  pub items : list.items ≡ step (moved_in_hand v k (last_entry list.entries)) (in_hand v k).items (last_entry list.entries)
  pub backed : IsBacked shape v k (last_entry list.entries)
  pub few_items : length list.items ≤ shape.most_items
  pub few_entries : length list.entries ≤ shape.most_entries + 1

-- the places of other ids
abbrev pub without_id : ℕ → List ℕ → List ℕ
without_id i [] = []
without_id i (x ∷ xs) = if place_id x == i then without_id i xs else (x ∷ without_id i xs)

-- a lookup word was loaded: what is owed of an id that is not live ends, and its owner sees whether
-- it is quiet
abbrev pub with_word : View → ℕ → LookupWord → View
with_word v id w = record v {
  marks = record v.marks { owed = cond (w.phase % 3 == 1) v.marks.owed (without_id id v.marks.owed) };
  claims = record v.claims {
    loaded = v.claims.loaded ++ record { id = id; word = w } ∷ [];
    quiet = cond (is_some_of id v.claims.owner && (w.refs == 0)) true v.claims.quiet;
  };
  did = noted v (loaded (record { id = id; word = w }));
}

-- the load of a lookup: where there is a number left the seat may look up the id next
abbrev pub with_leave : View → ℕ → LookupWord → View
with_leave v id w = let u : View = with_word v id w in record u { claims = record u.claims { may = cond (nat_lt w.lookups last_lookups) (Some id) None } }

-- the load that gives up the owned id
abbrev pub with_given_up : View → ℕ → LookupWord → View
with_given_up v id w = let u : View = with_word v id w in record u { claims = record u.claims { owner = None; quiet = false; drained = [] } }

-- what a lookup answers by the word that it found
abbrev pub met_in : LookupWord → Option ℕ
met_in w = if w.phase % 3 == 1 then Some w.decl else None

-- the lookup: where the id was live it is held, and else probed
abbrev pub claimed : Claims → ℕ → LookupWord → Bool → Claims
claimed c id w live = record c {
  may = None;
  held = cond live (Some id) c.held;
  number = cond live w.lookups c.number;
  decl = cond live w.decl c.decl;
  probe = cond live c.probe (Some id);
  attempts = c.attempts ++ record { id = id; number = w.lookups; held = cond live (Some w.decl) None } ∷ [];
}

-- a lookup was made, and found this word
abbrev pub with_lookup : View → ℕ → LookupWord → View
with_lookup v id w = record v { claims = claimed v.claims id w (w.phase % 3 == 1); did = noted v (looked (record { id = id; number = w.lookups; held = cond (w.phase % 3 == 1) (Some w.decl) None })) }

-- the reference that a seat has is given back
abbrev pub put_events : Option ℕ → Option ℕ → List Event
put_events (Some i) probe = put_back i ∷ []
put_events None (Some i) = put_back i ∷ []
put_events None None = []

-- the reference was given back
abbrev pub with_put : View → View
with_put v = record v { claims = record v.claims { held = None; probe = None }; did = v.did ++ by_seat v.seat (put_events v.claims.held v.claims.probe) }

-- the entry of a phase step, by the word that it found
abbrev pub turn_at : ℕ → ℕ → LookupWord → PoolEntry
turn_at id decl w = cond (w.phase % 3 == 0) (Registered decl id w.lookups) (cond (w.phase % 3 == 1) (Unregistered decl id w.lookups) (Idle id))

-- the number of groups, once for each node
abbrev pub undrained : Shape → List ℕ
undrained shape = groups_in shape ∷ groups_in shape ∷ groups_in shape ∷ groups_in shape ∷ []

-- the phase of an id rose, with the pool in hand: the seat owns it from dying to idle
abbrev pub with_phase : Shape → View → ℕ → ℕ → LookupWord → View
with_phase shape v id decl w = let r : ℕ = places_in shape.ids in let c : RoomContent = in_hand v r in record v {
  holding = record v.holding { hands = with_content r (record c { pool = c.pool ++ turn_at id decl w ∷ [] }) v.holding.hands };
  claims = record v.claims {
    owner = cond (w.phase % 3 == 0) v.claims.owner (cond (w.phase % 3 == 1) (Some id) None);
    quiet = cond (w.phase % 3 == 0) v.claims.quiet false;
    drained = cond (w.phase % 3 == 0) v.claims.drained (cond (w.phase % 3 == 1) (undrained shape) []);
  };
  turns = record v.turns { made = v.turns.made ++ record { number = length c.pool; entry = turn_at id decl w } ∷ [] };
  did = noted v (turned (record { number = length c.pool; entry = turn_at id decl w }));
}

-- What a phase step needs, by the pool's journal in hand: from idle to live, that the declaration
-- is not live and the id is the lowest that can be registered; from live to dying, that the seat
-- owns no id; from dying to idle, that it owns the id and has drained it. The declaration is the
-- id's own unless the id is idle.
pub record MayPhase (shape : Shape) (v : View) (id decl : ℕ) : Type 0 where
  pub near : id < shape.ids
  pub declared : decl < shape.decls
  pub room : 0 < has_room (places_in shape.ids) v.holding
  pub to_live : phase_of id (in_hand v (places_in shape.ids)).pool % 3 ≡ 0 → is_live_decl shape.ids decl (in_hand v (places_in shape.ids)).pool ≡ false
  pub lowest : phase_of id (in_hand v (places_in shape.ids)).pool % 3 ≡ 0 → lowest_idle shape.ids (in_hand v (places_in shape.ids)).pool ≡ Some id
  pub to_dying : phase_of id (in_hand v (places_in shape.ids)).pool % 3 ≡ 1 → v.claims.owner ≡ None
  pub own : phase_of id (in_hand v (places_in shape.ids)).pool % 3 ≢ 0 → decl ≡ decl_of id (in_hand v (places_in shape.ids)).pool
  pub to_idle : phase_of id (in_hand v (places_in shape.ids)).pool % 3 ≡ 2 → (v.claims.owner ≡ Some id) × (v.claims.quiet ≡ true)
  pub drained : phase_of id (in_hand v (places_in shape.ids)).pool % 3 ≡ 2 → (node : ℕ) → node < shape.nodes → mark_of v.claims node ≡ 0

-- the first seat, once split
abbrev pub with_one_split : View → View
with_one_split v = record v { standing = with_split v.standing }

-- a seat that was split off knows the pool's entries that the first one knows
abbrev pub split_off : View → View
split_off v = record blank { turns = record { made = []; known = v.turns.known; gives = 0; heard = []; dated = [] }; seat = 1 + v.standing.splits }

-- what another seat has seen and made goes into the first
abbrev pub with_joined : View → View → View
with_joined v u = record v {
  traces = record { made = v.traces.made ++ u.traces.made; known = v.traces.known ++ u.traces.known; seen = v.traces.seen ++ u.traces.seen; tries = v.traces.tries ++ u.traces.tries };
  marks = record { owed = v.marks.owed; sets = v.marks.sets ++ u.marks.sets; cleared = v.marks.cleared ++ u.marks.cleared; maps = v.marks.maps ++ u.marks.maps };
  claims = record v.claims { attempts = v.claims.attempts ++ u.claims.attempts; loaded = v.claims.loaded ++ u.claims.loaded };
  turns = record v.turns { made = v.turns.made ++ u.turns.made; gives = v.turns.gives + u.turns.gives; heard = v.turns.heard ++ u.turns.known ∷ u.turns.heard; dated = v.turns.dated ++ u.turns.dated };
  standing = with_join v.standing;
  did = v.did ++ u.did;
}

-- the seat holds, owes, owns and has in hand nothing
pub record IsAtRest (v : View) : Type 0 where
  pub rooms : v.holding.hands ≡ []
  pub owed : v.marks.owed ≡ []
  pub held : v.claims.held ≡ None
  pub owner : v.claims.owner ≡ None
