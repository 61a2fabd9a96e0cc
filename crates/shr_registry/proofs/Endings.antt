-- SPDX-License-Identifier: GPL-2.0-only
-- What unregistering leaves as a whole.
use Rattle.shr_registry.proofs.Common.{◌≡◌, ℕ, ◌+◌, ◌<◌, ◌≤◌, List, [], ◌∷◌, ◌++◌, length, take, false, true, sym, refl, ap, subst, ◌∙◌, ⊎_elim, arith, eq-eqb, length-append, append-nil, LookupWord, Object, Serial, PoolEntry, Unregistered, Idle, Contains, Some, None, HalfWhy, place_number, Each, Begins, begins_more, View, Shape, Claims, Made, Turn, no_rooms, places_in, HasLastEnd, pool_content, with_taken, with_pool_given, undrained, Brings, Loads, only_pool, IsFree, made_from, AreNodeDraws, AreDrained, StoppedBy, Dies, Rests, UnregisterGives, ended_turn, Draw, group_place, Gained, nothing, then_gained, phase_of, at_last, some, get_elem?, begins_push, Counted, Known, Traces, IsCounted, with_given_up, StopsIn, IsFilled, at_longer, at_snoc, take-append-le}
use Rattle.shr_base.specs.declared.replies.HalfWhy.TheVariants as why
use Rattle.shr_base.specs.declared.replies.Spent.TheVariants as spent
use Rattle.shr_list.specs.Listed.{Listed}
use Rattle.shr_node.proofs.Gaining.{each_before}
use Rattle.shr_registry.specs.declared.answers.UnregisterAnswer.TheVariants as unregister
use Rattle.shr_core.proofs.Gains.{of_given_up}
use Rattle.std.proofs.Math.Seq.{take-append_seam}
use Rattle.shr_registry.proofs.Searches.{loads_word}
use Rattle.shr_registry.proofs.Adds.{brings_then, brings_loads, brings_gains, brings_between, journal}

-- the step to idle, once the pool is given back
pub rests_given : (shape : Shape) (v u w z : View) (old new : List PoolEntry) (id : ℕ) → u ≡ with_taken v (places_in shape.ids) (pool_content old) → Begins v.turns.known old → w.holding ≡ only_pool shape new → new ≡ old ++ Idle id ∷ []
    → w.turns.known ≡ u.turns.known → z ≡ with_pool_given w (places_in shape.ids) → Rests u w id old 0 → (then : List PoolEntry) × Begins v.turns.known then × (z.turns.known ≡ then ++ Idle id ∷ []) × Rests v z id then 1
rests_given shape v u w z old new id taken begins holding grown same given r = (
  old,
  begins,
  ap (λ (x : View). x.turns.known) given ∙ (journal shape w new holding ∙ grown),
  record {
    owner = ap (λ (x : View). x.claims.owner) given ∙ r.owner;
    held = ap (λ (x : View). x.claims.held) given ∙ (r.held ∙ ap (λ (x : View). x.claims.held) taken);
    end = subst (λ (x : View). HasLastEnd id old x.turns.made) taken r.end;
    gains = brings_between shape v u w z old new (record nothing { turns = record { number = length old; entry = Idle id } ∷ [] }) taken (subst (Begins v.turns.known) (sym grown) (begins_more v.turns.known old (old ++ Idle id ∷ []) begins (begins_push old (Idle id)))) holding same given r.gains;
  },
)

-- the load that gives the id up
brings_given_up : (v : View) (id : ℕ) (word : LookupWord) → Brings v (with_given_up v id word) nothing
brings_given_up v id word = record { words = record { id = id; word = word } ∷ []; adds = of_given_up v id word; owed = (loads_word v id word).owed }

-- the seat's own Unregistered is the id's last entry before the Idle
between : (id decl to : ℕ) (before then : List PoolEntry) (made : List Turn) → Begins (before ++ Unregistered decl id to ∷ []) then → Each (λ (t : Turn). t.number < length before) made → HasLastEnd id then (made ++ ended_turn before decl id to ∷ []) → phase_of id then ≡ phase_of id before + 1
between id decl to before then made begins older h = let e : PoolEntry = Unregistered decl id to in
    let whole : List PoolEntry = before ++ e ∷ [] in let long = length-append before (e ∷ []) in
    ⊎_elim (λ old. absurd (false_true (sym (h.last (length before) e (older h.place h.turn old)
    (subst (λ (l : List PoolEntry). get_elem? l (length before) ≡ some e) (sym begins.1) (at_longer whole begins.0 (length before) e (at_last before e (length before) refl)))) ∙ eq-eqb id id refl)))
    (λ same. h.alone ∙ ap (λ (l : List PoolEntry). phase_of id l + 1) (ap (λ (t : Turn). take t.number then) (sym same) ∙ (ap (take (length before)) begins.1 ∙ (take-append-le (length before) whole begins.0 (omega (arith, long)) ∙ take-append_seam before (e ∷ [])))))
    (at_snoc made (ended_turn before decl id to) h.turn h.place h.own)
  where
    false_true : false ≡ true → ⊥
    false_true x = cc

-- what comes after all that a later view has seen comes after all that an earlier one has
module _ (shape : Shape) (v u : View) (turns : List Turn) (gives : ℕ) (a : Brings v u (record nothing { turns = turns; gives = gives })) where
  counted_since : (k len version : ℕ) → IsCounted shape u k len version → IsCounted shape v k len version
  counted_since k len version c = record {
    known = each_before (λ (x : Known). x.place ≡ k → length x.entries ≤ version) v.traces.known u.traces.known a.adds.known c.known;
    seen = each_before (λ (x : Counted). x.place ≡ k → x.version ≤ version) v.traces.seen u.traces.seen ([], a.adds.seen) c.seen;
    made = each_before (λ (x : Made). x.place ≡ k → x.number < version) v.traces.made u.traces.made ([], a.adds.made) c.made;
    items = c.items;
    entries = c.entries;
  }

  draws_since : (id node : ℕ) (ds : List Draw) → AreNodeDraws shape u id node ds → AreNodeDraws shape v id node ds
  draws_since id node ds d = record {
    each = λ j x at. let f = d.each j x at in record { there = f.there; some = f.some; born = f.born; later = counted_since (place_number (group_place id node x.group)) (length x.items) x.number f.later; room = f.room };
    falling = d.falling;
  }

  -- what stopped a drain, as an earlier view and a later one see it
  filled_since : (w z : View) (id node group : ℕ) (old : Listed) → z.traces ≡ w.traces → IsFilled shape u w id node group old → IsFilled shape v z id node group old
  filled_since w z id node group old same f = let was = f.met.was in let k : ℕ = place_number (group_place id node group) in record {
    there = f.there;
    some = f.some;
    met = record {
      was = record { «open» = was.«open»; most_items = was.most_items; most_entries = was.most_entries; later = counted_since k (length old.items) (length old.entries) was.later; journal = was.journal };
      known = subst (λ (t : Traces). Contains t.known (record { place = k; entries = old.entries })) (sym same) f.met.known;
    };
  }

  stopped_since : (w z : View) (id node group : ℕ) (by : Serial) (why : HalfWhy) → z.traces ≡ w.traces → StoppedBy shape u w id node group by why → StoppedBy shape v z id node group by why
  stopped_since w z id node group by why.Memory same f = record { old = f.old; filled = filled_since w z id node group f.old same f.filled; room = f.room }
  stopped_since w z id node group by (why.Worn (spent.List place entries items)) same f = record { old = f.old; here = f.here; filled = filled_since w z id node group f.old same f.filled; worn = f.worn }
  stopped_since w z id node group by (why.Worn (spent.Lookups i seen)) same f = f
  stopped_since w z id node group by (why.Worn (spent.Charges charges uncharges)) same f = f

-- the id was made dying, a load showed no reference, and its lists were emptied
module _ (shape : Shape) (v t u w : View) (decl id entry from to : ℕ) (by : Serial) (objects : List Object) (r : Dies shape v decl t.turns.known 1 id entry from to t) (a : Loads t u) where
  abbrev before : List PoolEntry
  before = r.before

  -- what the drain needs of the seat
  pub owns_now : u.claims.owner ≡ Some id
  owns_now = ap (λ (c : Claims). c.owner) a.claims ∙ r.owns.owner

  -- after the wait nothing was drained yet
  pub fresh_now : u.claims.drained ≡ undrained shape
  fresh_now = ap (λ (c : Claims). c.drained) a.claims ∙ r.owns.drained

  -- the id is one of the shape
  pub near_now : id < shape.ids
  near_now = r.ended.live.near

  abbrev made_now : Gained
  made_now = record nothing { turns = ended_turn before decl id to ∷ []; gives = 1 }

  begun : Brings v u made_now
  begun = subst (Brings v u) no_more (brings_then v t u made_now nothing r.gains (brings_loads t u a))
    where
      no_more : then_gained made_now nothing ≡ made_now
      no_more = refl

  module _ (draws : List (List Draw)) (e : AreDrained shape u w id by [] objects draws) where
    -- after the drain the seat still owns the id
    pub owner_then : w.claims.owner ≡ Some id
    owner_then = ap (λ (c : Claims). c.owner) e.gains.claims ∙ owns_now

    -- and is still quiet
    pub quiet_then : u.claims.quiet ≡ true → w.claims.quiet ≡ true
    quiet_then quiet = ap (λ (c : Claims). c.quiet) e.gains.claims ∙ quiet

    -- and has no room in hand
    pub rooms_then : t.holding ≡ no_rooms → w.holding ≡ no_rooms
    rooms_then none = e.gains.holding ∙ (a.holding ∙ none)

    held_then : w.claims.held ≡ None
    held_then = ap (λ (c : Claims). c.held) e.gains.claims ∙ (ap (λ (c : Claims). c.held) a.claims ∙ r.owns.held)

    known_then : w.turns.known ≡ before ++ Unregistered decl id to ∷ []
    known_then = ap (λ x. x.known) e.gains.turns ∙ (ap (λ x. x.known) a.turns ∙ r.grown)

    turned_then : w.turns.made ≡ v.turns.made ++ ended_turn before decl id to ∷ []
    turned_then = ap (λ x. x.made) e.gains.turns ∙ begun.adds.turned

    each_since : (node : ℕ) (ds : List Draw) → get_elem? draws node ≡ some ds → AreNodeDraws shape v id node ds
    each_since node ds at = draws_since shape v u (ended_turn before decl id to ∷ []) 1 begun id node ds (e.each node ds at)

    abbrev drains : Gained
    drains = record nothing { made = made_from id 0 by draws; turns = ended_turn before decl id to ∷ []; gives = 1 }

    all : Brings v w drains
    all = brings_then v u w made_now (record nothing { made = made_from id 0 by draws }) begun (brings_gains u w (made_from id 0 by draws) e.gains)

    -- it became idle
    pub freed : (z : View) → length draws ≡ shape.nodes → ((then : List PoolEntry) × Begins w.turns.known then × (z.turns.known ≡ then ++ Idle id ∷ []) × Rests w z id then 1) → (log : Rattle.shr_base.specs.Kept.Kept Object) → log.items ≡ objects → UnregisterGives shape v decl by (unregister.Freed id entry from to log) z
    freed z nodes s log same = let begins : Begins (before ++ Unregistered decl id to ∷ []) s.0 = subst (λ (l : List PoolEntry). Begins l s.0) known_then s.1 in let idles : Gained = record nothing { turns = record { number = length s.0; entry = Idle id } ∷ []; gives = 1 } in record {
      before = before;
      then = s.0;
      draws = draws;
      ended = r.ended;
      seen = r.seen;
      begins = begins;
      between = between id decl to before s.0 v.turns.made begins r.later (subst (λ (l : List Turn). HasLastEnd id s.0 l) turned_then s.3.end);
      known = s.2;
      nodes = nodes;
      each = each_since;
      drained = same ∙ e.objects;
      free = record { held = s.3.held ∙ held_then; owner = s.3.owner };
      gains = subst (λ (l : List Made). Brings v z (record nothing { made = l; turns = ended_turn before decl id to ∷ record { number = length s.0; entry = Idle id } ∷ []; gives = 2 })) (append-nil (made_from id 0 by draws)) (brings_then v w z drains idles all s.3.gains);
    }

    -- or it was given up
    pub half : (z : View) (word : LookupWord) → z ≡ with_given_up w id word → (why : HalfWhy) → StopsIn shape u w id by why draws → (log : Rattle.shr_base.specs.Kept.Kept Object) → log.items ≡ objects → UnregisterGives shape v decl by (unregister.Half id entry from to log why) z
    half z word is why stops log same = record {
      before = before;
      draws = draws;
      ended = r.ended;
      seen = r.seen;
      known = ap (λ (x : View). x.turns.known) is ∙ known_then;
      each = each_since;
      drained = same ∙ e.objects;
      stops = record {
        node = stops.node;
        group = stops.group;
        last = stops.last;
        near = stops.near;
        above = stops.above;
        stopped = stopped_since shape v u (ended_turn before decl id to ∷ []) 1 begun w z id stops.node stops.group by why (ap (λ (x : View). x.traces) is) stops.stopped;
      };
      free = subst IsFree (sym is) (record { held = held_then; owner = refl });
      gains = subst (λ (l : List Made). Brings v z (record nothing { made = l; turns = ended_turn before decl id to ∷ []; gives = 1 })) (append-nil (made_from id 0 by draws)) (brings_then v w z drains nothing all (subst (λ (x : View). Brings w x nothing) (sym is) (brings_given_up w id word)));
    }
