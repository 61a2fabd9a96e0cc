-- SPDX-License-Identifier: GPL-2.0-only
-- What a call gains, step by step.
use Rattle.shr_registry.proofs.Common.{◌≡◌, ℕ, ◌+◌, ◌<◌, cond, List, [], ◌∷◌, ◌++◌, sym, refl, ap, subst, ◌∙◌, arith, eq-eqb, map, None, append-nil, PoolEntry, by_seat, Begins, View, Shape, Gained, nothing, then_gained, places_in, has_room, pool_content, in_hand, content_in, with_taken, with_pool_given, HasPool, pool_of, Gains, Brings, Loads, only_pool, state_after, begins_all, AreKinds, without_room}
use Rattle.shr_core.specs.Parts.{RoomContent, Holding, Made, no_rooms, Loaded, loaded as loaded_event}
use Rattle.shr_core.specs.Order.{Holders, users_next}
use Rattle.shr_core.proofs.Gains.{adds_then, of_taken, of_pool_given}
use Rattle.shr_core.proofs.Hands.{has_taken}
use Rattle.shr_core.proofs.Uses.{using_still}

-- one after another
pub brings_then : (u v w : View) (g h : Gained) → Brings u v g → Brings v w h → Brings u w (then_gained g h)
brings_then u v w g h a b = record { words = a.words ++ b.words; adds = adds_then u v w (record g { loaded = a.words }) (record h { loaded = b.words }) a.adds b.adds; owed = λ k more. a.owed k (b.owed k more) }

-- loads are noted as loads alone
loads_kinds : (l : List Loaded) → AreKinds (map (λ x. loaded_event x) l) (record nothing { loaded = l })
loads_kinds [] = record { seen = refl; made = refl; attempts = refl; loaded = refl; turns = refl; sets = refl; cleared = refl; maps = refl }
loads_kinds (x ∷ xs) = let k = loads_kinds xs in record { seen = k.seen; made = k.made; attempts = k.attempts; loaded = ap (λ (l : List Loaded). x ∷ l) k.loaded; turns = k.turns; sets = k.sets; cleared = k.cleared; maps = k.maps }

-- and change nothing of what is used
loads_use : (seat : ℕ) (l : List Loaded) (u : Holders) → state_after users_next u (by_seat seat (map (λ x. loaded_event x) l)) ≡ u
loads_use seat [] u = refl
loads_use seat (x ∷ xs) u = loads_use seat xs u

-- words that were loaded
pub brings_loads : (v w : View) → Loads v w → Brings v w nothing
brings_loads v w a = record {
  words = a.loaded.0;
  adds = record {
    made = ap (λ t. t.made) a.traces ∙ sym (append-nil v.traces.made);
    seen = ap (λ t. t.seen) a.traces ∙ sym (append-nil v.traces.seen);
    tries = ap (λ t. t.tries) a.traces ∙ sym (append-nil v.traces.tries);
    maps = ap (λ m. m.maps) a.marks ∙ sym (append-nil v.marks.maps);
    sets = ap (λ m. m.sets) a.marks ∙ sym (append-nil v.marks.sets);
    cleared = ap (λ m. m.cleared) a.marks ∙ sym (append-nil v.marks.cleared);
    attempts = ap (λ c. c.attempts) a.claims ∙ sym (append-nil v.claims.attempts);
    loaded = a.loaded.1;
    turned = ap (λ t. t.made) a.turns ∙ sym (append-nil v.turns.made);
    gives = omega (arith, ap (λ t. t.gives) a.turns);
    known = subst (λ t. Begins v.traces.known t.known) (sym a.traces) (begins_all v.traces.known);
    pool = subst (λ t. Begins v.turns.known t.known) (sym a.turns) (begins_all v.turns.known);
    heard = ap (λ t. t.heard) a.turns;
    dated = subst (λ t. Begins v.turns.dated t.dated) (sym a.turns) (begins_all v.turns.dated);
    standing = a.standing;
    did = map (λ x. loaded_event x) a.loaded.0;
    noted = a.loaded.2;
    kinds = loads_kinds a.loaded.0;
    seat = a.seat;
    using = using_still v w (map (λ x. loaded_event x) a.loaded.0) a.seat a.loaded.2 (ap (λ c. c.held) a.claims) (loads_use v.seat a.loaded.0);
  };
  owed = a.owed;
}

-- the pool's room was taken
pub brings_taken : (v : View) (r : ℕ) (c : RoomContent) → Brings v (with_taken v r c) nothing
brings_taken v r c = record { words = []; adds = of_taken v r c; owed = λ k h. h }

-- and given back
pub brings_given : (v : View) (r : ℕ) → Begins v.turns.known (in_hand v r).pool → Brings v (with_pool_given v r) (record nothing { gives = 1 })
brings_given v r begins = record { words = []; adds = of_pool_given v r begins; owed = λ k h. h }

-- what a call of the node gains
pub brings_gains : (v w : View) (more : List Made) → Gains v w more [] → Brings v w (record nothing { made = more })
brings_gains v w more g = record { words = []; adds = g.adds; owed = g.owed }

-- one give more
pub given_once : (g : Gained) → then_gained (then_gained nothing g) (record nothing { gives = 1 }) ≡ record g { gives = g.gives + 1 }
given_once g = let more : 0 + g.gives + 1 ≡ g.gives + 1 = omega arith in λ i. record {
  made = append-nil g.made i;
  seen = append-nil g.seen i;
  tries = append-nil g.tries i;
  maps = append-nil g.maps i;
  sets = append-nil g.sets i;
  cleared = append-nil g.cleared i;
  attempts = append-nil g.attempts i;
  loaded = append-nil g.loaded i;
  turns = append-nil g.turns i;
  gives = more i;
}

-- a room's content that was taken first
pub first_content : (shape : Shape) (pool : List PoolEntry) → content_in (places_in shape.ids) (only_pool shape pool).hands ≡ pool_content pool
first_content shape pool = let r : ℕ = places_in shape.ids in ap (λ b. cond b (pool_content pool) (content_in r [])) (eq-eqb r r refl)

-- the pool in hand
module _ (shape : Shape) (v : View) (pool : List PoolEntry) (is : v.holding ≡ only_pool shape pool) where
  -- a seat whose only room is the pool has the pool
  pub has_pool : HasPool shape v
  has_pool = subst (λ (h : Holding). 0 < has_room (places_in shape.ids) h) (sym is) (has_taken (record v { holding = no_rooms }) (places_in shape.ids) (pool_content pool))

  -- and the pool's journal in hand is this one
  pub journal : pool_of shape v ≡ pool
  journal = ap (λ (h : Holding). (content_in (places_in shape.ids) h.hands).pool) is ∙ ap (λ (c : RoomContent). c.pool) (first_content shape pool)

  -- once the pool was given back no room is in hand
  pub given_rooms : (with_pool_given v (places_in shape.ids)).holding ≡ no_rooms
  given_rooms = let r : ℕ = places_in shape.ids in ap (λ (h : Holding). record h { hands = without_room r h.hands }) is ∙ ap (λ b. record { hands = cond b [] (record { room = r; content = pool_content pool } ∷ []); half = None }) (eq-eqb r r refl)

-- the pool was taken, this was gained, and the pool was given back with this journal
pub brings_between : (shape : Shape) (v u w z : View) (old new : List PoolEntry) (g : Gained)
    → u ≡ with_taken v (places_in shape.ids) (pool_content old) → Begins v.turns.known new → w.holding ≡ only_pool shape new → w.turns.known ≡ u.turns.known
    → z ≡ with_pool_given w (places_in shape.ids) → Brings u w g → Brings v z (record g { gives = g.gives + 1 })
brings_between shape v u w z old new g taken begins holding same given a =
    let r : ℕ = places_in shape.ids in
    let first : Brings v u nothing = subst (λ x. Brings v x nothing) (sym taken) (brings_taken v r (pool_content old)) in
    let known : Begins w.turns.known (in_hand w r).pool = subst (λ l. Begins l (in_hand w r).pool) (sym (same ∙ ap (λ (x : View). x.turns.known) taken)) (subst (λ l. Begins v.turns.known l) (sym (journal shape w new holding)) begins) in
    let last : Brings w z (record nothing { gives = 1 }) = subst (λ x. Brings w x (record nothing { gives = 1 })) (sym given) (brings_given w r known) in
    subst (Brings v z) (given_once g) (brings_then v w z (then_gained nothing g) (record nothing { gives = 1 }) (brings_then v u w nothing g first a) last)
