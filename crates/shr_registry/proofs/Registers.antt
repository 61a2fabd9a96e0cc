-- SPDX-License-Identifier: GPL-2.0-only
-- The phase step that registers a declaration.
use Rattle.shr_registry.proofs.Common.{◌≡◌, ℕ, zero, suc, ◌+◌, ◌%◌, ◌<◌, ◌≤◌, Bool, true, false, cond, eqb, List, [], ◌∷◌, ◌++◌, length, sym, refl, ap, subst, ◌∙◌, arith, eq-eqb, Some, None, Option, nat_tests, LookupWord, PoolEntry, Registered, Unregistered, Idle, phase_of, is_live_decl, lowest_idle, View, Shape, Holding, places_in, pool_content, content_in, with_word, with_phase, turn_at, MayPhase, HasPool, pool_of, Raises, Brings, Loads, only_pool, IsLiveAs, IsFree, RegisterLacksMemory, Gained, nothing, Begins, Setting, RoomContent, Hand, with_content, FindsLive, FindsNoId, Registers}
use Rattle.shr_model.specs.Pool.{is_dying}
use Rattle.shr_model.specs.PoolEnds.{dying_in}
use Rattle.shr_core.proofs.LookupSteps.{lowest_free_is}
use Rattle.shr_core.proofs.Gains.{of_word, of_phase}
use Rattle.shr_registry.proofs.Searches.{loads_word, loads_then, live_below}
use Rattle.shr_registry.proofs.Adds.{brings_then, brings_loads, has_pool, journal}
use Rattle.shr_registry.proofs.Meetings.{free_loads, pool_still, journal_still, none_found}
use Rattle.shr_model.proofs.PoolLaws.{lowest_within}

-- at most all ids are dying
pub dying_most : (n : ℕ) (es : List PoolEntry) → dying_in n es ≤ n
unfolding dying_in
dying_most zero es = omega arith
dying_most (suc n) es = elim (is_dying n es) as (λ b. cond b 1 0 + dying_in n es ≤ suc n) [ true ↦ omega (arith, dying_most n es) | false ↦ omega (arith, dying_most n es) ]

-- the lowest id that can be registered is idle
idle_phase : (ids id : ℕ) (pool : List PoolEntry) → lowest_idle ids pool ≡ Some id → phase_of id pool % 3 ≡ 0
idle_phase ids id pool low = let free = lowest_free_is ids 0 id pool low in grind (arith, nat_tests)

-- it may be registered with a declaration that is not live
pub may_register : (shape : Shape) (u : View) (id decl : ℕ) → HasPool shape u → decl < shape.decls → is_live_decl shape.ids decl (pool_of shape u) ≡ false → lowest_idle shape.ids (pool_of shape u) ≡ Some id → MayPhase shape u id decl
may_register shape u id decl has declared none low = let idle = idle_phase shape.ids id (pool_of shape u) low in record {
  near = omega (arith, lowest_within shape.ids 0 id (pool_of shape u) low);
  declared = declared;
  room = has;
  to_live = λ _. none;
  lowest = λ _. low;
  to_dying = λ one. absurd (omega (arith, one, idle));
  own = λ busy. absurd (busy idle);
  to_idle = λ two. absurd (omega (arith, two, idle));
  drained = λ two. absurd (omega (arith, two, idle));
}

-- the pool's journal in hand after a phase step
pub stepped : (shape : Shape) (u : View) (pool : List PoolEntry) (id decl : ℕ) (word : LookupWord) (e : PoolEntry) → u.holding ≡ only_pool shape pool → turn_at id decl word ≡ e → (with_phase shape u id decl word).holding ≡ only_pool shape (pool ++ e ∷ [])
stepped shape u pool id decl word e is turn = let r : ℕ = places_in shape.ids in
    let by : Holding → Holding = λ h. record h { hands = with_content r (record (content_in r h.hands) { pool = (content_in r h.hands).pool ++ turn_at id decl word ∷ [] }) h.hands } in
    let at : Bool → Holding = λ b. let c : RoomContent = cond b (pool_content pool) (content_in r []) in let h : Hand = record { room = r; content = pool_content pool } in
    record { hands = cond b (record { room = r; content = record c { pool = c.pool ++ turn_at id decl word ∷ [] } } ∷ []) (h ∷ []); half = None } in
    ap by is ∙ (ap at (eq-eqb r r refl) ∙ ap (λ (x : PoolEntry). only_pool shape (pool ++ x ∷ [])) turn)

-- what a phase step gains
pub brings_phase : (shape : Shape) (u : View) (pool : List PoolEntry) (id decl : ℕ) (before word : LookupWord) (e : PoolEntry) → u.holding ≡ only_pool shape pool → turn_at id decl word ≡ e
    → Brings u (with_phase shape (with_word u id before) id decl word) (record nothing { turns = record { number = length pool; entry = e } ∷ [] })
brings_phase shape u pool id decl before word e is turn = let z : View = with_word u id before in let w : View = with_phase shape z id decl word in
    let makes : List PoolEntry → PoolEntry → Gained = λ l x. record nothing { turns = record { number = length l; entry = x } ∷ [] } in
    let loaded : Brings u z nothing = record { words = record { id = id; word = before } ∷ []; adds = of_word u id before; owed = (loads_word u id before).owed } in
    let made : Brings z w (makes pool e) = subst (λ (l : List PoolEntry). Brings z w (makes l e)) (journal shape u pool is) (subst (λ (x : PoolEntry). Brings z w (makes (pool_of shape u) x)) turn (record { words = []; adds = of_phase z shape id decl word; owed = λ k h. h })) in
    brings_then u z w nothing (makes pool e) loaded made

-- the entry by the word that was found
pub turn_live : (id decl : ℕ) (word : LookupWord) → word.phase % 3 ≡ 0 → turn_at id decl word ≡ Registered decl id word.lookups
turn_live id decl word idle = ap (λ b. cond b (Registered decl id word.lookups) (cond (eqb (word.phase % 3) 1) (Unregistered decl id word.lookups) (Idle id))) (eq-eqb (word.phase % 3) 0 idle)

-- words were loaded with the pool in hand
module _ (key : Setting) (v u : View) (pool : List PoolEntry) (a : Loads v u) (is : v.holding ≡ only_pool key.shape pool) (free : IsFree v) where
  abbrev shape : Shape
  shape = key.shape

  holding_still : u.holding ≡ only_pool shape pool
  holding_still = a.holding ∙ is

  still_pool : pool_of shape v ≡ pool
  still_pool = journal shape v pool is

  -- the declaration is live
  pub registered_before : (decl id entry : ℕ) → IsLiveAs shape (pool_of shape v) id decl → entry ≡ length pool → FindsLive shape v decl pool 0 entry u
  registered_before decl id entry live long = let l = subst (λ (p : List PoolEntry). IsLiveAs shape p id decl) still_pool live in record { live = live_below shape.ids decl id pool l.near l.live l.named; after = long; free = free_loads v u a free; gains = brings_loads v u a }

  -- no id is left
  pub none_left : (decl entry : ℕ) → is_live_decl shape.ids decl pool ≡ false → lowest_idle shape.ids pool ≡ None → entry ≡ length pool → FindsNoId shape v decl pool 0 entry u
  none_left decl entry none low long = record { misses = none_found shape v u decl entry pool a free none long; none = low }

  -- there was no memory
  pub no_memory : (decl id : ℕ) → is_live_decl shape.ids decl pool ≡ false → lowest_idle shape.ids pool ≡ Some id → RegisterLacksMemory shape v decl pool 0 u
  no_memory decl id none low = record { id = id; missing = none; lowest = low; free = free_loads v u a free; gains = brings_loads v u a }

  -- the step was made
  module _ (w : View) (decl id entry : ℕ) (word : LookupWord) (none : is_live_decl shape.ids decl pool ≡ false) (low : lowest_idle shape.ids pool ≡ Some id) (near : HasPool shape u) (r : Raises key u id decl word w) where
    phase : word.phase ≡ phase_of id pool
    phase = r.found.phase near ∙ ap (phase_of id) (journal_still shape v u a ∙ still_pool)

    idle : word.phase % 3 ≡ 0
    idle = ap (λ (x : ℕ). x % 3) phase ∙ idle_phase shape.ids id pool low

    turn : turn_at id decl word ≡ Registered decl id word.lookups
    turn = turn_live id decl word idle

    -- the pool in hand has the Registered at its end
    pub registered_hand : w.holding ≡ only_pool shape (pool ++ Registered decl id word.lookups ∷ [])
    registered_hand = ap (λ (x : View). x.holding) r.step ∙ stepped shape (with_word u id r.before) pool id decl word (Registered decl id word.lookups) holding_still turn

    pub registered_known : w.turns.known ≡ v.turns.known
    registered_known = ap (λ (x : View). x.turns.known) r.step ∙ ap (λ t. t.known) a.turns

    -- so the declaration is registered
    pub registered_now : (pool' : List PoolEntry) → pool' ≡ pool ++ Registered decl id word.lookups ∷ [] → entry ≡ length pool → Begins v.turns.known pool → Registers key v decl pool' 0 id entry w
    registered_now pool' grown long seen = let z : View = with_phase shape (with_word u id r.before) id decl word in let f = free_loads v u a free in
        let makes : ℕ → Gained = λ n. record nothing { turns = record { number = n; entry = Registered decl id word.lookups } ∷ [] } in
        let all : Brings v z (makes (length pool)) = brings_then v u z nothing (makes (length pool)) (brings_loads v u a) (brings_phase shape u pool id decl r.before word (Registered decl id word.lookups) holding_still turn) in record {
          before = pool;
          from = word.lookups;
          missing = none;
          lowest = low;
          after = long;
          grown = grown;
          seen = seen;
          first = λ first whole untried. r.found.first (ap (λ s. s.first) a.standing ∙ first) (ap (λ s. s.joins) a.standing ∙ (whole ∙ ap (λ s. s.splits) (sym a.standing))) (ap (λ c. c.attempts) a.claims ∙ untried);
          free = subst IsFree (sym r.step) (record { held = f.held; owner = ap {B = Option ℕ} (λ b. cond b u.claims.owner (cond (eqb (word.phase % 3) 1) (Some id) None)) (eq-eqb (word.phase % 3) 0 idle) ∙ f.owner });
          gains = subst (λ (x : View). Brings v x (makes entry)) (sym r.step) (subst (λ (n : ℕ). Brings v z (makes n)) (sym long) all);
        }

-- the searches told that the declaration is not live and which id is the lowest
module _ (shape : Shape) (v t u : View) (pool : List PoolEntry) (a : Loads v t) (b : Loads t u) (is : v.holding ≡ only_pool shape pool) where
  pub both : Loads v u
  both = loads_then v t u a b

  pub has_still : HasPool shape u
  has_still = pool_still shape v u both (has_pool shape v pool is)

  pub not_live : (decl : ℕ) → is_live_decl shape.ids decl (pool_of shape v) ≡ false → is_live_decl shape.ids decl pool ≡ false
  not_live decl none = subst (λ (p : List PoolEntry). is_live_decl shape.ids decl p ≡ false) (journal shape v pool is) none

  -- the id that was found is the lowest that can be registered
  pub lowest : (id : ℕ) → Some id ≡ lowest_idle shape.ids (pool_of shape t) → lowest_idle shape.ids pool ≡ Some id
  lowest id low = sym (low ∙ ap (lowest_idle shape.ids) (journal_still shape v t a ∙ journal shape v pool is))

  -- no id can be registered
  pub lowest_none : None ≡ lowest_idle shape.ids (pool_of shape t) → lowest_idle shape.ids pool ≡ None
  lowest_none low = sym (low ∙ ap (lowest_idle shape.ids) (journal_still shape v t a ∙ journal shape v pool is))

  -- the step from idle to live may be made
  pub may_step : (decl id : ℕ) → decl < shape.decls → is_live_decl shape.ids decl (pool_of shape v) ≡ false → Some id ≡ lowest_idle shape.ids (pool_of shape t) → MayPhase shape u id decl
  may_step decl id declared none low = let same : pool_of shape u ≡ pool = journal_still shape v u both ∙ journal shape v pool is in
      may_register shape u id decl has_still declared (ap (is_live_decl shape.ids decl) same ∙ not_live decl none) (ap (lowest_idle shape.ids) same ∙ lowest id low)
