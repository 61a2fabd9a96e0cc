-- SPDX-License-Identifier: GPL-2.0-only
-- The phase steps that end a registration.
use Rattle.shr_registry.proofs.Common.{◌-◌, ◌≡◌, ℕ, zero, suc, ◌+◌, ◌%◌, ◌<◌, ◌≤◌, Bool, true, false, cond, eqb, List, [], ◌∷◌, ◌++◌, length, take, get_or, sym, refl, ap, subst, ◌∙◌, arith, eq-eqb, ◌==◌, ◌&&◌, Option, Some, None, nat_tests, dite, ℕ_discrete, LookupWord, PoolEntry, Unregistered, Idle, phase_of, from_of, is_live, is_live_decl, View, Shape, HasLastEnd, mark_of, with_word, with_phase, turn_at, undrained, MayPhase, IsOfPool, HasPool, pool_of, Raises, Brings, Loads, only_pool, IsLiveAs, IsFree, Misses, EndsLacking, Dies, Rests, ended_turn, Gained, nothing, Turn, Setting, Each, Begins, ne_eqb, is_some_of, OwnsAll}
use Rattle.std.proofs.Math.Seq.{take-suc}
use Rattle.shr_model.specs.Pool.{from_from, from_after}
use Rattle.shr_model.specs.PoolEnds.{dying_in}
use Rattle.shr_model.proofs.PoolLaws.{phase_of_push, from_from_push}
use Rattle.shr_core.proofs.Claiming.{by_phase}
use Rattle.shr_registry.proofs.Searches.{loads_word}
use Rattle.shr_registry.proofs.Adds.{brings_then, brings_loads, has_pool, journal}
use Rattle.shr_registry.proofs.Meetings.{free_loads, pool_still, journal_still, none_found}
use Rattle.shr_registry.proofs.Registers.{stepped, brings_phase}

-- the last registration of one entry more
begun_next : (es : List PoolEntry) (i id : ℕ) (d : PoolEntry) → i < length es → from_of id (take (i + 1) es) ≡ from_after id (from_of id (take i es)) (get_or es i d)
begun_next es i id d near = ap (λ (n : ℕ). from_of id (take n es)) (more i) ∙ (ap (from_of id) (take-suc es i d near) ∙ from_from_push id 0 (take i es) (get_or es i d))
  where
    more : (i : ℕ) → i + 1 ≡ suc i
    more i = omega arith

-- none of the entries after the first `left` begins a registration of the id
module _ (es : List PoolEntry) (left id : ℕ) (d : PoolEntry) (some : 0 < left) (within : left ≤ length es) (same : from_of id es ≡ from_of id (take left es)) where
  last_one : from_of id es ≡ from_after id (from_of id (take (left - 1) es)) (get_or es (left - 1) d)
  last_one = same ∙ (ap (λ (n : ℕ). from_of id (take n es)) (omega arith) ∙ begun_next es (left - 1) id d (omega arith))

  -- nor does the one before them
  pub begun_before : ((n : ℕ) → from_after id n (get_or es (left - 1) d) ≡ n) → from_of id es ≡ from_of id (take (left - 1) es)
  begun_before other = last_one ∙ other (from_of id (take (left - 1) es))

  -- or it begins the last one
  pub begun_here : (from : ℕ) → ((n : ℕ) → from_after id n (get_or es (left - 1) d) ≡ from) → from ≡ from_of id es
  begun_here from here = sym (last_one ∙ here (from_of id (take (left - 1) es)))

-- no entry of a whole journal stands after it
pub begun_whole : (es : List PoolEntry) (left id : ℕ) → left ≡ length es → from_of id es ≡ from_of id (take left es)
begun_whole es left id all = ap (from_of id) (sym (Rattle.std.proofs.lemmas.List.take_all left es (omega (arith, all))))

-- no entry begins one
pub begun_none : (es : List PoolEntry) (left id : ℕ) → left ≤ 0 → from_of id es ≡ from_of id (take left es) → 0 ≡ from_of id es
unfolding from_from
begun_none es zero id none same = sym same
begun_none es (suc left) id none same = absurd (omega (arith, none))

live_phase : (id : ℕ) (pool : List PoolEntry) → is_live id pool ≡ true → phase_of id pool % 3 ≡ 1
live_phase id pool live = grind (arith, nat_tests)

-- a live id may be made dying by a seat that owns none
may_retire : (shape : Shape) (u : View) (id decl : ℕ) → HasPool shape u → decl < shape.decls → IsFree u → IsLiveAs shape (pool_of shape u) id decl → MayPhase shape u id decl
may_retire shape u id decl has declared free live = let one = live_phase id (pool_of shape u) live.live in record {
  near = live.near;
  declared = declared;
  room = has;
  to_live = λ none. absurd (omega (arith, one, none));
  lowest = λ none. absurd (omega (arith, one, none));
  to_dying = λ _. free.owner;
  own = λ _. sym live.named;
  to_idle = λ two. absurd (omega (arith, one, two));
  drained = λ two. absurd (omega (arith, one, two));
}

turn_dying : (id decl : ℕ) (word : LookupWord) → word.phase % 3 ≡ 1 → turn_at id decl word ≡ Unregistered decl id word.lookups
turn_dying id decl word one = by_phase (λ e. e ≡ Unregistered decl id word.lookups) id decl word (λ none. absurd (omega (arith, one, none))) (λ _. refl) (λ two. absurd (omega (arith, one, two)))

turn_idle : (id decl : ℕ) (word : LookupWord) → word.phase % 3 ≡ 2 → turn_at id decl word ≡ Idle id
turn_idle id decl word two = by_phase (λ e. e ≡ Idle id) id decl word (λ none. absurd (omega (arith, two, none))) (λ one. absurd (omega (arith, two, one))) (λ _. refl)

-- words were loaded with the pool in hand
module _ (key : Setting) (v u : View) (pool : List PoolEntry) (a : Loads v u) (is : v.holding ≡ only_pool key.shape pool) (free : IsFree v) where
  abbrev shape : Shape
  shape = key.shape

  -- the declaration is not live
  pub not_live_now : (decl entry : ℕ) → is_live_decl shape.ids decl (pool_of shape v) ≡ false → entry ≡ length pool → Misses shape v decl pool 0 entry u
  not_live_now decl entry none long = none_found shape v u decl entry pool a free (subst (λ (p : List PoolEntry). is_live_decl shape.ids decl p ≡ false) (journal shape v pool is) none) long

  module _ (decl id : ℕ) (live : IsLiveAs shape (pool_of shape v) id decl) where
    here : IsLiveAs shape pool id decl
    here = subst (λ (p : List PoolEntry). IsLiveAs shape p id decl) (journal shape v pool is) live

    same : pool_of shape u ≡ pool
    same = journal_still shape v u a ∙ journal shape v pool is

    -- there was no memory
    pub no_memory : EndsLacking shape v decl pool 0 u
    no_memory = record { id = id; live = here; free = free_loads v u a free; gains = brings_loads v u a }

    pub has_still : HasPool shape u
    has_still = pool_still shape v u a (has_pool shape v pool is)

    -- the step from live to dying may be made
    pub may_end : decl < shape.decls → MayPhase shape u id decl
    may_end declared = may_retire shape u id decl has_still declared (free_loads v u a free) (subst (λ (p : List PoolEntry). IsLiveAs shape p id decl) (sym same) here)

    -- the step was made
    module _ (w : View) (entry from : ℕ) (word : LookupWord) (r : Raises key u id decl word w) where
      one : word.phase % 3 ≡ 1
      one = ap (λ (x : ℕ). x % 3) (r.found.phase has_still ∙ ap (phase_of id) same) ∙ live_phase id pool here.live

      turn : turn_at id decl word ≡ Unregistered decl id word.lookups
      turn = turn_dying id decl word one

      -- the pool in hand has the Unregistered at its end
      pub ended_hand : w.holding ≡ only_pool shape (pool ++ Unregistered decl id word.lookups ∷ [])
      ended_hand = ap (λ (x : View). x.holding) r.step ∙ stepped shape (with_word u id r.before) pool id decl word (Unregistered decl id word.lookups) (a.holding ∙ is) turn

      pub ended_known : w.turns.known ≡ v.turns.known
      ended_known = ap (λ (x : View). x.turns.known) r.step ∙ ap (λ t. t.known) a.turns

      owns : OwnsAll shape (with_phase shape (with_word u id r.before) id decl word) id
      owns = let f = free_loads v u a free in let not_idle = ne_eqb (word.phase % 3) 0 (λ none. omega (arith, none, one)) in let dies = eq-eqb (word.phase % 3) 1 one in record {
        held = f.held;
        owner = ap {B = Option ℕ} (λ b. cond b u.claims.owner (cond (eqb (word.phase % 3) 1) (Some id) None)) not_idle ∙ ap {B = Option ℕ} (λ b. cond b (Some id) None) dies;
        drained = ap (λ b. cond b u.claims.drained (cond (eqb (word.phase % 3) 1) (undrained shape) [])) not_idle ∙ ap (λ b. cond b (undrained shape) []) dies;
      }

      -- so the id dies
      pub ended_now : (pool' : List PoolEntry) → pool' ≡ pool ++ Unregistered decl id word.lookups ∷ [] → entry ≡ length pool → from ≡ from_of id pool → Begins v.turns.known pool → Each (λ (x : Turn). x.number < length pool) v.turns.made → Dies shape v decl pool' 0 id entry from word.lookups w
      ended_now pool' grown long begins seen later = let z : View = with_phase shape (with_word u id r.before) id decl word in
          let makes : Gained = record nothing { turns = ended_turn pool decl id word.lookups ∷ [] } in
          let all : Brings v z makes = brings_then v u z nothing makes (brings_loads v u a) (brings_phase shape u pool id decl r.before word (Unregistered decl id word.lookups) (a.holding ∙ is) turn) in record {
            before = pool;
            ended = record { live = here; number = long; began = begins };
            grown = grown;
            seen = seen;
            later = later;
            owns = subst (λ (x : View). OwnsAll shape x id) (sym r.step) owns;
            gains = subst (λ (x : View). Brings v x makes) (sym r.step) all;
          }

-- 1 where it is so
abbrev flag : Bool → ℕ
flag b = cond b 1 0

-- an id that is dying counts
dying_one : (n id : ℕ) (es : List PoolEntry) → id < n → phase_of id es % 3 ≡ 2 → 0 < dying_in n es
unfolding dying_in
dying_one zero id es near two = absurd (omega (arith, near))
dying_one (suc n) id es near two = dite (ℕ_discrete id n)
    (λ e. omega (arith, ap flag (subst (λ (x : ℕ). eqb (phase_of x es % 3) 2 ≡ true) e (eq-eqb (phase_of id es % 3) 2 two))))
    (λ ne. omega (arith, dying_one n id es (omega (arith, near, ne)) two))

-- and no more once it is idle
idle_else : (n id : ℕ) (es : List PoolEntry) → n ≤ id → dying_in n (es ++ Idle id ∷ []) ≡ dying_in n es
unfolding dying_in
idle_else zero id es far = refl
idle_else (suc n) id es far = let same : phase_of n (es ++ Idle id ∷ []) ≡ phase_of n es = omega (arith, phase_of_push n es (Idle id), ap flag (ne_eqb id n (λ e. omega (arith, e, far)))) in
    omega (arith, ap (λ (x : ℕ). flag (eqb (x % 3) 2)) same, idle_else n id es (omega (arith, far)))

idle_less : (n id : ℕ) (es : List PoolEntry) → id < n → phase_of id es % 3 ≡ 2 → dying_in n (es ++ Idle id ∷ []) + 1 ≡ dying_in n es
unfolding dying_in
idle_less zero id es near two = absurd (omega (arith, near))
idle_less (suc n) id es near two = dite (ℕ_discrete id n)
    (λ e. let was : phase_of n es % 3 ≡ 2 = ap (λ (x : ℕ). phase_of x es % 3) (sym e) ∙ two in let now : phase_of n (es ++ Idle id ∷ []) ≡ phase_of n es + 1 = omega (arith, phase_of_push n es (Idle id), ap flag (eq-eqb id n e)) in
    omega (arith, ap flag (eq-eqb (phase_of n es % 3) 2 was), ap flag (ne_eqb (phase_of n (es ++ Idle id ∷ []) % 3) 2 (λ q. omega (arith, q, now, was))), idle_else n id es (omega (arith, e))))
    (λ ne. let same : phase_of n (es ++ Idle id ∷ []) ≡ phase_of n es = omega (arith, phase_of_push n es (Idle id), ap flag (ne_eqb id n ne)) in
    omega (arith, ap (λ (x : ℕ). flag (eqb (x % 3) 2)) same, idle_less n id es (omega (arith, near, ne)) two))

-- the seat owns the id, and the pool is in hand
module _ (key : Setting) (v u : View) (pool : List PoolEntry) (id : ℕ) (shown : LookupWord) (is : v.holding ≡ only_pool key.shape pool) (loaded : u ≡ with_word v id shown) (of : IsOfPool key v id shown)
    (owns : v.claims.owner ≡ Some id) (near : id < key.shape.ids) where
  has_first : HasPool key.shape v
  has_first = has_pool key.shape v pool is

  still : u.holding ≡ only_pool key.shape pool
  still = ap (λ (x : View). x.holding) loaded ∙ is

  two : phase_of id pool % 3 ≡ 2
  two = ap (λ (x : ℕ). x % 3) (sym (of.phase has_first ∙ ap (phase_of id) (journal key.shape v pool is))) ∙ of.dying has_first owns

  -- there is room for the Idle, and a spare for each id that is dying then
  pub some_spare : (spare : ℕ) → dying_in key.shape.ids pool ≤ spare → 0 < spare
  some_spare spare fit = omega (arith, fit, dying_one key.shape.ids id pool near two)

  -- the spare for dying ids suffices after an Idle
  pub idle_spare : (spare left : ℕ) (pool' : List PoolEntry) → pool' ≡ pool ++ Idle id ∷ [] → dying_in key.shape.ids pool ≤ spare → left + 1 ≡ spare → dying_in key.shape.ids pool' ≤ left
  idle_spare spare left pool' grown fit used = omega (arith, fit, used, idle_less key.shape.ids id pool near two, ap (dying_in key.shape.ids) grown)

  -- the step from dying to idle may be made
  pub may_free : v.claims.quiet ≡ true → ((node : ℕ) → node < key.shape.nodes → mark_of v.claims node ≡ 0) → MayPhase key.shape u id shown.decl
  may_free quiet drained = subst (λ (x : View). MayPhase key.shape x id shown.decl) (sym loaded) (record {
    near = near;
    declared = of.declared (λ none. omega (arith, none, of.dying has_first owns));
    room = has_first;
    to_live = λ none. absurd (omega (arith, two, none, ap (λ (p : List PoolEntry). phase_of id p % 3) (journal key.shape v pool is)));
    lowest = λ none. absurd (omega (arith, two, none, ap (λ (p : List PoolEntry). phase_of id p % 3) (journal key.shape v pool is)));
    to_dying = λ one. absurd (omega (arith, two, one, ap (λ (p : List PoolEntry). phase_of id p % 3) (journal key.shape v pool is)));
    own = λ _. of.decl has_first;
    to_idle = λ _. (owns, quiet_on quiet (is_some_of id v.claims.owner && (shown.refs == 0)));
    drained = λ _. drained;
  })
    where
      quiet_on : v.claims.quiet ≡ true → (b : Bool) → cond b true v.claims.quiet ≡ true
      quiet_on q true = refl
      quiet_on q false = q

  -- the step was made
  module _ (w : View) (word : LookupWord) (r : Raises key u id shown.decl word w) where
    dies : word.phase % 3 ≡ 2
    dies = ap (λ (x : ℕ). x % 3) (r.found.phase (has_pool key.shape u pool still) ∙ ap (phase_of id) (journal key.shape u pool still)) ∙ two

    -- the pool in hand has the Idle at its end
    pub freed_hand : w.holding ≡ only_pool key.shape (pool ++ Idle id ∷ [])
    freed_hand = ap (λ (x : View). x.holding) r.step ∙ stepped key.shape (with_word u id r.before) pool id shown.decl word (Idle id) still (turn_idle id shown.decl word dies)

    pub freed_known : w.turns.known ≡ v.turns.known
    freed_known = ap (λ (x : View). x.turns.known) r.step ∙ ap (λ (x : View). x.turns.known) loaded

    -- so the id rests
    pub freed_now : Rests v w id pool 0
    freed_now = let makes : Gained = record nothing { turns = record { number = length pool; entry = Idle id } ∷ [] } in subst (λ (x : View). Rests v x id pool 0) (sym r.step) (record {
      owner = ap {B = Option ℕ} (λ b. cond b u.claims.owner (cond (eqb (word.phase % 3) 1) (Some id) None)) (ne_eqb (word.phase % 3) 0 (λ none. omega (arith, none, dies))) ∙ ap {B = Option ℕ} (λ b. cond b (Some id) None) (ne_eqb (word.phase % 3) 1 (λ one. omega (arith, one, dies)));
      held = ap (λ (x : View). x.claims.held) loaded;
      end = subst (λ (l : List PoolEntry). HasLastEnd id l v.turns.made) (journal key.shape v pool is) (of.last_end has_first owns);
      gains = brings_then v u (with_phase key.shape (with_word u id r.before) id shown.decl word) nothing makes
          (brings_loads v u (subst (Loads v) (sym loaded) (loads_word v id shown))) (brings_phase key.shape u pool id shown.decl r.before word (Idle id) still (turn_idle id shown.decl word dies));
    })
