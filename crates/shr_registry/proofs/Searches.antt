-- SPDX-License-Identifier: GPL-2.0-only
-- What searching the ids has found so far.
use Rattle.shr_registry.proofs.Common.{by_seat, append-nil, ◌≡◌, ℕ, zero, suc, ◌+◌, ◌-◌, ◌%◌, ◌<◌, ◌≤◌, Bool, true, false, cond, eqb, List, [], ◌∷◌, sym, refl, ap, subst, ◌∙◌, arith, eq-eqb, append_assoc, ◌++◌, map, ◌&&◌, ◌==◌, Some, None, dite, ℕ_discrete, LookupWord, PoolEntry, phase_of, decl_of, is_live, times, View, Shape, Setting, places_in, has_room, IsOfPool, HasPool, pool_of, with_word, content_in, Loads, Deed, map-append, ◌||◌, nat_lt, place_id, without_id}
use Rattle.shr_model.specs.Pool.{is_live_below, is_free, lowest_free}
use Rattle.shr_core.specs.Parts.{Holding, Marks, Claims, Loaded, Event, loaded as loaded_event}

-- what is owed of other ids
fewer_owed : (k i : ℕ) (xs : List ℕ) → times k (without_id i xs) ≤ times k xs
fewer_owed k i [] = omega arith
fewer_owed k i (x ∷ xs) = elim (eqb (place_id x) i) as (λ b. times k (cond b (without_id i xs) (x ∷ without_id i xs)) ≤ times k (x ∷ xs)) [ true ↦ omega (arith, fewer_owed k i xs) | false ↦ omega (arith, fewer_owed k i xs) ]

owed_before : (k i : ℕ) (live : Bool) (xs : List ℕ) → 0 < times k (cond live xs (without_id i xs)) → 0 < times k xs
owed_before k i true xs h = h
owed_before k i false xs h = omega (arith, h, fewer_owed k i xs)

next : (n : ℕ) → suc n ≡ n + 1
next n = omega arith

-- no word was loaded yet
pub loads_none : (v : View) → Loads v v
loads_none v = record { holding = refl; traces = refl; marks = refl; owed = λ k h. h; claims = refl; loaded = ([], sym (append-nil v.claims.loaded), sym (append-nil v.did)); seat = refl; turns = refl; standing = refl }

-- one after another
pub loads_then : (u v w : View) → Loads u v → Loads v w → Loads u w
loads_then u v w a b = record {
  holding = b.holding ∙ a.holding;
  traces = b.traces ∙ a.traces;
  marks = b.marks ∙ ap (λ (m : Marks). record m { owed = w.marks.owed }) a.marks;
  owed = λ k h. a.owed k (b.owed k h);
  claims = b.claims ∙ ap (λ (c : Claims). record c { loaded = w.claims.loaded; quiet = w.claims.quiet }) a.claims;
  loaded = (
    a.loaded.0 ++ b.loaded.0,
    b.loaded.1 ∙ (ap (λ (l : List Loaded). l ++ b.loaded.0) a.loaded.1 ∙ append_assoc u.claims.loaded a.loaded.0 b.loaded.0),
    b.loaded.2 ∙ (ap (λ (n : ℕ). v.did ++ by_seat n (map (λ x. loaded_event x) b.loaded.0)) a.seat ∙ (ap (λ (l : List (Deed Event)). l ++ by_seat u.seat (map (λ x. loaded_event x) b.loaded.0)) a.loaded.2
        ∙ (append_assoc u.did (by_seat u.seat (map (λ x. loaded_event x) a.loaded.0)) (by_seat u.seat (map (λ x. loaded_event x) b.loaded.0))
        ∙ ap (λ (l : List (Deed Event)). u.did ++ l) (sym (ap (by_seat u.seat) (map-append (λ (x : Loaded). loaded_event x) a.loaded.0 b.loaded.0) ∙ map-append (λ (e : Event). record { seat = u.seat; act = e }) (map (λ x. loaded_event x) a.loaded.0) (map (λ x. loaded_event x) b.loaded.0)))))),
  );
  seat = b.seat ∙ a.seat;
  turns = b.turns ∙ a.turns;
  standing = b.standing ∙ a.standing;
}

-- one word
pub loads_word : (v : View) (id : ℕ) (word : LookupWord) → Loads v (with_word v id word)
loads_word v id word = record { holding = refl; traces = refl; marks = refl; owed = λ k h. owed_before k id (eqb (word.phase % 3) 1) v.marks.owed h; claims = refl; loaded = (record { id = id; word = word } ∷ [], refl, refl); seat = refl; turns = refl; standing = refl }

-- one word more
pub more_loaded : (v a u : View) (id : ℕ) (word : LookupWord) → Loads v a → u ≡ with_word a id word → Loads v u
more_loaded v a u id word before is = loads_then v a u before (subst (Loads a) (sym is) (loads_word a id word))

-- and none below the next
pub none_next : (decl id : ℕ) (pool : List PoolEntry) → (is_live id pool && (decl_of id pool == decl)) ≡ false → is_live_below decl id pool ≡ false → is_live_below decl (id + 1) pool ≡ false
unfolding is_live_below
none_next decl id pool not-it below = subst (λ n. is_live_below decl n pool ≡ false) (next id) (ap (λ b. b || is_live_below decl id pool) not-it ∙ below)

-- a word that is loaded with the pool in hand shows whether its id is live
pub live_is : (decl id : ℕ) (pool : List PoolEntry) (word : LookupWord) → word.phase ≡ phase_of id pool → word.decl ≡ decl_of id pool → ((word.phase % 3 == 1) && (word.decl == decl)) ≡ (is_live id pool && (decl_of id pool == decl))
live_is decl id pool word phase named = λ i. (phase i % 3 == 1) && (named i == decl)

-- a live id's declaration is live
pub live_below : (n decl id : ℕ) (pool : List PoolEntry) → id < n → is_live id pool ≡ true → decl_of id pool ≡ decl → is_live_below decl n pool ≡ true
unfolding is_live_below
live_below zero decl id pool near live named = absurd (omega (arith, near))
live_below (suc n) decl id pool near live named = dite (ℕ_discrete id n)
    (λ e. ap (λ b. b || is_live_below decl n pool) (subst (λ x. (is_live x pool && (decl_of x pool == decl)) ≡ true) e (ap (λ b. b && (decl_of id pool == decl)) live ∙ eq-eqb (decl_of id pool) decl named)))
    (λ ne. ap (λ b. (is_live n pool && (decl_of n pool == decl)) || b) (live_below n decl id pool (omega (arith, near, ne)) live named) ∙ or_true (is_live n pool && (decl_of n pool == decl)))
  where
    or_true : (b : Bool) → (b || true) ≡ true
    or_true true = refl
    or_true false = refl

-- an id that is free is the lowest
pub free_here : (ids id : ℕ) (pool : List PoolEntry) (word : LookupWord) → id < ids → word.phase ≡ phase_of id pool → ((word.phase % 3 == 0) && nat_lt word.phase 65533) ≡ true → lowest_free (ids - id) id pool ≡ Some id
unfolding lowest_free
free_here ids id pool word near phase is = ap (λ n. lowest_free n id pool) (gap ids id near) ∙ here (ids - suc id)
  where
    gap : (ids id : ℕ) → id < ids → ids - id ≡ suc (ids - suc id)
    gap ids id near = omega (arith, near)

    free : is_free id pool ≡ true
    free = sym (λ i. (phase i % 3 == 0) && nat_lt (phase i) 65533) ∙ is

    here : (n : ℕ) → lowest_free (suc n) id pool ≡ Some id
    here n = ap (λ b. cond b (Some id) (lowest_free n (suc id) pool)) free

-- and else the search goes on
pub free_next : (ids id : ℕ) (pool : List PoolEntry) (word : LookupWord) → id < ids → word.phase ≡ phase_of id pool → ((word.phase % 3 == 0) && nat_lt word.phase 65533) ≡ false → lowest_free (ids - id) id pool ≡ lowest_free (ids - (id + 1)) (id + 1) pool
unfolding lowest_free
free_next ids id pool word near phase is = subst (λ (n : ℕ). lowest_free (ids - id) id pool ≡ lowest_free (ids - n) n pool) (next id) (ap (λ n. lowest_free n id pool) (gap ids id near) ∙ past (ids - suc id))
  where
    gap : (ids id : ℕ) → id < ids → ids - id ≡ suc (ids - suc id)
    gap ids id near = omega (arith, near)

    free : is_free id pool ≡ false
    free = sym (λ i. (phase i % 3 == 0) && nat_lt (phase i) 65533) ∙ is

    past : (n : ℕ) → lowest_free (suc n) id pool ≡ lowest_free n (suc id) pool
    past n = ap (λ b. cond b (Some id) (lowest_free n (suc id) pool)) free

-- no id is left
pub free_none : (ids id : ℕ) (pool : List PoolEntry) → ids ≤ id → lowest_free (ids - id) id pool ≡ None
unfolding lowest_free
free_none ids id pool past = ap (λ n. lowest_free n id pool) (gap ids id past) ∙ empty id
  where
    gap : (ids id : ℕ) → ids ≤ id → ids - id ≡ 0
    gap ids id past = omega (arith, past)

    empty : (id : ℕ) → lowest_free 0 id pool ≡ None
    empty id = refl

-- what a word loaded with the pool in hand shows
pub shown_phase : (key : Setting) (v u : View) (id : ℕ) (word : LookupWord) → Loads v u → HasPool key.shape v → IsOfPool key u id word → word.phase ≡ phase_of id (pool_of key.shape v)
shown_phase key v u id word a has is = let shape : Shape = key.shape in is.phase (subst (λ (h : Holding). 0 < has_room (places_in shape.ids) h) (sym a.holding) has) ∙ ap (λ (h : Holding). phase_of id (content_in (places_in shape.ids) h.hands).pool) a.holding

-- with the pool in hand a word shows the declaration of the pool's journal
pub shown_decl : (key : Setting) (v u : View) (id : ℕ) (word : LookupWord) → Loads v u → HasPool key.shape v → IsOfPool key u id word → word.decl ≡ decl_of id (pool_of key.shape v)
shown_decl key v u id word a has is = let shape : Shape = key.shape in is.decl (subst (λ (h : Holding). 0 < has_room (places_in shape.ids) h) (sym a.holding) has) ∙ ap (λ (h : Holding). decl_of id (content_in (places_in shape.ids) h.hands).pool) a.holding
