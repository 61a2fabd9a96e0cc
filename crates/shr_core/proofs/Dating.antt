-- SPDX-License-Identifier: GPL-2.0-only
-- That the registration of a dated id ends only after its lookup is kept.
use Rattle.shr_core.proofs.Common.{◌≡◌, ◌≢◌, ℕ, ◌<◌, ◌≤◌, Bool, true, false, cond, eqb, List, [], ◌∷◌, ◌++◌, length, set, drop, sym, refl, ap, subst, ◌∙◌, arith, eq-eqb, ne_eqb, lt-ltb, length-append, dite, ℕ_discrete, some, get_elem?, LookupWord, PoolEntry, Registered, Unregistered, Idle, is_before, Each, Each-set, Each-push, Each-append, Each-none, Each-one, Each-join, Claims, Dated, Turns, no_turns, lookups_of, IsDated, AreDated, IsHeld, turn_at, dated_now, drop-append-le, dating_of}
use Rattle.std.specs.Prelude.{Some, Option as Maybe, None}
use Rattle.shr_model.specs.Pool.{end_of}
use Rattle.shr_core.proofs.Claiming.{by_phase}

-- an end that is later in each of two parts of a journal is later in both together
before_more : (n i : ℕ) (es : List PoolEntry) (e : PoolEntry) → is_before n (end_of i es) ≡ true → is_before n (end_of i (e ∷ [])) ≡ true → is_before n (end_of i (es ++ e ∷ [])) ≡ true
unfolding end_of
before_more n i [] e old new = new
before_more n i (Registered d j from ∷ es) e old new = before_more n i es e old new
before_more n i (Unregistered d j to ∷ es) e old new =
    let P : Bool → Type 0 = λ b. is_before n (cond b (Some to) (end_of i es)) ≡ true → is_before n (cond b (Some to) (end_of i (es ++ e ∷ []))) ≡ true in
    let all : (b : Bool) → P b = λ b. elim b as P [ true ↦ (λ h. h) | false ↦ (λ h. before_more n i es e h new) ] in
    all (eqb j i) old
before_more n i (Idle j ∷ es) e old new = before_more n i es e old new

-- the entry of a phase step ends a registration at the lookups of the word that it found
turn_after : (n q i d : ℕ) (word : LookupWord) → (i ≡ q → n < word.lookups) → is_before n (end_of q (turn_at i d word ∷ [])) ≡ true
unfolding end_of
turn_after n q i d word later = by_phase (λ e. is_before n (end_of q (e ∷ [])) ≡ true) i d word (λ _. refl)
    (λ _. dite (ℕ_discrete i q)
    (λ same. ap (λ (b : Bool). is_before n (cond b (Some word.lookups) (end_of q []))) (eq-eqb i q same) ∙ lt-ltb n word.lookups (later same))
    (λ apart. ap (λ (b : Bool). is_before n (cond b (Some word.lookups) (end_of q []))) (ne_eqb i q apart)))
    (λ _. refl)

-- nothing ends a registration after the whole journal
before_none : (n q : ℕ) (pool : List PoolEntry) → is_before n (end_of q (drop (length pool) pool)) ≡ true
unfolding end_of
before_none n q [] = refl
before_none n q (e ∷ es) = before_none n q es

module _ (ids : ℕ) (look look' : ℕ → ℕ) (pool : List PoolEntry) (ts : List Turns) where
  -- a step on the word of the id i, after which no word has fewer lookups
  pub rises : (i : ℕ) → lookups_of (look i) ≤ lookups_of (look' i) → ((x : ℕ) → x ≢ i → look' x ≡ look x) → AreDated ids look pool ts → AreDated ids look' pool ts
  rises i more others o j t at k d there = let h = o j t at k d there in record { near = h.near; below = grown h.below; entries = h.entries; ended = h.ended } where
    grown : d.number < lookups_of (look d.id) → d.number < lookups_of (look' d.id)
    grown b = dite (ℕ_discrete d.id i) (λ same. omega (arith, b, more, ap (λ x. lookups_of (look x)) same, ap (λ x. lookups_of (look' x)) same)) (λ apart. omega (arith, b, ap lookups_of (others d.id apart)))

module _ (ids : ℕ) (look : ℕ → ℕ) (pool : List PoolEntry) (ts : List Turns) where
  -- a phase step of the id i, which found this word
  pub turns : (i d : ℕ) (word : LookupWord) → word.lookups ≡ lookups_of (look i) → AreDated ids look pool ts → AreDated ids look (pool ++ turn_at i d word ∷ []) ts
  turns i d word found o j t at k x there = let h = o j t at k x there in record {
    near = h.near;
    below = h.below;
    entries = omega (arith, h.entries, length-append pool (turn_at i d word ∷ []));
    ended = ap (λ (l : List PoolEntry). is_before x.number (end_of x.id l)) (drop-append-le x.entries pool (turn_at i d word ∷ []) h.entries)
        ∙ before_more x.number x.id (drop x.entries pool) (turn_at i d word) h.ended (turn_after x.number x.id i d word (λ same. omega (arith, h.below, found, ap (λ y. lookups_of (look y)) same)));
  }

  -- the pool is given back by a seat with these claims
  pub gives : (id : ℕ) (t w : Turns) (c : Claims) (entries : ℕ) → get_elem? ts id ≡ some t → entries ≡ length pool → ((i : ℕ) → c.held ≡ Some i → IsHeld ids look pool c i) → w.dated ≡ t.dated ++ dated_now c entries → AreDated ids look pool ts → AreDated ids look pool (set ts id w)
  gives id t w c entries at whole held more o = Each-set (λ (z : Turns). Each (IsDated ids look pool) z.dated) ts id w (subst (Each (IsDated ids look pool)) (sym more) (Each-append (IsDated ids look pool) t.dated (dated_now c entries) (o id t at) now)) o where
    by : (h : Maybe ℕ) → c.held ≡ h → Each (IsDated ids look pool) (dating_of h c.number entries)
    by None e = Each-none (IsDated ids look pool)
    by (Some i) e = let h = held i e in Each-one (IsDated ids look pool) (record { id = i; number = c.number; entries = entries }) (record {
      near = h.near;
      below = h.below;
      entries = omega (arith, whole);
      ended = ap (λ (n : ℕ). is_before c.number (end_of i (drop n pool))) whole ∙ before_none c.number i pool;
    })

    now : Each (IsDated ids look pool) (dated_now c entries)
    now = by c.held refl

  -- the turns of a seat change, and not what it dated
  pub same : (id : ℕ) (t w : Turns) → get_elem? ts id ≡ some t → w.dated ≡ t.dated → AreDated ids look pool ts → AreDated ids look pool (set ts id w)
  same id t w at is o = Each-set (λ (z : Turns). Each (IsDated ids look pool) z.dated) ts id w (subst (Each (IsDated ids look pool)) (sym is) (o id t at)) o

  -- one id more is dated
  pub again : (id : ℕ) (t w : Turns) (d : Dated) → get_elem? ts id ≡ some t → w.dated ≡ t.dated ++ d ∷ [] → IsDated ids look pool d → AreDated ids look pool ts → AreDated ids look pool (set ts id w)
  again id t w d at is now o = Each-set (λ (z : Turns). Each (IsDated ids look pool) z.dated) ts id w (subst (Each (IsDated ids look pool)) (sym is) (Each-push (IsDated ids look pool) t.dated d now (o id t at))) o

  -- a seat that was split off has dated nothing
  pub more : (w : Turns) → w.dated ≡ [] → AreDated ids look pool ts → AreDated ids look pool (ts ++ w ∷ [])
  more w none o = Each-push (λ (z : Turns). Each (IsDated ids look pool) z.dated) ts w (subst (Each (IsDated ids look pool)) (sym none) (Each-none (IsDated ids look pool))) o

  -- what a joined seat dated goes to the first
  pub joins : (id other : ℕ) (v u w : Turns) → get_elem? ts id ≡ some v → get_elem? ts other ≡ some u → w.dated ≡ v.dated ++ u.dated → AreDated ids look pool ts → AreDated ids look pool (set (set ts id w) other no_turns)
  joins id other v u w at them is o = Each-join (λ (z : Turns). Each (IsDated ids look pool) z.dated) ts id other w no_turns
      (subst (Each (IsDated ids look pool)) (sym is) (Each-append (IsDated ids look pool) v.dated u.dated (o id v at) (o other u them))) (Each-none (IsDated ids look pool)) o
