-- SPDX-License-Identifier: GPL-2.0-only
-- What the first seats have once the caches that are on were registered: entries of the journal of registrations, and nothing
-- else.
use Rattle.shr_assemble.proofs.Common.{◌≡◌, ℕ, zero, suc, ◌+◌, ◌<◌, ◌≤◌, Bool, true, false, cond, List, [], ◌∷◌, length, length-append, sym, refl, ap, subst, ◌∙◌, arith, slice_get, Option, Some, None, filter_map, enumerate_from, cons_option, append-nil, PoolEntry, Registered, CacheDecl, times, View, opener, Enters, EntersIf, AreEntered, is_on}

-- nothing was made, counted, set, cleared, seen or looked up, and no bit is owed
pub record IsFresh (v : View) : Type 0 where
  pub made : v.traces.made ≡ []
  pub seen : v.traces.seen ≡ []
  pub sets : v.marks.sets ≡ []
  pub cleared : v.marks.cleared ≡ []
  pub maps : v.marks.maps ≡ []
  pub attempts : v.claims.attempts ≡ []
  pub owed : (k : ℕ) → times k v.marks.owed ≡ 0
  pub heard : v.turns.heard ≡ []

fresh_enters : (decl : ℕ) (v w : View) → IsFresh v → Enters decl v w → IsFresh w
fresh_enters decl v w f e = let a = e.gains.adds in record {
  made = a.made ∙ (append-nil v.traces.made ∙ f.made);
  seen = a.seen ∙ (append-nil v.traces.seen ∙ f.seen);
  sets = a.sets ∙ (append-nil v.marks.sets ∙ f.sets);
  cleared = a.cleared ∙ (append-nil v.marks.cleared ∙ f.cleared);
  maps = a.maps ∙ (append-nil v.marks.maps ∙ f.maps);
  attempts = a.attempts ∙ (append-nil v.claims.attempts ∙ f.attempts);
  owed = λ k. none (times k w.marks.owed) (λ h. let more = e.gains.owed k h in let no = f.owed k in omega (arith, more, no));
  heard = a.heard ∙ f.heard;
} where
  none : (n : ℕ) → (0 < n → ⊥) → n ≡ 0
  none zero h = refl
  none (suc n) h = absurd (h (omega arith))

fresh_if : (b : Bool) (decl : ℕ) (v w : View) → IsFresh v → EntersIf b decl v w → IsFresh w
fresh_if true decl v w f e = fresh_enters decl v w f e
fresh_if false decl v w f e = subst IsFresh (sym e) f

pub fresh_opened : (caches : List CacheDecl) (n : ℕ) (w : View) → AreEntered caches n opener w → IsFresh w
fresh_opened caches zero w e = subst IsFresh (sym e) (record { made = refl; seen = refl; sets = refl; cleared = refl; maps = refl; attempts = refl; owed = λ k. refl; heard = refl })
fresh_opened caches (suc n) w (u, before, one) = fresh_if (is_on (slice_get caches n)) n u w (fresh_opened caches n u before) one

-- how many of the first declarations are on
pub on_below : List CacheDecl → ℕ → ℕ
on_below caches zero = 0
on_below caches (suc n) = on_below caches n + cond (is_on (slice_get caches n)) 1 0

known_if : (b : Bool) (decl : ℕ) (v w : View) (many : ℕ) → EntersIf b decl v w → many ≤ length v.turns.known → many + cond b 1 0 ≤ length w.turns.known
known_if true decl v w many e le = let begun = e.seen in
    let more : length v.turns.known ≤ length e.before = let l = ap (λ (es : List PoolEntry). length es) begun.1 in let a = length-append v.turns.known begun.0 in omega (arith, l, a) in
    let l = ap (λ (es : List PoolEntry). length es) e.known in let a = length-append e.before (Registered decl e.id 0 ∷ []) in omega (arith, l, a, more, le)
known_if false decl v w many e le = let l = ap (λ (u : View). length u.turns.known) e in omega (arith, l, le)

-- each declaration that is on is known to be registered
pub known_opened : (caches : List CacheDecl) (n : ℕ) (w : View) → AreEntered caches n opener w → on_below caches n ≤ length w.turns.known
unfolding on_below
known_opened caches zero w e = omega arith
known_opened caches (suc n) w (u, before, one) = known_if (is_on (slice_get caches n)) n u w (on_below caches n) one (known_opened caches n u before)

-- the numbers of the declarations that are on are as many
on_first : (c : CacheDecl) (cs : List CacheDecl) (n : ℕ) → on_below (c ∷ cs) (suc n) ≡ cond c.on 1 0 + on_below cs n
unfolding on_below
on_first c cs zero = omega arith
on_first c cs (suc n) = let h = on_first c cs n in omega (arith, h)

pub on_are : (cs : List CacheDecl) (from : ℕ) → length (filter_map (λ (c : ℕ × CacheDecl). cond c.1.on (Some c.0) None) (enumerate_from from cs)) ≡ on_below cs (length cs)
unfolding on_below
on_are [] from = refl
on_are (c ∷ cs) from = choose c.on (length (filter_map (λ (c : ℕ × CacheDecl). cond c.1.on (Some c.0) None) (enumerate_from (from + 1) cs))) refl (on_are cs (from + 1)) ∙ sym (on_first c cs (length cs)) where
  g : ℕ × CacheDecl → Option ℕ
  g c = cond c.1.on (Some c.0) None

  choose : (b : Bool) (l : ℕ) → l ≡ length (filter_map g (enumerate_from (from + 1) cs)) → l ≡ on_below cs (length cs)
      → length (cons_option (cond b (Some from) None) (filter_map g (enumerate_from (from + 1) cs))) ≡ cond b 1 0 + on_below cs (length cs)
  choose true l e h = omega (arith, e, h)
  choose false l e h = omega (arith, e, h)
