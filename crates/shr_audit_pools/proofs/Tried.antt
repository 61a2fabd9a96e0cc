-- SPDX-License-Identifier: GPL-2.0-only
-- Walks of the pools, try by try.
use Rattle.shr_audit_pools.proofs.Common.{◌≡◌, ◌⊎◌, inl, inr, ℕ, ◌+◌, ◌<◌, ◌≤◌, Bool, true, false, List, length, get_or, Some, refl, sym, ap, subst, ◌∙◌, arith, slice_get, sum_by, Decides, cases_lt, same_Some, slice_get-get_or, slice_get_within, Place, PoolDecl, Script, PlainAnswer, PlainTry, PlainWalk, Report, HasTries, IsPlainLawful, freed_in_try, pool_place, fails, PoolPlace, IsTryRight, named_place, IsKind, IsPlainCount, plain_told, EachTry, IsRunRight}

-- one try more
pub try_more : (P : ℕ → PoolDecl → PlainTry → Type 0) (decls : List PoolDecl) (tries : List PlainTry) (i : ℕ) (d : PoolDecl) (x : PlainTry) → i < length decls → d ≡ get_or decls i d → i < length tries
    → ((k : ℕ) (e : PoolDecl) (y : PlainTry) → k < i → slice_get decls k ≡ Some e → slice_get tries k ≡ Some y → P k e y) → P i d (get_or tries i x)
    → (k : ℕ) (e : PoolDecl) (y : PlainTry) → k < i + 1 → slice_get decls k ≡ Some e → slice_get tries k ≡ Some y → P k e y
try_more P decls tries i d x lt is in_tries before here k e y less decl_k try_k = by (cases_lt k i)
  where
    by : (k < i) ⊎ (i ≤ k) → P k e y
    by (inl lower) = before k e y lower decl_k try_k
    by (inr ge) =
        let same : i ≡ k = omega (arith, less, ge) in
        let own : d ≡ e = same_Some d e (sym (slice_get-get_or decls i d lt ∙ ap (λ (z : PoolDecl). Some z) (sym is)) ∙ (ap (slice_get decls) same ∙ decl_k)) in
        let tried : get_or tries i x ≡ y = same_Some (get_or tries i x) y (sym (slice_get-get_or tries i x in_tries) ∙ (ap (slice_get tries) same ∙ try_k)) in
        subst (λ (n : ℕ). P n e y) same (subst (λ (z : PoolDecl). P i z y) own (subst (P i d) tried here))

-- all tries
pub tries_whole : (s : Script) (w : PlainWalk) (P : ℕ → Place → PoolDecl → PlainTry → Type 0) (decls : List PoolDecl) (tries : List PlainTry) (i : ℕ) → decls ≡ s.pools.items → tries ≡ w.tries.items → length tries ≤ i
    → ((k : ℕ) (d : PoolDecl) (x : PlainTry) → k < i → slice_get decls k ≡ Some d → slice_get tries k ≡ Some x → P k (pool_place s k w.node) d x) → Decides true (EachTry s w P)
tries_whole s w P decls tries i decls_are tries_are over before = (
  λ t pool d x decl_k try_k.
      let there : slice_get tries pool ≡ Some x = ap (λ (xs : List PlainTry). slice_get xs pool) tries_are ∙ try_k in
      let lt = slice_get_within tries pool x there in
      before pool d x (omega (arith, lt, over)) (ap (λ (ds : List PoolDecl). slice_get ds pool) decls_are ∙ decl_k) there,
  λ h. refl,
)

-- one that isn't right
pub tries_fail : (s : Script) (w : PlainWalk) (P : ℕ → Place → PoolDecl → PlainTry → Type 0) (decls : List PoolDecl) (tries : List PlainTry) (i : ℕ) (d : PoolDecl) (x : PlainTry) (b : Bool) → decls ≡ s.pools.items → tries ≡ w.tries.items
    → i < length decls → d ≡ get_or decls i d → i < length tries → Decides b (P i (pool_place s i w.node) d (get_or tries i x)) → b ≡ false → Decides false (EachTry s w P)
tries_fail s w P decls tries i d x b decls_are tries_are lt is in_tries dec f =
    fails (P i (pool_place s i w.node) d (get_or tries i x)) (EachTry s w P) b dec f
    (λ h. h i d (get_or tries i x) (ap (λ (ds : List PoolDecl). slice_get ds i) (sym decls_are) ∙ (slice_get-get_or decls i d lt ∙ ap (λ (z : PoolDecl). Some z) (sym is)))
    (ap (λ (xs : List PlainTry). slice_get xs i) (sym tries_are) ∙ slice_get-get_or tries i x in_tries))

-- the same at the place that the code found
pub try_step : (s : Script) (r : Report) (worker n : ℕ) (w : PlainWalk) (decls : List PoolDecl) (tries : List PlainTry) (i : ℕ) (d : PoolDecl) (x : PlainTry) (p : PoolPlace) → decls ≡ s.pools.items → tries ≡ w.tries.items → length w.tries.items ≤ length s.pools.items
    → i < length tries → d ≡ get_or decls i d → named_place p ≡ pool_place s i w.node
    → ((k : ℕ) (e : PoolDecl) (y : PlainTry) → k < i → slice_get decls k ≡ Some e → slice_get tries k ≡ Some y → IsTryRight r worker n w k (pool_place s k w.node) e y) → IsTryRight r worker n w i (named_place p) d (get_or tries i x)
    → (k : ℕ) (e : PoolDecl) (y : PlainTry) → k < i + 1 → slice_get decls k ≡ Some e → slice_get tries k ≡ Some y → IsTryRight r worker n w k (pool_place s k w.node) e y
try_step s r worker n w decls tries i d x p decls_are tries_are few lt is home before here =
    try_more (λ (k : ℕ) (e : PoolDecl) (y : PlainTry). IsTryRight r worker n w k (pool_place s k w.node) e y) decls tries i d x (let a = ap length decls_are in let b = ap length tries_are in omega (arith, a, b, few, lt)) is lt before
    (subst (λ (q : Place). IsTryRight r worker n w i q d (get_or tries i x)) home here)

-- ---- a try

pub try_decided : (r : Report) (worker n : ℕ) (w : PlainWalk) (pool : ℕ) (place : Place) (d : PoolDecl) (x : PlainTry) (b : Bool) → IsPlainCount r place x → IsKind d x → Decides b (IsRunRight r worker n w pool place d x) → Decides b (IsTryRight r worker n w pool place d x)
try_decided r worker n w pool place d x b count kind run = (λ t. record { count = count; kind = kind; run = run.0 t }, λ h. run.1 h.run)

-- ---- the walk

pub freed_decided : (a : PlainAnswer) (told : ℕ) (xs ys : List PlainTry) (b : Bool) → told ≡ plain_told a → xs ≡ ys → Decides b (told ≡ sum_by freed_in_try xs) → Decides b (plain_told a ≡ sum_by freed_in_try ys)
freed_decided a told xs ys b e f d = subst (λ (n : ℕ). Decides b (n ≡ sum_by freed_in_try ys)) e (subst (λ (zs : List PlainTry). Decides b (told ≡ sum_by freed_in_try zs)) f d)

abbrev Tries : Script → Report → ℕ → ℕ → PlainWalk → Type 0
Tries s r worker n w = EachTry s w (λ pool place d x. IsTryRight r worker n w pool place d x)

tries_of : (s : Script) (r : Report) (worker n : ℕ) (w : PlainWalk) → IsPlainLawful s r worker n w → Tries s r worker n w
tries_of s r worker n w h pool d x decl_k try_k = record {
  count = h.counts pool d x decl_k try_k;
  kind = h.kinds pool d x decl_k try_k;
  run = λ p e. (h.passes pool d x decl_k try_k p e, h.cut pool d x decl_k try_k p e);
}

pub plain_fails : (s : Script) (r : Report) (worker n : ℕ) (w : PlainWalk) (a : Bool) → Decides a (Tries s r worker n w) → a ≡ false → Decides false (IsPlainLawful s r worker n w)
plain_fails s r worker n w a d f = fails (Tries s r worker n w) (IsPlainLawful s r worker n w) a d f (tries_of s r worker n w)

pub plain_decided : (s : Script) (r : Report) (worker n : ℕ) (w : PlainWalk) (b : Bool) → HasTries (length s.pools.items) w.answer (length w.tries.items) → Tries s r worker n w → Decides b (plain_told w.answer ≡ sum_by freed_in_try w.tries.items) → Decides b (IsPlainLawful s r worker n w)
plain_decided s r worker n w b has tries d = (
  λ t. record {
    tries = has;
    counts = λ pool e x decl_k try_k. (tries pool e x decl_k try_k).count;
    kinds = λ pool e x decl_k try_k. (tries pool e x decl_k try_k).kind;
    passes = λ pool e x decl_k try_k p is. ((tries pool e x decl_k try_k).run p is).0;
    cut = λ pool e x decl_k try_k p is. ((tries pool e x decl_k try_k).run p is).1;
    freed = d.0 t;
  },
  λ h. d.1 h.freed,
)
