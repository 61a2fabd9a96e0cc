-- SPDX-License-Identifier: GPL-2.0-only
-- How long a pool's journal is, and which declarations its ids have.
use Rattle.shr_core.proofs.Common.{◌≡◌, ◌≢◌, ℕ, zero, suc, ◌+◌, ◌*◌, ◌<◌, ◌≤◌, List, [], ◌∷◌, ◌++◌, length, take, sym, refl, ap, subst, arith, length-append, eq-eqb, ne_eqb, Bool, cond, take_all, dite, ℕ_discrete, PoolEntry, Registered, Unregistered, Idle, decl_of, decl_after, IsNextPool, IsPoolJournal, one_of, phase_of_push, decl_from_push}
use Rattle.shr_model.specs.Pool.{id_of, phase_of}
use Rattle.shr_core.proofs.Hands.{no_phase}
use Rattle.shr_model.proofs.PoolLaws.{else_none, next_within, take_next}
pub use Rattle.shr_model.proofs.PoolLaws.{past_none}

-- the phases of the ids below a bound, together
unfoldable phases_below : ℕ → List PoolEntry → ℕ
phases_below zero es = 0
phases_below (suc n) es = phase_of n es + phases_below n es

here_one : (i : ℕ) (e : PoolEntry) → id_of e ≡ i → one_of i e ≡ 1
here_one i e same = ap (λ b. cond b 1 0) (eq-eqb (id_of e) i same)

below_past : (n : ℕ) (es : List PoolEntry) (e : PoolEntry) → n ≤ id_of e → phases_below n (es ++ e ∷ []) ≡ phases_below n es
unfolding phases_below
below_past zero es e h = refl
below_past (suc n) es e h = omega (arith, phase_of_push n es e, else_none n e (λ q. omega (arith, q, h)), below_past n es e (omega (arith, h)))

below_push : (n : ℕ) (es : List PoolEntry) (e : PoolEntry) → id_of e < n → phases_below n (es ++ e ∷ []) ≡ phases_below n es + 1
unfolding phases_below
below_push zero es e h = absurd (omega (arith, h))
below_push (suc n) es e h = dite (ℕ_discrete (id_of e) n)
    (λ q. omega (arith, phase_of_push n es e, here_one n e q, below_past n es e (omega (arith, q))))
    (λ q. omega (arith, phase_of_push n es e, else_none n e q, below_push n es e (omega (arith, h, q))))

below_none : (n : ℕ) → phases_below n [] ≡ 0
unfolding phases_below phase_of
below_none zero = refl
below_none (suc n) = omega (arith, below_none n, no_phase n)

-- phases that fit their field
below_most : (n most : ℕ) (es : List PoolEntry) → ((i : ℕ) → i < n → phase_of i es ≤ most) → phases_below n es ≤ most * n
unfolding phases_below
below_most zero most es h = omega arith
below_most (suc n) most es h = omega (arith, h n (omega arith), below_most n most es (λ i l. h i (omega (arith, l))))

-- each entry is of an id of the shape, and each id that has one has a declaration of the shape
record Tells (ids decls : ℕ) (es : List PoolEntry) : Type 0 where
  all : phases_below ids es ≡ length es
  past : (i : ℕ) → ids ≤ i → phase_of i es ≡ 0
  declared : (i : ℕ) → phase_of i es ≢ 0 → decl_of i es < decls

-- the declaration after one entry more
declared_push : (ids decls i : ℕ) (es : List PoolEntry) (e : PoolEntry) → Tells ids decls es → IsNextPool ids decls es e → phase_of i (es ++ e ∷ []) ≢ 0 → decl_after i (decl_of i es) e < decls
declared_push ids decls i es (Registered d j from) t n had = dite (ℕ_discrete j i)
    (λ q. subst (λ (b : Bool). cond b d (decl_of i es) < decls) (sym (eq-eqb j i q)) n.0)
    (λ q. subst (λ (b : Bool). cond b d (decl_of i es) < decls) (sym (ne_eqb j i q)) (t.declared i (λ z. had (omega (arith, phase_of_push i es (Registered d j from), else_none i (Registered d j from) q, z)))))
declared_push ids decls i es (Unregistered d j to) t n had = t.declared i (λ z. had (omega (arith, phase_of_push i es (Unregistered d j to), z, else_none i (Unregistered d j to) (λ q. omega (arith, z, n.0, ap (λ x. phase_of x es) q)))))
declared_push ids decls i es (Idle j) t n had = t.declared i (λ z. had (omega (arith, phase_of_push i es (Idle j), z, else_none i (Idle j) (λ q. omega (arith, z, n, ap (λ x. phase_of x es) q)))))

tells_push : (ids decls : ℕ) (es : List PoolEntry) (e : PoolEntry) → Tells ids decls es → IsNextPool ids decls es e → Tells ids decls (es ++ e ∷ [])
tells_push ids decls es e t n = let here = next_within ids decls es e t.past n in record {
  all = omega (arith, t.all, below_push ids es e here, length-append es (e ∷ []));
  past = λ i far. omega (arith, t.past i far, phase_of_push i es e, else_none i e (λ q. omega (arith, q, far, here)));
  declared = λ i had. subst (λ (x : ℕ). x < decls) (sym (decl_from_push i 0 es e)) (declared_push ids decls i es e t n had);
}

tells_take : (ids decls : ℕ) (es : List PoolEntry) (k : ℕ) → k ≤ length es → IsPoolJournal ids decls es → Tells ids decls (take k es)
tells_take ids decls es zero h all = record { all = below_none ids; past = λ i far. no_phase i; declared = λ i had. absurd (had (no_phase i)) }
tells_take ids decls es (suc k) h all = let t = take_next es k (omega (arith, h)) in
    subst (Tells ids decls) (sym t.2) (tells_push ids decls (take k es) t.0 (tells_take ids decls es k (omega (arith, h)) all) (all k t.0 t.1))

tells : (ids decls : ℕ) (es : List PoolEntry) → IsPoolJournal ids decls es → Tells ids decls es
tells ids decls es all = subst (Tells ids decls) (take_all (length es) es (omega arith)) (tells_take ids decls es (length es) (omega arith) all)

-- a journal whose phases fit their field has at most so many entries for each id
pub most_entries : (ids decls most : ℕ) (es : List PoolEntry) → IsPoolJournal ids decls es → ((i : ℕ) → i < ids → phase_of i es ≤ most) → length es ≤ most * ids
most_entries ids decls most es all fit = let t = tells ids decls es all in omega (arith, t.all, below_most ids most es fit)

-- the declaration of an id that was registered is one of so many
pub declared_in : (ids decls i : ℕ) (es : List PoolEntry) → IsPoolJournal ids decls es → phase_of i es ≢ 0 → decl_of i es < decls
declared_in ids decls i es all had = (tells ids decls es all).declared i had
