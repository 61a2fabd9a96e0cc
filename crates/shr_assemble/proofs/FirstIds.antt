-- SPDX-License-Identifier: GPL-2.0-only
-- Registrations that begin the journal take the ids in order.
use Rattle.shr_assemble.proofs.Common.{◌≡◌, ℕ, zero, suc, ◌%◌, ◌<◌, ◌≤◌, ◌≢◌, ⊎_elim, Bool, true, false, cond, List, [], ◌∷◌, ◌++◌, take, sym, refl, ap, subst, ◌∙◌, arith, eq-eqb, ne_eqb, Some, slice_get, nat_lt, ◌&&◌, ◌==◌, cases_lt, same_Some, none-some, dite, ℕ_discrete, PoolEntry, Registered, is_free, lowest_idle, IsPoolJournal, phase_of_push, some_at, one_of}
use Rattle.shr_model.specs.Pool.{phase_of, lowest_free}
use Rattle.shr_lawful.proofs.Listed.{take_next}

-- the lowest free id is free, and no lower one is
record IsLowest (from id : ℕ) (es : List PoolEntry) : Type 0 where
  free : is_free id es ≡ true
  above : from ≤ id
  lower : (i : ℕ) → from ≤ i → i < id → is_free i es ≡ false

lowest_is : (more from id : ℕ) (es : List PoolEntry) → lowest_free more from es ≡ Some id → IsLowest from id es
unfolding lowest_free
lowest_is zero from id es e = absurd (none-some id e)
lowest_is (suc more) from id es e = choose (is_free from es) refl e (lowest_is more (suc from) id es) where
  choose : (b : Bool) → is_free from es ≡ b → cond b (Some from) (lowest_free more (suc from) es) ≡ Some id → (lowest_free more (suc from) es ≡ Some id → IsLowest (suc from) id es) → IsLowest from id es
  choose true is at later = let same = same_Some from id at in record {
    free = subst (λ (i : ℕ). is_free i es ≡ true) same is;
    above = omega (arith, same);
    lower = λ i le lt. absurd (omega (arith, le, lt, same));
  }
  choose false is at later = let t = later at in let up = t.above in record {
    free = t.free;
    above = omega (arith, up);
    lower = λ i le lt. dite (ℕ_discrete i from) (λ d. subst (λ (j : ℕ). is_free j es ≡ false) (sym d) is) (λ ne. t.lower i (omega (arith, le, ne)) lt);
  }

-- an id that has one entry is not free, and one that has none is
free_none : (id : ℕ) (es : List PoolEntry) → phase_of id es ≡ 0 → is_free id es ≡ true
free_none id es e = ap (λ (n : ℕ). (n % 3 == 0) && nat_lt n 65533) e

free_one : (id : ℕ) (es : List PoolEntry) → phase_of id es ≡ 1 → is_free id es ≡ false
free_one id es e = ap (λ (n : ℕ). (n % 3 == 0) && nat_lt n 65533) e

-- the first entries register the ids below their number, each once
record AreFirst (n : ℕ) (es : List PoolEntry) : Type 0 where
  live : (id : ℕ) → id < n → phase_of id es ≡ 1
  idle : (id : ℕ) → n ≤ id → phase_of id es ≡ 0

next_id : (ids n id : ℕ) (es : List PoolEntry) → AreFirst n es → lowest_idle ids es ≡ Some id → id ≡ n
next_id ids n id es h low =
    let t = lowest_is ids 0 id es low in
    ⊎_elim (λ lt. absurd (let f : true ≡ false = sym t.free ∙ free_one id es (h.live id lt) in cc))
    (λ le. ⊎_elim (λ lt. absurd (let f : true ≡ false = sym (free_none n es (h.idle n (omega arith))) ∙ t.lower n (omega arith) lt in cc)) (λ ge. omega (arith, le, ge)) (cases_lt n id))
    (cases_lt id n)

own_one : (decl id : ℕ) → one_of id (Registered decl id 0) ≡ 1
own_one decl id = ap (λ (b : Bool). cond b 1 0) (eq-eqb id id refl)

else_one : (decl id j : ℕ) → id ≢ j → one_of j (Registered decl id 0) ≡ 0
else_one decl id j ne = ap (λ (b : Bool). cond b 1 0) (ne_eqb id j ne)

first_more : (n decl : ℕ) (es : List PoolEntry) → AreFirst n es → AreFirst (suc n) (es ++ Registered decl n 0 ∷ [])
first_more n decl es h = record {
  live = λ id lt. dite (ℕ_discrete n id)
      (λ e. let idle = h.idle id (omega (arith, e)) in let own : one_of id (Registered decl n 0) ≡ 1 = subst (λ (j : ℕ). one_of j (Registered decl n 0) ≡ 1) e (own_one decl n) in omega (arith, phase_of_push id es (Registered decl n 0), idle, own))
      (λ ne. omega (arith, phase_of_push id es (Registered decl n 0), h.live id (omega (arith, lt, ne)), else_one decl n id ne));
  idle = λ id le. omega (arith, phase_of_push id es (Registered decl n 0), h.idle id (omega (arith, le)), else_one decl n id (λ e. omega (arith, e, le)));
}

module _ (ids decls : ℕ) (pool : List PoolEntry) (journal : IsPoolJournal ids decls pool) (most : ℕ) (first : (n : ℕ) → n < most → (decl : ℕ) × (id : ℕ) × (slice_get pool n ≡ Some (Registered decl id 0))) where
  lowest_at : (n decl id : ℕ) → slice_get pool n ≡ Some (Registered decl id 0) → lowest_idle ids (take n pool) ≡ Some id
  lowest_at n decl id at = (journal n (Registered decl id 0) (some_at pool n (Registered decl id 0) at)).2

  are_first : (n : ℕ) → n ≤ most → AreFirst n (take n pool)
  unfolding phase_of
  are_first zero le = record { live = λ id lt. absurd (omega (arith, lt)); idle = λ id h. refl }
  are_first (suc n) le =
      let t = first n (omega (arith, le)) in
      let before = are_first n (omega (arith, le)) in
      let own = next_id ids n t.1 (take n pool) before (lowest_at n t.0 t.1 t.2) in
      let at : slice_get pool n ≡ Some (Registered t.0 n 0) = t.2 ∙ ap (λ (i : ℕ). Some (Registered t.0 i 0)) own in
      subst (AreFirst (suc n)) (sym (take_next pool n (Registered t.0 n 0) at)) (first_more n t.0 (take n pool) before)

  -- each of the first entries registers the id of its number
  pub first_id : (n decl id : ℕ) → n < most → slice_get pool n ≡ Some (Registered decl id 0) → id ≡ n
  first_id n decl id lt at = next_id ids n id (take n pool) (are_first n (omega (arith, lt))) (lowest_at n decl id at)
