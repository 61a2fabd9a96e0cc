-- SPDX-License-Identifier: GPL-2.0-only
-- Each job stands once in the table of jobs, so that weights tell how often it was popped.
use Rattle.shr_pool.proofs.Common.{◌≡◌, ℕ, zero, suc, ◌+◌, ◌*◌, ◌<◌, ◌≤◌, cond, [], ◌∷◌, map, sym, refl, ap, ◌∙◌, ⊎_elim, arith, false, ◌&&◌, range_with_len, map-range_with_len_more, dite, ℕ_discrete, total, total-append, SweepJob, PassView, job_at, table_jobs, AreWorked, AreEachOnce, IsTableJob, only_job, ◌/◌, ◌%◌, inl, inr, eq-eqb, ne_eqb, ◌==◌, ◌⊎◌}
use Rattle.std.proofs.lemmas.Nat.{same_from_place, div-add-mod'}
use Rattle.std.proofs.lemmas.Bool.{cases_lt}
use Rattle.std.proofs.Math.Nat.{mod-lt, mul-le-mul_right, div-lt_iff_lt-mul}

-- two jobs that differ
differs : (j x : SweepJob) → (x.group ≡ j.group → x.node ≡ j.node → ⊥) → only_job j x ≡ 0
differs j x apart = dite (ℕ_discrete x.group j.group)
    (λ g. dite (ℕ_discrete x.node j.node) (λ n. absurd (apart g n)) (λ n. ap (λ b. cond b 1 0) (ap (λ b. (x.group == j.group) && b) (ne_eqb x.node j.node n) ∙ ap (λ b. b && false) (eq-eqb x.group j.group g))))
    (λ g. ap (λ b. cond (b && (x.node == j.node)) 1 0) (ne_eqb x.group j.group g))

-- a job and itself
pub agrees : (j x : SweepJob) → x.group ≡ j.group → x.node ≡ j.node → only_job j x ≡ 1
agrees j x g n = ap (λ b. cond (b && (x.node == j.node)) 1 0) (eq-eqb x.group j.group g) ∙ ap (λ b. cond b 1 0) (eq-eqb x.node j.node n)

-- how often a job stands among the first n
abbrev among : ℕ → SweepJob → ℕ → ℕ
among groups j n = total (only_job j) (map (job_at groups) (range_with_len 0 n))

one_more : (groups : ℕ) (j : SweepJob) (n m : ℕ) → m ≡ n + 1 → among groups j m ≡ among groups j n + only_job j (job_at groups n)
one_more groups j n m e = omega (arith, ap (among groups j) e, ap (total (only_job j)) (map-range_with_len_more (job_at groups) 0 n n (omega arith)), total-append (only_job j) (map (job_at groups) (range_with_len 0 n)) (job_at groups n ∷ []))

-- a job that none of the first n is
pub none_among : (groups : ℕ) (j : SweepJob) (n : ℕ) → ((i : ℕ) → i < n → i % groups ≡ j.group → i / groups ≡ j.node → ⊥) → among groups j n ≡ 0
none_among groups j zero none = refl
none_among groups j (suc n) none = omega (arith, one_more groups j n (suc n) (omega arith), none_among groups j n (λ i l. none i (omega (arith, l))), differs j (job_at groups n) (none n (omega arith)))

-- a job that one of the first n is
pub one_among : (groups : ℕ) (j : SweepJob) (n : ℕ) → j.group < groups → j.node * groups + j.group < n → among groups j n ≡ 1
one_among groups j zero low here = absurd (omega (arith, here))
one_among groups j (suc n) low here = dite (ℕ_discrete n (j.node * groups + j.group))
    (λ e. omega (arith, one_more groups j n (suc n) (omega arith), none_among groups j n (not_before e), agrees j (job_at groups n) (sym (parts n e).1) (sym (parts n e).0)))
    (λ other. omega (arith, one_more groups j n (suc n) (omega arith), one_among groups j n low (omega (arith, here, other)), differs j (job_at groups n) (λ g k. other (place_of n g k)))) where
      some : 0 < groups
      some = omega (arith, low)

      place_of : (i : ℕ) → i % groups ≡ j.group → i / groups ≡ j.node → i ≡ j.node * groups + j.group
      place_of i g k = sym (div-add-mod' i groups) ∙ (ap (λ a. a * groups + i % groups) k ∙ ap (λ b. j.node * groups + b) g)

      parts : (i : ℕ) → i ≡ j.node * groups + j.group → (j.node ≡ i / groups) × (j.group ≡ i % groups)
      parts i e = same_from_place j.node j.group (i / groups) (i % groups) groups low (mod-lt i some) (sym e ∙ sym (div-add-mod' i groups))

      not_before : n ≡ j.node * groups + j.group → (i : ℕ) → i < n → i % groups ≡ j.group → i / groups ≡ j.node → ⊥
      not_before e i l g k = absurd (omega (arith, l, e, place_of i g k))

module _ (nodes groups : ℕ) (j : SweepJob) where
  pub once_in_table : IsTableJob nodes groups j → total (only_job j) (table_jobs nodes groups) ≡ 1
  once_in_table t = let m : (j.node + 1) * groups ≤ nodes * groups = mul-le-mul_right groups (omega (arith, t.node)) in one_among groups j (nodes * groups) t.group (omega (arith, m, t.group))

  pub not_in_table : (IsTableJob nodes groups j → ⊥) → total (only_job j) (table_jobs nodes groups) ≡ 0
  not_in_table outside = none_among groups j (nodes * groups) (λ i l g k. outside (record {
    node = omega (arith, k, (div-lt_iff_lt-mul {k = groups} {x = i} {y = nodes} (some i l)).1 l);
    group = omega (arith, g, mod-lt i (some i l));
  })) where
    some : (i : ℕ) → i < nodes * groups → 0 < groups
    some i l = dite (ℕ_discrete groups 0) (λ e. absurd (omega (arith, l, ap (λ g. nodes * g) e))) (λ n. omega (arith, n))

  pub is_table_job : (IsTableJob nodes groups j → ⊥) ⊎ IsTableJob nodes groups j
  is_table_job = ⊎_elim
      (λ (n : j.node < nodes). ⊎_elim (λ (g : j.group < groups). inr (record { node = n; group = g })) (λ (g : groups ≤ j.group). inl (λ t. absurd (omega (arith, t.group, g)))) (cases_lt j.group groups))
      (λ (n : nodes ≤ j.node). inl (λ t. absurd (omega (arith, t.node, n)))) (cases_lt j.node nodes)

-- what weights tell of each job
pub each_once : (nodes groups : ℕ) (v : PassView) → AreWorked nodes groups v → AreEachOnce nodes groups v
each_once nodes groups v w = record {
  once = λ j. ⊎_elim (λ out. omega (arith, w.at_most (only_job j), not_in_table nodes groups j out)) (λ t. omega (arith, w.at_most (only_job j), once_in_table nodes groups j t)) (is_table_job nodes groups j);
  known = λ j popped. ⊎_elim (λ out. absurd (omega (arith, popped, w.at_most (only_job j), not_in_table nodes groups j out))) (λ t. t) (is_table_job nodes groups j);
  all = λ mark j t. w.all mark (only_job j) ∙ once_in_table nodes groups j t;
}
