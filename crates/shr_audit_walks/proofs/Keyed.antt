-- SPDX-License-Identifier: GPL-2.0-only
-- Passes with one key are one.
use Rattle.shr_audit_walks.proofs.ScansCommon.{◌≡◌, ℕ, ◌+◌, ◌^◌, ◌<◌, false, ap, ◌∙◌, inl, inr, arith, ◌==◌, ◌&&◌, cases_Bool, eq-eqb, eqb-true, Place, IsNumbered, key_of, ◌*◌, and_parts, and_from}
use Rattle.shr_model.proofs.Booleans.{same_test}

-- a number by its last digit of 16 bits and the rest
long_digit : (q p r s : ℕ) → r < 2 ^ 16 → s < 2 ^ 16 → 65536 * q + r ≡ 65536 * p + s → (q ≡ p) × (r ≡ s)
long_digit q p r s small low e = (omega arith, omega arith)

-- and by one of 8 bits
short_digit : (q p r s : ℕ) → r < 2 ^ 8 → s < 2 ^ 8 → 256 * q + r ≡ 256 * p + s → (q ≡ p) × (r ≡ s)
short_digit q p r s small low e = (omega arith, omega arith)

-- the worker, the walk and the place that a key stands for
pub one_pass : (worker walk worker' walk' : ℕ) (p q : Place) → worker < 2 ^ 16 → worker' < 2 ^ 16 → IsNumbered p → IsNumbered q
    → key_of worker walk p ≡ key_of worker' walk' q → (worker ≡ worker') × ((walk ≡ walk') × (p ≡ q))
one_pass worker walk worker' walk' p q few few' np nq e =
    let last = long_digit (256 * (65536 * (65536 * walk + worker) + p.id) + p.node) (256 * (65536 * (65536 * walk' + worker') + q.id) + q.node) p.group q.group np.group nq.group e in
    let third = short_digit (65536 * (65536 * walk + worker) + p.id) (65536 * (65536 * walk' + worker') + q.id) p.node q.node np.node nq.node last.0 in
    let second = long_digit (65536 * walk + worker) (65536 * walk' + worker') p.id q.id np.id nq.id third.0 in
    let first = long_digit walk walk' worker worker' few few' second.0 in
    let ids = second.1 in
    let nodes = third.1 in
    let groups = last.1 in
    (first.1, (first.0, λ i. record { id = ids i; node = nodes i; group = groups i }))

-- the test of a key, at one place, is that of the worker and the walk
pub key_here : (worker walk worker' walk' : ℕ) (p : Place) → worker < 2 ^ 16 → worker' < 2 ^ 16 → IsNumbered p
    → (key_of worker' walk' p == key_of worker walk p) ≡ ((worker' == worker) && (walk' == walk))
key_here worker walk worker' walk' p few few' np =
    same_test (key_of worker' walk' p == key_of worker walk p) ((worker' == worker) && (walk' == walk))
    (λ t.
    let one = one_pass worker' walk' worker walk p p few' few np np (eqb-true (key_of worker' walk' p) (key_of worker walk p) t) in
    and_from (worker' == worker) (walk' == walk) (eq-eqb worker' worker one.0) (eq-eqb walk' walk one.1.0))
    (λ t.
    let parts = and_parts (worker' == worker) (walk' == walk) t in
    let workers : worker' ≡ worker = eqb-true worker' worker parts.0 in
    let walks : walk' ≡ walk = eqb-true walk' walk parts.1 in
    eq-eqb (key_of worker' walk' p) (key_of worker walk p) (ap (λ (w : ℕ). key_of w walk' p) workers ∙ ap (λ (n : ℕ). key_of worker n p) walks))

-- at another place it fails
pub key_elsewhere : (worker walk worker' walk' : ℕ) (p q : Place) → worker < 2 ^ 16 → worker' < 2 ^ 16 → IsNumbered p → IsNumbered q
    → (q ≡ p → ⊥) → (key_of worker' walk' q == key_of worker walk p) ≡ false
key_elsewhere worker walk worker' walk' p q few few' np nq other = elim (cases_Bool (key_of worker' walk' q == key_of worker walk p)) [
  | inl t ↦ absurd (other (one_pass worker' walk' worker walk q p few' few nq np (eqb-true (key_of worker' walk' q) (key_of worker walk p) t)).1.1)
  | inr f ↦ f
]
