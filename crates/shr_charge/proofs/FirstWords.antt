-- SPDX-License-Identifier: GPL-2.0-only
-- The words of a new table, group by group.
use Rattle.shr_charge.proofs.Common.{◌≡◌, ◌≢◌, ℕ, ◌+◌, ◌*◌, ◌%◌, ◌^◌, ◌<◌, ◌≤◌, ◌⊎◌, inl, inr, ⊎_elim, Bool, true, false, cond, List, length, replicate, set, get_or, sym, ap, subst, ◌∙◌, arith, length-set, get_or-set_same, get_or-set_other, get_or-replicate, cases_lt, is_later, group_in, group_index, AreFirstGroupWords, length-replicate}

-- the words of the groups below n are those of a new table, and all others are 0
pub record AreFirstTo (later : List Bool) (n : ℕ) (words : List ℕ) : Type 0 where
  pub long : length words ≡ 8 * length later + 1
  pub groups : (g : ℕ) → g < n → group_in words g ≡ cond (is_later later g) (2 ^ 63) 0
  pub others : (i : ℕ) → i < length words → (i % 8 ≢ 2) ⊎ (8 * n + 2 ≤ i) → get_or words i 0 ≡ 0

pub first_none : (later : List Bool) (words : List ℕ) → words ≡ replicate (8 * length later + 1) 0 → AreFirstTo later 0 words
first_none later words is = let long : length words ≡ 8 * length later + 1 = ap (length {A = ℕ}) is ∙ length-replicate (8 * length later + 1) 0 in record {
  long = long;
  groups = λ g low. absurd (omega (arith, low));
  others = λ i low h. ap (λ (l : List ℕ). get_or l i 0) is ∙ get_or-replicate (8 * length later + 1) i 0 0 (omega (arith, long, low));
}

module _ (later : List Bool) (n : ℕ) (words : List ℕ) (to : AreFirstTo later n words) (low : n < length later) where
  -- a group that isn't later
  pub first_kept : is_later later n ≡ false → AreFirstTo later (n + 1) words
  first_kept f = record {
    long = to.long;
    groups = λ g near. ⊎_elim
        (λ lt. to.groups g lt)
        (λ le. let same : n ≡ g = omega (arith, near, le) in subst (λ (k : ℕ). group_in words k ≡ cond (is_later later k) (2 ^ 63) 0) same
        (to.others (group_index n) (let long = to.long in omega (arith, long, low)) (inr (omega arith)) ∙ sym (ap {B = ℕ} (λ b. cond b (2 ^ 63) 0) f)))
        (cases_lt g n);
    others = λ i near h. to.others i near (⊎_elim (λ no. inl no) (λ le. inr (omega (arith, le))) h);
  }

  -- a later one
  pub first_set : is_later later n ≡ true → AreFirstTo later (n + 1) (set words (8 * n + 2) (2 ^ 63))
  first_set t = let long = to.long in let same-long = length-set words (8 * n + 2) (2 ^ 63) in record {
    long = omega (arith, long, same-long);
    groups = λ g near. ⊎_elim
        (λ lt. get_or-set_other words (8 * n + 2) (group_index g) (2 ^ 63) 0 (λ e. absurd (omega (arith, e, lt))) ∙ to.groups g lt)
        (λ le. let same : n ≡ g = omega (arith, near, le) in subst (λ (k : ℕ). group_in (set words (8 * n + 2) (2 ^ 63)) k ≡ cond (is_later later k) (2 ^ 63) 0) same
        (get_or-set_same words (8 * n + 2) (2 ^ 63) 0 (omega (arith, long, low)) ∙ sym (ap {B = ℕ} (λ b. cond b (2 ^ 63) 0) t)))
        (cases_lt g n);
    others = λ i near h. get_or-set_other words (8 * n + 2) i (2 ^ 63) 0 (⊎_elim (λ no e. no (let z : i % 8 ≡ 2 = omega (arith, e) in z)) (λ le e. omega (arith, le, e)) h)
        ∙ to.others i (omega (arith, near, same-long)) (⊎_elim (λ no. inl no) (λ le. inr (omega (arith, le))) h);
  }

pub first_all : (later : List Bool) (n : ℕ) (words : List ℕ) → length later ≤ n → AreFirstTo later n words → AreFirstGroupWords later words
first_all later n words all to = record {
  long = to.long;
  groups = λ g low. to.groups g (omega (arith, low, all));
  others = λ i low no. to.others i low (inl no);
}
