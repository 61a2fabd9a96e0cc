-- SPDX-License-Identifier: GPL-2.0-only
-- What a journal says of an id lasts while it gains no entry of that id.
use Rattle.shr_core.proofs.Common.{◌≡◌, ℕ, ◌+◌, ◌≤◌, Bool, true, false, cond, eqb, List, [], ◌∷◌, ◌++◌, length, drop, refl, ap, ◌∙◌, arith, ne_eqb, eq-eqb, length-append, dite, ℕ_discrete, PoolEntry, Registered, Unregistered, Idle, decl_of, decl_after, from_of, from_after, is_before, Begins}
use Rattle.std.specs.Prelude.{Some, None, Option as Maybe}
use Rattle.shr_model.specs.Pool.{phase_of, decl_from, from_from, end_of, Registration, registrations}
use Rattle.shr_model.specs.Pool as pool

-- the phase counts the entries of both parts
phase_both : (i : ℕ) (a b : List PoolEntry) → phase_of i (a ++ b) ≡ phase_of i a + phase_of i b
unfolding phase_of
phase_both i [] b = omega arith
phase_both i (e ∷ es) b = let one : ℕ = cond (eqb (pool.id_of e) i) 1 0 in omega (arith, phase_both i es b)

-- an entry that doesn't count is of another id
apart : (x i n : ℕ) → cond (eqb x i) 1 0 + n ≡ 0 → (eqb x i ≡ false) × (n ≡ 0)
apart x i n none = dite (ℕ_discrete x i) (λ e. absurd (omega (arith, none, ap {B = ℕ} (λ b. cond b 1 0) (eq-eqb x i e)))) (λ ne. (ne_eqb x i ne, omega (arith, none)))

module _ (i : ℕ) where
  -- without an entry of the id, nothing ends
  end_none : (b : List PoolEntry) → phase_of i b ≡ 0 → end_of i b ≡ None
  unfolding phase_of end_of
  end_none [] none = refl
  end_none (Registered d j from ∷ es) none = end_none es (apart j i (phase_of i es) none).1
  end_none (Unregistered d j to ∷ es) none = let t = apart j i (phase_of i es) none in ap (λ (x : Bool). cond x (Some to) (end_of i es)) t.0 ∙ end_none es t.1
  end_none (Idle j ∷ es) none = end_none es (apart j i (phase_of i es) none).1

  -- nothing is registered
  registrations_none : (b : List PoolEntry) → phase_of i b ≡ 0 → registrations i b ≡ []
  unfolding phase_of registrations
  registrations_none [] none = refl
  registrations_none (Registered d j from ∷ es) none = let t = apart j i (phase_of i es) none in ap (λ (x : Bool). cond x (record { decl = d; from = from; to = end_of i es } ∷ registrations i es) (registrations i es)) t.0 ∙ registrations_none es t.1
  registrations_none (Unregistered d j to ∷ es) none = registrations_none es (apart j i (phase_of i es) none).1
  registrations_none (Idle j ∷ es) none = registrations_none es (apart j i (phase_of i es) none).1

  -- and the declaration and the beginning stay
  decl_stays : (n : ℕ) (b : List PoolEntry) → phase_of i b ≡ 0 → decl_from i n b ≡ n
  unfolding phase_of decl_from
  decl_stays n [] none = refl
  decl_stays n (Registered d j from ∷ es) none = let t = apart j i (phase_of i es) none in ap (λ (x : Bool). decl_from i (cond x d n) es) t.0 ∙ decl_stays n es t.1
  decl_stays n (Unregistered d j to ∷ es) none = decl_stays n es (apart j i (phase_of i es) none).1
  decl_stays n (Idle j ∷ es) none = decl_stays n es (apart j i (phase_of i es) none).1

  from_stays : (n : ℕ) (b : List PoolEntry) → phase_of i b ≡ 0 → from_from i n b ≡ n
  unfolding phase_of from_from
  from_stays n [] none = refl
  from_stays n (Registered d j from ∷ es) none = let t = apart j i (phase_of i es) none in ap (λ (x : Bool). from_from i (cond x from n) es) t.0 ∙ from_stays n es t.1
  from_stays n (Unregistered d j to ∷ es) none = from_stays n es (apart j i (phase_of i es) none).1
  from_stays n (Idle j ∷ es) none = from_stays n es (apart j i (phase_of i es) none).1

  -- one part after another
  decl_both : (n : ℕ) (a b : List PoolEntry) → decl_from i n (a ++ b) ≡ decl_from i (decl_from i n a) b
  unfolding decl_from
  decl_both n [] b = refl
  decl_both n (e ∷ es) b = decl_both (decl_after i n e) es b

  from_both : (n : ℕ) (a b : List PoolEntry) → from_from i n (a ++ b) ≡ from_from i (from_from i n a) b
  unfolding from_from
  from_both n [] b = refl
  from_both n (e ∷ es) b = from_both (from_after i n e) es b

  end_both : (a b : List PoolEntry) → phase_of i b ≡ 0 → end_of i (a ++ b) ≡ end_of i a
  unfolding end_of
  end_both [] b none = end_none b none
  end_both (Registered d j from ∷ es) b none = end_both es b none
  end_both (Unregistered d j to ∷ es) b none = ap {B = Maybe ℕ} (λ x. cond (eqb j i) (Some to) x) (end_both es b none)
  end_both (Idle j ∷ es) b none = end_both es b none

  registrations_both : (a b : List PoolEntry) → phase_of i b ≡ 0 → registrations i (a ++ b) ≡ registrations i a
  unfolding registrations
  registrations_both [] b none = registrations_none b none
  registrations_both (Registered d j from ∷ es) b none = λ k. cond (eqb j i) (record { decl = d; from = from; to = end_both es b none k } ∷ registrations_both es b none k) (registrations_both es b none k)
  registrations_both (Unregistered d j to ∷ es) b none = registrations_both es b none
  registrations_both (Idle j ∷ es) b none = registrations_both es b none

-- what is behind a beginning
drop_begins : (a b : List PoolEntry) → drop (length a) (a ++ b) ≡ b
drop_begins [] b = refl
drop_begins (x ∷ a) b = drop_begins a b

-- The journal has no entry of the id behind what is known: what is known of the id is so, and no
-- registration of it ends behind.
pub record Lasts (i : ℕ) (known pool : List PoolEntry) : Type 0 where
  pub decl : decl_of i pool ≡ decl_of i known
  pub from : from_of i pool ≡ from_of i known
  pub uses : registrations i pool ≡ registrations i known
  pub short : length known ≤ length pool
  pub ended : (n : ℕ) → is_before n (end_of i (drop (length known) pool)) ≡ true

pub lasts : (i : ℕ) (known pool : List PoolEntry) → Begins known pool → phase_of i pool ≡ phase_of i known → Lasts i known pool
lasts i known pool begins same = let more : List PoolEntry = begins.0 in let is = begins.1 in let none : phase_of i more ≡ 0 = omega (arith, same, ap (phase_of i) is, phase_both i known more) in record {
  decl = ap (decl_of i) is ∙ (decl_both i 0 known more ∙ decl_stays i (decl_of i known) more none);
  from = ap (from_of i) is ∙ (from_both i 0 known more ∙ from_stays i (from_of i known) more none);
  uses = ap (registrations i) is ∙ registrations_both i known more none;
  short = omega (arith, ap (λ (l : List PoolEntry). length l) is, length-append known more);
  ended = λ n. ap (λ (l : List PoolEntry). is_before n (end_of i (drop (length known) l))) is ∙ (ap (λ (l : List PoolEntry). is_before n (end_of i l)) (drop_begins known more) ∙ ap (is_before n) (end_none i more none));
}
