-- SPDX-License-Identifier: GPL-2.0-only
-- The entry of an id before each entry, one entry after another.
use Rattle.shr_audit_reasons.proofs.Common.{◌≡◌, inl, inr, ℕ, zero, suc, ◌+◌, ◌-◌, ◌<◌, List, [], ◌∷◌, ◌++◌, length, length-append, get_or, refl, sym, ap, subst, ◌∙◌, arith, option_map, cases_lt, slice_get-get_or, PoolEntry, id_of, AreBehind, HasBehinds, IsBehindOf, IsEntryOfId, length-set, get_or-set_same, get_or-set_other, set, replicate, get_or-replicate, length-replicate, get_or_append_left}
use Rattle.std.proofs.Math.Seq.{get_or-append_seam}
use mathlib.Core.Logic.{dite}
use native.Mathlib.Decide.{ℕ_discrete}
use Rattle.shr_audit_reasons.proofs.Phases.{next_more}

-- what stands there is so whatever else is said past the end
pub any_default : {X : Type 0} (xs : List X) (i : ℕ) (y z : X) → i < length xs → get_or xs i y ≡ get_or xs i z
any_default [] i y z h = absurd (omega (arith, h))
any_default (x ∷ xs) zero y z h = refl
any_default (x ∷ xs) (suc i) y z h = any_default xs i y z (omega (arith, h))

-- ---- before the first

pub none_behind : (pool : List PoolEntry) (count : ℕ) (table : List ℕ) → count ≡ 65536 → table ≡ replicate count 0 → AreBehind pool 0 table
none_behind pool count table is zeros = record {
  count = ap length zeros ∙ length-replicate count 0 ∙ is;
  each = λ id lt.
      let at : get_or table id 0 ≡ 0 = ap (λ (xs : List ℕ). get_or xs id 0) zeros ∙ get_or-replicate count id 0 0 (subst (λ (n : ℕ). id < n) (sym is) lt) in
      record {
        low = omega (arith, at);
        of = inl at;
        quiet = λ m le less. absurd (omega (arith, less));
      };
}

pub none_yet : (pool : List PoolEntry) (table : List ℕ) → table ≡ [] → HasBehinds pool 0 table
none_yet pool table none = record { count = ap length none; each = λ k d lt. absurd (omega (arith, lt)) }

-- ---- one entry more

module _ (pool : List PoolEntry) (n : ℕ) (d : PoolEntry) (lasts behinds : List ℕ) (few : id_of (get_or pool n d) < 65536) (there : n < length pool) (before : AreBehind pool n lasts) where
  abbrev own : ℕ
  own = id_of (get_or pool n d)

  is_own : IsEntryOfId pool own n
  is_own = ap (option_map id_of) (slice_get-get_or pool n d there)

  here : IsBehindOf pool own (n + 1) (n + 1)
  here = record {
    low = omega arith;
    of = inr (let e : n ≡ n + 1 - 1 = omega arith in subst (λ (k : ℕ). IsEntryOfId pool own k) e is_own);
    quiet = λ m le lt. absurd (omega (arith, le, lt));
  }

  away : (id behind : ℕ) → (own ≡ id → ⊥) → IsBehindOf pool id n behind → IsBehindOf pool id (n + 1) behind
  away id behind ne b = record {
    low = (let l = b.low in omega (arith, l));
    of = b.of;
    quiet = next_more pool id behind n d there ne b.quiet;
  }

  pub lasts_next : (new : List ℕ) → new ≡ set lasts own (n + 1) → AreBehind pool (n + 1) new
  lasts_next new is = record {
    count = ap length is ∙ length-set lasts own (n + 1) ∙ before.count;
    each = λ id lt. subst (λ (xs : List ℕ). IsBehindOf pool id (n + 1) (get_or xs id 0)) (sym is) (dite (ℕ_discrete id own)
        (λ same.
        let at : n + 1 ≡ get_or (set lasts own (n + 1)) id 0 =
        sym (ap (λ (k : ℕ). get_or (set lasts own (n + 1)) k 0) same ∙ get_or-set_same lasts own (n + 1) 0 (subst (λ (k : ℕ). own < k) (sym before.count) few)) in
        subst (λ (k : ℕ). IsBehindOf pool id (n + 1) k) at (subst (λ (k : ℕ). IsBehindOf pool k (n + 1) (n + 1)) (sym same) here))
        (λ ne.
        let at : get_or lasts id 0 ≡ get_or (set lasts own (n + 1)) id 0 = sym (get_or-set_other lasts own id (n + 1) 0 ne) in
        subst (λ (k : ℕ). IsBehindOf pool id (n + 1) k) at (away id (get_or lasts id 0) (λ same. ne (sym same)) (before.each id lt))));
  }

  pub behinds_next : HasBehinds pool n behinds → (new : List ℕ) → new ≡ behinds ++ get_or lasts own 0 ∷ [] → HasBehinds pool (n + 1) new
  behinds_next h new is = record {
    count = ap length is ∙ length-append behinds (get_or lasts own 0 ∷ []) ∙ ap (λ (m : ℕ). m + 1) h.count;
    each = λ k x lt. subst (λ (xs : List ℕ). IsBehindOf pool (id_of (get_or pool k x)) k (get_or xs k 0)) (sym is) (elim (cases_lt k n) [
      | inl below ↦ subst (λ (b : ℕ). IsBehindOf pool (id_of (get_or pool k x)) k b)
          (sym (get_or_append_left behinds (get_or lasts own 0 ∷ []) 0 k (subst (λ (m : ℕ). k < m) (sym h.count) below))) (h.each k x below)
      | inr above ↦
          let same : n ≡ k = omega (arith, lt, above) in
          subst (λ (m : ℕ). IsBehindOf pool (id_of (get_or pool m x)) m (get_or (behinds ++ get_or lasts own 0 ∷ []) m 0)) same
          (subst (λ (b : ℕ). IsBehindOf pool (id_of (get_or pool n x)) n b)
          (sym (ap (λ (m : ℕ). get_or (behinds ++ get_or lasts own 0 ∷ []) m 0) (sym h.count) ∙ get_or-append_seam behinds (get_or lasts own 0) [] 0))
          (subst (λ (e : PoolEntry). IsBehindOf pool (id_of e) n (get_or lasts own 0)) (any_default pool n d x there) (before.each own few)))
    ]);
  }
