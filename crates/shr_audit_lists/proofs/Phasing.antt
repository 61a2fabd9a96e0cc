-- SPDX-License-Identifier: GPL-2.0-only
-- The phases of ids, entry by entry.
use Rattle.shr_audit_lists.proofs.BitsCommon.{◌≡◌, ◌≢◌, ℕ, ◌+◌, ◌%◌, ◌<◌, List, [], ◌∷◌, ◌++◌, length, get_or, refl, sym, ap, subst, ◌∙◌, arith, dite, ℕ_discrete, eq-eqb, ne_eqb, PoolEntry, ArePhases, zero_more, set, get_or-set_same, get_or-set_other, length-set}
use Rattle.shr_model.specs.Pool.{id_of, phase_of}
use Rattle.shr_model.proofs.PoolLaws.{one_of, phase_of_push}

pub phases_none : (phases : List ℕ) → length phases ≡ 65536 → ((i : ℕ) → get_or phases i 0 ≡ 0) → ArePhases [] phases
unfolding phase_of
phases_none phases many all = record { many = many; each = λ id lt. all id }

phases_more : (pool : List PoolEntry) (e : PoolEntry) (old : List ℕ) (phase : ℕ) → id_of e < 65536 → phase ≡ (get_or old (id_of e) 0 + 1) % 3 → ArePhases pool old → ArePhases (pool ++ e ∷ []) (set old (id_of e) phase)
phases_more pool e old phase lt is p = record {
  many = length-set old (id_of e) phase ∙ p.many;
  each = λ id within. dite (ℕ_discrete id (id_of e)) (own id) (other id within);
} where
  own : (id : ℕ) → id ≡ id_of e → get_or (set old (id_of e) phase) id 0 ≡ phase_of id (pool ++ e ∷ []) % 3
  own id same =
      let many = p.many in
      let there : id_of e < length old = omega arith in
      let one : one_of id e ≡ 1 = rw (eq-eqb (id_of e) id (sym same)) refl in
      let push = phase_of_push id pool e in
      let was : get_or old (id_of e) 0 ≡ phase_of id pool % 3 = p.each (id_of e) lt ∙ ap (λ (n : ℕ). phase_of n pool % 3) (sym same) in
      ap (λ (n : ℕ). get_or (set old (id_of e) phase) n 0) same ∙ (get_or-set_same old (id_of e) phase 0 there ∙ omega arith)

  other : (id : ℕ) → id < 65536 → id ≢ id_of e → get_or (set old (id_of e) phase) id 0 ≡ phase_of id (pool ++ e ∷ []) % 3
  other id within ne =
      let one : one_of id e ≡ 0 = rw (ne_eqb (id_of e) id (λ same. ne (sym same))) refl in
      let push = phase_of_push id pool e in
      let was = p.each id within in
      get_or-set_other old (id_of e) id phase 0 ne ∙ omega arith

pub phases_noted : (pool : List PoolEntry) (e : PoolEntry) (old : List ℕ) (id phase : ℕ) → id ≡ id_of e → id < 65536 → phase ≡ (get_or old id 0 + 1) % 3 → ArePhases pool old → ArePhases (pool ++ e ∷ []) (set old id phase)
phases_noted pool e old id phase same lt is p = subst (λ (n : ℕ). ArePhases (pool ++ e ∷ []) (set old n phase)) (sym same)
    (phases_more pool e old phase (subst (λ (n : ℕ). n < 65536) same lt) (is ∙ ap (λ (n : ℕ). (get_or old n 0 + 1) % 3) same) p)
