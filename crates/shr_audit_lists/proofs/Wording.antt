-- SPDX-License-Identifier: GPL-2.0-only
-- Bit words by their numbers.
use Rattle.shr_audit_lists.proofs.BitsCommon.{◌≡◌, ◌≢◌, ℕ, ◌<◌, Bool, true, false, List, [], ◌∷◌, ◌++◌, Some, refl, sym, ap, ◌∙◌, inl, inr, arith, dite, ℕ_discrete, eqb-true, eq-eqb, ne_eqb, MapEnd, Place, Report, is_set_at, AreWords, ◌^◌, cond, Option, None, ◌&&◌, ◌==◌, nat_eq, find, is_some, option_map, cases_Bool, and_parts, and_from, has_bit, shows_bit, Words, map_key, word_at, word_key}
use Rattle.std.specs.HashMap.{get}
use Rattle.std.specs.List.{AllByRecursion}
use Rattle.shr_model.specs.Bits.{is_set}
use Rattle.shr_model.specs.Places.{bit_of, unit_of}
use Rattle.shr_laws.specs.Numbers.{HasNumbers, IsMapNumbered}
use Rattle.shr_model.proofs.Booleans.{same_test, none_unless}

clash : (b : Bool) → b ≡ true → b ≡ false → ⊥
clash b e f = cc

-- a word has the number of a place just if it has its bit
key_fits : (p : Place) (m : MapEnd) → IsMapNumbered m → p.group < 2 ^ 16 → unit_of p.id < 2 ^ 16 → (map_key m == word_key p.node p.group (unit_of p.id)) ≡ has_bit p m
key_fits p m n group unit = same_test (map_key m == word_key p.node p.group (unit_of p.id)) (has_bit p m) to from
  where
    to : (map_key m == word_key p.node p.group (unit_of p.id)) ≡ true → has_bit p m ≡ true
    to t =
        let e = eqb-true (map_key m) (word_key p.node p.group (unit_of p.id)) t in
        let a = n.group in let b = n.unit in
        let nodes : m.node ≡ p.node = omega arith in
        let groups : m.group ≡ p.group = omega arith in
        let units : m.unit ≡ unit_of p.id = omega arith in
        and_from ((m.node == p.node) && (m.group == p.group)) (m.unit == unit_of p.id) (and_from (m.node == p.node) (m.group == p.group) (eq-eqb m.node p.node nodes) (eq-eqb m.group p.group groups)) (eq-eqb m.unit (unit_of p.id) units)

    from : has_bit p m ≡ true → (map_key m == word_key p.node p.group (unit_of p.id)) ≡ true
    from t =
        let x = and_parts ((m.node == p.node) && (m.group == p.group)) (m.unit == unit_of p.id) t in
        let y = and_parts (m.node == p.node) (m.group == p.group) x.0 in
        let nodes = eqb-true m.node p.node y.0 in
        let groups = eqb-true m.group p.group y.1 in
        let units = eqb-true m.unit (unit_of p.id) x.1 in
        eq-eqb (map_key m) (word_key p.node p.group (unit_of p.id)) (omega arith)

pub found_alike : (p : Place) (maps : List MapEnd) → AllByRecursion IsMapNumbered maps → p.group < 2 ^ 16 → unit_of p.id < 2 ^ 16 → find (λ (m : MapEnd). map_key m == word_key p.node p.group (unit_of p.id)) maps ≡ find (has_bit p) maps
found_alike p [] all group unit = refl
found_alike p (m ∷ ms) all group unit = elim (cases_Bool (has_bit p m)) [
  | inl t ↦ rw (key_fits p m all.0 group unit ∙ t, t) refl
  | inr f ↦ rw (key_fits p m all.0 group unit ∙ f, f) (found_alike p ms all.1 group unit)
]

-- ---- one word more

module _ (key : ℕ) where
  abbrev is : MapEnd → Bool
  is m = map_key m == key

  word_kept : (xs : List MapEnd) (m : MapEnd) (bits : ℕ) → word_at key xs ≡ Some bits → word_at key (xs ++ m ∷ []) ≡ Some bits
  word_kept [] m bits h = cc
  word_kept (x ∷ xs) m bits h = elim (cases_Bool (is x)) [
    | inl t ↦ rw t (rw t at h)
    | inr f ↦ rw f (word_kept xs m bits (rw f at h))
  ]

  word_new : (xs : List MapEnd) (m : MapEnd) → word_at key xs ≡ None → word_at key (xs ++ m ∷ []) ≡ word_at key (m ∷ [])
  word_new [] m h = refl
  word_new (x ∷ xs) m h = elim (cases_Bool (is x)) [
    | inl t ↦ absurd (let e : ◌≡◌ {A = Option ℕ} (Some x.bits) None = rw t at h in cc)
    | inr f ↦ rw f (word_new xs m (rw f at h))
  ]

  pub word_own : (xs : List MapEnd) (m : MapEnd) → map_key m ≡ key → word_at key xs ≡ None → word_at key (xs ++ m ∷ []) ≡ Some m.bits
  word_own xs m e h = let t : is m ≡ true = eq-eqb (map_key m) key e in word_new xs m h ∙ rw t refl

  pub word_other : (xs : List MapEnd) (m : MapEnd) → map_key m ≢ key → word_at key (xs ++ m ∷ []) ≡ word_at key xs
  word_other xs m ne = by (word_at key xs) refl
    where
      off : is m ≡ false
      off = elim (cases_Bool (is m)) [
        | inl t ↦ absurd (ne (eqb-true (map_key m) key t))
        | inr f ↦ f
      ]

      by : (o : Option ℕ) → word_at key xs ≡ o → word_at key (xs ++ m ∷ []) ≡ word_at key xs
      by None e = word_new xs m e ∙ (rw off refl ∙ sym e)
      by (Some bits) e = word_kept xs m bits e ∙ sym e

  pub word_there : (xs : List MapEnd) (m : MapEnd) → (word_at key xs ≡ None → ⊥) → word_at key (xs ++ m ∷ []) ≡ word_at key xs
  word_there xs m some = by (word_at key xs) refl
    where
      by : (o : Option ℕ) → word_at key xs ≡ o → word_at key (xs ++ m ∷ []) ≡ word_at key xs
      by None e = absurd (some e)
      by (Some bits) e = word_kept xs m bits e ∙ sym e

-- ---- a table of words, one more

module _ (maps : List MapEnd) (m : MapEnd) (w : Words) (k : ℕ) (are : AreWords maps w) (is : k ≡ map_key m) where
  pub words_kept : is_some (get nat_eq w k) ≡ true → AreWords (maps ++ m ∷ []) w
  words_kept some key = dite (ℕ_discrete (map_key m) key)
      (λ same. are key ∙ sym (word_there key maps m (λ none. clash (is_some (get nat_eq w k)) some (ap (λ (n : ℕ). is_some (get nat_eq w n)) (is ∙ same) ∙ ap is_some (are key ∙ none)))))
      (λ ne. are key ∙ sym (word_other key maps m ne))

  pub words_more : (v : Words) → is_some (get nat_eq w k) ≡ false → ((q : ℕ) → get nat_eq v q ≡ cond (nat_eq k q) (Some m.bits) (get nat_eq w q)) → AreWords (maps ++ m ∷ []) v
  words_more v none puts key = dite (ℕ_discrete (map_key m) key) own other
    where
      own : map_key m ≡ key → get nat_eq v key ≡ word_at key (maps ++ m ∷ [])
      own same = puts key ∙ (ap (λ b. cond b (Some m.bits) (get nat_eq w key)) (eq-eqb k key (is ∙ same))
          ∙ sym (word_own key maps m same (sym (are key) ∙ (ap (get nat_eq w) (sym (is ∙ same)) ∙ none_unless (get nat_eq w k) none))))

      other : (map_key m ≡ key → ⊥) → get nat_eq v key ≡ word_at key (maps ++ m ∷ [])
      other ne = puts key ∙ (ap (λ b. cond b (Some m.bits) (get nat_eq w key)) (ne_eqb k key (λ same. ne (sym is ∙ same))) ∙ (are key ∙ sym (word_other key maps m ne)))

-- ---- the bit of a place

set_none : (x : Option MapEnd) (bit : ℕ) → option_map (λ (m : MapEnd). m.bits) x ≡ None → false ≡ shows_bit bit x
set_none None bit e = refl
set_none (Some m) bit e = cc

set_some : (x : Option MapEnd) (bit bits : ℕ) → option_map (λ (m : MapEnd). m.bits) x ≡ Some bits → is_set bits bit ≡ shows_bit bit x
set_some None bit bits e = cc
set_some (Some m) bit bits e = let same : bits ≡ m.bits = cc in ap (λ (n : ℕ). is_set n bit) same

module _ (r : Report) (p : Place) (w : Words) (k : ℕ) (numbers : HasNumbers r) (are : AreWords r.maps.items w) (is : k ≡ word_key p.node p.group (unit_of p.id)) (group : p.group < 2 ^ 16) (unit : unit_of p.id < 2 ^ 16) where
  here : get nat_eq w k ≡ option_map (λ (m : MapEnd). m.bits) (find (has_bit p) r.maps.items)
  here = are k ∙ (ap (λ (n : ℕ). word_at n r.maps.items) is ∙ ap (option_map (λ (m : MapEnd). m.bits)) (found_alike p r.maps.items numbers.maps group unit))

  pub bit_none : get nat_eq w k ≡ None → false ≡ is_set_at r p
  bit_none none = set_none (find (has_bit p) r.maps.items) (bit_of p.id) (sym here ∙ none)

  pub bit_some : (bits : ℕ) → get nat_eq w k ≡ Some bits → is_set bits (bit_of p.id) ≡ is_set_at r p
  bit_some bits some = set_some (find (has_bit p) r.maps.items) (bit_of p.id) bits (sym here ∙ some)
