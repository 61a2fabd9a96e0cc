-- SPDX-License-Identifier: GPL-2.0-only
-- Places that were filled, as words of bits.
use Rattle.shr_audit_walks.proofs.LaterCommon.{◌≡◌, ◌≢◌, ℕ, ◌+◌, ◌*◌, ◌%◌, ◌^◌, ◌<◌, ◌≤◌, Bool, true, false, cond, List, length, get_or, take, Option, Some, None, refl, sym, ap, subst, ◌∙◌, inl, inr, arith, ◌||◌, ◌==◌, bit_or, nat_eq, nat_lt, Decides, get, list_any, cases_Bool, and_parts, and_from, eqb-true, eq-eqb, ne_eqb, nat_tests, Place, Answered, MapSeen, WalkRecord, is_set, bit_of, is_place, Report, Words, fits, AreFilled, IsMapFull, NotesFilled, filled_by, is_filled, word_by_key, clash, is_place_itself, is_place_same, ◌/◌, bit_and, min, unit_of, word_key, read_as, IsNoWord, filled_at}
use Rattle.std.specs.Int.{bit_at, w64}
use mathlib.Core.Logic.{dite}
use native.Mathlib.Decide.{ℕ_discrete}
use Rattle.std.proofs.lemmas.List.Folds.{list_any_more}
use Rattle.std.proofs.lemmas.Nat.Bits.{bit_at_and, bit_at_above, bit_at-lt, bit_at-zero, bit_at_set_same, bit_at_set_other, same_from_bits}
use Rattle.shr_audit_walks.proofs.Citing.{under}

or_true : (b : Bool) → true ≡ (b || true)
or_true true = refl
or_true false = refl

or_false : (b : Bool) → b ≡ (b || false)
or_false true = refl
or_false false = refl

-- ---- bits of words

set_one : (n b : ℕ) → bit_at n b ≡ 1 → is_set n b ≡ true
set_one n b e = eq-eqb (bit_at n b) 1 e

one_set : (n b : ℕ) → is_set n b ≡ true → bit_at n b ≡ 1
one_set n b t = eqb-true (bit_at n b) 1 t

same_set : (m n b : ℕ) → bit_at m b ≡ bit_at n b → is_set m b ≡ is_set n b
same_set m n b e = ap (λ (x : ℕ). x == 1) e

below : (n : ℕ) → nat_lt n 65536 ≡ true → n < 65536
below n t = grind (arith, nat_tests)

-- ---- one bit more

abbrev key_at : Place → ℕ
key_at p = word_key p.node p.group (unit_of p.id)

module _ (p : Place) (fit : fits p ≡ true) where
  -- a place of the same word and bit is the same
  same_bit : (q : Place) → fits q ≡ true → key_at p ≡ key_at q → bit_of p.id ≡ bit_of q.id → p ≡ q
  same_bit q fits_q e b =
      let x = and_parts (nat_lt p.group 65536) (nat_lt p.id 65536) fit in
      let y = and_parts (nat_lt q.group 65536) (nat_lt q.id 65536) fits_q in
      numbers p q (below p.group x.0) (below p.id x.1) (below q.group y.0) (below q.id y.1) e b
    where
      numbers : (p q : Place) → p.group < 65536 → p.id < 65536 → q.group < 65536 → q.id < 65536 → 4294967296 * p.node + 65536 * p.group + p.id / 64 ≡ 4294967296 * q.node + 65536 * q.group + q.id / 64 → p.id % 64 ≡ q.id % 64 → p ≡ q
      numbers p q a b c d e f =
          let nodes : p.node ≡ q.node = omega arith in
          let groups : p.group ≡ q.group = omega arith in
          let ids : p.id ≡ q.id = omega arith in
          λ i. record { id = ids i; node = nodes i; group = groups i }

  pub bit_set : (old new : Words) (key word : ℕ) → key ≡ key_at p → word ≡ bit_or (word_by_key old key) (1 * 2 ^ bit_of p.id % 2 ^ 64) → ((k : ℕ) → get nat_eq new k ≡ cond (nat_eq key k) (Some word) (get nat_eq old k)) → NotesFilled old new (Some p)
  bit_set old new key word is sets puts q = by (fits q) refl
    where
      small : bit_of p.id < 64
      small = omega arith

      not_it : (b : Bool) → (p ≡ q → ⊥) → is_place q p ≡ false
      not_it b ne = elim (cases_Bool (is_place q p)) [
        | inl t ↦ absurd (ne (sym (is_place_same q p t)))
        | inr f ↦ f
      ]

      it : p ≡ q → is_place q p ≡ true
      it e = subst (λ (r : Place). is_place r p ≡ true) e (is_place_itself p)

      word_own : (k : ℕ) → key ≡ k → word_by_key new k ≡ word
      word_own k e = ap read_as (puts k ∙ ap (λ (b : Bool). cond b (Some word) (get nat_eq old k)) (eq-eqb key k e))

      word_other : (k : ℕ) → key ≢ k → word_by_key new k ≡ word_by_key old k
      word_other k ne = ap read_as (puts k ∙ ap (λ (b : Bool). cond b (Some word) (get nat_eq old k)) (ne_eqb key k ne))

      at_word : fits q ≡ true → key ≡ key_at q → is_set (word_by_key new (key_at q)) (bit_of q.id) ≡ (is_set (word_by_key old (key_at q)) (bit_of q.id) || is_place q p)
      at_word fits_q e = dite (ℕ_discrete (bit_of q.id) (bit_of p.id))
          (λ same.
          let one : bit_at word (bit_of q.id) ≡ 1 = ap (bit_at word) same ∙ ap (λ (n : ℕ). bit_at n (bit_of p.id)) sets ∙ bit_at_set_same w64 (word_by_key old key) (bit_of p.id) small in
          set_one (word_by_key new (key_at q)) (bit_of q.id) (ap (λ (n : ℕ). bit_at n (bit_of q.id)) (word_own (key_at q) e) ∙ one)
          ∙ or_true (is_set (word_by_key old (key_at q)) (bit_of q.id)) ∙ ap (λ (b : Bool). is_set (word_by_key old (key_at q)) (bit_of q.id) || b) (sym (it (same_bit q fits_q (sym is ∙ e) (sym same)))))
          (λ ne.
          let kept : bit_at word (bit_of q.id) ≡ bit_at (word_by_key old key) (bit_of q.id) = ap (λ (n : ℕ). bit_at n (bit_of q.id)) sets ∙ bit_at_set_other w64 (word_by_key old key) (bit_of p.id) small (bit_of q.id) ne in
          same_set (word_by_key new (key_at q)) (word_by_key old (key_at q)) (bit_of q.id) (ap (λ (n : ℕ). bit_at n (bit_of q.id)) (word_own (key_at q) e) ∙ kept ∙ ap (λ (k : ℕ). bit_at (word_by_key old k) (bit_of q.id)) e)
          ∙ or_false (is_set (word_by_key old (key_at q)) (bit_of q.id)) ∙ ap (λ (b : Bool). is_set (word_by_key old (key_at q)) (bit_of q.id) || b) (sym (not_it true (λ same. ne (ap (λ (r : Place). bit_of r.id) (sym same))))))

      by : (b : Bool) → fits q ≡ b → cond b (is_set (word_by_key new (key_at q)) (bit_of q.id)) false ≡ (cond b (is_set (word_by_key old (key_at q)) (bit_of q.id)) false || is_place q p)
      by false e = sym (not_it true (λ same. clash (fits q) (subst (λ (r : Place). fits r ≡ true) same fit) e))
      by true e = dite (ℕ_discrete key (key_at q)) (at_word e)
          (λ ne. same_set (word_by_key new (key_at q)) (word_by_key old (key_at q)) (bit_of q.id) (ap (λ (n : ℕ). bit_at n (bit_of q.id)) (word_other (key_at q) ne))
          ∙ or_false (is_set (word_by_key old (key_at q)) (bit_of q.id)) ∙ ap (λ (b : Bool). is_set (word_by_key old (key_at q)) (bit_of q.id) || b) (sym (not_it true (λ same. ne (is ∙ ap key_at same)))))

pub none_set : (t : Words) → NotesFilled t t None
none_set t q = or_false (filled_at t q)

-- ---- answer by answer

pub none_yet : (parents : List ℕ) (r : Report) (answers : List Answered) (t : Words) → IsNoWord t → AreFilled parents r answers 0 t
none_yet parents r answers t none q = by (fits q)
  where
    zero_set : is_set (word_by_key t (key_at q)) (bit_of q.id) ≡ false
    zero_set = ap (λ (o : Option ℕ). is_set (read_as o) (bit_of q.id)) (none (key_at q)) ∙ nothing (bit_of q.id)
      where
        nothing : (b : ℕ) → is_set 0 b ≡ false
        nothing b = ne_eqb (bit_at 0 b) 1 (λ e. let z = bit_at-zero b in omega (arith, e, z))

    by : (b : Bool) → cond b (is_set (word_by_key t (key_at q)) (bit_of q.id)) false ≡ false
    by true = zero_set
    by false = refl

pub one_more : (parents : List ℕ) (r : Report) (answers : List Answered) (n : ℕ) (a : Answered) (old new : Words) → n < length answers → a ≡ get_or answers n a → AreFilled parents r answers n old → NotesFilled old new (filled_by parents r a.reply) → AreFilled parents r answers (n + 1) new
one_more parents r answers n a old new lt is before notes q =
    notes q ∙ ap (λ (b : Bool). b || is_filled (filled_by parents r a.reply) q) (before q)
    ∙ ap (λ (x : Answered). list_any (λ (y : Answered). is_filled (filled_by parents r y.reply) q) (take n answers) || is_filled (filled_by parents r x.reply) q) is
    ∙ sym (list_any_more (λ (y : Answered). is_filled (filled_by parents r y.reply) q) answers n a lt)

-- ---- the map of a walk

module _ (t : Words) (w : WalkRecord) (m : MapSeen) (group : w.group < 65536) (unit : m.unit < 256) where
  pub map_full : bit_and (word_by_key t (word_key w.node w.group m.unit)) m.bits ≡ word_by_key t (word_key w.node w.group m.unit) → IsMapFull t w m
  map_full whole place covers filled =
      let b : ℕ = bit_of place.id in
      let word : ℕ = word_by_key t (word_key w.node w.group m.unit) in
      let set : is_set (word_by_key t (key_at place)) b ≡ true = by (fits place) filled in
      let keys : key_at place ≡ word_key w.node w.group m.unit = same_keys place.node place.group (unit_of place.id) (sym covers.node) (sym covers.group) (sym covers.unit) in
      let one : bit_at word b ≡ 1 = ap (λ (k : ℕ). bit_at (word_by_key t k) b) (sym keys) ∙ one_set (word_by_key t (key_at place)) b set in
      let both = sym (bit_at_and word m.bits b) ∙ ap (λ (n : ℕ). bit_at n b) whole in
      let small = bit_at-lt m.bits b in
      set_one m.bits b (least (bit_at word b) (bit_at m.bits b) one small both)
    where
      by : (b : Bool) → cond b (is_set (word_by_key t (key_at place)) (bit_of place.id)) false ≡ true → is_set (word_by_key t (key_at place)) (bit_of place.id) ≡ true
      by true e = e
      by false e = absurd cc

      same_keys : (node group unit : ℕ) → node ≡ w.node → group ≡ w.group → unit ≡ m.unit → word_key node group unit ≡ word_key w.node w.group m.unit
      same_keys node group unit a b c = omega arith

      least : (x y : ℕ) → x ≡ 1 → y < 2 → min x y ≡ x → y ≡ 1
      least x y a b c = omega arith

  pub full_map : word_by_key t (word_key w.node w.group m.unit) < 2 ^ 64 → IsMapFull t w m → bit_and (word_by_key t (word_key w.node w.group m.unit)) m.bits ≡ word_by_key t (word_key w.node w.group m.unit)
  full_map wide full = same_from_bits (bit_and word m.bits) word (λ i. bit_at_and word m.bits i ∙ least i)
    where
      word : ℕ
      word = word_by_key t (word_key w.node w.group m.unit)

      bound : (x y : ℕ) → x < 2 → y < 2 → (x ≡ 1 → y ≡ 1) → min x y ≡ x
      bound x y a b h = grind arith

      inside : (i : ℕ) → i < 64 → bit_at word i ≡ 1 → bit_at m.bits i ≡ 1
      inside i lt one =
          let own : bit_of (64 * m.unit + i) ≡ i = omega arith in
          let unit_is : m.unit ≡ unit_of (64 * m.unit + i) = omega arith in
          let fit : fits (record { id = 64 * m.unit + i; node = w.node; group = w.group }) ≡ true = and_from (nat_lt w.group 65536) (nat_lt (64 * m.unit + i) 65536) (under w.group group) (under (64 * m.unit + i) (omega arith)) in
          let word_set : is_set (word_by_key t (word_key w.node w.group (unit_of (64 * m.unit + i)))) (bit_of (64 * m.unit + i)) ≡ true =
          set_one (word_by_key t (word_key w.node w.group (unit_of (64 * m.unit + i)))) (bit_of (64 * m.unit + i)) (ap (λ (u : ℕ). bit_at (word_by_key t (word_key w.node w.group u)) (bit_of (64 * m.unit + i))) (sym unit_is) ∙ ap (bit_at word) own ∙ one) in
          let filled : filled_at t (record { id = 64 * m.unit + i; node = w.node; group = w.group }) ≡ true = ap (λ (b : Bool). cond b (is_set (word_by_key t (word_key w.node w.group (unit_of (64 * m.unit + i)))) (bit_of (64 * m.unit + i))) false) fit ∙ word_set in
          let set = full (record { id = 64 * m.unit + i; node = w.node; group = w.group }) (record { group = refl; node = refl; unit = unit_is }) filled in
          sym (ap (bit_at m.bits) own) ∙ one_set m.bits (bit_of (64 * m.unit + i)) set

      least : (i : ℕ) → min (bit_at word i) (bit_at m.bits i) ≡ bit_at word i
      least i = elim (cases_Bool (nat_lt i 64)) [
        | inl t ↦ bound (bit_at word i) (bit_at m.bits i) (bit_at-lt word i) (bit_at-lt m.bits i) (inside i (in_word t))
        | inr f ↦ outside (bit_at word i) (bit_at m.bits i) (bit_at_above word 64 i wide (beyond f))
      ]
        where
          in_word : nat_lt i 64 ≡ true → i < 64
          in_word t = grind (arith, nat_tests)

          beyond : nat_lt i 64 ≡ false → 64 ≤ i
          beyond f = grind (arith, nat_tests)

          outside : (x y : ℕ) → x ≡ 0 → min x y ≡ x
          outside x y e = omega arith

  pub map_decided : (word : ℕ) → word ≡ word_by_key t (word_key w.node w.group m.unit) → word < 2 ^ 64 → Decides (bit_and word m.bits == word) (IsMapFull t w m)
  map_decided word is wide = (
    λ h. map_full (ap (λ (n : ℕ). bit_and n m.bits) (sym is) ∙ (eqb-true (bit_and word m.bits) word h ∙ is)),
    λ full. eq-eqb (bit_and word m.bits) word (ap (λ (n : ℕ). bit_and n m.bits) is ∙ (full_map (subst (λ (n : ℕ). n < 2 ^ 64) is wide) full ∙ sym is)),
  )
