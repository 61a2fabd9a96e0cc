-- SPDX-License-Identifier: GPL-2.0-only
-- A word that was read is the one spelling of its item, and what is spelled so is read again.
use Rattle.shr_words.proofs.Common.{◌≡◌, ℕ, zero, suc, ◌+◌, ◌≤◌, ◌<◌, Bool, true, false, cond, ◌&&◌, ◌||◌, List, [], ◌∷◌, ◌++◌, length, get_or, Option, Some, None, Result, Ok, Err, refl, sym, ap, subst, ◌∙◌, arith, slice_index_or, ◌==◌, nat_le, nat_lt, option_map, bytes_eq, list_all, digits_value, nat_tests, is_visible, is_name_byte, Code, differs, is_part_of, all_parts, Word, Test, PathTest, NameTest, KeyTest, Number, Plain, Valued, Listed, Marked, Item, N, W, ◌>>=◌, is_digit, found_or, number_said, and_true, cut_part, same_byte, rules, eq-eqb, lit<, codes, decimal, is_value, is_part, joined_cut, cut_first}
use Rattle.std.proofs.lemmas.Slice.Eq.{bytes_eq-Decides}
use Rattle.std.proofs.lemmas.Str.Parse.{IsNumeralModel, numerals_by_value}
use Rattle.std.proofs.lemmas.Fmt.{decimal-digits_value, digits_decimal, digits_value-decimal, decimal_nonempty, first_decimal, decimal_digit}
use Rattle.shr_base.specs.declared.scripts.Code.TheVariants as codes_of
use Rattle.shr_model.specs.Pieces.{cut, pieces, joined}
use Rattle.shr_model.specs.Paths.{is_path}
use Rattle.shr_words.specs.Classes.{passes, Choice, Policies, Kinds, Starts, Walks, PoolKinds, choice_words, Class, Limit, Chosen, L, place_of, limit_word, word_of, IsOfClass, words_of, AreOf, policy_place, flag_place}
use Rattle.shr_words.specs.WordReading.{test_code, is_numeral, number_spelled, limit_spelled, text_of, value_of, listed_of, marked_of, chosen_of, item_of, item_at, taken, ended, items_said, as_of, shape, policy_at}
use Rattle.shr_base.specs.declared.objects.Policy.{Policy}
use Rattle.shr_base.specs.declared.objects.Policy.TheVariants as policies
use Rattle.shr_model.proofs.Booleans.{and_right, below_of, le_of, lt_of}
use Rattle.std.proofs.lemmas.Bool.{lt-ltb}

-- ---- tools

-- the value of a step that did not fail
pub bind_ok : {A B : Type 0} (r : Result A Code) (f : A → Result B Code) (y : B) → (r >>= f) ≡ Ok y → (x : A) × (r ≡ Ok x) × (f x ≡ Ok y)
bind_ok (Ok x) f y e = (x, refl, e)
bind_ok (Err d) f y e = absurd cc

-- a test that did not fail
pub guard_ok : {A : Type 0} (b : Bool) (d : Code) (x y : A) → cond b (Ok x) (Err d) ≡ Ok y → (b ≡ true) × (x ≡ y)
guard_ok true d x y e = (refl, cc)
guard_ok false d x y e = absurd cc

abbrev done : {A : Type 0} → A → Result A Code
done x = Ok x

pub ok_is : {A : Type 0} (x y : A) → done x ≡ done y → x ≡ y
ok_is x y e = cc

-- ---- numbers

own : IsNumeralModel (λ ds. list_all is_digit ds ≡ true) (digits_value 10)
own = numerals_by_value (λ ds. list_all is_digit ds ≡ true) (search rules)

leads : (t z : Bool) → cond t z true ≡ true → t ≡ true → z ≡ true
leads true z h e = h
leads false z h e = absurd cc

pub and3 : (a b c : Bool) → (a && b && c) ≡ true → (a ≡ true) × (b ≡ true) × (c ≡ true)
and3 true true true e = (refl, refl, refl)
and3 true true false e = absurd cc
and3 true false c e = absurd cc
and3 false b c e = absurd cc

and4 : (a b c d : Bool) → (a && b && c && d) ≡ true → (a ≡ true) × (b ≡ true) × (c ≡ true) × (d ≡ true)
and4 true true true true e = (refl, refl, refl, refl)
and4 true true true false e = absurd cc
and4 true true false d e = absurd cc
and4 true false c d e = absurd cc
and4 false b c d e = absurd cc

numeral_is : (w : Word) → is_numeral w ≡ true → digits_value 10 w < 1000001 → w ≡ decimal (digits_value 10 w)
unfolding is_numeral
numeral_is w e small =
    let a = and3 (list_all is_digit w) (nat_le 1 (length w)) (cond (get_or w 0 0 == 48) (length w == 1) true) e in
    let one : 1 ≤ length w = below_of 1 (length w) a.1 in
    let first : get_or w 0 0 ≡ 48 → length w ≡ 1 = λ is. same_byte (length w) 1 (leads (get_or w 0 0 == 48) (length w == 1) a.2 (eq-eqb (get_or w 0 0) 48 is)) in
    sym (decimal-digits_value own w a.0 (omega (arith, one)) first (omega (arith, small)))

-- a word that was read as a number is its decimal spelling, and the number is within its bounds
pub number_takes : (low high : ℕ) (w : Word) (n : ℕ) → number_spelled low high w ≡ Ok n → (w ≡ decimal n) × ((low ≤ n) × (n < high) × (n < 1000001))
unfolding number_spelled
number_takes low high w n e =
    let v = digits_value 10 w in
    let g = guard_ok (is_numeral w && nat_le low v && nat_lt v high && nat_lt v 1000001) codes_of.BadNumber v n e in
    let a = and4 (is_numeral w) (nat_le low v) (nat_lt v high) (nat_lt v 1000001) g.0 in
    let small : v < 1000001 = lt_of v 1000001 a.3 in
    subst (λ (m : ℕ). (w ≡ decimal m) × ((low ≤ m) × (m < high) × (m < 1000001))) g.1
    (numeral_is w a.0 small, (below_of low v a.1, lt_of v high a.2, small))

first_is : (n : ℕ) (w : Word) → decimal n ≡ w → n < 1000001 → (get_or w 0 0 ≡ 48) → length w ≡ 1
first_is zero w e lt is = rw (sym e, decimal_digit 0 (lit< tt)) refl
first_is (suc n) w e lt is = let h : 48 < get_or w 0 0 = rw (← e) (first_decimal (suc n) (omega arith) (omega (arith, lt))) in absurd (omega (arith, h, is))

led : (t z : Bool) → (t ≡ true → z ≡ true) → cond t z true ≡ true
led true z h = h refl
led false z h = refl

is_numeral-decimal : (n : ℕ) → n < 1000001 → is_numeral (decimal n) ≡ true
unfolding is_numeral
is_numeral-decimal n lt =
    let w = decimal n in
    let d : list_all is_digit w ≡ true = digits_decimal own n (omega (arith, lt)) in
    let l : nat_le 1 (length w) ≡ true = le_of 1 (length w) (decimal_nonempty n (omega (arith, lt))) in
    let z : cond (get_or w 0 0 == 48) (length w == 1) true ≡ true = led (get_or w 0 0 == 48) (length w == 1) (λ is. eq-eqb (length w) 1 (first_is n w refl lt (same_byte (get_or w 0 0) 48 is))) in
    rw (d, l, z) refl

-- the decimal spelling of a number within its bounds is read as that number
pub number_again : (low high n : ℕ) → low ≤ n → n < high → n < 1000001 → number_spelled low high (decimal n) ≡ Ok n
unfolding number_spelled
number_again low high n le lt small =
    rw (is_numeral-decimal n small, digits_value-decimal own n (omega (arith, small)), le_of low n le, lt-ltb n high lt, lt-ltb n 1000001 small) refl

-- ---- places in lists

abbrev some : {A : Type 0} → A → Option A
some x = Some x

some_is : {A : Type 0} (x y : A) → some x ≡ some y → x ≡ y
some_is x y e = cc

place_on : (w v : Word) (vs : List Word) (i : ℕ) (r : Option ℕ) → place_of w vs ≡ r → option_map (λ j. j + 1) r ≡ Some i
    → ((j : ℕ) → place_of w vs ≡ Some j → (get_or vs j [] ≡ w) × (j < length vs)) → (get_or (v ∷ vs) i [] ≡ w) × (i < length (v ∷ vs))
place_on w v vs i None is e more = absurd cc
place_on w v vs i (Some j) is e more =
    let z : j + 1 ≡ i = some_is (j + 1) i e in
    let s : j + 1 ≡ suc j = omega arith in
    let m = more j is in
    rw (sym z, s) (m.0, omega (arith, m.1))

place_at : (w v : Word) (vs : List Word) (i : ℕ) (t : Bool) → bytes_eq w v ≡ t → cond t (Some 0) (option_map (λ j. j + 1) (place_of w vs)) ≡ Some i
    → ((j : ℕ) → place_of w vs ≡ Some j → (get_or vs j [] ≡ w) × (j < length vs)) → (get_or (v ∷ vs) i [] ≡ w) × (i < length (v ∷ vs))
place_at w v vs i true is e more = let z : 0 ≡ i = some_is 0 i e in rw (sym z) (sym ((bytes_eq-Decides w v).0 is), omega arith)
place_at w v vs i false is e more = place_on w v vs i (place_of w vs) refl e more

-- a word that was found stands at the place that was told
pub place_takes : (w : Word) (ws : List Word) (i : ℕ) → place_of w ws ≡ Some i → (get_or ws i [] ≡ w) × (i < length ws)
unfolding place_of
place_takes w [] i e = absurd cc
place_takes w (v ∷ vs) i e = place_at w v vs i (bytes_eq w v) refl e (place_takes w vs)

-- ---- items

limit_takes : (w : Word) (t : Bool) (l : Option ℕ) → bytes_eq w (codes "max") ≡ t → cond t (Ok None) (number_spelled 0 1000001 w >>= λ n. Ok (Some n)) ≡ Ok l → (w ≡ limit_word l) × IsOfClass Limit (L l)
limit_takes w true l is e = subst (λ (k : Option ℕ). (w ≡ limit_word k) × IsOfClass Limit (L k)) (ok_is None l e) ((bytes_eq-Decides w (codes "max")).0 is, tt)
limit_takes w false l is e =
    let a = bind_ok (number_spelled 0 1000001 w) (λ n. Ok (Some n)) l e in
    let n = number_takes 0 1000001 w a.0 a.1 in
    subst (λ (k : Option ℕ). (w ≡ limit_word k) × IsOfClass Limit (L k)) (ok_is (Some a.0) l a.2) (n.0, n.1.2)

value_takes : (w v : Word) → value_of w ≡ Ok v → (w ≡ 61 ∷ v) × (is_value v ≡ true)
unfolding value_of
value_takes [] v e = absurd cc
value_takes (b ∷ bs) v e =
    let g = guard_ok ((b == 61) && is_value bs) codes_of.BadText bs v e in
    let a = and_true (b == 61) (is_value bs) g.0 in
    subst (λ (x : Word). (b ∷ bs ≡ 61 ∷ x) × (is_value x ≡ true)) g.1 (ap (λ (c : ℕ). c ∷ bs) (same_byte b 61 a.0), a.1)

found_takes : (code : Code) (r : Option ℕ) (i : ℕ) → found_or code r ≡ Ok i → r ≡ Some i
found_takes code None i e = absurd cc
found_takes code (Some j) i e = ap (λ (k : ℕ). Some k) (ok_is j i e)

listed_at : (t : Test) (code : Code) (ws : List Word) (w : Word) (i : ℕ) (b : Bool) → passes t w ≡ b → cond b (found_or code (place_of w ws)) (Err (test_code t)) ≡ Ok i
    → (w ≡ get_or ws i []) × ((passes t w ≡ true) × (place_of w ws ≡ Some i))
listed_at t code ws w i true is e = let p = found_takes code (place_of w ws) i e in (sym (place_takes w ws i p).0, (is, p))
listed_at t code ws w i false is e = absurd cc

listed_takes : (t : Test) (code : Code) (ws : List Word) (w : Word) (i : ℕ) → listed_of t code ws w ≡ Ok i → (w ≡ get_or ws i []) × ((passes t w ≡ true) × (place_of w ws ≡ Some i))
unfolding listed_of
listed_takes t code ws w i e = listed_at t code ws w i (passes t w) refl e

-- a word that was read is the one spelling of its item, which is of the class
pub item_takes : (c : Class) (w : Word) (x : Item) → item_of c w ≡ Ok x → (w ≡ word_of c x) × IsOfClass c x
unfolding limit_spelled text_of chosen_of
item_takes (Number low high) w x e =
    let a = bind_ok (number_spelled low high w) (λ n. Ok (N n)) x e in
    let t = number_takes low high w a.0 a.1 in
    subst (λ (y : Item). (w ≡ word_of (Number low high) y) × IsOfClass (Number low high) y) (ok_is (N a.0) x a.2) t
item_takes Limit w x e =
    let a = bind_ok (limit_spelled w) (λ l. Ok (L l)) x e in
    let t = limit_takes w (bytes_eq w (codes "max")) a.0 refl a.1 in
    subst (λ (y : Item). (w ≡ word_of Limit y) × IsOfClass Limit y) (ok_is (L a.0) x a.2) t
item_takes (Plain t) w x e =
    let a = bind_ok (text_of t w) (λ v. Ok (W v)) x e in
    let g = guard_ok (passes t w) (test_code t) w a.0 a.1 in
    subst (λ (y : Item). (w ≡ word_of (Plain t) y) × IsOfClass (Plain t) y) (ap (λ (v : Word). W v) g.1 ∙ ok_is (W a.0) x a.2) (refl, g.0)
item_takes Valued w x e =
    let a = bind_ok (value_of w) (λ v. Ok (W v)) x e in
    subst (λ (y : Item). (w ≡ word_of Valued y) × IsOfClass Valued y) (ok_is (W a.0) x a.2) (value_takes w a.0 a.1)
item_takes (Listed t code ws) w x e =
    let a = bind_ok (listed_of t code ws w) (λ i. Ok (N i)) x e in
    let l = listed_takes t code ws w a.0 a.1 in
    subst (λ (y : Item). (w ≡ word_of (Listed t code ws) y) × IsOfClass (Listed t code ws) y) (ok_is (N a.0) x a.2)
    (l.0, subst (λ (v : Word). (passes t v ≡ true) × (place_of v ws ≡ Some a.0)) l.0 l.1)
item_takes (Marked t code ws marks) w x e =
    let a = bind_ok (marked_of t code ws marks w) (λ i. Ok (N i)) x e in
    let b = bind_ok (listed_of t code ws w) (λ i. cond (slice_index_or marks i false) (Ok i) (Err code)) a.0 a.1 in
    let g = guard_ok (slice_index_or marks b.0 false) code b.0 a.0 b.2 in
    let l = listed_takes t code ws w b.0 b.1 in
    let m = subst (λ (v : Word). (passes t v ≡ true) × (place_of v ws ≡ Some b.0)) l.0 l.1 in
    subst (λ (y : Item). (w ≡ word_of (Marked t code ws marks) y) × IsOfClass (Marked t code ws marks) y) (ap (λ (i : ℕ). N i) g.1 ∙ ok_is (N a.0) x a.2)
    (l.0, (m.0, m.1, g.0))
item_takes (Chosen c) w x e =
    let a = bind_ok (chosen_of c w) (λ i. Ok (N i)) x e in
    let p = found_takes codes_of.UnknownWord (place_of w (choice_words c)) a.0 a.1 in
    let q = place_takes w (choice_words c) a.0 p in
    subst (λ (y : Item). (w ≡ word_of (Chosen c) y) × IsOfClass (Chosen c) y) (ok_is (N a.0) x a.2)
    (sym q.0, subst (λ (v : Word). place_of v (choice_words c) ≡ Some a.0) (sym q.0) p)

starts_with_digit : (n : ℕ) (d : ℕ) (ds : List ℕ) → n < 1000001 → decimal n ≡ d ∷ ds → d ≤ 57
starts_with_digit n d ds lt e =
    let a : list_all is_digit (d ∷ ds) ≡ true = subst (λ (v : Word). list_all is_digit v ≡ true) e (digits_decimal own n (omega (arith, lt))) in
    let b = and_true (is_digit d) (list_all is_digit ds) a in
    let c = and_true (nat_le 48 d) (nat_le d 57) b.0 in
    below_of d 57 c.1

not_max_at : (n : ℕ) → n < 1000001 → (t : Bool) → bytes_eq (decimal n) (codes "max") ≡ t → t ≡ false
not_max_at n lt true e = let h = starts_with_digit n 109 (97 ∷ 120 ∷ []) lt ((bytes_eq-Decides (decimal n) (codes "max")).0 e) in absurd (omega (arith, h))
not_max_at n lt false e = refl

not_max : (n : ℕ) → n < 1000001 → bytes_eq (decimal n) (codes "max") ≡ false
not_max n lt = not_max_at n lt (bytes_eq (decimal n) (codes "max")) refl

-- the spelling of an item of a class is read as that item
pub item_again : (c : Class) (x : Item) → IsOfClass c x → item_of c (word_of c x) ≡ Ok x
unfolding limit_spelled text_of chosen_of value_of listed_of
item_again (Number low high) (N n) h = rw (number_again low high n h.0 h.1 h.2) refl
item_again (Number low high) (L l) h = absurd h
item_again (Number low high) (W w) h = absurd h
item_again Limit (N n) h = absurd h
item_again Limit (L None) h = refl
item_again Limit (L (Some n)) h = rw (not_max n h, number_again 0 1000001 n (omega arith) h h) refl
item_again Limit (W w) h = absurd h
item_again (Plain t) (N n) h = absurd h
item_again (Plain t) (L l) h = absurd h
item_again (Plain t) (W w) h = rw h refl
item_again Valued (N n) h = absurd h
item_again Valued (L l) h = absurd h
item_again Valued (W w) h = rw h refl
item_again (Listed t code ws) (N i) h = rw (h.0, h.1) refl
item_again (Listed t code ws) (L l) h = absurd h
item_again (Listed t code ws) (W w) h = absurd h
item_again (Marked t code ws marks) (N i) h = rw (h.0, h.1, h.2) refl
item_again (Marked t code ws marks) (L l) h = absurd h
item_again (Marked t code ws marks) (W w) h = absurd h
item_again (Chosen c) (N i) h = rw h refl
item_again (Chosen c) (L l) h = absurd h
item_again (Chosen c) (W w) h = absurd h

-- ---- lists of words

-- words that were read are the spellings of their items
pub items_take : (cs : List Class) (ws : List Word) (xs : List Item) → items_said cs ws ≡ Ok xs → (ws ≡ words_of cs xs) × AreOf cs xs
unfolding item_at taken ended
items_take [] [] xs e = subst (λ (ys : List Item). ([] ≡ words_of [] ys) × AreOf [] ys) (ok_is [] xs e) (refl, tt)
items_take [] (w ∷ ws) xs e = absurd cc
items_take (c ∷ cs) [] xs e = absurd cc
items_take (c ∷ cs) (w ∷ ws) xs e =
    let z = bind_ok (item_of c w >>= λ x. Ok (x, ws)) (λ x. items_said cs x.1 >>= λ ys. Ok (x.0 ∷ ys)) xs e in
    let a = bind_ok (item_of c w) (λ x. Ok (x, ws)) z.0 z.1 in
    let p = ok_is (a.0, ws) z.0 a.2 in
    let y = subst (λ (q : Item × List Word). (items_said cs q.1 >>= λ ys. Ok (q.0 ∷ ys)) ≡ Ok xs) (sym p) z.2 in
    let b = bind_ok (items_said cs ws) (λ ys. Ok (a.0 ∷ ys)) xs y in
    let first = item_takes c w a.0 a.1 in
    let others = items_take cs ws b.0 b.1 in
    subst (λ (ys : List Item). (w ∷ ws ≡ words_of (c ∷ cs) ys) × AreOf (c ∷ cs) ys) (ok_is (a.0 ∷ b.0) xs b.2)
    (rw (← first.0, ← others.0) refl, (first.1, others.1))

-- the spellings of items are read as these items
pub items_again : (cs : List Class) (xs : List Item) → AreOf cs xs → items_said cs (words_of cs xs) ≡ Ok xs
unfolding item_at taken ended
items_again [] [] h = refl
items_again [] (x ∷ xs) h = absurd h
items_again (c ∷ cs) [] h = absurd h
items_again (c ∷ cs) (x ∷ xs) h = rw (item_again c x h.0, items_again cs xs h.1) refl

-- ---- the items of a line by their places

as_of_is : (c : Class) (x : Item) → IsOfClass c x → as_of c x ≡ x
as_of_is (Number low high) (N n) h = refl
as_of_is (Number low high) (L l) h = absurd h
as_of_is (Number low high) (W w) h = absurd h
as_of_is Limit (N n) h = absurd h
as_of_is Limit (L l) h = refl
as_of_is Limit (W w) h = absurd h
as_of_is (Plain t) (N n) h = absurd h
as_of_is (Plain t) (L l) h = absurd h
as_of_is (Plain t) (W w) h = refl
as_of_is Valued (N n) h = absurd h
as_of_is Valued (L l) h = absurd h
as_of_is Valued (W w) h = refl
as_of_is (Listed t code ws) (N i) h = refl
as_of_is (Listed t code ws) (L l) h = absurd h
as_of_is (Listed t code ws) (W w) h = absurd h
as_of_is (Marked t code ws marks) (N i) h = refl
as_of_is (Marked t code ws marks) (L l) h = absurd h
as_of_is (Marked t code ws marks) (W w) h = absurd h
as_of_is (Chosen c) (N i) h = refl
as_of_is (Chosen c) (L l) h = absurd h
as_of_is (Chosen c) (W w) h = absurd h

-- items of classes are what they are by their places
pub shape_is : (cs : List Class) (xs : List Item) → AreOf cs xs → shape cs xs ≡ xs
shape_is [] [] h = refl
shape_is [] (x ∷ xs) h = absurd h
shape_is (c ∷ cs) [] h = absurd h
shape_is (c ∷ cs) (x ∷ xs) h = rw (as_of_is c x h.0, shape_is cs xs h.1) refl

-- a choice is one of its words
pub chosen_below : (c : Choice) (x : Item) → IsOfClass (Chosen c) x → number_said x < length (choice_words c)
chosen_below c (N i) h = (place_takes (get_or (choice_words c) i []) (choice_words c) i h).1
chosen_below c (L l) h = absurd h
chosen_below c (W w) h = absurd h

pub flag_is : (i : ℕ) → i < 2 → flag_place (i == 1) ≡ i
flag_is zero h = refl
flag_is (suc zero) h = refl
flag_is (suc (suc i)) h = absurd (omega (arith, h))

pub flag_again : (b : Bool) → (flag_place b == 1) ≡ b
flag_again true = refl
flag_again false = refl

pub policy_is : (i : ℕ) → i < 3 → policy_place (policy_at i) ≡ i
policy_is zero h = refl
policy_is (suc zero) h = refl
policy_is (suc (suc zero)) h = refl
policy_is (suc (suc (suc i))) h = absurd (omega (arith, h))

pub policy_again : (p : Policy) → policy_at (policy_place p) ≡ p
policy_again policies.Plain = refl
policy_again policies.Clock = refl
policy_again policies.Halt = refl

-- ---- words have no byte that parts them

-- each byte is above a space
abbrev pub IsClean : Word → Type 0
IsClean w = list_all (nat_lt 32) w ≡ true

weaker : (p q : ℕ → Bool) → ((b : ℕ) → p b ≡ true → q b ≡ true) → (w : Word) → list_all p w ≡ true → list_all q w ≡ true
weaker p q f [] h = refl
weaker p q f (b ∷ w) h = let a = and_true (p b) (list_all p w) h in rw (f b a.0, weaker p q f w a.1) refl

clean_name : (b : ℕ) → is_name_byte b ≡ true → nat_lt 32 b ≡ true
clean_name b e = grind (arith, nat_tests)

clean_visible : (b : ℕ) → is_visible b ≡ true → nat_lt 32 b ≡ true
clean_visible b e = grind (arith, nat_tests)

clean_digit : (b : ℕ) → is_digit b ≡ true → nat_lt 32 b ≡ true
clean_digit b e = grind (arith, nat_tests)

append_clean : (v w : Word) → IsClean v → IsClean w → IsClean (v ++ w)
append_clean [] w g h = h
append_clean (b ∷ v) w g h = let a = and_true (nat_lt 32 b) (list_all (nat_lt 32) v) g in rw (a.0, append_clean v w a.1 h) refl

part_clean : (w : Word) → is_part w ≡ true → IsClean w
part_clean w e = weaker is_name_byte (nat_lt 32) clean_name w (and_right (nat_le 1 (length w) && nat_le (length w) 32) (list_all is_name_byte w) e)

joined_clean : (w : Word) (ws : List Word) → list_all is_part (w ∷ ws) ≡ true → IsClean (joined 47 w ws)
unfolding joined
joined_clean w [] h = part_clean w (and_true (is_part w) true h).0
joined_clean w (v ∷ vs) h =
    let a = and_true (is_part w) (list_all is_part (v ∷ vs)) h in
    append_clean w (47 ∷ joined 47 v vs) (part_clean w a.0) (joined_clean v vs a.1)

path_behind : (bs : Word) (t : Bool) → bytes_eq bs [] ≡ t → (t || all_parts (pieces 47 bs)) ≡ true → IsClean (47 ∷ bs)
unfolding pieces
path_behind bs true is e = rw ((bytes_eq-Decides bs []).0 is) refl
path_behind bs false is e = subst (λ (w : Word). IsClean (47 ∷ w)) (joined_cut 47 bs) (joined_clean (cut 47 bs).first (cut 47 bs).others e)

path_clean : (w : Word) → is_path w ≡ true → IsClean w
unfolding is_path pieces
path_clean [] e = absurd cc
path_clean (b ∷ bs) e =
    let a = and_true (b == 47) (bytes_eq bs [] || all_parts (pieces 47 bs)) e in
    rw (same_byte b 47 a.0) (path_behind bs (bytes_eq bs []) refl a.1)

-- a word that meets a test has no space and no line feed
pub passes_clean : (t : Test) (w : Word) → passes t w ≡ true → IsClean w
unfolding passes
passes_clean PathTest w e = path_clean w e
passes_clean NameTest w e = weaker is_name_byte (nat_lt 32) clean_name w (and_right (nat_le 1 (length w) && nat_le (length w) 16) (list_all is_name_byte w) e)
passes_clean KeyTest w e = weaker is_visible (nat_lt 32) clean_visible w (and_right (nat_le 1 (length w) && nat_le (length w) 64) (list_all is_visible w) e)

clean_at : (ws : List Word) (i : ℕ) → list_all (λ w. list_all (nat_lt 32) w) ws ≡ true → IsClean (get_or ws i [])
clean_at [] i h = refl
clean_at (w ∷ ws) zero h = (and_true (list_all (nat_lt 32) w) _ h).0
clean_at (w ∷ ws) (suc i) h = clean_at ws i (and_true (list_all (nat_lt 32) w) (list_all (λ v. list_all (nat_lt 32) v) ws) h).1

choice_clean : (c : Choice) → list_all (λ w. list_all (nat_lt 32) w) (choice_words c) ≡ true
choice_clean Policies = refl
choice_clean Kinds = refl
choice_clean Starts = refl
choice_clean Walks = refl
choice_clean PoolKinds = refl

decimal_clean : (n : ℕ) → n < 1000001 → IsClean (decimal n)
decimal_clean n lt = weaker is_digit (nat_lt 32) clean_digit (decimal n) (digits_decimal own n (omega (arith, lt)))

-- the spelling of an item has no space and no line feed
pub word_clean : (c : Class) (x : Item) → IsOfClass c x → IsClean (word_of c x)
word_clean (Number low high) (N n) h = decimal_clean n h.2
word_clean (Number low high) (L l) h = absurd h
word_clean (Number low high) (W w) h = absurd h
word_clean Limit (N n) h = absurd h
word_clean Limit (L None) h = refl
word_clean Limit (L (Some n)) h = decimal_clean n h
word_clean Limit (W w) h = absurd h
word_clean (Plain t) (N n) h = absurd h
word_clean (Plain t) (L l) h = absurd h
word_clean (Plain t) (W w) h = passes_clean t w h
word_clean Valued (N n) h = absurd h
word_clean Valued (L l) h = absurd h
word_clean Valued (W w) h = weaker is_visible (nat_lt 32) clean_visible w (and_right (nat_le 0 (length w) && nat_le (length w) 255) (list_all is_visible w) h)
word_clean (Listed t code ws) (N i) h = passes_clean t (get_or ws i []) h.0
word_clean (Listed t code ws) (L l) h = absurd h
word_clean (Listed t code ws) (W w) h = absurd h
word_clean (Marked t code ws marks) (N i) h = passes_clean t (get_or ws i []) h.0
word_clean (Marked t code ws marks) (L l) h = absurd h
word_clean (Marked t code ws marks) (W w) h = absurd h
word_clean (Chosen c) (N i) h = clean_at (choice_words c) i (choice_clean c)
word_clean (Chosen c) (L l) h = absurd h
word_clean (Chosen c) (W w) h = absurd h

-- none of the words has a space or a line feed
abbrev pub all_clean : List Word → Bool
all_clean ws = list_all (λ w. list_all (nat_lt 32) w) ws

-- the spellings of a line's items have no space and no line feed
pub words_clean : (cs : List Class) (xs : List Item) → AreOf cs xs → all_clean (words_of cs xs) ≡ true
words_clean [] xs h = refl
words_clean (c ∷ cs) [] h = refl
words_clean (c ∷ cs) (x ∷ xs) h = rw (word_clean c x h.0, words_clean cs xs h.1) refl

-- ---- words in a line, and a line in a script

part_of : (sep : ℕ) → nat_le sep 32 ≡ true → (b : ℕ) → nat_lt 32 b ≡ true → differs sep b ≡ true
part_of sep low b e = grind (arith, nat_tests)

-- a word without spaces and line feeds is one part
pub clean_part : (sep : ℕ) → nat_le sep 32 ≡ true → (w : Word) → IsClean w → is_part_of sep w ≡ true
clean_part sep low w h = weaker (nat_lt 32) (differs sep) (part_of sep low) w h

append_part : (v w : Word) → is_part_of 10 v ≡ true → is_part_of 10 w ≡ true → is_part_of 10 (v ++ w) ≡ true
append_part [] w g h = h
append_part (b ∷ v) w g h = let a = and_true (differs 10 b) (list_all (differs 10) v) g in rw (a.0, append_part v w a.1 h) refl

-- words that are joined are parted again
pub line_parts : (w : Word) (ws : List Word) → IsClean w → all_clean ws ≡ true → pieces 32 (joined 32 w ws) ≡ w ∷ ws
unfolding pieces joined
line_parts w [] h g = rw (cut_part 32 w (clean_part 32 refl w h)) refl
line_parts w (v ∷ vs) h g =
    let a = and_true (list_all (nat_lt 32) v) (list_all (λ u. list_all (nat_lt 32) u) vs) g in
    let more : pieces 32 (joined 32 v vs) ≡ v ∷ vs = line_parts v vs a.0 a.1 in
    rw (cut_first 32 w (joined 32 v vs) (clean_part 32 refl w h), more) refl

-- and a line of them has no line feed
pub no_feed : (w : Word) (ws : List Word) → IsClean w → all_clean ws ≡ true → is_part_of 10 (joined 32 w ws) ≡ true
unfolding joined
no_feed w [] h g = clean_part 10 refl w h
no_feed w (v ∷ vs) h g =
    let a = and_true (list_all (nat_lt 32) v) (list_all (λ u. list_all (nat_lt 32) u) vs) g in
    append_part w (32 ∷ joined 32 v vs) (clean_part 10 refl w h) (no_feed v vs a.0 a.1)
