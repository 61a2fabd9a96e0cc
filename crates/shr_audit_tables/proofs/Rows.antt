-- SPDX-License-Identifier: GPL-2.0-only
-- Lists that a loop adds to, item by item.
use Rattle.shr_audit_tables.proofs.Common.{◌≡◌, ℕ, suc, ◌+◌, ◌<◌, ◌≤◌, List, [], ◌∷◌, ◌++◌, length, get_or, map, take, sym, ap, ◌∙◌, arith, range_with_len, append_assoc, take_more, take_all, length-take-le, Move, draw_key, wanted_move, wanted_from, flat_all, map_end, append-nil, added_to}
use Rattle.std.proofs.lemmas.List.FromFn.{map-range_with_len_more}

pub range_step : {Y : Type 0} (f : ℕ → Y) (i : ℕ) (a old next : List Y) → old ≡ a ++ map f (range_with_len 0 i) → next ≡ old ++ f i ∷ [] → next ≡ a ++ map f (range_with_len 0 (i + 1))
range_step {Y} f i a old next before added = added_to a old (map f (range_with_len 0 i)) (f i ∷ []) next before added ∙ ap (λ (l : List Y). a ++ l) (sym (map-range_with_len_more f 0 i i (omega arith)))

-- the lookups that are wanted, of one id more
abbrev numbers_of : ℕ → ℕ → List Move
numbers_of id count = map (λ n. wanted_move (draw_key id n)) (range_with_len 0 count)

wanted_push : (k : ℕ) (ls : List ℕ) (l : ℕ) → wanted_from k (ls ++ l ∷ []) ≡ wanted_from k ls ++ numbers_of (k + length ls) l
wanted_push k [] l = append-nil (numbers_of k l) ∙ ap (λ (n : ℕ). numbers_of n l) (let e : k ≡ k + 0 = omega arith in e)
wanted_push k (x ∷ ls) l = ap (λ (m : List Move). numbers_of k x ++ m) (wanted_push (k + 1) ls l) ∙ sym (append_assoc (numbers_of k x) (wanted_from (k + 1) ls) (numbers_of ((k + 1) + length ls) l)) ∙ ap (λ (n : ℕ). (numbers_of k x ++ wanted_from (k + 1) ls) ++ numbers_of n l) (let e : (k + 1) + length ls ≡ k + suc (length ls) = omega arith in e)

pub wanted_step : (ls : List ℕ) (i d : ℕ) (a old next : List Move) → i < length ls → old ≡ a ++ wanted_from 0 (take i ls) → next ≡ old ++ numbers_of i (get_or ls i d) → next ≡ a ++ wanted_from 0 (take (i + 1) ls)
wanted_step ls i d a old next lt before added =
    let l = length-take-le i ls (omega (arith, lt)) in
    let number : 0 + length (take i ls) ≡ i = omega (arith, l) in
    added_to a old (wanted_from 0 (take i ls)) (numbers_of i (get_or ls i d)) next before added ∙ ap (λ (m : List Move). a ++ m) (sym (ap (wanted_from 0) (take_more ls i d lt) ∙ wanted_push 0 (take i ls) (get_or ls i d) ∙ ap (λ (n : ℕ). wanted_from 0 (take i ls) ++ numbers_of n (get_or ls i d)) number))

pub wanted_end : (ls : List ℕ) (i : ℕ) (a old : List Move) → length ls ≤ i → old ≡ a ++ wanted_from 0 (take i ls) → old ≡ a ++ wanted_from 0 ls
wanted_end ls i a old over before = before ∙ ap (λ (l : List ℕ). a ++ wanted_from 0 l) (take_all i ls over)
