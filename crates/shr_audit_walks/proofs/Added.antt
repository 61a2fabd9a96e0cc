-- SPDX-License-Identifier: GPL-2.0-only
-- Keys that loops add, item by item.
use Rattle.shr_audit_walks.proofs.ScansCommon.{◌≡◌, ℕ, ◌+◌, ◌<◌, ◌≤◌, List, ◌++◌, length, get_or, take, sym, ap, ◌∙◌, arith, flat_map, enumerate_from, get_or-enumerate_from, length-enumerate_from, flat_all}
use Rattle.shr_model.proofs.Lists.{flat_more}

-- the same of items with their numbers
pub numbered_more : {X Y : Type 0} (f : ℕ × X → List Y) (xs : List X) (i : ℕ) (y : X) (a old next : List Y) → i < length xs → y ≡ get_or xs i y → old ≡ a ++ flat_map f (take i (enumerate_from 0 xs)) → next ≡ old ++ f (i, y)
    → next ≡ a ++ flat_map f (take (i + 1) (enumerate_from 0 xs))
numbered_more {X} f xs i y a old next lt is before added =
    let none : 0 + i ≡ i = omega arith in
    let here : get_or (enumerate_from 0 xs) i (i, y) ≡ (i, y) = get_or-enumerate_from 0 xs i (i, y) lt ∙ ap (λ (n : ℕ). (n, get_or xs i y)) none ∙ ap (λ (x : X). (i, x)) (sym is) in
    flat_more f (enumerate_from 0 xs) i (i, y) a old next (let many = length-enumerate_from 0 xs in omega arith) (sym here) before added

pub numbered_all : {X Y : Type 0} (f : ℕ × X → List Y) (xs : List X) (i : ℕ) (a old : List Y) → length xs ≤ i → old ≡ a ++ flat_map f (take i (enumerate_from 0 xs)) → old ≡ a ++ flat_map f (enumerate_from 0 xs)
numbered_all f xs i a old over before = flat_all f (enumerate_from 0 xs) i a old (let many = length-enumerate_from 0 xs in omega arith) before
