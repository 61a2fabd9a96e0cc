-- SPDX-License-Identifier: GPL-2.0-only
-- Parts that are joined are the bytes, and bytes that are cut are the parts.
use Rattle.shr_model.proofs.Common.{◌≡◌, ℕ, suc, ◌+◌, ◌≤◌, ◌<◌, Bool, true, false, cond, ◌&&◌, List, [], ◌∷◌, ◌++◌, length, take, drop, Option, Some, None, refl, sym, ap, ◌∙◌, arith, eq-eqb, ◌==◌, ◌-◌, nat_tests, prefix_len, list_all, take_rest}
use Rattle.shr_model.specs.Pieces.{Parts, cut, pieces, joined, differs}
use Rattle.shr_model.specs.PieceParts.{is_part_of, left, next_part}

pub one-add : (n : ℕ) → 1 + n ≡ suc n
one-add n = omega arith

pub and_true : (a b : Bool) → (a && b) ≡ true → (a ≡ true) × (b ≡ true)
and_true true b e = (refl, e)
and_true false b e = absurd cc

joined_onto : (sep b : ℕ) (w : List ℕ) (ws : List (List ℕ)) → joined sep (b ∷ w) ws ≡ b ∷ joined sep w ws
unfolding joined
joined_onto sep b w [] = refl
joined_onto sep b w (v ∷ vs) = refl

pub same_byte : (b sep : ℕ) → (b == sep) ≡ true → b ≡ sep
same_byte b sep e = grind (arith, nat_tests)

step : (sep b : ℕ) (bs : List ℕ) (t : Bool) → (b == sep) ≡ t → joined sep (cut sep bs).first (cut sep bs).others ≡ bs → joined sep (cut sep (b ∷ bs)).first (cut sep (b ∷ bs)).others ≡ b ∷ bs
unfolding cut joined
step sep b bs true e h = rw (e, h) (ap (λ (x : ℕ). x ∷ bs) (sym (same_byte b sep e)))
step sep b bs false e h = rw (e, joined_onto, h) refl

-- what is cut and joined is the same again
pub joined_cut : (sep : ℕ) (bytes : List ℕ) → joined sep (cut sep bytes).first (cut sep bytes).others ≡ bytes
unfolding cut joined
joined_cut sep [] = refl
joined_cut sep (b ∷ bs) = step sep b bs (b == sep) refl (joined_cut sep bs)

abbrev part : List ℕ → List (List ℕ) → Parts
part w ws = record { first = w; others = ws }

at_sep : (sep : ℕ) (t : Bool) → (sep == sep) ≡ t → t ≡ true
at_sep sep true e = refl
at_sep sep false e = sym e ∙ eq-eqb sep sep refl

flip : (t : Bool) → cond t false true ≡ true → t ≡ false
flip true e = absurd cc
flip false e = refl

differs_true : (sep b : ℕ) → differs sep b ≡ true → (b == sep) ≡ false
differs_true sep b e = flip (b == sep) e

-- a part without a separator is one part
pub cut_part : (sep : ℕ) (w : List ℕ) → is_part_of sep w ≡ true → cut sep w ≡ part w []
unfolding cut
cut_part sep [] h = refl
cut_part sep (b ∷ w) h =
    let a = and_true (differs sep b) (list_all (differs sep) w) h in
    rw (differs_true sep b a.0, cut_part sep w a.1) refl

-- a part, its separator, and what follows
pub cut_first : (sep : ℕ) (w rest : List ℕ) → is_part_of sep w ≡ true → cut sep (w ++ (sep ∷ rest)) ≡ part w (pieces sep rest)
unfolding cut pieces
cut_first sep [] rest h = rw (eq-eqb sep sep refl) refl
cut_first sep (b ∷ w) rest h =
    let a = and_true (differs sep b) (list_all (differs sep) w) h in
    rw (differs_true sep b a.0, cut_first sep w rest a.1) refl

-- ---- the next part, as the code finds it

stop_at : (sep b : ℕ) (bs : List ℕ) (t : Bool) → (b == sep) ≡ t → prefix_len (differs sep) (b ∷ bs) < length (b ∷ bs)
    → (prefix_len (differs sep) bs < length bs → cut sep bs ≡ part (take (prefix_len (differs sep) bs) bs) (pieces sep (drop (suc (prefix_len (differs sep) bs)) bs)))
    → cut sep (b ∷ bs) ≡ part (take (prefix_len (differs sep) (b ∷ bs)) (b ∷ bs)) (pieces sep (drop (suc (prefix_len (differs sep) (b ∷ bs))) (b ∷ bs)))
unfolding cut pieces
stop_at sep b bs true e h more = rw e refl
stop_at sep b bs false e h more =
    let n = prefix_len (differs sep) bs in
    let lt : 1 + n < length (b ∷ bs) = rw e at h in
    rw (e, one-add n, more (omega (arith, lt))) refl

stop : (sep : ℕ) (bytes : List ℕ) → prefix_len (differs sep) bytes < length bytes → cut sep bytes ≡ part (take (prefix_len (differs sep) bytes) bytes) (pieces sep (drop (suc (prefix_len (differs sep) bytes)) bytes))
stop sep [] h = absurd (omega arith)
stop sep (b ∷ bs) h = stop_at sep b bs (b == sep) refl h (stop sep bs)

whole_at : (sep b : ℕ) (bs : List ℕ) (t : Bool) → (b == sep) ≡ t → length (b ∷ bs) ≤ prefix_len (differs sep) (b ∷ bs)
    → (length bs ≤ prefix_len (differs sep) bs → cut sep bs ≡ part bs []) → cut sep (b ∷ bs) ≡ part (b ∷ bs) []
unfolding cut
whole_at sep b bs true e h more = let le : suc (length bs) ≤ 0 = rw e at h in absurd (omega arith)
whole_at sep b bs false e h more =
    let n = prefix_len (differs sep) bs in
    let le : suc (length bs) ≤ 1 + n = rw e at h in
    rw (e, more (omega (arith, le))) refl

whole : (sep : ℕ) (bytes : List ℕ) → length bytes ≤ prefix_len (differs sep) bytes → cut sep bytes ≡ part bytes []
unfolding cut
whole sep [] h = refl
whole sep (b ∷ bs) h = whole_at sep b bs (b == sep) refl h (whole sep bs)

-- where a separator follows, the next part ends before it, and the bytes behind it are left
pub next_more : (sep : ℕ) (bytes : List ℕ) (n : ℕ) → n ≡ prefix_len (differs sep) bytes → n < length bytes
    → Some (take n bytes, left sep (Some (take (length bytes - (n + 1)) (drop (n + 1) bytes)))) ≡ next_part (left sep (Some bytes))
unfolding left pieces
next_more sep bytes n e lt =
    let lt' : prefix_len (differs sep) bytes < length bytes = rw (← e) lt in
    let k : n + 1 ≡ suc n = omega arith in
    rw (take_rest bytes (n + 1), k, e, stop sep bytes lt') refl

-- where none follows, the next part is all that is left
pub next_last : (sep : ℕ) (bytes : List ℕ) (n : ℕ) → n ≡ prefix_len (differs sep) bytes → (n < length bytes → ⊥)
    → Some (bytes, left sep None) ≡ next_part (left sep (Some bytes))
unfolding left pieces
next_last sep bytes n e ge = rw (whole sep bytes (omega (arith, e, ge))) refl

cut_parts_at : (sep b : ℕ) (bs : List ℕ) (t : Bool) → (b == sep) ≡ t → list_all (is_part_of sep) ((cut sep bs).first ∷ (cut sep bs).others) ≡ true
    → list_all (is_part_of sep) ((cut sep (b ∷ bs)).first ∷ (cut sep (b ∷ bs)).others) ≡ true
unfolding cut
cut_parts_at sep b bs true e h = rw (e, h) refl
cut_parts_at sep b bs false e h = rw e (rw e h)

cut_parts : (sep : ℕ) (bytes : List ℕ) → list_all (is_part_of sep) ((cut sep bytes).first ∷ (cut sep bytes).others) ≡ true
unfolding cut
cut_parts sep [] = refl
cut_parts sep (b ∷ bs) = cut_parts_at sep b bs (b == sep) refl (cut_parts sep bs)

-- no part has a separator
pub pieces_parts : (sep : ℕ) (bytes : List ℕ) → list_all (is_part_of sep) (pieces sep bytes) ≡ true
unfolding pieces
pieces_parts sep bytes = cut_parts sep bytes

-- parts that are joined are parted again
pub pieces_joined : (sep : ℕ) (w : List ℕ) (ws : List (List ℕ)) → list_all (is_part_of sep) (w ∷ ws) ≡ true → pieces sep (joined sep w ws) ≡ w ∷ ws
unfolding pieces joined
pieces_joined sep w [] h = rw (cut_part sep w (and_true (is_part_of sep w) true h).0) refl
pieces_joined sep w (v ∷ vs) h =
    let a = and_true (is_part_of sep w) (list_all (is_part_of sep) (v ∷ vs)) h in
    let more : pieces sep (joined sep v vs) ≡ v ∷ vs = pieces_joined sep v vs a.1 in
    rw (cut_first sep w (joined sep v vs) a.0, more) refl

short_at : (sep b : ℕ) (bs : List ℕ) (t : Bool) → (b == sep) ≡ t → length (cut sep bs).others ≤ length bs → length (cut sep (b ∷ bs)).others ≤ length (b ∷ bs)
unfolding cut
short_at sep b bs true e h = rw e (omega (arith, h))
short_at sep b bs false e h = rw e (omega (arith, h))

short : (sep : ℕ) (bytes : List ℕ) → length (cut sep bytes).others ≤ length bytes
unfolding cut
short sep [] = omega arith
short sep (b ∷ bs) = short_at sep b bs (b == sep) refl (short sep bs)

-- there are no more separators than bytes
pub pieces_short : (sep : ℕ) (bytes : List ℕ) → length (pieces sep bytes) ≤ length bytes + 1
unfolding pieces
pieces_short sep bytes = let h = short sep bytes in omega (arith, h)

abbrev ended : List ℕ × List (List ℕ) → Option (List ℕ × List (List ℕ))
ended x = Some x

ended_is : (x y : List ℕ × List (List ℕ)) → ended x ≡ ended y → x ≡ y
ended_is x y e = cc

next_long_at : (parts : List (List ℕ)) (p : List ℕ) (ps : List (List ℕ)) → ended (p, ps) ≡ next_part parts → length parts ≡ length ps + 1
next_long_at [] p ps e = absurd cc
next_long_at (q ∷ qs) p ps e = let f : ps ≡ qs = ap (λ (x : List ℕ × List (List ℕ)). x.1) (ended_is (p, ps) (q, qs) e) in rw f (omega arith)

-- taking a part leaves one part less
pub next_long : (parts : List (List ℕ)) (p : List ℕ) (ps : List (List ℕ)) → Some (p, ps) ≡ next_part parts → length parts ≡ length ps + 1
next_long parts p ps e = next_long_at parts p ps e
