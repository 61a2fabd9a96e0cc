-- SPDX-License-Identifier: GPL-2.0-only
-- An item that a word of a class says, where the class is tested as the word is found.
use Rattle.shr_words.proofs.Common.{◌≡◌, ℕ, ◌-◌, ◌≤◌, Bool, true, false, cond, ◌&&◌, List, [], ◌∷◌, length, take, drop, get_or, Ok, Err, refl, arith, take_rest, slice_index_or, ◌==◌, Result, list_all, Code, BadText, is_visible, is_name_byte, is_between, same_byte, ◌>>=◌, Word, Item, N, W, Plain, NameTest, KeyTest, Valued, Listed, Marked, Test, found_or, place_of, number_said, taken_of, UnknownCache}
use Rattle.shr_words.specs.WordReading.{taken, item_at, text_of, value_of, listed_of}
use Rattle.shr_words.specs.Classes.{passes}

-- a word of low to high bytes, as an item
abbrev pub long_item : ℕ → ℕ → Word × List Word → Result (Item × List Word) Code
long_item low high w = cond (is_between low high (length w.0)) (Ok (W w.0, w.1)) (Err BadText)

key_at : (w : Word) (ws : List Word) (t u : Bool) → is_between 1 64 (length w) ≡ t → list_all is_visible w ≡ u
    → item_at (Plain KeyTest) (w ∷ ws) ≡ (taken_of is_visible (w ∷ ws) >>= long_item 1 64)
unfolding item_at taken text_of passes
key_at w ws true true e f = rw (e, f, e) refl
key_at w ws true false e f = rw (e, f) refl
key_at w ws false true e f = rw (e, f, e) refl
key_at w ws false false e f = rw (e, f) refl

pub key_item : (ws : List Word) → item_at (Plain KeyTest) ws ≡ (taken_of is_visible ws >>= long_item 1 64)
unfolding item_at taken
key_item [] = refl
key_item (w ∷ ws) = key_at w ws _ _ refl refl

name_at : (w : Word) (ws : List Word) (t u : Bool) → is_between 1 16 (length w) ≡ t → list_all is_name_byte w ≡ u
    → item_at (Plain NameTest) (w ∷ ws) ≡ (taken_of is_name_byte (w ∷ ws) >>= long_item 1 16)
unfolding item_at taken text_of passes
name_at w ws true true e f = rw (e, f, e) refl
name_at w ws true false e f = rw (e, f) refl
name_at w ws false true e f = rw (e, f, e) refl
name_at w ws false false e f = rw (e, f) refl

pub name_item : (ws : List Word) → item_at (Plain NameTest) ws ≡ (taken_of is_name_byte ws >>= long_item 1 16)
unfolding item_at taken
name_item [] = refl
name_item (w ∷ ws) = name_at w ws _ _ refl refl

-- the place of a word of 1 to 16 bytes among those declared, as an item
abbrev pub listed_item : List Word → Word × List Word → Result (Item × List Word) Code
listed_item names w = cond (is_between 1 16 (length w.0)) (found_or UnknownCache (place_of w.0 names) >>= λ i. Ok (N i, w.1)) (Err BadText)

abbrev pub numbered : List Word → ℕ → Result (Item × List Word) Code
numbered ws i = Ok (N i, ws)

abbrev pub behind : List Word → Item → Result (Item × List Word) Code
behind ws x = Ok (x, ws)

pub joined_on : (r : Result ℕ Code) (ws : List Word) → (r >>= λ i. Ok (N i)) >>= behind ws ≡ r >>= numbered ws
joined_on (Ok i) ws = refl
joined_on (Err e) ws = refl

cache_at : (names : List Word) (w : Word) (ws : List Word) (t u : Bool) → is_between 1 16 (length w) ≡ t → list_all is_name_byte w ≡ u
    → item_at (Listed NameTest UnknownCache names) (w ∷ ws) ≡ (taken_of is_name_byte (w ∷ ws) >>= listed_item names)
unfolding item_at taken listed_of passes
cache_at names w ws true true e f = rw (e, f, e) (joined_on (found_or UnknownCache (place_of w names)) ws)
cache_at names w ws true false e f = rw (e, f) refl
cache_at names w ws false true e f = rw (e, f, e) refl
cache_at names w ws false false e f = rw (e, f) refl

pub cache_item : (names : List Word) (ws : List Word) → item_at (Listed NameTest UnknownCache names) ws ≡ (taken_of is_name_byte ws >>= listed_item names)
unfolding item_at taken
cache_item names [] = refl
cache_item names (w ∷ ws) = cache_at names w ws _ _ refl refl

-- a value of up to 255 bytes behind its =, as an item
abbrev pub value_in : Word → List Word → Result (Item × List Word) Code
value_in [] ws = Err BadText
value_in (b ∷ v) ws = cond ((b == 61) && is_between 0 255 (length v)) (Ok (W v, ws)) (Err BadText)

text_sign : (v : Word) (ws : List Word) (t u : Bool) → is_between 0 255 (length v) ≡ t → list_all is_visible v ≡ u
    → item_at Valued ((61 ∷ v) ∷ ws) ≡ (taken_of is_visible ((61 ∷ v) ∷ ws) >>= λ w. value_in w.0 w.1)
unfolding item_at taken value_of
text_sign v ws true true e f = rw (e, f, e) refl
text_sign v ws true false e f = rw (e, f) refl
text_sign v ws false true e f = rw (e, f, e) refl
text_sign v ws false false e f = rw (e, f) refl

text_other : (b : ℕ) (v : Word) (ws : List Word) (u : Bool) → (b == 61) ≡ false → list_all is_visible (b ∷ v) ≡ u
    → item_at Valued ((b ∷ v) ∷ ws) ≡ (taken_of is_visible ((b ∷ v) ∷ ws) >>= λ w. value_in w.0 w.1)
unfolding item_at taken value_of
text_other b v ws true e f = rw (e, f, e) refl
text_other b v ws false e f = rw (e, f) refl

text_at : (b : ℕ) (v : Word) (ws : List Word) (t : Bool) → (b == 61) ≡ t
    → item_at Valued ((b ∷ v) ∷ ws) ≡ (taken_of is_visible ((b ∷ v) ∷ ws) >>= λ w. value_in w.0 w.1)
text_at b v ws true e = rw (same_byte b 61 e) (text_sign v ws _ _ refl refl)
text_at b v ws false e = text_other b v ws _ e refl

pub text_item : (ws : List Word) → item_at Valued ws ≡ (taken_of is_visible ws >>= λ w. value_in w.0 w.1)
unfolding item_at taken value_of
text_item [] = refl
text_item ([] ∷ ws) = refl
text_item ((b ∷ v) ∷ ws) = text_at b v ws _ refl

-- what is left of a word behind its = is its value
pub text_value : (w : Word) (ws : List Word) → 1 ≤ length w → get_or w 0 0 ≡ 61
    → is_between 0 255 (length (take (length w - 1) (drop 1 w))) ≡ true → value_in w ws ≡ Ok (W (take (length w - 1) (drop 1 w)), ws)
text_value [] ws some e h = absurd (omega arith)
text_value (b ∷ v) ws some e h =
    let rest : take (length (b ∷ v) - 1) (drop 1 (b ∷ v)) ≡ v = take_rest (b ∷ v) 1 in
    let long : is_between 0 255 (length v) ≡ true = rw (← rest) h in
    rw (rest, e, long) refl

-- ---- a word that is marked

-- an item that is marked, with what is behind it, or the code
abbrev pub marked_item : Code → List Bool → Item × List Word → Result (Item × List Word) Code
marked_item code marks x = cond (slice_index_or marks (number_said x.0) false) (Ok x) (Err code)

mark_at : (code : Code) (i : ℕ) (ws : List Word) (b : Bool)
    → ((cond b (Ok i) (Err code) >>= λ j. Ok (N j)) >>= behind ws) ≡ cond b (Ok (N i, ws)) (Err code)
mark_at code i ws true = refl
mark_at code i ws false = refl

marked_at : (code : Code) (marks : List Bool) (ws : List Word) (r : Result ℕ Code)
    → (((r >>= λ i. cond (slice_index_or marks i false) (Ok i) (Err code)) >>= λ i. Ok (N i)) >>= behind ws) ≡ (((r >>= λ i. Ok (N i)) >>= behind ws) >>= marked_item code marks)
marked_at code marks ws (Ok i) = mark_at code i ws (slice_index_or marks i false)
marked_at code marks ws (Err e) = refl

-- a word that is to be marked is one of those declared, and then its mark is looked at
pub marked_is : (t : Test) (code : Code) (names : List Word) (marks : List Bool) (ws : List Word)
    → item_at (Marked t code names marks) ws ≡ (item_at (Listed t code names) ws >>= marked_item code marks)
unfolding item_at taken
marked_is t code names marks [] = refl
marked_is t code names marks (w ∷ ws) = marked_at code marks ws (listed_of t code names w)
