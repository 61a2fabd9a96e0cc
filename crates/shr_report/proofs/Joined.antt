-- SPDX-License-Identifier: GPL-2.0-only
-- Parts of a text one after the other.
use Rattle.shr_report.proofs.Common.{◌≡◌, ℕ, ◌+◌, ◌<◌, ◌≤◌, List, [], ◌∷◌, ◌++◌, length, take, drop, get_or, flat_map, refl, sym, ap, ◌∙◌, append_assoc, prefix_len, take_more, drop_more, drop_all, append-nil, take-append-drop, Attempt, MapSeen, Answered, reply_line, found_lines, attempt_line, map_line, is_in_unit, Logs, log_lines, after_command, drop-drop}
use Rattle.std.proofs.lemmas.Grind.{flat_map-append}
use Rattle.shr_laws.specs.WalkText.{map_lines}
use Rattle.shr_laws.specs.Text.{answer_lines}

-- one unit more with its attempts
pub units_next : (maps : List MapSeen) (i : ℕ) (d m : MapSeen) (all : List Attempt) (at n : ℕ) → i < length maps → m ≡ get_or maps i d → n ≡ prefix_len (is_in_unit m.unit) (drop at all)
    → map_lines (drop i maps) (drop at all) ≡ map_line m ++ (flat_map attempt_line (take n (drop at all)) ++ map_lines (drop (i + 1) maps) (drop (at + n) all))
unfolding map_lines
units_next maps i d m all at n lt is count =
    let others = drop (i + 1) maps in
    let here : drop i maps ≡ m ∷ others = drop_more maps i d lt ∙ ap (λ y. y ∷ others) (sym is) in
    rw (here, ← drop-drop n at all, count) (append_assoc (map_line m) _ _)

-- no unit is left
pub units_end : (maps : List MapSeen) (i : ℕ) (attempts : List Attempt) → length maps ≤ i → map_lines (drop i maps) attempts ≡ flat_map attempt_line attempts ++ []
unfolding map_lines
units_end maps i attempts le = ap (λ ms. map_lines ms attempts) (drop_all i maps le) ∙ sym (append-nil (flat_map attempt_line attempts))

regrouped : (a b c d : List ℕ) → a ++ b ++ c ++ d ≡ (a ++ b) ++ (c ++ d)
regrouped a b c d = append_assoc (a ++ b) c d

-- one answer more with all that stands of its command
pub answers_next : (worker i : ℕ) (answers : List Answered) (l : Logs) (x : Answered) → i < length answers → x ≡ get_or answers i x
    → answer_lines worker i (drop i answers) l ≡ (reply_line worker i x.reply ++ found_lines x.found) ++ (log_lines i l ++ answer_lines worker (i + 1) (drop (i + 1) answers) (after_command i l))
unfolding answer_lines
answers_next worker i answers l x lt is =
    let others = drop (i + 1) answers in
    let here : drop i answers ≡ x ∷ others = drop_more answers i x lt ∙ ap (λ y. y ∷ others) (sym is) in
    rw here (regrouped (reply_line worker i x.reply) (found_lines x.found) (log_lines i l) _)

-- no answer is left
pub answers_end : (worker i : ℕ) (answers : List Answered) (l : Logs) → length answers ≤ i → answer_lines worker i (drop i answers) l ≡ []
unfolding answer_lines
answers_end worker i answers l le = ap (λ ys. answer_lines worker i ys l) (drop_all i answers le)

-- the texts of some items more
pub lines_next : {X : Type 0} (f : X → List ℕ) (xs : List X) (i n : ℕ) (piece : List ℕ) → piece ≡ flat_map f (take n (drop i xs)) → flat_map f (drop i xs) ≡ piece ++ flat_map f (drop (i + n) xs)
lines_next f xs i n piece here = ap (flat_map f) (sym (take-append-drop n (drop i xs))) ∙ flat_map-append f (take n (drop i xs)) (drop n (drop i xs)) ∙ rw (sym here, drop-drop n i xs) refl

-- the text of one item more
pub lines_more : {X : Type 0} (f : X → List ℕ) (xs : List X) (i : ℕ) (d : X) → i < length xs → flat_map f (take (i + 1) xs) ≡ flat_map f (take i xs) ++ f (get_or xs i d)
lines_more f xs i d lt = ap (flat_map f) (take_more xs i d lt) ∙ flat_map-append f (take i xs) (get_or xs i d ∷ []) ∙ ap (λ t. flat_map f (take i xs) ++ t) (append-nil (f (get_or xs i d)))
