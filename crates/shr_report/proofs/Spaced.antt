-- SPDX-License-Identifier: GPL-2.0-only
-- Words behind spaces.
use Rattle.shr_report.proofs.Common.{◌≡◌, ℕ, ◌+◌, ◌<◌, List, [], ◌∷◌, ◌++◌, length, take, get_or, refl, sym, ap, ◌∙◌, append_assoc, append-nil, word_texts, spaced, map_more, word_text}
use Rattle.shr_report.specs.declared.lines.Word.{Word}

-- a word more stands behind a space
pub spaced_push : (ws : List (List ℕ)) (w : List ℕ) → spaced (ws ++ w ∷ []) ≡ spaced ws ++ 32 ∷ w
spaced_push [] w = ap (λ (x : List ℕ). 32 ∷ x) (append-nil w)
spaced_push (v ∷ ws) w = ap (λ (x : List ℕ). 32 ∷ (v ++ x)) (spaced_push ws w) ∙ ap (λ (x : List ℕ). 32 ∷ x) (sym (append_assoc v (spaced ws) (32 ∷ w)))

pub spaced_append : (ws vs : List (List ℕ)) → spaced (ws ++ vs) ≡ spaced ws ++ spaced vs
spaced_append [] vs = refl
spaced_append (w ∷ ws) vs = ap (λ (x : List ℕ). 32 ∷ (w ++ x)) (spaced_append ws vs) ∙ ap (λ (x : List ℕ). 32 ∷ x) (sym (append_assoc w (spaced ws) (spaced vs)))

-- one word more
pub words_more : (ws : List Word) (i : ℕ) (w : Word) → i < length ws → spaced (word_texts (take i ws)) ++ 32 ∷ word_text (get_or ws i w) ≡ spaced (word_texts (take (i + 1) ws))
words_more ws i w lt = sym (ap spaced (map_more word_text ws i w lt) ∙ spaced_push (word_texts (take i ws)) (word_text (get_or ws i w)))

-- words, and the rest of a line
pub rest_behind : (ws vs : List (List ℕ)) → spaced ws ++ (spaced vs ++ 10 ∷ []) ≡ spaced (ws ++ vs) ++ 10 ∷ []
rest_behind ws vs = sym (append_assoc (spaced ws) (spaced vs) (10 ∷ [])) ∙ ap (λ (x : List ℕ). x ++ 10 ∷ []) (sym (spaced_append ws vs))
