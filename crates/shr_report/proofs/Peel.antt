-- SPDX-License-Identifier: GPL-2.0-only
-- A line is read back: words without separators, the first of a text that goes on.
use Rattle.shr_report.proofs.Common.{◌≡◌, ℕ, Bool, true, ◌&&◌, List, [], ◌∷◌, ◌++◌, refl, sym, ap, ◌∙◌, append_assoc, append-nil, list_all, cut, differs, and_true, joined_cut, spaced, line, cut_first, pieces_joined}
use Rattle.shr_model.specs.Pieces.{Parts, pieces, joined}
use Rattle.shr_model.specs.PieceParts.{is_part_of}
use Rattle.shr_model.proofs.Booleans.{both}

-- a byte that parts neither words nor lines
abbrev pub is_plain : ℕ → Bool
is_plain b = differs 10 b && differs 32 b

-- a word of such bytes
unfoldable pub is_plain_word : List ℕ → Bool
is_plain_word w = list_all is_plain w

lines_apart : (w : List ℕ) → list_all is_plain w ≡ true → is_part_of 10 w ≡ true
lines_apart [] h = refl
lines_apart (b ∷ w) h =
    let a = and_true (is_plain b) (list_all is_plain w) h in
    both (differs 10 b) (is_part_of 10 w) (and_true (differs 10 b) (differs 32 b) a.0).0 (lines_apart w a.1)

words_apart : (w : List ℕ) → list_all is_plain w ≡ true → is_part_of 32 w ≡ true
words_apart [] h = refl
words_apart (b ∷ w) h =
    let a = and_true (is_plain b) (list_all is_plain w) h in
    both (differs 32 b) (is_part_of 32 w) (and_true (differs 10 b) (differs 32 b) a.0).1 (words_apart w a.1)

apart_append : (v w : List ℕ) → is_part_of 10 v ≡ true → is_part_of 10 w ≡ true → is_part_of 10 (v ++ w) ≡ true
apart_append [] w h k = k
apart_append (b ∷ v) w h k =
    let a = and_true (differs 10 b) (is_part_of 10 v) h in
    both (differs 10 b) (is_part_of 10 (v ++ w)) a.0 (apart_append v w a.1 k)

spaced_apart : (ws : List (List ℕ)) → list_all is_plain_word ws ≡ true → is_part_of 10 (spaced ws) ≡ true
unfolding is_plain_word
spaced_apart [] h = refl
spaced_apart (w ∷ ws) h =
    let a = and_true (is_plain_word w) (list_all is_plain_word ws) h in
    apart_append w (spaced ws) (lines_apart w a.0) (spaced_apart ws a.1)

all_parts : (ws : List (List ℕ)) → list_all is_plain_word ws ≡ true → list_all (is_part_of 32) ws ≡ true
unfolding is_plain_word
all_parts [] h = refl
all_parts (w ∷ ws) h =
    let a = and_true (is_plain_word w) (list_all is_plain_word ws) h in
    both (is_part_of 32 w) (list_all (is_part_of 32) ws) (words_apart w a.0) (all_parts ws a.1)

spaced_joined : (w : List ℕ) (ws : List (List ℕ)) → w ++ spaced ws ≡ joined 32 w ws
unfolding joined
spaced_joined w [] = append-nil w
spaced_joined w (v ∷ vs) = ap (λ (x : List ℕ). w ++ (32 ∷ x)) (spaced_joined v vs)

-- two first lines are the same, and so are the texts behind them
pub record Peeled (f g : List ℕ) (ws vs : List (List ℕ)) (rest rest' : List ℕ) : Type 0 where
  pub words : (f ∷ ws) ≡ (g ∷ vs)
  pub others : rest ≡ rest'

pub body_of : List ℕ → List (List ℕ) → List ℕ
body_of f ws = f ++ spaced ws

line_is : (f : List ℕ) (ws : List (List ℕ)) (rest : List ℕ) → line f ws ++ rest ≡ body_of f ws ++ (10 ∷ rest)
unfolding body_of
line_is f ws rest = regrouped f (spaced ws) rest
  where
    regrouped : (f s rest : List ℕ) → (f ++ (s ++ 10 ∷ [])) ++ rest ≡ (f ++ s) ++ (10 ∷ rest)
    regrouped f s rest = simp append_assoc

body_apart : (f : List ℕ) (ws : List (List ℕ)) → list_all is_plain_word (f ∷ ws) ≡ true → is_part_of 10 (body_of f ws) ≡ true
unfolding body_of is_plain_word
body_apart f ws h =
    let a = and_true (is_plain_word f) (list_all is_plain_word ws) h in
    apart_append f (spaced ws) (lines_apart f a.0) (spaced_apart ws a.1)

pub body_words : (f : List ℕ) (ws : List (List ℕ)) → list_all is_plain_word (f ∷ ws) ≡ true → pieces 32 (body_of f ws) ≡ f ∷ ws
unfolding body_of
body_words f ws h = ap (pieces 32) (spaced_joined f ws) ∙ pieces_joined 32 f ws (all_parts (f ∷ ws) h)

pub cut_line : (f : List ℕ) (ws : List (List ℕ)) (rest : List ℕ) → list_all is_plain_word (f ∷ ws) ≡ true
    → ((cut 10 (line f ws ++ rest)).first ≡ body_of f ws) × ((cut 10 (line f ws ++ rest)).others ≡ pieces 10 rest)
cut_line f ws rest h =
    let e : cut 10 (line f ws ++ rest) ≡ record { first = body_of f ws; others = pieces 10 rest } = ap (cut 10) (line_is f ws rest) ∙ cut_first 10 (body_of f ws) rest (body_apart f ws h) in
    (ap (λ (p : Parts). p.first) e, ap (λ (p : Parts). p.others) e)

glued : List (List ℕ) → List ℕ
glued [] = []
glued (p ∷ ps) = joined 10 p ps

glued_pieces : (bytes : List ℕ) → glued (pieces 10 bytes) ≡ bytes
unfolding glued pieces
glued_pieces bytes = joined_cut 10 bytes

-- two texts that begin with lines are the same only where the lines' words are, and what follows
pub peel : (f g : List ℕ) (ws vs : List (List ℕ)) (rest rest' : List ℕ) → list_all is_plain_word (f ∷ ws) ≡ true → list_all is_plain_word (g ∷ vs) ≡ true
    → line f ws ++ rest ≡ line g vs ++ rest' → Peeled f g ws vs rest rest'
peel f g ws vs rest rest' h k e =
    let a = cut_line f ws rest h in
    let b = cut_line g vs rest' k in
    let bodies : body_of f ws ≡ body_of g vs = sym a.0 ∙ ap (λ (x : List ℕ). (cut 10 x).first) e ∙ b.0 in
    let later : pieces 10 rest ≡ pieces 10 rest' = sym a.1 ∙ ap (λ (x : List ℕ). (cut 10 x).others) e ∙ b.1 in
    record {
      words = sym (body_words f ws h) ∙ ap (pieces 32) bodies ∙ body_words g vs k;
      others = sym (glued_pieces rest) ∙ ap glued later ∙ glued_pieces rest';
    }
