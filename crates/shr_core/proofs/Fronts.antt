-- SPDX-License-Identifier: GPL-2.0-only
-- The slot of a room that is given back comes to the front.
use Rattle.shr_core.proofs.Common.{◌≡◌, ◌≢◌, ℕ, ◌<◌, cond, List, [], ◌∷◌, map, length, get_or, sym, ap, ◌∙◌, arith, eq-eqb, ne_eqb, dite, ℕ_discrete, rest, total, only_no, Slot, Hand, is_room, without_room, HasFirst, slot_numbers}
use Rattle.atomic_table.specs.Table.{turned}
use Rattle.shr_model.proofs.Lists.{heads}

abbrev room : Hand → ℕ
room h = h.room

second_is : (x y a b : ℕ) (xs ys : List ℕ) → x ∷ a ∷ xs ≡ y ∷ b ∷ ys → a ≡ b
second_is x y a b xs ys e = ap (λ (l : List ℕ). get_or l 1 0) e

long : (xs ys : List ℕ) → xs ≡ ys → length xs ≡ length ys
long xs ys e = ap (λ (l : List ℕ). length l) e

-- no room is in hand
pub no_hand : (n : ℕ) (hs : List Hand) → [] ≡ map room hs → 0 < total (is_room n) hs → ⊥
no_hand n [] e has = omega (arith, has)
no_hand n (h ∷ hs) e has = omega (arith, long [] (map room (h ∷ hs)) e)

-- one is
pub one_hand : (n a : ℕ) (hs : List Hand) → a ∷ [] ≡ map room hs → 0 < total (is_room n) hs → (a ≡ n) × ([] ≡ map room (without_room n hs))
one_hand n a [] e has = absurd (omega (arith, has))
one_hand n a (h ∷ []) e has = dite (ℕ_discrete h.room n)
    (λ d. (heads a h.room [] [] e ∙ d, ap (map room) (sym (ap (λ b. cond b [] (h ∷ [])) (eq-eqb h.room n d)))))
    (λ d. absurd (omega (arith, has, only_no n h.room d)))
one_hand n a (h ∷ g ∷ hs) e has = absurd (omega (arith, long (a ∷ []) (map room (h ∷ g ∷ hs)) e))

-- two are, and the last is given back
pub last_hand : (n a b : ℕ) (hs : List Hand) → a ∷ b ∷ [] ≡ map room hs → a ≡ n → b ∷ [] ≡ map room (without_room n hs)
last_hand n a b [] e d = absurd (omega (arith, long (a ∷ b ∷ []) [] e))
last_hand n a b (h ∷ []) e d = absurd (omega (arith, long (a ∷ b ∷ []) (h.room ∷ []) e))
last_hand n a b (h ∷ g ∷ []) e d = let is : h.room ≡ n = sym (heads a h.room (b ∷ []) (g.room ∷ []) e) ∙ d in ap (λ (x : ℕ). x ∷ []) (second_is a h.room b g.room [] [] e) ∙ ap (map room) (sym (ap (λ x. cond x (g ∷ []) (h ∷ without_room n (g ∷ []))) (eq-eqb h.room n is)))
last_hand n a b (h ∷ g ∷ f ∷ hs) e d = absurd (omega (arith, long (a ∷ b ∷ []) (map room (h ∷ g ∷ f ∷ hs)) e))

-- two are, and the first is given back
pub first_hand : (n a b : ℕ) (hs : List Hand) → a ∷ b ∷ [] ≡ map room hs → a ≢ n → 0 < total (is_room n) hs → (b ≡ n) × (a ∷ [] ≡ map room (without_room n hs))
first_hand n a b [] e d has = absurd (omega (arith, long (a ∷ b ∷ []) [] e))
first_hand n a b (h ∷ []) e d has = absurd (omega (arith, long (a ∷ b ∷ []) (h.room ∷ []) e))
first_hand n a b (h ∷ g ∷ []) e d has = let ha : a ≡ h.room = heads a h.room (b ∷ []) (g.room ∷ []) e in let not-h : h.room ≢ n = λ x. d (ha ∙ x) in let gb : b ≡ g.room = second_is a h.room b g.room [] [] e in dite (ℕ_discrete g.room n)
    (λ is. (gb ∙ is, ap (λ (x : ℕ). x ∷ []) ha ∙ ap (map room) (sym (ap (λ x. cond x (g ∷ []) (h ∷ without_room n (g ∷ []))) (ne_eqb h.room n not-h) ∙ ap (λ x. h ∷ cond x [] (g ∷ [])) (eq-eqb g.room n is)))))
    (λ m. absurd (omega (arith, has, only_no n h.room not-h, only_no n g.room m)))
first_hand n a b (h ∷ g ∷ f ∷ hs) e d has = absurd (omega (arith, long (a ∷ b ∷ []) (map room (h ∷ g ∷ f ∷ hs)) e))

-- the slots that the seat has taken
pub front : (n a : ℕ) (more : List ℕ) (slots : List (ℕ × Slot)) → slot_numbers slots ≡ a ∷ more → a ≡ n → HasFirst slots n × (slot_numbers (rest slots) ≡ more)
front n a more [] e d = absurd (omega (arith, long [] (a ∷ more) e))
front n a more (x ∷ xs) e d = ((x.1, ap (λ (k : ℕ). (k, x.1) ∷ xs) (heads x.0 a (slot_numbers xs) more e ∙ d)), ap tail e) where
  tail : List ℕ → List ℕ
  tail [] = []
  tail (y ∷ ys) = ys

-- of two slots, the one that was taken first comes to the front by a turn
pub turned_front : (n a b : ℕ) (slots : List (ℕ × Slot)) → slot_numbers slots ≡ a ∷ b ∷ [] → b ≡ n → HasFirst (turned slots) n × (slot_numbers (rest (turned slots)) ≡ a ∷ [])
turned_front n a b [] e d = absurd (omega (arith, long [] (a ∷ b ∷ []) e))
turned_front n a b (x ∷ []) e d = absurd (omega (arith, long (x.0 ∷ []) (a ∷ b ∷ []) e))
turned_front n a b (x ∷ y ∷ []) e d = ((y.1, ap (λ (k : ℕ). (k, y.1) ∷ x ∷ []) (second_is x.0 a y.0 b [] [] e ∙ d)), ap (λ (k : ℕ). k ∷ []) (heads x.0 a (y.0 ∷ []) (b ∷ []) e))
turned_front n a b (x ∷ y ∷ z ∷ zs) e d = absurd (omega (arith, long (slot_numbers (x ∷ y ∷ z ∷ zs)) (a ∷ b ∷ []) e))
