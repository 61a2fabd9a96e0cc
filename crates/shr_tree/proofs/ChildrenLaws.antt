-- SPDX-License-Identifier: GPL-2.0-only
-- What a write at one place does to what is seen of each.
use Rattle.std.proofs.Common.{◌≡◌, ℕ, ◌<◌, List, [], ◌∷◌, ◌++◌, length, get_or, set, map, refl, sym, ap, ◌∙◌, arith}
use Rattle.std.proofs.lemmas.List.{map-set, set-get_or, get_or-map, get_or-set_same, length-map, map_push}

module _ {X Y : Type 0} (seen : X → Y) where
  -- what is seen of one item is what is seen of all at its place
  pub seen_at : (xs : List X) (i : ℕ) (x : X) (d : Y) → i < length xs → x ≡ get_or xs i x → seen x ≡ get_or (map seen xs) i d
  seen_at xs i x d lt is = ap seen is ∙ sym (get_or-map seen xs i x d lt)

  -- a write that leaves what is seen of the item
  pub unseen_write : (xs : List X) (i : ℕ) (x y : X) → i < length xs → x ≡ get_or xs i x → seen y ≡ seen x → map seen (set xs i y) ≡ map seen xs
  unseen_write xs i x y lt is same =
      map-set seen xs i y
      ∙ ap (set (map seen xs) i) (same ∙ seen_at xs i x (seen x) lt is)
      ∙ set-get_or (map seen xs) i (seen x)

  -- what is seen at the place afterwards
  pub seen_write : (xs : List X) (i : ℕ) (y : X) (d : Y) → i < length xs → get_or (map seen (set xs i y)) i d ≡ seen y
  seen_write xs i y d lt =
      let long : i < length (map seen xs) = rw (length-map xs seen) lt in
      ap (λ (ys : List Y). get_or ys i d) (map-set seen xs i y) ∙ get_or-set_same (map seen xs) i (seen y) d long

  -- a write, and one item more
  pub seen_more : (xs : List X) (i : ℕ) (x y z : X) (v w : Y) (d : Y) → i < length xs → x ≡ get_or xs i x → seen y ≡ v → seen z ≡ w → map seen (set xs i y ++ z ∷ []) ≡ set (map seen xs) i v ++ w ∷ []
  seen_more xs i x y z v w d lt is at last =
      map_push seen (set xs i y) z
      ∙ rw (map-set seen xs i y, at, last) refl

  -- a place of what is seen is one of the items
  pub seen_within : (xs : List X) (ys : List Y) (i : ℕ) → map seen xs ≡ ys → i < length ys → i < length xs
  seen_within xs ys i e lt = let l = length-map xs seen in let k = ap (length {A = Y}) e in omega (arith, l, k, lt)
