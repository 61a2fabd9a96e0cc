-- SPDX-License-Identifier: GPL-2.0-only
-- A part of the views, when one view changes.
use Rattle.shr_seats.proofs.Common.{◌≡◌, ℕ, List, [], ◌∷◌, ◌++◌, map, set, sym, ap, subst, ◌∙◌, some, get_elem?, at_map, map-set, map-append, set_again}

module _ {V B : Type 0} (views : List V) (id : ℕ) (v : V) (me : get_elem? views id ≡ some v) (f : V → B) where
  -- the seat's part
  pub here : get_elem? (map f views) id ≡ some (f v)
  here = at_map f views id v me

  -- a part that stays
  pub still : (P : List B → Type 0) → P (map f views) → P (set (map f views) id (f v))
  still P p = subst P (sym (set_again (map f views) id (f v) here)) p

  -- the parts of the views with one more, where the seat's view becomes w
  pub grown : (w new : V) (P : List B → Type 0) → P (set (map f views) id (f w) ++ f new ∷ []) → P (map f (set views id w ++ new ∷ []))
  grown w new P p = subst P (sym (map-append f (set views id w) (new ∷ []) ∙ ap (λ l. l ++ f new ∷ []) (map-set f views id w))) p

  -- where the seat's part stays
  pub kept : (w new : V) (P : List B → Type 0) → f w ≡ f v → P (map f views ++ f new ∷ []) → P (map f (set views id w ++ new ∷ []))
  kept w new P e p = grown w new P (subst P (ap (λ l. l ++ f new ∷ []) (sym (ap (set (map f views) id) e ∙ set_again (map f views) id (f v) (at_map f views id v me)))) p)

-- where two views change
pub joined_list : {V B : Type 0} (f : V → B) (P : List B → Type 0) (views : List V) (id other : ℕ) (w spent : V) → P (set (set (map f views) id (f w)) other (f spent)) → P (map f (set (set views id w) other spent))
joined_list f P views id other w spent p = subst P (sym (map-set f (set views id w) other spent ∙ ap (λ l. set l other (f spent)) (map-set f views id w))) p
