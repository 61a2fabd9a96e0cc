-- SPDX-License-Identifier: GPL-2.0-only
-- Which groups began to go offline, or are below one that did.
use Rattle.shr_audit_lists.proofs.Common.{◌≡◌, ℕ, ◌+◌, ◌<◌, Bool, true, false, List, [], ◌∷◌, ◌++◌, length, length-append, get_or, refl, sym, ap, subst, ◌∙◌, ◌⊎◌, inl, inr, arith, Contains, Decides, cases_order, get_or_append_left, get_or-append_seam, Place, Entry, TreeEntry, Begin, IsTree, parent_of, path_of, is_closed, path_of-root, path_of-below, Has, Has_from_Contains, Contains_from_Has, Report, journals_of, EachFirst, AreBegun, AreBegunIfClosed, HasBegunAbove, IsBegunIfClosed}
use Rattle.shr_audit_lists.proofs.Journals.{each_printed_of}

module _ (parents : List ℕ) (tree : List TreeEntry) where
  -- of the root
  root_of : HasBegunAbove parents tree 0 → Contains tree (Begin 0)
  root_of b = by (Has_from_Contains (0 ∷ []) b.0 (subst (λ (xs : List ℕ). Contains xs b.0) (path_of-root parents) b.1))
    where
      by : Has (0 ∷ []) b.0 → Contains tree (Begin 0)
      by (inl same) = subst (λ (g : ℕ). Contains tree (Begin g)) (sym same) b.2
      by (inr none) = absurd none

  pub root_decided : Decides false (Contains tree (Begin 0)) → Decides false (HasBegunAbove parents tree 0)
  root_decided d = (λ t. absurd cc, λ b. d.1 (root_of b))

  -- of a group that began itself
  pub own_begun : IsTree parents → (g : ℕ) → g < length parents → Contains tree (Begin g) → HasBegunAbove parents tree g
  own_begun is g lt c = (g, own (cases_order g 0), c)
    where
      own : (g ≡ 0) ⊎ ((g < 0) ⊎ (0 < g)) → Contains (path_of parents g) g
      own (inl zero_is) = subst (λ (n : ℕ). Contains (path_of parents n) n) (sym zero_is) (subst (λ (xs : List ℕ). Contains xs 0) (sym (path_of-root parents)) (0, omega arith, refl))
      own (inr (inl none)) = absurd (omega arith)
      own (inr (inr above)) = subst (λ (xs : List ℕ). Contains xs g) (sym (path_of-below parents is g above lt)) (Contains_from_Has (g ∷ path_of parents (parent_of parents g)) g (inl refl))

  -- of a group below the root that didn't
  pub below_decided : IsTree parents → (g : ℕ) → 0 < g → g < length parents → (Contains tree (Begin g) → ⊥) → (b : Bool) → Decides b (HasBegunAbove parents tree (parent_of parents g)) → Decides b (HasBegunAbove parents tree g)
  below_decided is g above lt not_own b d = (λ t. up (d.0 t), λ h. d.1 (down h))
    where
      path : path_of parents g ≡ g ∷ path_of parents (parent_of parents g)
      path = path_of-below parents is g above lt

      up : HasBegunAbove parents tree (parent_of parents g) → HasBegunAbove parents tree g
      up h = (h.0, subst (λ (xs : List ℕ). Contains xs h.0) (sym path) (Contains_from_Has (g ∷ path_of parents (parent_of parents g)) h.0 (inr (Has_from_Contains (path_of parents (parent_of parents g)) h.0 h.1))), h.2)

      down : HasBegunAbove parents tree g → HasBegunAbove parents tree (parent_of parents g)
      down h = by (Has_from_Contains (g ∷ path_of parents (parent_of parents g)) h.0 (subst (λ (xs : List ℕ). Contains xs h.0) path h.1))
        where
          by : Has (g ∷ path_of parents (parent_of parents g)) h.0 → HasBegunAbove parents tree (parent_of parents g)
          by (inl same) = absurd (not_own (subst (λ (n : ℕ). Contains tree (Begin n)) (sym same) h.2))
          by (inr more) = (h.0, Contains_from_Has (path_of parents (parent_of parents g)) h.0 more, h.2)

  -- one group more
  pub begun_more : (begun after : List Bool) (b : Bool) → after ≡ begun ++ b ∷ [] → AreBegun parents tree begun → Decides b (HasBegunAbove parents tree (length begun)) → AreBegun parents tree after
  begun_more begun after b pushed all here = subst (AreBegun parents tree) (sym pushed) (λ g lt. by g lt (cases_order g (length begun)))
    where
      by : (g : ℕ) → g < length (begun ++ b ∷ []) → (g ≡ length begun) ⊎ ((g < length begun) ⊎ (length begun < g)) → Decides (get_or (begun ++ b ∷ []) g false) (HasBegunAbove parents tree g)
      by g lt (inl same) = subst (λ (n : ℕ). Decides (get_or (begun ++ b ∷ []) n false) (HasBegunAbove parents tree n)) (sym same) (subst (λ (x : Bool). Decides x (HasBegunAbove parents tree (length begun))) (sym (get_or-append_seam begun b [] false)) here)
      by g lt (inr (inl lower)) = subst (λ (x : Bool). Decides x (HasBegunAbove parents tree g)) (sym (get_or_append_left begun (b ∷ []) false g lower)) (all g lower)
      by g lt (inr (inr past)) = let many : length (begun ++ b ∷ []) ≡ length begun + 1 = length-append begun (b ∷ []) in absurd (omega arith)

-- a place of a list that isn't closed, and one of a list that is
pub open_is : (parents : List ℕ) (r : Report) (place : Place) (es : List Entry) → es ≡ journals_of r place → (b : Bool) → b ≡ is_closed es → b ≡ false → Decides true (IsBegunIfClosed parents r place)
open_is parents r place es e b is f = (λ t shut. absurd (no b f (is ∙ (ap is_closed e ∙ shut))), λ h. refl)
  where
    no : (b : Bool) → b ≡ false → b ≡ true → ⊥
    no b x y = cc

pub closed_is : (parents : List ℕ) (r : Report) (place : Place) (es : List Entry) → es ≡ journals_of r place → (b x : Bool) → b ≡ is_closed es → b ≡ true → Decides x (HasBegunAbove parents r.tree.items place.group) → Decides x (IsBegunIfClosed parents r place)
closed_is parents r place es e b x is t d = (λ yes shut. d.0 yes, λ h. d.1 (h (sym (ap is_closed e) ∙ (sym is ∙ t))))

-- each place
pub begun_of : (parents : List ℕ) (r : Report) (b : Bool) → Decides b (EachFirst r.places.items (λ end. IsBegunIfClosed parents r end.place)) → Decides b (AreBegunIfClosed parents r)
begun_of parents r b d = each_printed_of r (λ place. IsBegunIfClosed parents r place) (λ place none shut. absurd (no (sym (ap is_closed none) ∙ shut))) b d
  where
    no : false ≡ true → ⊥
    no e = cc
