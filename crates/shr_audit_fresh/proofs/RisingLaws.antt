-- SPDX-License-Identifier: GPL-2.0-only
-- Numbers that never fall, one list after another.
use Rattle.shr_audit_fresh.proofs.Common.{◌≡◌, ℕ, zero, suc, ◌+◌, ◌<◌, ◌≤◌, true, false, List, [], ◌∷◌, ◌++◌, length, get_or, take, Option, Some, None, refl, sym, ap, subst, ◌∙◌, arith, flat_map, Decides, append-nil, take_more, take_all, flat_map-append, AreNotFalling, After, NeverFallsFrom, drop, append_assoc, take-append-drop}
use Rattle.shr_model.proofs.Numbers.{after_suc}

-- ---- in the words of the law

not_falling : (low : ℕ) (xs : List ℕ) → NeverFallsFrom low xs → AreNotFalling xs
not_falling low [] h k d lt = absurd (omega arith)
not_falling low (x ∷ []) h k d lt = absurd (omega arith)
not_falling low (x ∷ y ∷ ys) h zero d lt = h.1.0
not_falling low (x ∷ y ∷ ys) h (suc k) d lt = subst (λ (n : ℕ). get_or (y ∷ ys) k d ≤ get_or (x ∷ y ∷ ys) n d) (after_suc k) (not_falling x (y ∷ ys) h.1 k d (omega arith))

from_first : (x : ℕ) (xs : List ℕ) → AreNotFalling (x ∷ xs) → NeverFallsFrom x xs
from_first x [] h = tt
from_first x (y ∷ ys) h = (h 0 0 (omega arith), from_first y ys (λ k d lt. subst (λ (n : ℕ). get_or (y ∷ ys) k d ≤ get_or (x ∷ y ∷ ys) n d) (sym (after_suc k)) (h (suc k) d (omega arith))))

from_none : (xs : List ℕ) → AreNotFalling xs → NeverFallsFrom 0 xs
from_none [] h = tt
from_none (x ∷ xs) h = (omega arith, from_first x xs h)

-- ---- one list after another

pub after_both : (low now : ℕ) (xs ys : List ℕ) (o : Option ℕ) → After low xs (Some now) → After now ys o → After low (xs ++ ys) o
after_both low now xs ys None f g = λ rest h. g rest ((f (ys ++ rest)).0 (subst (NeverFallsFrom low) (append_assoc xs ys rest) h))
after_both low now xs ys (Some last) f g = λ rest. (
  λ h. (g rest).0 ((f (ys ++ rest)).0 (subst (NeverFallsFrom low) (append_assoc xs ys rest) h)),
  λ h. subst (NeverFallsFrom low) (sym (append_assoc xs ys rest)) ((f (ys ++ rest)).1 ((g rest).1 h)),
)

pub after_fall : (low : ℕ) (xs ys : List ℕ) → After low xs None → After low (xs ++ ys) None
after_fall low xs ys f rest h = f (ys ++ rest) (subst (NeverFallsFrom low) (append_assoc xs ys rest) h)

-- ---- along items

module _ {X : Type 0} (of : X → List ℕ) (xs : List X) where
  pub none_yet : After 0 (flat_map of (take 0 xs)) (Some 0)
  none_yet rest = (λ h. h, λ h. h)

  front : (i : ℕ) (d : X) → i < length xs → flat_map of (take i xs) ++ of (get_or xs i d) ≡ flat_map of (take (i + 1) xs)
  front i d lt = sym (ap (flat_map of) (take_more xs i d lt) ∙ flat_map-append of (take i xs) (get_or xs i d ∷ []) ∙ ap (λ (ys : List ℕ). flat_map of (take i xs) ++ ys) (append-nil (of (get_or xs i d))))

  pub one_further : (i low : ℕ) (d : X) (o : Option ℕ) → i < length xs → After 0 (flat_map of (take i xs)) (Some low) → After low (of (get_or xs i d)) o → After 0 (flat_map of (take (i + 1) xs)) o
  one_further i low d o lt before here = subst (λ (ns : List ℕ). After 0 ns o) (front i d lt) (after_both 0 low (flat_map of (take i xs)) (of (get_or xs i d)) o before here)

  pub falls_here : (i low : ℕ) (d : X) → i < length xs → After 0 (flat_map of (take i xs)) (Some low) → After low (of (get_or xs i d)) None → Decides false (AreNotFalling (flat_map of xs))
  falls_here i low d lt before here = (
    λ t. absurd cc,
    λ h. absurd (one_further i low d None lt before here (flat_map of (drop (i + 1) xs)) (subst (NeverFallsFrom 0) whole (from_none (flat_map of xs) h))),
  )
    where
      whole : flat_map of xs ≡ flat_map of (take (i + 1) xs) ++ flat_map of (drop (i + 1) xs)
      whole = sym (sym (flat_map-append of (take (i + 1) xs) (drop (i + 1) xs)) ∙ ap (flat_map of) (take-append-drop (i + 1) xs))

  pub all_rise : (i low : ℕ) → length xs ≤ i → After 0 (flat_map of (take i xs)) (Some low) → Decides true (AreNotFalling (flat_map of xs))
  all_rise i low over before = (
    λ t. not_falling 0 (flat_map of xs) (subst (NeverFallsFrom 0) (append-nil (flat_map of (take i xs)) ∙ ap (flat_map of) (take_all i xs over)) ((before []).1 tt)),
    λ h. refl,
  )
