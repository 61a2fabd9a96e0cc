-- SPDX-License-Identifier: GPL-2.0-only
-- What the plain policy frees, from the head.
use Rattle.std.specs.Prelude.{◌≡◌, ℕ, zero, suc, ◌-◌, List, [], ◌∷◌, length, take, drop, refl}
use Rattle.std.proofs.Common.{arith, ap, ◌∙◌}
use Rattle.std.proofs.lemmas.List.{length-take}
use Rattle.shr_base.specs.declared.objects.Object.{Object}
use Rattle.shr_base.specs.declared.objects.Policy.TheVariants.{Plain}
use Rattle.shr_model.specs.Scan.{scan_of}
use Rattle.shr_model.proofs.ScanLaws.{scan_removed, scan_spent, scan_none}

-- it frees the first ones
pub plain_frees : (n : ℕ) (items : List Object) → (scan_of Plain n items).freed ≡ take n items
plain_frees zero items = rw (scan_spent Plain [] items) refl
plain_frees (suc n) [] = rw (scan_none Plain (suc n) []) refl
plain_frees (suc n) (x ∷ xs) = rw (scan_removed Plain n [] x xs refl) (ap (λ (os : List Object). x ∷ os) (plain_frees n xs))

-- and leaves the others as they were
pub plain_leaves : (n : ℕ) (items : List Object) → (scan_of Plain n items).items ≡ drop n items
plain_leaves zero items = rw (scan_spent Plain [] items) refl
plain_leaves (suc n) [] = rw (scan_none Plain (suc n) []) refl
plain_leaves (suc n) (x ∷ xs) = rw (scan_removed Plain n [] x xs refl) (plain_leaves n xs)

-- with the surplus over `most` as its budget it frees the surplus
pub plain_counts : (most : ℕ) (items : List Object) → length (scan_of Plain (length items - most) items).freed ≡ length items - most
plain_counts most items = rw (plain_frees (length items - most) items, length-take (length items - most) items) (omega arith)

-- the same of a budget and of what was freed by other names
pub trimmed : (n most : ℕ) (items freed : List Object) → n ≡ length items - most → freed ≡ (scan_of Plain n items).freed → length freed ≡ length items - most
trimmed n most items freed is took = ap (λ (os : List Object). length os) took ∙ ap (λ (k : ℕ). length (scan_of Plain k items).freed) is ∙ plain_counts most items

-- and of what was left
pub rest : (n most : ℕ) (items left : List Object) → n ≡ length items - most → left ≡ (scan_of Plain n items).items → left ≡ drop (length items - most) items
rest n most items left is stays = stays ∙ plain_leaves n items ∙ ap (λ (k : ℕ). drop k items) is
