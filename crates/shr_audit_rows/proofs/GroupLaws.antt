-- SPDX-License-Identifier: GPL-2.0-only
-- The groups of a script, the root first.
use Rattle.shr_audit_rows.proofs.Common.{◌≡◌, ℕ, zero, suc, ◌-◌, List, ◌∷◌, get_or, map, Option, Some, None, refl, sym, ap, ◌∙◌, arith, slice_get, option_map, get_or_from_slice_get, slice_get-map, GroupDecl, unwrap_or, unwrap_or-slice_get}

module _ {Y : Type 0} (f : GroupDecl → Y) (root : Y) (xs : List GroupDecl) where
  pub group_some : (group : ℕ) (d : GroupDecl) → (group ≡ 0 → ⊥) → Some d ≡ slice_get xs (group - 1) → f d ≡ get_or (root ∷ map f xs) group root
  group_some zero d isnt at = absurd (isnt refl)
  group_some (suc n) d isnt at =
      let here : slice_get xs n ≡ Some d = sym (at ∙ ap (slice_get xs) (let e : suc n - 1 ≡ n = omega arith in e)) in
      sym (get_or_from_slice_get (map f xs) n (f d) root (slice_get-map f xs n ∙ ap (option_map f) here))

  pub group_none : (group : ℕ) → (group ≡ 0 → ⊥) → None ≡ slice_get xs (group - 1) → root ≡ get_or (root ∷ map f xs) group root
  group_none zero isnt at = absurd (isnt refl)
  group_none (suc n) isnt at =
      let here : slice_get xs n ≡ None = sym (at ∙ ap (slice_get xs) (let e : suc n - 1 ≡ n = omega arith in e)) in
      sym (sym (unwrap_or-slice_get (map f xs) n root) ∙ ap (λ (o : Option Y). unwrap_or o root) (slice_get-map f xs n ∙ ap (option_map f) here))

  pub group_root : (group : ℕ) → group ≡ 0 → root ≡ get_or (root ∷ map f xs) group root
  group_root group is = ap (λ (n : ℕ). get_or (root ∷ map f xs) n root) (sym is)
