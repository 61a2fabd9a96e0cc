-- SPDX-License-Identifier: GPL-2.0-only
-- How a growable list is stored, and one without spare.
use Rattle.std.specs.Prelude.{ℕ, List, refl}
use Rattle.std.specs.Coded.{Coded, code_by, coded×, coded_ℕ, coded_list}
use Rattle.shr_base.specs.Kept.{Kept}

-- it is stored as the pair of its fields
abbrev pub kept_code : {T : Type 0} → Coded T → Coded (Kept T)
kept_code {T} code =
    code_by (List T × ℕ) (coded× (coded_list code) coded_ℕ) (λ k. (k.items, k.spare)) (λ p. record { items = p.0; spare = p.1 }) (λ _. refl)

-- a list without spare
abbrev pub kept : {T : Type 0} → List T → Kept T
kept items = record { items = items; spare = 0 }
