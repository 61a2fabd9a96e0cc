-- SPDX-License-Identifier: GPL-2.0-only
-- A meaning of `frees` for a cache with a length: it is shorter by what was freed.
use Rattle.std.specs.Prelude.{◌≡◌, ℕ, ◌+◌}
use Rattle.std.proofs.Common.{sym, ◌∙◌, ap, add_assoc, zero-add}

-- the length before is what was freed and the length after
abbrev pub Loses : ℕ → ℕ → ℕ → Type 0
Loses before freed after = before ≡ freed + after

-- its two laws
pub loses_none : (length : ℕ) → Loses length 0 length
loses_none length = sym (zero-add length)

pub loses_then : (first second third m n : ℕ) → Loses first m second → Loses second n third → Loses first (m + n) third
loses_then first second third m n a b = a ∙ ap (λ (k : ℕ). m + k) b ∙ sym (add_assoc m n third)
