-- SPDX-License-Identifier: GPL-2.0-only
-- The body stands in the text.
use Rattle.shr_report.proofs.Common.{◌≡◌, ℕ, List, ◌++◌, append_assoc}

-- a body between what stands before and behind it
pub body_apart : (front workers places units bits words pools uses lookups end : List ℕ)
    → front ++ (workers ++ places ++ (units ++ bits ++ words ++ pools) ++ uses) ++ lookups ++ end
    ≡ front ++ workers ++ places ++ units ++ (bits ++ words ++ pools ++ uses ++ lookups) ++ end
body_apart front workers places units bits words pools uses lookups end = simp append_assoc
