-- SPDX-License-Identifier: GPL-2.0-only
-- The sizes of the tables.
use Rattle.shr_plain.proofs.Common.{ℕ, ◌<◌, ◌≤◌, eqb, cond, arith, nat_tests}

-- there is an id, and one for each pool
pub ids_some : (n : ℕ) → 0 < cond (eqb n 0) 1 n
ids_some n = grind (arith, nat_tests)

pub ids_all : (n : ℕ) → n ≤ cond (eqb n 0) 1 n
ids_all n = grind (arith, nat_tests)

pub ids_few : (n : ℕ) → n ≤ 64 → cond (eqb n 0) 1 n ≤ 64
ids_few n few = grind (arith, nat_tests)
