-- SPDX-License-Identifier: GPL-2.0-only
-- The numbers of the code's types are spelled by std as the report has them.
use Rattle.shr_report.proofs.Common.{◌≡◌, ℕ, zero, suc, ◌^◌, ◌<◌, refl, arith, decimal}
use Rattle.std.specs.Fmt.{digits}
use Rattle.std.proofs.lemmas.Fmt.{decimal-digits_of}
use Rattle.shr_laws.specs.Lines.{numeral}

pub decimal_is : (n : ℕ) → n < 2 ^ 64 → decimal n ≡ numeral n
unfolding digits numeral
decimal_is zero h = refl
decimal_is (suc n) h = decimal-digits_of (suc n) (omega arith) h
