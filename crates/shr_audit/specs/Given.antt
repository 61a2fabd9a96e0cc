-- SPDX-License-Identifier: GPL-2.0-only
-- What bytes that are given as a script and as a report are.
use Rattle.std.specs.Prelude.{ℕ, List}
use Rattle.shr_audit.specs.declared.given.Given.{Given}
use Rattle.shr_audit.specs.declared.given.Given.TheVariants.{Both, Bad}
use Rattle.shr_audit.specs.Verdict.{AreTextsOf, HoldsOf}

-- they are this script and this report, or this verdict holds of them
abbrev pub IsGiven : List ℕ → List ℕ → Given → Type 0
IsGiven script report (Both s r) = AreTextsOf script report s r
IsGiven script report (Bad verdict) = HoldsOf script report verdict
