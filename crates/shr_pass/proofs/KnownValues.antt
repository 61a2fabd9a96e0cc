-- SPDX-License-Identifier: GPL-2.0-only
-- What is said of counts, scans and passes, at known values.
use Rattle.std.proofs.Common.{◌≡◌, ℕ, List, [], ◌∷◌, length, refl, ap, arith}
use Rattle.std.specs.Prelude.{None}
use Rattle.shr_base.specs.declared.walks.Ending.TheVariants as ending
use Rattle.shr_base.specs.declared.walks.PassRecord.{PassRecord}
use Rattle.shr_model.specs.Pass.{due}
use Rattle.shr_pass.specs.declared.answers.Count.{Count}
use Rattle.shr_pass.specs.declared.answers.Count.TheVariants as counted
use Rattle.shr_pass.specs.declared.answers.ScanAnswer.TheVariants as answered
use Rattle.shr_pass.specs.declared.answers.PassAnswer.TheVariants.{Ran}
use Rattle.shr_pass.specs.Answers.{CountFits, FreesAtMost, scans_with}
use Rattle.shr_pass.specs.Meanings.{SameMeaning}
use Rattle.shr_pass.specs.Passes.{asks_due, calls_of}

-- a count of 1,048,576 objects fits, one of 0 doesn't
most_fits : CountFits (counted.Many 1048576 3)
most_fits = (omega arith, omega arith)

none_fits : CountFits (counted.Skip 0 3) → ⊥
none_fits fits = absurd (omega (arith, fits.0))

-- freeing one more than was asked is no answer
one_too_many : FreesAtMost 2 (answered.Freed 3) → ⊥
one_too_many most = absurd (omega (arith, most))

-- a scan that freed is noted with what was asked and freed, one that found the list closed is not
noted_freed : scans_with [] 128 (answered.Freed 5) ≡ (record { asked = 128; freed = 5 }) ∷ []
noted_freed = refl

noted_closed : scans_with [] 128 answered.Closed ≡ []
noted_closed = refl

-- a pass over 1,000 objects with 5,000 deferred, at priority 2: thirteen asks of 128 and the one
-- that was stopped
abbrev stopped : PassRecord
stopped = record { len = 1000; version = 1000; nr = 5000; asks = 5; closed = 1; scanned = 640; freed = 512; next = 2000; ending = ending.Stop }

asks_of_stopped : length (asks_due 2 2 0 stopped) ≡ 13
unfolding due
asks_of_stopped = refl

calls_of_stopped : calls_of (Ran stopped) ≡ 6
calls_of_stopped = refl

-- the shrinker of a seat that is a number, with no place, and these counts
abbrev Same : (ℕ → List Count) → (ℕ → List Count) → Type 0
Same before after = SameMeaning {Seat = ℕ} None None (λ _. ⊥) (λ _. ⊥) (λ _. ⊥) (λ _. ⊥) (λ _ _. ⊥) (λ _ _. ⊥) (λ _ _. ⊥) (λ _ _. ⊥) before after (λ _. []) (λ _. [])

-- a shrinker that would read its seat's counts otherwise than before doesn't mean the same
other_counts : Same (λ _. []) (λ _. counted.Skip 1 1 ∷ []) → ⊥
other_counts same = absurd (omega (arith, ap {B = ℕ} (λ (l : List Count). length l) (same.counts 0)))
