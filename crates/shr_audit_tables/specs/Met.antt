-- SPDX-License-Identifier: GPL-2.0-only
-- What attempts met, in the form in which it is tested.
use Rattle.std.specs.Prelude.{◌≡◌, ℕ, Some, is_some}
use Rattle.shr_base.specs.Walks.{Attempt}
use Rattle.shr_model.specs.Attempts.{number_of, is_held}
use Rattle.shr_model.specs.Pool.{attempt_at}
use Rattle.shr_laws.specs.declared.report.Report.{Report}
use Rattle.shr_laws.specs.Parts.{lookups_at, EachAttempt, EachWalk}

-- an attempt with a number was held if and only if the number lies in a registration of its id
abbrev pub IsMetRight : Report → Attempt → Type 0
IsMetRight r a = (number : ℕ) → number_of a.outcome ≡ Some number → is_held a.outcome ≡ is_some (attempt_at a.id number (lookups_at r a.id) r.pool.items)

-- and so is each attempt of each walk
abbrev pub AreMetRight : Report → Type 0
AreMetRight r = EachWalk r (λ worker n w. EachAttempt w (IsMetRight r))
