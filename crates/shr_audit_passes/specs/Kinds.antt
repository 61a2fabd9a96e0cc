-- SPDX-License-Identifier: GPL-2.0-only
-- What the law on walks asks of an attempt with its cache.
use Rattle.std.specs.Prelude.{◌≡◌, ℕ, true, Some}
use Rattle.std.specs.Option.{IsSomeAnd}
use Rattle.shr_base.specs.declared.scripts.CacheDecl.{CacheDecl}
use Rattle.shr_base.specs.declared.scripts.Script.{Script}
use Rattle.shr_base.specs.Walks.{Attempt, WalkRecord}
use Rattle.shr_base.specs.declared.walks.PassRecord.{PassRecord}
use Rattle.shr_model.specs.Attempts.{is_held, pass_of}
use Rattle.shr_laws.specs.declared.report.Report.{Report}
use Rattle.shr_laws.specs.LawfulWalk.{cache_of, IsOutcomeOf, IsStopped}

-- if it was held, it has an outcome of its cache
abbrev pub IsKindAt : Script → Report → ℕ → Attempt → Type 0
IsKindAt s r priority a = is_held a.outcome ≡ true → IsSomeAnd (cache_of s r a) (λ d. IsOutcomeOf priority d a.outcome)

-- if its pass ran, it stopped if and only if it had to
abbrev pub IsStopAt : Script → Report → WalkRecord → Attempt → Type 0
IsStopAt s r w a = (d : CacheDecl) (p : PassRecord) → cache_of s r a ≡ Some d → pass_of a.outcome ≡ Some p → IsStopped w d p
