-- SPDX-License-Identifier: GPL-2.0-only
-- What a pass has its cause in.
use Rattle.std.specs.Prelude.{◌≡◌, ℕ, slice_get, Some}
use Rattle.shr_base.specs.declared.replies.Spent.{Spent}
use Rattle.shr_base.specs.declared.scripts.PoolDecl.{PoolDecl}
use Rattle.shr_base.specs.declared.scripts.Script.{Script}
use Rattle.shr_base.specs.declared.places.Place.{Place}
use Rattle.shr_base.specs.Walks.{Attempt, WalkRecord}
use Rattle.shr_base.specs.declared.walks.Ending.{Ending}
use Rattle.shr_base.specs.declared.walks.Ending.TheVariants as ending
use Rattle.shr_base.specs.declared.walks.PassRecord.{PassRecord}
use Rattle.shr_base.specs.declared.walks.PlainTry.{PlainTry}
use Rattle.shr_model.specs.Attempts.{pass_of}
use Rattle.shr_model.specs.Walks.{place_in}
use Rattle.shr_laws.specs.declared.report.Report.{Report}
use Rattle.shr_laws.specs.Causes.{IsPassCaused, IsPoolSpent}
use Rattle.shr_laws.specs.Parts.{EachAttempt, EachWalk}
use Rattle.shr_laws.specs.UnitParts.{EachPlain, EachTry, pass_in, pool_place}

-- the pass of an attempt of a walk has its cause
abbrev pub IsRunCaused : Script → Report → ℕ → WalkRecord → Attempt → Type 0
IsRunCaused s r worker w a = (p : PassRecord) → pass_of a.outcome ≡ Some p → IsPassCaused s r worker (place_in w a.id) p

-- and so has each pass of each walk
abbrev pub ArePassesCaused : Script → Report → Type 0
ArePassesCaused s r = EachWalk r (λ worker n w. EachAttempt w (λ a. IsRunCaused s r worker w a))

-- a pass of a pool that ended so is worn by the pool's journal
abbrev pub IsEndSpent : Report → Place → Ending → Type 0
IsEndSpent r place e = (y : Spent) → e ≡ ending.Worn y → IsPoolSpent r place y

-- a try of a pool is worn only so
abbrev pub IsTrySpent : Report → Place → PlainTry → Type 0
IsTrySpent r place x = (p : PassRecord) → pass_in x ≡ Some p → IsEndSpent r place p.ending

-- the same of the try with this number, where the script has such a pool
abbrev pub IsTryCaused : Script → Report → ℕ → ℕ → PlainTry → Type 0
IsTryCaused s r node pool x = (d : PoolDecl) → slice_get s.pools.items pool ≡ Some d → IsTrySpent r (pool_place s pool node) x

-- and of each try of each walk of the pools
abbrev pub AreTriesCaused : Script → Report → Type 0
AreTriesCaused s r = EachPlain r (λ worker n w. EachTry s w (λ pool place d x. IsTrySpent r place x))
