-- SPDX-License-Identifier: GPL-2.0-only
-- Each answer, attempt and entry has its cause in the report.
use Rattle.std.specs.Prelude.{◌≡◌, ℕ, ◌≤◌, length, slice_get, Some}
use Rattle.std.specs.Option.{IsSomeAnd}
use Rattle.shr_base.specs.declared.places.Serial.{Serial}
use Rattle.shr_base.specs.declared.journals.Entry.TheVariants.{Drained}
use Rattle.shr_base.specs.declared.journals.PoolEntry.{PoolEntry}
use Rattle.shr_base.specs.declared.journals.TreeEntry.TheVariants.{Begin, Done, Made}
use Rattle.shr_base.specs.declared.replies.Spent.{Spent}
use Rattle.shr_base.specs.declared.replies.Spent.TheVariants as spent
use Rattle.shr_base.specs.declared.scripts.Script.{Script}
use Rattle.shr_base.specs.declared.walks.Ending.TheVariants as ending
use Rattle.shr_base.specs.declared.walks.Outcome.TheVariants as outcome
use Rattle.shr_base.specs.declared.walks.PassRecord.{PassRecord}
use Rattle.shr_base.specs.declared.walks.WalkAnswer.TheVariants as walk
use Rattle.shr_model.specs.Attempts.{pass_of}
use Rattle.shr_model.specs.Walks.{place_in}
use Rattle.shr_laws.specs.declared.report.Report.{Report}
use Rattle.shr_laws.specs.Parts.{decls_on, reply_at, EachAnswer, EachWalk, EachAttempt, EachEntry}
use Rattle.shr_laws.specs.UnitParts.{pass_in, EachPlain, EachTry}
use Rattle.shr_laws.specs.Causes.{IsSpent, IsPoolSpent, IsPassCaused, IsOffline, MayHaveBegun, IsDoneOnce, IsMadeOnce, IsMadeBy, HasDrained, StandsInTree}
use Rattle.shr_laws.specs.ReplyTable.{HasCause}
use Rattle.shr_laws.specs.Freshness.{IsFresh}

-- each answer, worn attempt, worn pass and entry has in the report what it came from
pub record AreCausesLawful (s : Script) (r : Report) : Type 0 where
  pub rows : EachAnswer s r (λ by c a. HasCause s r by c a.reply)
  -- a walk that found its group offline cites its Begin
  pub walks : EachWalk r (λ worker n w. (entry : ℕ) → w.answer ≡ walk.Offline entry → StandsInTree r entry (Begin w.group))
  -- an attempt, and a pass, is worn only by a counter that was used up
  pub attempts : EachWalk r (λ worker n w. EachAttempt w (λ a. (seen : ℕ) → a.outcome ≡ outcome.Worn seen → IsSpent s r worker (spent.Lookups a.id seen)))
  pub passes : EachWalk r (λ worker n w. EachAttempt w (λ a. (p : PassRecord) → pass_of a.outcome ≡ Some p → IsPassCaused s r worker (place_in w a.id) p))
  -- and so is a pass of a pool, by the pool's journal
  pub plain : EachPlain r (λ worker n w. EachTry s w (λ pool place d x. (p : PassRecord) → pass_in x ≡ Some p → (y : Spent) → p.ending ≡ ending.Worn y → IsPoolSpent r place y))
  -- each Begin is of an `offline` that may have begun, and each Done, and each Made, is cited by one
  -- answer as its own
  pub begins : (n group : ℕ) → StandsInTree r n (Begin group) → (by : Serial) × IsOffline s r by group MayHaveBegun
  pub dones : (n group : ℕ) → StandsInTree r n (Done group) → IsDoneOnce r n
  pub mades : (n group : ℕ) → StandsInTree r n (Made group) → IsMadeOnce r n
  -- each later entry of the journal of registrations was made by an answer, and each Drained by one
  -- that drained
  pub pool : (n : ℕ) (e : PoolEntry) → length (decls_on s) ≤ n → slice_get r.pool.items n ≡ Some e → (by : Serial) × IsSomeAnd (reply_at r by) (IsMadeBy r e n)
  pub drained : EachEntry r (λ place n e. (by : Serial) (objects : ℕ) → e ≡ Drained by objects → IsSomeAnd (reply_at r by) HasDrained)
  pub fresh : IsFresh s r
