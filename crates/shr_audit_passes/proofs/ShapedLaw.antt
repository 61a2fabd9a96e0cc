-- SPDX-License-Identifier: GPL-2.0-only
-- What a walk shows by itself is what the law on walks asks of it in these fields.
use Rattle.shr_audit_passes.proofs.Common.{◌≡◌, ℕ, true, Some, slice_get, AllByRecursion, Script, Attempt, PassRecord, WalkRecord, counts_of, pass_of, place_in, Report, IsCountRight, EachItem, IsShaped, AreCountsAt, IsKindAt, IsStopAt, is_held, is_cut, IsLawfulWalk, IsBegun, IsLastOfCut, IsStopped, IsOutcomeOf, EachPass, cache_of, EachAttempt}
use Rattle.std.specs.Option.{IsSomeAnd}
use Rattle.shr_base.specs.declared.walks.Ending.TheVariants as ending

-- a lawful walk shows it
pub shaped_of : (s : Script) (r : Report) (worker n : ℕ) (w : WalkRecord) → IsLawfulWalk s r worker n w → IsShaped s w
shaped_of s r worker n w h = record {
  offline = h.offline;
  mapped = h.mapped;
  root = h.root;
  begun = h.memory.0;
  room = λ k a at p ran ended. h.memory.1 k a p at ran ended;
  placed = h.placed;
  freed = h.freed;
}

-- and one that shows it ends for want of memory as a lawful one does
pub memory_of : (s : Script) (w : WalkRecord) → IsShaped s w
    → (is_cut w.answer ≡ true → IsBegun s w)
    × ((k : ℕ) (a : Attempt) (p : PassRecord) → slice_get w.attempts.items k ≡ Some a → pass_of a.outcome ≡ Some p → p.ending ≡ ending.NoRoom → IsLastOfCut w k)
memory_of s w h = (h.begun, λ k a p at ran ended. h.room k a at p ran ended)

-- its counts, kinds and stops are those of the law
pub counts_are : (s : Script) (r : Report) (w : WalkRecord) → EachItem (AreCountsAt s r w) w.attempts.items → EachAttempt w (λ a. AllByRecursion (IsCountRight s r (place_in w a.id)) (counts_of a.outcome))
counts_are s r w h = h

pub kinds_are : (s : Script) (r : Report) (w : WalkRecord) → EachItem (IsKindAt s r w.priority) w.attempts.items → EachAttempt w (λ a. is_held a.outcome ≡ true → IsSomeAnd (cache_of s r a) (λ d. IsOutcomeOf w.priority d a.outcome))
kinds_are s r w h = h

pub stops_are : (s : Script) (r : Report) (w : WalkRecord) → EachItem (IsStopAt s r w) w.attempts.items → EachPass s r w (λ place d p. IsStopped w d p)
stops_are s r w h = h
