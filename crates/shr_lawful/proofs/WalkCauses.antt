-- SPDX-License-Identifier: GPL-2.0-only
-- The causes of what walks met.
use Rattle.shr_lawful.proofs.Common.{◌≡◌, ℕ, List, length, length-append, ap, arith, slice_get, Some, Entry, Spent, Script, Report, IsSpent, Step, steps_of, IsWornBy, IsRun, refl, Begin, Attempt, Ending, PassRecord, WalkRecord, pass_of, place_number, place_in, journals_of, walk_at, StandsInTree, IsEndingRight, IsPassCaused}
use Rattle.shr_base.specs.declared.replies.Spent.TheVariants as spent
use Rattle.shr_lawful.proofs.JournalsLaw.{word_lookups, calls, word_stands}
use Rattle.shr_lawful.proofs.WornLists.{known_begins, lists_worn}
use Rattle.shr_base.specs.declared.walks.Ending.TheVariants as ending
use Rattle.shr_base.specs.declared.walks.Outcome.TheVariants as outcome
use Rattle.shr_base.specs.declared.walks.WalkAnswer.TheVariants as walk
use Rattle.shr_lawful.proofs.Listed.{closed_begins, contains_among, walk_of}
use Rattle.shr_lawful.proofs.VersionsLaw.{held_number, pass_held, attempt_there, was_held}

module _ (s : Script) (r : Report) (workers : List (List Step)) (run : IsRun s r workers) where
  pub spent_law : (worker k : ℕ) (x : Step) (z : Spent) → slice_get (steps_of workers worker) k ≡ Some x → IsWornBy s x z → IsSpent s r worker z
  spent_law worker k x (spent.Lookups id seen) at h = (h.over, let t = word_lookups s r workers run worker k x at (record { id = id; word = h.word }) h.loaded in omega (arith, t, h.shown))
  spent_law worker k x (spent.List place entries items) at h = let b = known_begins s r workers run worker k x place h.known at h.there h.list.knows in
      (h.over, omega (arith, h.one_more, ap (λ (l : List Entry). length l) b.1, length-append h.known b.0), lists_worn s r workers run worker k x place entries items at h)
  spent_law worker k x (spent.Charges charges uncharges) at h = let c = calls s r workers run worker k x at in (h.over, omega (arith, c.0, h.charged), omega (arith, c.1, h.uncharged))

module _ (s : Script) (r : Report) (workers : List (List Step)) (run : IsRun s r workers) where
  pub walk_caused : (worker n : ℕ) (w : WalkRecord) → walk_at r worker n ≡ Some w → (entry : ℕ) → w.answer ≡ walk.Offline entry → StandsInTree r entry (Begin w.group)
  walk_caused worker n w at entry e = let of = walk_of s r workers run worker n w at in word_stands s r workers run worker of.k of.step of.at w.group entry (of.did.word entry e)

  pub attempt_caused : (worker n : ℕ) (w : WalkRecord) → walk_at r worker n ≡ Some w → (k : ℕ) (a : Attempt) → slice_get w.attempts.items k ≡ Some a → (seen : ℕ) → a.outcome ≡ outcome.Worn seen → IsSpent s r worker (spent.Lookups a.id seen)
  attempt_caused worker n w at k a at_a seen e =
      let of = walk_of s r workers run worker n w at in
      let t = (of.did.attempts k a at_a).worn seen e in
      (t.3, let l = word_lookups s r workers run worker of.k of.step of.at (record { id = a.id; word = t.0 }) t.1 in omega (arith, l, t.2))

  ending_right : (worker k : ℕ) (x : Step) → slice_get (steps_of workers worker) k ≡ Some x → (e : Ending) → ((z : Spent) → e ≡ ending.Worn z → IsWornBy s x z) → IsEndingRight s r worker e
  ending_right worker k x at (ending.Worn z) h = spent_law s r workers run worker k x z at (h z refl)
  ending_right worker k x at e h = tt

  pub pass_caused : (worker n : ℕ) (w : WalkRecord) → walk_at r worker n ≡ Some w → (k : ℕ) (a : Attempt) → slice_get w.attempts.items k ≡ Some a → (p : PassRecord) → pass_of a.outcome ≡ Some p → IsPassCaused s r worker (place_in w a.id) p
  pass_caused worker n w at k a at_a p passed =
      let of = walk_of s r workers run worker n w at in
      let held = pass_held a.outcome p passed in
      let t = held_number a.outcome held in
      let d = (was_held s r workers run worker n w of k a t.0 at_a t.1 held).pass p passed in
      record {
        closed = λ lt. let c = d.closed lt in closed_begins c.0 (journals_of r (place_in w a.id)) (known_begins s r workers run worker of.k of.step (place_in w a.id) c.0 of.at (attempt_there s r workers run worker n w of k a at_a) (contains_among of.step.after.core.traces.known (record { place = place_number (place_in w a.id); entries = c.0 }) c.1)) c.2;
        worn = ending_right worker of.k of.step of.at p.ending d.worn;
      }
