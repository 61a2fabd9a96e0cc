-- SPDX-License-Identifier: GPL-2.0-only
-- A walk of a group that its worker was shown to be offline finds it offline, of a run.
use Rattle.shr_lawful.proofs.Common.{◌≡◌, ℕ, ◌<◌, List, ap, ◌∙◌, arith, Some, true, slice_get_within, Serial, Script, WalkAnswer, WalkRecord, Report, shows_offline, serial_of, walk_at, Step, steps_of, IsRun, IsWalkRefused}
use Rattle.shr_model.proofs.Lists.{there_at}
use Rattle.shr_base.specs.declared.walks.WalkAnswer.TheVariants as walk
use Rattle.shr_lawful.proofs.Listed.{walk_of}
use Rattle.shr_lawful.proofs.FreshLaw.{knows_offline, below_root}
use Rattle.shr_lawful.proofs.Gathering.{grows}

-- a walk that can't have gone on was refused
was_refused : (a : WalkAnswer) → (((entry : ℕ) → a ≡ walk.Offline entry → ⊥) → ⊥) → IsWalkRefused a
was_refused (walk.Walked freed) never = never (λ entry e. absurd (cc))
was_refused (walk.Offline entry) never = tt
was_refused (walk.Memory freed) never = never (λ entry e. absurd (cc))

module _ (s : Script) (r : Report) (workers : List (List Step)) (run : IsRun s r workers) where
  pub walks_refused : (worker n : ℕ) (w : WalkRecord) → walk_at r worker n ≡ Some w → (k : ℕ) → k < w.by.command → shows_offline r (serial_of worker k) w.group ≡ true → IsWalkRefused w.answer
  walks_refused worker n w at k lt shows =
      let t = walk_of s r workers run worker n w at in
      let command : w.by.command ≡ t.k = ap (λ (z : Serial). z.command) (t.did.by ∙ t.is.by) in
      let within = slice_get_within (steps_of workers worker) t.k t.step t.at in
      let x = there_at (steps_of workers worker) k (omega (arith, lt, command, within)) in
      let g = grows s r workers run worker k t.k x.0 t.step (omega (arith, lt, command)) x.1 t.at in
      was_refused w.answer (λ on. knows_offline s r workers run worker k x.0 w.group t.step.before x.1 g shows (t.did.online (below_root s r workers run worker k w.group shows) on))
