-- SPDX-License-Identifier: GPL-2.0-only
-- The law on causes, in the parts in which it is tested.
use Rattle.shr_base.specs.declared.scripts.Script.{Script}
use Rattle.shr_laws.specs.declared.report.Report.{Report}
use Rattle.shr_laws.specs.Freshness.{IsFresh}
use Rattle.shr_laws.specs.Parts.{EachAttempt, EachEntry, EachWalk}
use Rattle.shr_audit_reasons.specs.Registrations.{AreRegistrationsCaused}
use Rattle.shr_audit_reasons.specs.Trees.{AreBeginsCaused, AreDonesCaused, AreMadesCaused}
use Rattle.shr_audit_reasons.specs.Walks.{CitesBegin, IsDrainedRightly, IsWornRightly}
use Rattle.shr_audit_reasons.specs.Passes.{ArePassesCaused, AreTriesCaused}

-- walks, worn attempts and worn passes have what they came from
pub record AreWalksCaused (s : Script) (r : Report) : Type 0 where
  pub walks : EachWalk r (λ worker n w. CitesBegin r w)
  pub attempts : EachWalk r (λ worker n w. EachAttempt w (λ a. IsWornRightly s r worker a))
  pub passes : ArePassesCaused s r
  pub plain : AreTriesCaused s r

-- and so have entries
pub record AreEntriesCaused (s : Script) (r : Report) : Type 0 where
  pub begins : AreBeginsCaused s r
  pub dones : AreDonesCaused r
  pub mades : AreMadesCaused r
  pub pool : AreRegistrationsCaused s r
  pub drained : EachEntry r (λ place n e. IsDrainedRightly r e)

-- the law on causes, but for what replies came from
pub record AreCausesLawfulButReplies (s : Script) (r : Report) : Type 0 where
  pub entries : AreEntriesCaused s r
  pub walks : AreWalksCaused s r
  pub fresh : IsFresh s r
