-- SPDX-License-Identifier: GPL-2.0-only
-- The law on replies by what is tested of it.
use Rattle.std.specs.Prelude.{◌≡◌, ℕ, ◌<◌, Some}
use Rattle.shr_base.specs.declared.places.Place.{Place}
use Rattle.shr_base.specs.declared.scripts.Script.{Script}
use Rattle.shr_laws.specs.declared.report.Report.{Report}
use Rattle.shr_laws.specs.Parts.{at, cited_at, serial_of}
use Rattle.shr_audit_replies.specs.Heads.{HasNames, HasPaths, HasPoolNames, HasSizes, AllHaveAnswers, AreLastSwept}
use Rattle.shr_audit_replies.specs.Answers.{AreAnswered}
use Rattle.shr_audit_replies.specs.Cited.{AreEntriesCited}

-- the report has at its head what the script says
pub record HasHeads (s : Script) (r : Report) : Type 0 where
  pub sizes : HasSizes s r
  pub paths : HasPaths s r
  pub names : HasNames s r
  pub pools : HasPoolNames s r

-- along one worker's replies the entries cited at one place rise
abbrev pub DoCitesRise : Report → Type 0
DoCitesRise r = (worker k later : ℕ) (place : Place) (n m : ℕ) → k < later → cited_at r (serial_of worker k) ≡ Some (at place n)
    → cited_at r (serial_of worker later) ≡ Some (at place m) → n < m

-- the replies are lawful, whatever values hits lend
pub record AreRepliesLawfulButValues (s : Script) (r : Report) : Type 0 where
  pub heads : HasHeads s r
  pub counts : AllHaveAnswers s r
  pub last : AreLastSwept s r
  pub answered : AreAnswered s r
  pub cited : AreEntriesCited r
  pub rise : DoCitesRise r
