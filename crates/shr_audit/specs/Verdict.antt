-- SPDX-License-Identifier: GPL-2.0-only
-- What is said of a script and a report as bytes, and when it is so.
use Rattle.std.specs.Prelude.{◌≡◌, ℕ, ◌<◌, List}
use Rattle.shr_base.specs.declared.scripts.Script.{Script}
use Rattle.shr_script.specs.Faults.{IsFault}
use Rattle.shr_laws.specs.declared.report.Report.{Report}
use Rattle.shr_laws.specs.Replies.{AreRepliesLawful}
use Rattle.shr_laws.specs.Journals.{AreJournalsLawful}
use Rattle.shr_laws.specs.WalksLawful.{AreWalksLawful}
use Rattle.shr_laws.specs.Lookups.{AreLookupsLawful}
use Rattle.shr_laws.specs.Charges.{AreChargesLawful}
use Rattle.shr_laws.specs.Deferred.{IsDeferredLawful}
use Rattle.shr_laws.specs.BitsLawful.{AreBitsLawful}
use Rattle.shr_laws.specs.CausesLawful.{AreCausesLawful}
use Rattle.shr_laws.specs.Pools.{ArePoolsLawful}
use Rattle.shr_laws.specs.Isolated.{AreIsolationsLawful}
use Rattle.shr_laws.specs.Swept.{IsSweepLawful}
use Rattle.shr_laws.specs.Lawful.{IsBagLawful, IsLawful}
use Rattle.shr_audit_text.specs.Reading.{IsReportOf}
use Rattle.shr_audit_replies.specs.Once.{AreCitedOnce}
use Rattle.shr_audit.specs.declared.verdict.Law.{Law}
use Rattle.shr_audit.specs.declared.verdict.Law.TheVariants as laws
use Rattle.shr_audit.specs.declared.verdict.Verdict.{Verdict}
use Rattle.shr_audit.specs.declared.verdict.Verdict.TheVariants.{Lawful, BadScript, BadReport, Unlawful}
use Rattle.shr_audit.specs.Script.{IsScriptOf}

-- the number of a law: its place among the fields of `IsLawful`, from 1
abbrev pub law_number : Law → ℕ
law_number laws.Replies = 1
law_number laws.Journals = 2
law_number laws.Bag = 3
law_number laws.Walks = 4
law_number laws.Lookups = 5
law_number laws.Charges = 6
law_number laws.Deferred = 7
law_number laws.Bits = 8
law_number laws.Causes = 9
law_number laws.Pools = 10
law_number laws.Isolations = 11
law_number laws.Sweep = 12

-- A law holds of a script and a report. That on replies doesn't where an answer cites a place that is printed twice: which of the
-- two lists it means isn't said. In a lawful report no place is.
abbrev pub Holds : Law → Script → Report → Type 0
Holds laws.Replies s r = AreRepliesLawful s r × AreCitedOnce r
Holds laws.Journals s r = AreJournalsLawful s r
Holds laws.Bag s r = IsBagLawful s r
Holds laws.Walks s r = AreWalksLawful s r
Holds laws.Lookups s r = AreLookupsLawful s r
Holds laws.Charges s r = AreChargesLawful s r
Holds laws.Deferred s r = IsDeferredLawful s r
Holds laws.Bits s r = AreBitsLawful s r
Holds laws.Causes s r = AreCausesLawful s r
Holds laws.Pools s r = ArePoolsLawful s r
Holds laws.Isolations s r = AreIsolationsLawful s r
Holds laws.Sweep s r = IsSweepLawful s r

-- a law is the first that doesn't hold: it doesn't, and each before it does
pub record IsFirstBroken (law : Law) (s : Script) (r : Report) : Type 0 where
  pub before : (other : Law) → law_number other < law_number law → Holds other s r
  pub broken : Holds law s r → ⊥

-- bytes spell this script, and others are the text of this report
pub record AreTextsOf (bytes others : List ℕ) (s : Script) (r : Report) : Type 0 where
  pub script : IsScriptOf bytes s
  pub report : IsReportOf others r

-- When a verdict holds of bytes that were given as a script and as a report. The script is looked at first: where it is bad, nothing
-- is said of the report.
abbrev pub HoldsOf : List ℕ → List ℕ → Verdict → Type 0
HoldsOf script report Lawful = (s : Script) × ((r : Report) × (AreTextsOf script report s r × IsLawful s r))
HoldsOf script report (BadScript line code) = IsFault script line code
HoldsOf script report BadReport = ((s : Script) × IsScriptOf script s) × ((r : Report) → IsReportOf report r → ⊥)
HoldsOf script report (Unlawful clause) = (s : Script) × ((r : Report) × (AreTextsOf script report s r × IsFirstBroken clause s r))

-- no two verdicts hold of the same bytes
abbrev pub IsOneVerdict : Type 0
IsOneVerdict = (script report : List ℕ) (v w : Verdict) → HoldsOf script report v → HoldsOf script report w → v ≡ w
