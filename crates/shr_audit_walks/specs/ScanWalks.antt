-- SPDX-License-Identifier: GPL-2.0-only
-- What is known of a report before its walks are tested, and what is asked of them then.
use Rattle.std.specs.Prelude.{◌≡◌, ℕ, List, slice_get, Some}
use Rattle.shr_base.specs.declared.scripts.CacheDecl.{CacheDecl}
use Rattle.shr_base.specs.declared.scripts.Script.{Script}
use Rattle.shr_base.specs.Walks.{Attempt, WalkRecord}
use Rattle.shr_base.specs.declared.walks.PassRecord.{PassRecord}
use Rattle.shr_model.specs.Attempts.{pass_of}
use Rattle.shr_model.specs.Scans.{scans_by}
use Rattle.shr_model.specs.Walks.{place_in}
use Rattle.shr_laws.specs.declared.report.Report.{Report}
use Rattle.shr_laws.specs.LawfulWalk.{AreScansOf, IsLawfulWalk, cache_of}
use Rattle.shr_laws.specs.Parts.{journals_of}
use Rattle.shr_audit_case.specs.Lists.{IsCaseOf}
use Rattle.shr_audit_case.specs.Met.{IsMetIn}
use Rattle.shr_audit_walks.specs.declared.scan_walks.Known.{Known}
use Rattle.shr_audit_walks.specs.ScanTable.{AreScansIn, AreSorted}

-- the case is that of the script and the report, what the lookups met is by the report's registrations, and the Scan
-- entries are those of the report
pub record IsCaseKnown (k : Known) : Type 0 where
  pub case : IsCaseOf k.script.now k.report.now k.case.now
  pub met : IsMetIn k.report.now.pool.items k.met.now
  pub sorted : AreSorted k.scans.now
  pub scans : AreScansIn k.report.now k.scans.now

-- the Scan entries of a walk at the place of this attempt are those of its pass, if one ran
abbrev pub IsScannedAt : Script → Report → ℕ → ℕ → WalkRecord → Attempt → Type 0
IsScannedAt s r worker n w a = (d : CacheDecl) (p : PassRecord) → cache_of s r a ≡ Some d → pass_of a.outcome ≡ Some p
    → AreScansOf w.priority d p (scans_by worker n (journals_of r (place_in w a.id)))

-- each of these walks of a worker is lawful
abbrev pub AreLawful : Script → Report → ℕ → List WalkRecord → Type 0
AreLawful s r worker walks = (n : ℕ) (w : WalkRecord) → slice_get walks n ≡ Some w → IsLawfulWalk s r worker n w
