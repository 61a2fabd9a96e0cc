-- SPDX-License-Identifier: GPL-2.0-only
-- When a report is lawful for a script.
use Rattle.std.specs.Prelude.{◌≡◌, length}
use Rattle.shr_base.specs.declared.scripts.Script.{Script}
use Rattle.shr_model.specs.Bag.{added_in, freed_in, listed_in, IsBag}
use Rattle.shr_laws.specs.declared.report.Report.{Report}
use Rattle.shr_laws.specs.Parts.{parents_of, journals_of, places_of}
use Rattle.shr_laws.specs.Replies.{AreRepliesLawful}
use Rattle.shr_laws.specs.Journals.{AreJournalsLawful}
use Rattle.shr_laws.specs.WalksLawful.{AreWalksLawful}
use Rattle.shr_laws.specs.Lookups.{AreLookupsLawful}
use Rattle.shr_laws.specs.Charges.{AreChargesLawful}
use Rattle.shr_laws.specs.Deferred.{IsDeferredLawful}
use Rattle.shr_laws.specs.BitsLawful.{AreBitsLawful}
use Rattle.shr_laws.specs.CausesLawful.{AreCausesLawful}
use Rattle.shr_laws.specs.Pools.{ArePoolsLawful}
use Rattle.shr_laws.specs.Isolated.{AreIsolationsLawful}
use Rattle.shr_laws.specs.Swept.{IsSweepLawful}

-- Bag. Each object added was freed once or is listed once, and the totals say how many.
pub record IsBagLawful (s : Script) (r : Report) : Type 0 where
  pub bag : IsBag (added_in (places_of r) (journals_of r)) (freed_in (places_of r) (parents_of s) (journals_of r)) (listed_in (places_of r) (parents_of s) (journals_of r))
  pub added : r.added ≡ length (added_in (places_of r) (journals_of r))
  pub freed : r.freed ≡ length (freed_in (places_of r) (parents_of s) (journals_of r))
  pub listed : r.listed ≡ length (listed_in (places_of r) (parents_of s) (journals_of r))

-- the report is lawful for the script: each of the twelve parts is
pub record IsLawful (s : Script) (r : Report) : Type 0 where
  pub replies : AreRepliesLawful s r
  pub journals : AreJournalsLawful s r
  pub bag : IsBagLawful s r
  pub walks : AreWalksLawful s r
  pub lookups : AreLookupsLawful s r
  pub charges : AreChargesLawful s r
  pub deferred : IsDeferredLawful s r
  pub bits : AreBitsLawful s r
  pub causes : AreCausesLawful s r
  pub pools : ArePoolsLawful s r
  pub isolations : AreIsolationsLawful s r
  pub sweep : IsSweepLawful s r
