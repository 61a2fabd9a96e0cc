-- SPDX-License-Identifier: GPL-2.0-only
-- The report of a run is lawful.
use Rattle.shr_lawful.proofs.Common.{List, Script, Report, IsLawful, Step, IsRun}
use Rattle.shr_lawful.proofs.UnitPoolsLaw.{pools_lawful}
use Rattle.shr_lawful.proofs.RepliesLaw.{replies_lawful}
use Rattle.shr_lawful.proofs.JournalsLaw.{journals_lawful}
use Rattle.shr_lawful.proofs.BagLaw.{bag_lawful}
use Rattle.shr_lawful.proofs.WalksLaw.{walks_lawful}
use Rattle.shr_lawful.proofs.LookupsLaw.{lookups_lawful}
use Rattle.shr_lawful.proofs.UsageLaw.{charges_lawful}
use Rattle.shr_lawful.proofs.DeferredLaw.{deferred_lawful}
use Rattle.shr_lawful.proofs.CausesLaw.{causes_lawful}
use Rattle.shr_lawful.proofs.IsolationsLaw.{isolations_lawful}
use Rattle.shr_lawful.proofs.SweepLaw.{sweep_lawful}

-- each law of the report of a run holds
pub lawful_of_run : (s : Script) (r : Report) (workers : List (List Step)) → IsRun s r workers → IsLawful s r
lawful_of_run s r workers run = record {
  replies = replies_lawful s r workers run;
  journals = journals_lawful s r workers run;
  bag = bag_lawful s r workers run;
  walks = walks_lawful s r workers run;
  lookups = lookups_lawful s r workers run;
  charges = charges_lawful s r workers run;
  deferred = deferred_lawful s r workers run;
  bits = run.bits;
  causes = causes_lawful s r workers run;
  pools = pools_lawful s r run.plain run.units;
  isolations = isolations_lawful s r workers run;
  sweep = sweep_lawful s r workers run;
}
