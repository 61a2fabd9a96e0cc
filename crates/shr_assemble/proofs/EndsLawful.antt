-- SPDX-License-Identifier: GPL-2.0-only
-- The report of a run whose workers are done is lawful for its script, and well formed.
use Rattle.shr_assemble.proofs.Common.{◌≡◌, ◌+◌, List, Script, Shared, Ends, Report, IsFaithful, IsLawful, AreFreePutsAdded, DoPutsAddUp, IsWellFormed, within_of_valid, content_of, WorkerLog, Noted, IsMadeOf, printed_part, ArePrintedParts, AreEnds, IsPutTogether, IsRun, sym, subst, map}
use Rattle.shr_assemble.proofs.ScriptGroups.{sized_of}
use Rattle.shr_assemble.proofs.DidEach.{did_each}
use Rattle.shr_assemble.proofs.EndsReport.{laid_out}
use Rattle.shr_assemble.proofs.EndsRun.{run_of_ends}
use Rattle.shr_assemble.proofs.EndsSteps.{workers}
use Rattle.shr_assemble.proofs.EndsTotals as totals
use Rattle.shr_lawful.proofs.FaithfulLaw.{faithful_of_run}
use Rattle.shr_lawful.proofs.FreePuts.{free_puts_added}
use Rattle.shr_lawful.proofs.LawfulOfRun.{lawful_of_run}
use Rattle.shr_assemble.proofs.Rows.{DidEach}
use Rattle.shr_assemble.proofs.WalkingWell.{IsTableOf}
use Rattle.shr_assemble.proofs.WellFormed.{well_formed}
use Rattle.shr_lawful.proofs.WornPuts.{puts_add_up}

module _ (logs : List WorkerLog) (e : Ends) (are : AreEnds logs e) (r : Report) (made : IsMadeOf e.script logs e r) where
  abbrev x : Shared
  x = are.shared

  made_of_shared : IsMadeOf x.script logs e r
  made_of_shared = subst (λ (s : Script). IsMadeOf s logs e r) are.ends.script made

  table : IsTableOf x
  table = record { shared = are.ends.shared; sized = sized_of x are.ends.shared; most_items = are.ends.from_start.most_items; most_entries = are.ends.from_start.most_entries }

  each : DidEach x
  each = did_each x table

  run : IsRun x.script r (workers x each logs e are.ends r made_of_shared)
  run = run_of_ends x each logs e are.ends r made_of_shared

  pub lawful : IsLawful e.script r
  lawful = subst (λ (s : Script). IsLawful s r) (sym are.ends.script) (lawful_of_run x.script r (workers x each logs e are.ends r made_of_shared) run)

  pub faithful : IsFaithful e.script r
  faithful = subst (λ (s : Script). IsFaithful s r) (sym are.ends.script) (faithful_of_run x.script r (workers x each logs e are.ends r made_of_shared) run)

  pub sums : r.freed + r.listed ≡ r.added
  sums = totals.sums x each logs e are.ends r made_of_shared

  pub free_puts : AreFreePutsAdded e.script r
  free_puts = subst (λ (s : Script). AreFreePutsAdded s r) (sym are.ends.script) (free_puts_added x.script r (workers x each logs e are.ends r made_of_shared) run)

  pub add_up : DoPutsAddUp e.script r
  add_up = subst (λ (s : Script). DoPutsAddUp s r) (sym are.ends.script) (puts_add_up x.script r (workers x each logs e are.ends r made_of_shared) run)

  pub is_well_formed : (n : Noted) → ArePrintedParts (map printed_part logs) n.parts.items → IsPutTogether e n r → IsWellFormed r
  is_well_formed n printed together = well_formed x.script r (workers x each logs e are.ends r made_of_shared) run (within_of_valid (content_of x.script) are.ends.shared.script)
      (laid_out x logs e are.ends n r printed together made_of_shared)
