-- SPDX-License-Identifier: GPL-2.0-only
-- What a draft says has no room to spare.
use Rattle.shr_audit_text.proofs.Common.{List, [], ◌∷◌, refl, map, AllByRecursion, WalkDraft, PlainDraft, PartDraft, drafted_walk, drafted_plain, drafted_part, list_of, drafted_pool, drafted_walks, plains_of, drafted_parts, drafted_report, IsTightWalk, IsTightPlain, IsTightPart, IsTightList, AreTightUnits, IsTightReport, lists_of, pools_of}
use Rattle.shr_audit_text.specs.declared.lists.ListDraft.{ListDraft}
use Rattle.shr_audit_text.specs.declared.lists.UnitsDraft.{UnitsDraft}
use Rattle.shr_audit_text.specs.declared.draft.Draft.{Draft}

walks : (ws : List WalkDraft) → AllByRecursion IsTightWalk (drafted_walks ws)
walks [] = tt
walks (w ∷ ws) = (record { maps = refl; attempts = refl }, walks ws)

plains : (ws : List PlainDraft) → AllByRecursion IsTightPlain (plains_of ws)
plains [] = tt
plains (w ∷ ws) = (record { tries = refl }, plains ws)

parts : (ps : List PartDraft) → AllByRecursion IsTightPart (drafted_parts ps)
parts [] = tt
parts (p ∷ ps) = (record { answers = refl; walks = refl; each = walks p.walks.items; carries = refl; plain = refl; each_plain = plains p.plain.items; isolations = refl }, parts ps)

lists : (ls : List ListDraft) → AllByRecursion IsTightList (lists_of ls)
lists [] = tt
lists (l ∷ ls) = (record { entries = refl; items = refl }, lists ls)

pools : (us : List UnitsDraft) → AllByRecursion AreTightUnits (pools_of us)
pools [] = tt
pools (u ∷ us) = (record { entries = refl }, pools us)

pub tight_drafted : (d : Draft) → IsTightReport (drafted_report d)
tight_drafted d = record {
  groups = refl;
  caches = refl;
  pools = refl;
  pool = refl;
  tree = refl;
  workers = refl;
  parts = parts d.parts.items;
  places = refl;
  lists = lists d.lists.items;
  units = refl;
  journals = pools d.units.items;
  maps = refl;
  deferred = refl;
  pool_deferred = refl;
  uses = refl;
  lookups = refl;
}
