-- SPDX-License-Identifier: GPL-2.0-only
-- What a command did: one record for all commands, over its answer, its walks and carries, and what it added to its worker's
-- state. The laws of a report are proved from these and from what is left of the tables.
use Rattle.shr_base.specs.declared.scripts.Script.{Script}
use Rattle.shr_lawful.specs.Steps.{Step}
use Rattle.shr_lawful.specs.Entries.{DidEntries}
use Rattle.shr_lawful.specs.Lookups.{DidLookups}
use Rattle.shr_lawful.specs.Walks.{DidWalks}
use Rattle.shr_lawful.specs.Charges.{DidCharges}
use Rattle.shr_lawful.specs.Deferred.{DidMoves}
use Rattle.shr_lawful.specs.Pool.{DidPool}
use Rattle.shr_lawful.specs.Offlining.{DidTree}
use Rattle.shr_lawful.specs.Causes.{IsCausedBy}

-- all that a command did, law by law
pub record Did (s : Script) (x : Step) : Type 0 where
  pub entries : DidEntries s x
  pub lookups : DidLookups s x
  pub walks : DidWalks s x
  pub charges : DidCharges s x
  pub moves : DidMoves s x
  pub pool : DidPool s x
  pub tree : DidTree s x
  pub cause : IsCausedBy s x x.answered.reply
