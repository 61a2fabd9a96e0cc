-- SPDX-License-Identifier: GPL-2.0-only
-- Which lists a worker's commands act on, in their order.
use Rattle.std.specs.Prelude.{◌≡◌, ℕ, ◌<◌, Some, option_and_then}
use Rattle.shr_base.specs.declared.places.Place.{Place}
use Rattle.shr_base.specs.declared.scripts.Script.{Script}
use Rattle.shr_model.specs.Commands.{group_named}
use Rattle.shr_model.specs.Groups.{IsAtOrAbove}
use Rattle.shr_laws.specs.declared.report.Report.{Report}
use Rattle.shr_laws.specs.Parts.{parents_of, serial_of, command_at, cited_at, at}

-- a worker's command, which names this group, acted on the list of this place
pub record ActsOn (s : Script) (r : Report) (worker k birth : ℕ) (place : Place) : Type 0 where
  pub named : option_and_then group_named (command_at s (serial_of worker k)) ≡ Some birth
  pub entry : ℕ
  pub cited : cited_at r (serial_of worker k) ≡ Some (at place entry)

-- at one id and node, the lists on which a worker acts for one group go up only: one that was closed stays closed
abbrev pub AreClimbing : Script → Report → Type 0
AreClimbing s r = (worker k later birth : ℕ) (p q : Place) → k < later → ActsOn s r worker k birth p → ActsOn s r worker later birth q
    → p.id ≡ q.id → p.node ≡ q.node → IsAtOrAbove (parents_of s) q.group p.group
