-- SPDX-License-Identifier: GPL-2.0-only
-- The law on charges, in the parts in which it is tested.
use Rattle.std.specs.Prelude.{ℕ, ◌≤◌, length, IfSome}
use Rattle.shr_base.specs.declared.scripts.Script.{Script}
use Rattle.shr_model.specs.TreeJournal.{IsTreeJournal}
use Rattle.shr_laws.specs.declared.report.Report.{Report}
use Rattle.shr_laws.specs.Charges.{listed_below}
use Rattle.shr_laws.specs.Parts.{script_hierarchy, limit_of, limits_of, parents_of}
use Rattle.shr_audit_charges.specs.History.{AreCharged}
use Rattle.shr_audit_charges.specs.Left.{AreFinal}
use Rattle.shr_audit_charges.specs.Own.{AreOwnRight}
use Rattle.shr_audit_charges.specs.Puts.{AreUpsOfPuts}

-- the journal of the tree is one
abbrev pub IsTreeLawful : Script → Report → Type 0
IsTreeLawful s r = IsTreeJournal (script_hierarchy s) r.tree.items

-- the operations are the histories of the groups, each command took back what it had to, and what is
-- left is what is listed
pub record AreUsesLawful (s : Script) (r : Report) : Type 0 where
  pub charged : AreCharged (length (parents_of s)) r.uses.items
  pub own : AreOwnRight (limits_of s) r.uses.items
  pub puts : AreUpsOfPuts s r.uses.items
  pub final : AreFinal (parents_of s) r r.uses.items
  pub limits : (group : ℕ) → IfSome (limit_of s group) (λ limit. listed_below s r group ≤ limit)
