-- SPDX-License-Identifier: GPL-2.0-only
-- What is left at the end, and the limits of groups.
use Rattle.std.specs.Prelude.{◌≡◌, ℕ, pos, ◌-◌, ◌<◌, ◌≤◌, List, length, map, flat_map, sum_by, slice_get, Option, Some, IfSome}
use Rattle.shr_base.specs.declared.places.Place.{Place}
use Rattle.shr_base.specs.declared.journals.UseStep.{UseStep}
use Rattle.shr_model.specs.Charges.{usage_after}
use Rattle.shr_model.specs.Families.{items_of}
use Rattle.shr_model.specs.Freeings.{born_below}
use Rattle.shr_audit_case.specs.declared.tags.Tag.{Tag}
use Rattle.shr_audit_case.specs.Tags.{tag_of}
use Rattle.shr_laws.specs.declared.report.Report.{Report}
use Rattle.shr_laws.specs.Parts.{journals_of, places_of}
use Rattle.shr_audit_charges.specs.declared.history.Usage.{Usage}
use Rattle.shr_audit_charges.specs.History.{group_uses}
use Rattle.shr_audit_charges.specs.Own.{limit_in}
use Rattle.shr_audit_charges.specs.Paths.{path_keys}

-- each group at or above the one in which an object was born
abbrev pub tag_keys : List ℕ → Tag → List ℕ
tag_keys parents tag = path_keys parents (record { worker = 0; command = 0 }) tag.birth

-- the same of the objects that the journal of a place leaves
abbrev pub left_keys : List ℕ → Report → Place → List ℕ
left_keys parents r place = flat_map (tag_keys parents) (map tag_of (items_of parents (journals_of r) place))

-- how many of the objects that the journals leave were born at or below a group
abbrev pub left_below : List ℕ → Report → ℕ → ℕ
left_below parents r group = sum_by (λ place. born_below parents group (items_of parents (journals_of r) place)) (places_of r)

-- the operations of each group that is there come to the number of these
abbrev pub AreFinal : List ℕ → Report → List UseStep → Type 0
AreFinal parents r uses = (group : ℕ) → group < length parents → usage_after (group_uses uses group) ≡ pos (left_below parents r group)

-- what operations come to isn't above a limit
abbrev pub IsWithinLimit : Option ℕ → Usage → Type 0
IsWithinLimit limit x = IfSome limit (λ l. x.ups - x.downs ≤ l)

-- the same of each group and its limit
abbrev pub AreWithin : List (Option ℕ) → List Usage → Type 0
AreWithin limits usages = (group : ℕ) (x : Usage) → slice_get usages group ≡ Some x → IsWithinLimit (limit_in limits group) x
