-- SPDX-License-Identifier: GPL-2.0-only
-- The serials of the objects that were freed, and of those that are left.
use Rattle.std.specs.Prelude.{◌≡◌, ℕ, List, ◌++◌, length}
use Rattle.shr_base.specs.declared.places.Serial.{Serial}
use Rattle.shr_model.specs.Bag.{freed_in, listed_in}
use Rattle.shr_audit_case.specs.declared.tags.Tag.{Tag}
use Rattle.shr_audit_case.specs.declared.tags.FreedTag.{FreedTag}
use Rattle.shr_laws.specs.declared.report.Report.{Report}
use Rattle.shr_laws.specs.Parts.{journals_of, places_of}
use Rattle.shr_audit_lists.specs.declared.gone.Gone.{Gone}

-- the serial of an object that was freed
abbrev pub freed_serial : FreedTag → Serial
freed_serial t = t.tag.serial

-- and of one that is left
abbrev pub left_serial : Tag → Serial
left_serial t = t.serial

-- those of the freed objects stand first, so many, and then those of the objects that are left
pub record IsGone (parents : List ℕ) (r : Report) (g : Gone) : Type 0 where
  pub serials : g.serials.items ≡ freed_in (places_of r) parents (journals_of r) ++ listed_in (places_of r) parents (journals_of r)
  pub freed : g.freed ≡ length (freed_in (places_of r) parents (journals_of r))
