-- SPDX-License-Identifier: GPL-2.0-only
-- One entry of a journal, replayed on the objects of its list.
use Rattle.std.specs.Prelude.{◌≡◌, List, []}
use Rattle.std.specs.Bool.{Decides}
use Rattle.shr_base.specs.declared.objects.Object.{Object}
use Rattle.shr_base.specs.declared.journals.Entry.{Entry}
use Rattle.shr_base.specs.declared.journals.Entry.TheVariants.{MovedIn}
use Rattle.shr_model.specs.Items.{step, freed_by, IsOutcome}
use Rattle.shr_audit_case.specs.declared.step.Told.{Told}
use Rattle.shr_audit_case.specs.Values.{value_met}

-- the items are those after the entry, and what it freed, the value that it met, and whether its
-- outcome is so are told
pub record Replays (moved old new : List Object) (e : Entry) (told : Told) : Type 0 where
  pub items : new ≡ step moved old e
  pub freed : told.freed.items ≡ freed_by old e
  pub value : told.value ≡ value_met old e
  pub outcome : Decides told.right (IsOutcome moved old e)

-- what is left of a list that was given to an entry
abbrev pub left_given : List Object → Entry → List Object
left_given given (MovedIn child objects) = []
left_given given e = given
