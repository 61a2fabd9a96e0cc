-- SPDX-License-Identifier: GPL-2.0-only
-- Which items a list handed to its parent's.
use Rattle.std.specs.Prelude.{ℕ, List, [], ◌∷◌}
use Rattle.shr_base.specs.declared.objects.Object.{Object}
use Rattle.shr_base.specs.declared.journals.Entry.{Entry}
use Rattle.shr_base.specs.declared.journals.Entry.TheVariants.{MovedIn}
use Rattle.shr_model.specs.Items.{later_moved}

-- the objects that an entry moves in where this is what each child's list gives
abbrev pub moved_by : (ℕ → List Object) → Entry → List Object
moved_by given (MovedIn child objects) = given child
moved_by given e = []

-- the lists that are still to be moved after entries
unfoldable pub moved_from : List (List Object) → List Entry → List (List Object)
moved_from moved [] = moved
moved_from moved (e ∷ es) = moved_from (later_moved e moved) es
