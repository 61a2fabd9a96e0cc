-- SPDX-License-Identifier: GPL-2.0-only
-- The names that the proofs of this crate cite most, passed on from one place. Declares nothing.
pub use Rattle.std.proofs.Common.{Bool, List, [], ap, arith, cond, drop, false, get_or, length, length-append, nat_lt, refl, subst, suc, sym, take, true, zero, ℕ, ◌%◌, ◌++◌, ◌+◌, ◌<◌, ◌∙◌, ◌∷◌, ◌≡◌, ◌≤◌}
pub use Rattle.std.proofs.lemmas.Bool.Decides.{nat_tests}
pub use Rattle.std.specs.Prelude.{None, Option, Some, if◌then◌else◌, slice_get, ◌&&◌, ◌==◌}
pub use Rattle.shr_base.specs.declared.scripts.CacheDecl.{CacheDecl}
pub use Rattle.shr_core.specs.Rule.{opener}
pub use Rattle.shr_core.specs.Seats.{first_view, shape_of, view_of}
pub use Rattle.shr_core.specs.declared.view.View.{View}
pub use Rattle.shr_script.proofs.BoundsLaws.{within_of_valid}
pub use Rattle.shr_script.specs.Content.{content_of}
pub use Rattle.shr_tables.specs.First.{AreBefore, HasEntered}
pub use Rattle.shr_tables.specs.Opened.{AreEntered, Enters, EntersIf, is_on}
