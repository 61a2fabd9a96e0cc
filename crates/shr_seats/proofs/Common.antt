-- SPDX-License-Identifier: GPL-2.0-only
-- The names that the proofs of this crate cite most, passed on from one place. Declares nothing.
pub use Rattle.std.proofs.Common.{Bool, List, [], ap, append_assoc, arith, cond, eq-eqb, eqb, false, length, length-append, length-set, map, ne_eqb, not, refl, set, subst, suc, sym, true, zero, ℕ, ⊎_elim, ◌&&◌, ◌*◌, ◌++◌, ◌+◌, ◌<◌, ◌∙◌, ◌∷◌, ◌≡◌, ◌≢◌, ◌≤◌}
pub use Rattle.std.proofs.lemmas.List.{append-nil, map-append, map-set}
pub use Rattle.std.specs.Prelude.{None, Some, count_by, sum_by}
pub use Rattle.atomic_table.proofs.Lists.{at_longer, at_map, at_set, at_snoc, set_again, set_else}
pub use Rattle.shr_seats.specs.Standing.{AreEmptied, AreSeats, IsWhole, Standing, at_end, at_first, at_split, is_out, with_join, with_split}
pub use Rattle.shr_seats.specs.Views.{Each}
pub use Rattle.shr_seats.specs.Weights.{Begins, only, times, total, without}
pub use lib.ListN.{get_elem?}
pub use mathlib.Core.Logic.{dite}
pub use mathlib.Core.Option.{some, some-injective, some-ne-none}
pub use native.Mathlib.Decide.{dec_lt, ℕ_discrete}
