-- SPDX-License-Identifier: GPL-2.0-only
-- The names that the proofs of this crate cite most, passed on from one place. Declares nothing.
pub use Rattle.std.proofs.Common.{Bool, List, None, Option, Some, [], ap, arith, cond, false, get_or, inl, inr, length, map, refl, set, subst, sym, take, true, ℕ, ◌%◌, ◌++◌, ◌+◌, ◌<◌, ◌^◌, ◌∙◌, ◌∷◌, ◌≡◌, ◌≢◌}
pub use Rattle.std.proofs.lemmas.Bool.{and_from, and_parts, cases_Bool, eq-eqb, eqb-true, ne_eqb}
pub use Rattle.std.proofs.lemmas.List.{get_or-set_other, get_or-set_same, length-set, take_all, take_more}
pub use Rattle.std.specs.Prelude.{find, is_some, nat_eq, option_map, slice_get, ◌&&◌, ◌==◌}
pub use Rattle.shr_base.specs.declared.ends.MapEnd.{MapEnd}
pub use Rattle.shr_base.specs.declared.ends.PlaceEnd.{PlaceEnd}
pub use Rattle.shr_base.specs.declared.journals.PoolEntry.{PoolEntry}
pub use Rattle.shr_base.specs.declared.places.Place.{Place}
pub use Rattle.shr_model.proofs.Lists.{zero_more}
pub use Rattle.shr_laws.specs.BitsLawful.{AreBitsLawful, has_bit, is_set_at, shows_bit}
pub use Rattle.shr_laws.specs.declared.report.Report.{Report}
pub use Rattle.shr_audit_lists.specs.Set.{ArePhases, IsSetIfLive}
pub use Rattle.shr_audit_lists.specs.Words.{AreWords, Words, map_key, word_at, word_key}
pub use mathlib.Core.Logic.{dite}
pub use native.Mathlib.Decide.{ℕ_discrete}
