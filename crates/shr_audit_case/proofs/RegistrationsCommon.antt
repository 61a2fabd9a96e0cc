-- SPDX-License-Identifier: GPL-2.0-only
-- The names that the proofs of this crate cite most, passed on from one place. Declares nothing.
pub use Rattle.std.proofs.Common.{Bool, List, None, Option, Some, [], ap, arith, cond, drop, false, get_or, length, refl, rules, subst, suc, sym, take, true, zero, ℕ, ◌%◌, ◌*◌, ◌++◌, ◌+◌, ◌-◌, ◌<◌, ◌^◌, ◌∙◌, ◌∷◌, ◌≡◌, ◌≢◌, ◌≤◌}
pub use Rattle.std.proofs.lemmas.Bool.Decides.{nat_tests}
pub use Rattle.std.proofs.lemmas.Grind.{common_steps}
pub use Rattle.std.proofs.lemmas.List.{drop_more, take_more}
pub use Rattle.std.specs.BTreeMap.{BTreeMap, IsEmpty, get, is_at}
pub use Rattle.std.specs.Map.{lookup}
pub use Rattle.std.specs.Option.{option_or}
pub use Rattle.std.specs.Ordering.{is_eq, nat_cmp}
pub use Rattle.std.specs.Prelude.{nat_le, nat_lt, slice_get, ◌&&◌, ◌==◌}
pub use Rattle.shr_base.specs.declared.journals.PoolEntry.{PoolEntry}
pub use Rattle.shr_base.specs.declared.journals.PoolEntry.TheVariants.{Idle, Registered, Unregistered}
pub use Rattle.shr_model.proofs.PiecesLaws.{same_byte}
pub use Rattle.shr_audit_case.specs.Live.{AreLivesNoted, entry_key, is_within, to_of}
pub use Rattle.shr_audit_case.specs.Met.{AreNoted, decl_found, lookup_key, stop_key}
pub use Rattle.shr_audit_case.specs.Steps.{AreSteps, IsMerged, has_key, last_in, step_at}
pub use Rattle.shr_audit_case.specs.declared.live.End.{End}
pub use Rattle.shr_audit_case.specs.declared.steps.Registration.{Registration}
pub use Rattle.shr_audit_case.specs.declared.steps.Span.{Span}
pub use Rattle.shr_audit_case.specs.declared.steps.Step.{Step}
