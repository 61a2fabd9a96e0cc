-- SPDX-License-Identifier: GPL-2.0-only
-- The names that the proofs of this crate cite most, passed on from one place. Declares nothing.
pub use Rattle.std.proofs.Common.{Bool, List, None, Option, Some, [], ap, arith, cond, drop, eq-eqb, false, get_or, get_or-set_other, get_or-set_same, inl, inr, length, length-append, length-set, min, ne_eqb, refl, replicate, set, slice_get, subst, suc, sym, take, true, zero, ℕ, ◌*◌, ◌++◌, ◌+◌, ◌-◌, ◌<◌, ◌^◌, ◌∙◌, ◌∷◌, ◌≡◌, ◌≢◌, ◌≤◌}
pub use Rattle.std.specs.BTreeMap.{BTreeMap, Updates, get, is_at}
pub use Rattle.std.specs.Bool.{Decides}
pub use Rattle.std.specs.Prelude.{nat_lt, option_and_then, option_map, sum_by, unwrap_or, ◌==◌, ◌||◌}
pub use Rattle.shr_audit_case.proofs.Upto.{upto_all, upto_fails, upto_more}
pub use Rattle.shr_base.specs.declared.ends.PlaceEnd.{PlaceEnd}
pub use Rattle.shr_base.specs.declared.journals.Entry.{Entry}
pub use Rattle.shr_base.specs.declared.journals.Entry.TheVariants.{Closed, Drained}
pub use Rattle.shr_base.specs.declared.journals.PoolEntry.TheVariants.{Idle, Registered, Unregistered}
pub use Rattle.shr_base.specs.declared.places.Place.{Place}
pub use Rattle.shr_base.specs.declared.places.Serial.{Serial}
pub use Rattle.shr_base.specs.declared.scripts.Script.{Script}
pub use Rattle.shr_audit_case.specs.Each.{EachFirst}
pub use Rattle.shr_audit_case.specs.Places.{IsFirst}
pub use Rattle.shr_audit_formed.specs.Each.{Adjacent, EachItem}
pub use Rattle.shr_laws.specs.Causes.{IsFreed, IsHalf, IsWhy, drained_by, is_idle_entry}
pub use Rattle.shr_laws.specs.Parts.{EachAnswer, EachEntry, answer_at, answers_in, answers_of, command_at, journals_of, reply_at, serial_of}
pub use Rattle.shr_laws.specs.declared.report.Report.{Report}
pub use Rattle.shr_audit_causes.specs.Began.{AreBegan, IsUpto, is_idle}
pub use Rattle.shr_audit_causes.specs.Ended.{AreNotes, IsEnd, IsEndedSo}
pub use Rattle.shr_audit_causes.specs.Placed.{IsOfId, IsDrainPlaced, id_drained, id_drained_by}
pub use Rattle.shr_audit_causes.specs.UnregisterRows.{HasEnd, HasHalfReason, HasUnregisterCause, IsUnregisterCausedAt, as_ended}
pub use Rattle.shr_audit_causes.specs.Sums.{AreSums, IsSerialKeyed, IsNothing, AreOfOnePlace, capped, drained_key}
pub use Rattle.shr_audit_causes.specs.declared.began.Began.{Began}
pub use Rattle.shr_model.proofs.Lists.{some_injective}
