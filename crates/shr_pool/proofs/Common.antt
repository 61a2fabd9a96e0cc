-- SPDX-License-Identifier: GPL-2.0-only
-- The names that the proofs of this crate cite most, passed on from one place. Declares nothing.
pub use Rattle.std.proofs.Common.{Bool, List, [], ap, append_assoc, arith, cond, eq-eqb, false, inl, inr, length, length-append, map, ne_eqb, refl, replicate, set, subst, suc, sym, true, zero, ℕ, ⊎_elim, ◌%◌, ◌*◌, ◌++◌, ◌+◌, ◌/◌, ◌<◌, ◌∙◌, ◌∷◌, ◌≡◌, ◌≢◌, ◌≤◌}
pub use Rattle.std.proofs.lemmas.List.FromFn.{length-map-range_with_len, map-range_with_len_more}
pub use Rattle.std.specs.List.{range_with_len}
pub use Rattle.std.specs.Prelude.{not, sum_by, ◌&&◌, ◌==◌, ◌⊎◌}
pub use Rattle.shr_seats.proofs.Weighing.{total-append}
pub use Rattle.shr_seats.specs.Standing.{AreSeats, IsWhole, Standing, at_end, at_first, at_split, is_out}
pub use Rattle.shr_seats.specs.Views.{Each}
pub use Rattle.shr_seats.specs.Weights.{total}
pub use Rattle.shr_pool.specs.Known.{HasPoppedWithin, IsFaced, IsPopped, IsQueueShown}
pub use Rattle.shr_pool.specs.Lines.{ends, is_end, sweep_job, job_at, queue_line, most_helpers, of_job, table_jobs}
pub use Rattle.shr_pool.specs.Passes.{IsFilling, IsHelper, IsJobPass, filling, pass_view}
pub use Rattle.shr_pool.specs.Rule.{IsQueued, first_pass_view, joined_pass_view, marks_for, new_pass_view, spent_pass_view, pass_standing_in, with_pop, with_push, split_pass_view}
pub use Rattle.shr_pool.specs.Worked.{AreEachOnce, ArePopped, AreWorked, IsTableJob, only_job, times_popped}
pub use Rattle.shr_pool.specs.declared.items.SweepItem.{SweepItem}
pub use Rattle.shr_pool.specs.declared.items.SweepItem.TheVariants.{End, Walk}
pub use Rattle.shr_pool.specs.declared.items.SweepJob.{SweepJob}
pub use Rattle.shr_pool.specs.declared.view.PassView.{PassView}
pub use lib.ListN.{get_elem?}
pub use mathlib.Core.Logic.{dite}
pub use mathlib.Core.Option.{some, some-injective, some-ne-none}
pub use native.Mathlib.Decide.{ℕ_discrete}
