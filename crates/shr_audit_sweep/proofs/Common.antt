-- SPDX-License-Identifier: GPL-2.0-only
-- The names that the proofs of this crate cite most, passed on from one place. Declares nothing.
pub use Rattle.std.proofs.Common.{Bool, List, None, Option, Some, [], ap, arith, cond, drop, false, get_or, length, refl, set, slice_get, subst, suc, sum_by, sym, take, true, ℕ, ◌*◌, ◌++◌, ◌+◌, ◌-◌, ◌<◌, ◌∙◌, ◌∷◌, ◌≡◌, ◌≤◌}
pub use Rattle.std.proofs.lemmas.List.{append_assoc, drop_more, get_or-set_other, get_or-set_same, length-map, length-set, take-append-drop, take_all, take_more}
pub use Rattle.std.specs.Bool.{Decides}
pub use Rattle.std.specs.Option.{IsSomeAnd}
pub use Rattle.std.specs.Prelude.{filter, flat_map, is_some, nat_lt, not, ◌&&◌, ◌==◌}
pub use Rattle.shr_base.specs.declared.ends.WorkerPart.{WorkerPart}
pub use Rattle.shr_base.specs.declared.scripts.Script.{Script}
pub use Rattle.shr_base.specs.declared.scripts.Sweep.{Sweep}
pub use Rattle.shr_base.specs.Walks.{WalkRecord}
pub use Rattle.shr_audit_formed.proofs.Eachs.{all_of, clash, each_in}
pub use Rattle.shr_audit_formed.specs.Each.{Adjacent, EachItem, IsWorkerCommand}
pub use Rattle.shr_laws.specs.Parts.{answer_at, commands_of, parents_of, reply_at, serial_of, walks_in}
pub use Rattle.shr_laws.specs.Swept.{IsSweepRight, IsSweepWalk, IsSwept, IsSweptOut, all_sweep_walks, sweep_serial, sweep_walks}
pub use Rattle.shr_laws.specs.declared.report.Report.{Report}
pub use Rattle.shr_audit_sweep.specs.Marks.{AreMarked, AreWalkedOnce, AreSweptOnce, IsGroupMarked, IsSweptWithin, job_index, times_in}
