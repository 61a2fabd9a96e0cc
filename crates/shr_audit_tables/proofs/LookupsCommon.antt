-- SPDX-License-Identifier: GPL-2.0-only
-- The names that the proofs of this crate cite most, passed on from one place. Declares nothing.
pub use Rattle.std.proofs.Common.{Bool, List, None, Option, Some, ap, cond, drop, false, get_or, length, refl, slice_get, subst, sym, take, true, ℕ, ◌<◌, ◌∙◌, ◌≡◌, ◌≤◌}
pub use Rattle.std.proofs.lemmas.Option.{slice_get-get_or, slice_get_read}
pub use Rattle.std.specs.Bool.{Decides}
pub use Rattle.shr_audit_tables.specs.Draws.{IsDrawn}
pub use Rattle.shr_base.specs.declared.ends.WorkerPart.{WorkerPart}
pub use Rattle.shr_base.specs.declared.replies.Answered.{Answered}
pub use Rattle.shr_base.specs.declared.scripts.Script.{Script}
pub use Rattle.shr_base.specs.Walks.{WalkRecord}
pub use Rattle.shr_audit_formed.proofs.Eachs.{all_at, each_all, each_more, fails, more_at}
pub use Rattle.shr_audit_formed.specs.Each.{EachItem}
pub use Rattle.shr_laws.specs.Parts.{EachAttempt, parents_of}
pub use Rattle.shr_laws.specs.declared.report.Report.{Report}
pub use Rattle.shr_audit_tables.specs.Found.{AreFoundRight, IsFindAt, IsFindRight, IsLiveRight}
pub use Rattle.shr_audit_tables.specs.Met.{AreMetRight, IsMetRight}
