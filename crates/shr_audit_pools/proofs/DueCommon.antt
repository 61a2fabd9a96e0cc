-- SPDX-License-Identifier: GPL-2.0-only
-- The names that the proofs of this crate cite most, passed on from one place. Declares nothing.
pub use Rattle.std.proofs.Common.{Bool, List, None, Option, Some, [], ap, arith, cond, false, get_or, inl, inr, length, map, refl, rules, slice_get, subst, suc, sym, true, ℕ, ◌+◌, ◌<◌, ◌∙◌, ◌∷◌, ◌≡◌, ◌≤◌, ◌⊎◌}
pub use Rattle.std.proofs.lemmas.Bool.Decides.{nat_tests}
pub use Rattle.std.proofs.lemmas.List.Sorted.{IsNonDecreasingBy-from_all_adjacent, IsPartitionPoint-from_clause}
pub use Rattle.std.proofs.lemmas.Option.{get_or_from_slice_get, same_Some, slice_get-get_or, slice_get_within}
pub use Rattle.std.specs.Bool.{Decides}
pub use Rattle.std.specs.Prelude.{filter, nat_le, nat_lt, ◌&&◌, ◌==◌}
pub use Rattle.shr_audit_passes.proofs.Answered.{here_at, same_test}
pub use Rattle.shr_base.specs.declared.ends.WorkerPart.{WorkerPart}
pub use Rattle.shr_base.specs.declared.replies.Answered.{Answered}
pub use Rattle.shr_base.specs.declared.walks.PlainWalk.{PlainWalk}
pub use Rattle.shr_audit_formed.proofs.Eachs.{all_at, below_of, clash, more_at}
pub use Rattle.shr_audit_formed.specs.Each.{EachItem, IsWorkerCommand}
pub use Rattle.shr_laws.specs.Parts.{EachAnswer, commands_of, serial_of}
pub use Rattle.shr_laws.specs.UnitParts.{EachPlain, PlainJob, plain_by, plain_due, plain_in, plain_job_of}
pub use Rattle.shr_laws.specs.declared.report.Report.{Report}
pub use Rattle.shr_audit_pools.specs.Due.{HasDue, IsDue, IsPartDue, PoolWalksByCommand, plain_walks_with}
