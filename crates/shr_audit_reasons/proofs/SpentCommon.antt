-- SPDX-License-Identifier: GPL-2.0-only
-- The names that the proofs of this crate cite most, passed on from one place. Declares nothing.
pub use Rattle.std.proofs.Common.{Bool, List, None, Option, Some, [], ap, arith, cond, false, get_or, length, length-append, refl, set, slice_get, subst, sym, take, true, ℕ, ◌++◌, ◌+◌, ◌<◌, ◌∙◌, ◌∷◌, ◌≡◌, ◌≤◌}
pub use Rattle.std.proofs.lemmas.List.{get_or-set_other, get_or-set_same, get_or_default, length-set, take_all, take_more}
pub use Rattle.std.proofs.lemmas.Option.{slice_get_read, slice_get_within}
pub use Rattle.std.specs.Bool.{Decides}
pub use Rattle.std.specs.Prelude.{count_by, filter, sum_by, ◌^◌}
pub use Rattle.shr_base.specs.declared.ends.WorkerPart.{WorkerPart}
pub use Rattle.shr_base.specs.declared.journals.UseStep.{UseStep}
pub use Rattle.shr_base.specs.declared.scripts.Command.{Command}
pub use Rattle.shr_base.specs.declared.scripts.Script.{Script}
pub use Rattle.shr_base.specs.declared.scripts.WorkerScript.{WorkerScript}
pub use Rattle.shr_base.specs.declared.walks.PlainTry.{PlainTry}
pub use Rattle.shr_base.specs.declared.walks.PlainWalk.{PlainWalk}
pub use Rattle.shr_base.specs.Walks.{WalkRecord}
pub use Rattle.shr_audit_formed.proofs.Eachs.{all_at, each_all, each_more, fails, more_at}
pub use Rattle.shr_audit_formed.specs.Each.{EachItem}
pub use Rattle.shr_model.proofs.Lists.{zero_more}
pub use Rattle.shr_model.specs.Commands.{is_put}
pub use Rattle.shr_laws.specs.Parts.{EachAttempt}
pub use Rattle.shr_laws.specs.UnitParts.{EachPlain, EachTry, pass_in, plain_in, pool_place}
pub use Rattle.shr_laws.specs.declared.report.Report.{Report}
pub use Rattle.shr_audit_reasons.specs.Counted.{AreCounted, IsCapped, closed_of, is_of_kind, worker_uses}
pub use Rattle.shr_audit_reasons.specs.Passes.{IsEndSpent, IsRunCaused, IsTryCaused, IsTrySpent}
