-- SPDX-License-Identifier: GPL-2.0-only
-- The names that the proofs of this crate cite most, passed on from one place. Declares nothing.
pub use Rattle.std.proofs.Common.{Bool, List, None, Option, Some, [], add_comm, ap, arith, false, get_or, inl, inr, length, map, refl, slice_get, subst, sym, true, ℕ, ◌+◌, ◌-◌, ◌<◌, ◌^◌, ◌∙◌, ◌∷◌, ◌≡◌, ◌≤◌, ◌⊎◌}
pub use Rattle.std.proofs.lemmas.Bool.{cases_order}
pub use Rattle.shr_audit_causes.proofs.Few.{few_commands, few_workers, is_tree}
pub use Rattle.shr_base.specs.declared.scripts.Script.{Script}
pub use Rattle.shr_base.specs.declared.scripts.WorkerScript.{WorkerScript}
pub use Rattle.shr_audit_text.specs.Draft.{kept, with_said}
pub use Rattle.shr_audit_text.specs.Reading.{nothing_read}
pub use Rattle.shr_laws.specs.Lawful.{IsLawful}
pub use Rattle.shr_laws.specs.Replies.{AreRepliesLawful}
pub use Rattle.shr_laws.specs.declared.report.Report.{Report}
pub use Rattle.shr_script.specs.Content.{Content, IsValid, content_of}
pub use Rattle.shr_script.specs.Spelling.{IsSpelling}
pub use Rattle.shr_script.specs.Faults.{IsFault}
pub use Rattle.shr_audit.specs.Script.{IsScriptOf, IsTightScript, IsTightWorker, tight_script, tight_worker}
pub use Rattle.shr_audit.specs.Verdict.{AreTextsOf, Holds, HoldsOf, IsFirstBroken, law_number}
pub use Rattle.shr_audit.specs.declared.verdict.Law.{Law}
pub use Rattle.shr_audit.specs.declared.verdict.Verdict.TheVariants.{BadReport, BadScript, Lawful, Unlawful}
