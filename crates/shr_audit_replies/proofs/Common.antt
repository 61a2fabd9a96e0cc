-- SPDX-License-Identifier: GPL-2.0-only
-- The names that the proofs of this crate cite most, passed on from one place. Declares nothing.
pub use Rattle.std.proofs.Common.{Bool, List, None, Option, Some, [], ap, arith, below_more, drop, false, get_or, inl, inr, length, length-append, lit<, map, refl, slice_get, subst, suc, sym, take, true, zero, ℕ, ◌++◌, ◌+◌, ◌-◌, ◌<◌, ◌∙◌, ◌∷◌, ◌≡◌, ◌≤◌}
pub use Rattle.std.proofs.lemmas.Bool.Decides.{nat_tests}
pub use Rattle.std.proofs.lemmas.Option.{get_or_from_slice_get, none-some, slice_get_cases, slice_get_past, slice_get_read, slice_get_within}
pub use Rattle.std.specs.Bool.{Decides}
pub use Rattle.std.specs.Prelude.{codes, option_and_then, option_map, ◌==◌, ◌↔◌}
pub use Rattle.shr_base.specs.declared.ends.PlaceEnd.{PlaceEnd}
pub use Rattle.shr_base.specs.declared.ends.WorkerPart.{WorkerPart}
pub use Rattle.shr_base.specs.declared.journals.Entry.{Entry}
pub use Rattle.shr_base.specs.declared.journals.Entry.TheVariants.{Add, Drop, Look, Pin}
pub use Rattle.shr_base.specs.declared.places.At.{At}
pub use Rattle.shr_base.specs.declared.places.Serial.{Serial}
pub use Rattle.shr_base.specs.declared.replies.Answered.{Answered}
pub use Rattle.shr_base.specs.declared.replies.Reply.{Reply}
pub use Rattle.shr_base.specs.declared.scripts.CacheDecl.{CacheDecl}
pub use Rattle.shr_base.specs.declared.scripts.Act.TheVariants.{Del, Get, SetPin}
pub use Rattle.shr_base.specs.declared.scripts.Command.{Command}
pub use Rattle.shr_base.specs.declared.scripts.Command.TheVariants.{On, Put}
pub use Rattle.shr_base.specs.declared.scripts.GroupDecl.{GroupDecl}
pub use Rattle.shr_base.specs.declared.scripts.PoolDecl.{PoolDecl}
pub use Rattle.shr_base.specs.declared.scripts.Script.{Script}
pub use Rattle.shr_audit_case.specs.Each.{EachFirst}
pub use Rattle.shr_audit_case.specs.Places.{IsFirst}
pub use Rattle.shr_audit_formed.proofs.Eachs.{all_at, below_of, clash, fails, more_at}
pub use Rattle.shr_model.specs.Families.{Family}
pub use Rattle.shr_model.specs.Tenants.{by_of}
pub use Rattle.shr_laws.specs.Parts.{EachAnswer, answer_at, answers_in, answers_of, at, cited_at, cited_by, command_at, commands_of, id_found, journals_of, parents_of, reply_at, serial_of}
pub use Rattle.shr_laws.specs.ReplyTable.{Cites, IsReply, LendsValue}
pub use Rattle.shr_laws.specs.declared.report.Report.{Report}
pub use Rattle.shr_audit_replies.specs.Answers.{AreAnswered, AreValuesLent, IsAnswered, MayReply}
pub use Rattle.shr_audit_replies.specs.Cited.{AreEntriesCited, AreJournalsRising, AreCommandsRising, IsCited}
pub use Rattle.shr_audit_replies.specs.Heads.{AreLastSwept, HasAnswers, HasNames, HasPaths, HasPoolNames, HasSizes, AllHaveAnswers, IsLastSwept}
pub use Rattle.shr_audit_replies.specs.Law.{AreRepliesLawfulButValues, HasHeads}
pub use Rattle.shr_audit_replies.specs.Rising.{AreOfEarlierJournals, GoesOnBy, IsAfter, last_of_worker, no_last, noted_by}
pub use Rattle.shr_audit_replies.specs.declared.rising.Last.{Last}
pub use Rattle.shr_model.proofs.Lists.{some_injective}
