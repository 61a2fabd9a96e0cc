-- SPDX-License-Identifier: GPL-2.0-only
-- The names that the proofs of this crate cite most, passed on from one place. Declares nothing.
pub use Rattle.std.proofs.Common.{Bool, List, None, Option, Some, [], ap, append_assoc, ap₂, arith, codes, cond, decimal, false, get_or, inl, inr, length, map, ne_eqb, refl, subst, suc, sym, true, zero, ℕ, ⊎_elim, ◌++◌, ◌<◌, ◌^◌, ◌||◌, ◌∙◌, ◌∷◌, ◌≡◌, ◌≤◌}
pub use Rattle.std.proofs.lemmas.Fmt.{decimal_digit, decimal_injective, first_decimal}
pub use Rattle.std.proofs.lemmas.Option.{none-some, same_Some}
pub use Rattle.std.proofs.lemmas.Slice.Eq.{bytes_eq-Decides}
pub use Rattle.std.specs.List.{AllByRecursion, list_any}
pub use Rattle.std.specs.Prelude.{bytes_eq, find, fold, if◌then◌else◌, option_and_then, option_map, string_bytes, unwrap_or}
pub use Rattle.clap.specs.Words.{IsAmong, Kinds, Row, Rule, Shape, Text, built, fault_of, first_of, first_value, found_of, is_simple, is_simple_and_free, kind_of, rows_of, subcommand_of, subcommand_rows_of}
pub use Rattle.shr_gen.specs.CommandLine.{IsPlainWord, audit_app, gen_app, has_hyphen, run_app, the_app}
pub use Rattle.shr_gen.specs.Forms.{AreAuditWords, AreGenWords, AreNoForm, AreRunWords, ReadsAs}
pub use Rattle.shr_gen.specs.declared.form.Form.{Form}
pub use Rattle.shr_gen.specs.declared.form.Form.TheVariants.{Audit, Gen, Run}
pub use lib.Pointwise.{bytes_decides}
