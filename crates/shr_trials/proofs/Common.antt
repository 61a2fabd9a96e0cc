-- SPDX-License-Identifier: GPL-2.0-only
-- The names that the proofs of this crate cite most, passed on from one place. Declares nothing.
pub use Rattle.std.proofs.Common.{Bool, List, ap, subst, ℕ, ◌∙◌, ◌≡◌, ◌≤◌}
pub use Rattle.std.specs.Option.{IsSome, is_some}
pub use Rattle.std.specs.Prelude.{None, Option}
pub use Rattle.shr_base.specs.declared.journals.TreeEntry.{TreeEntry}
pub use Rattle.shr_model.specs.TreeJournal.{begin_of}
pub use Rattle.shr_trials.specs.Calm.{IsCalm, StaysCalm}
