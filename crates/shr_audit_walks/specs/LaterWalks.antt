-- SPDX-License-Identifier: GPL-2.0-only
-- The walks of a worker, as a well formed report has them. No public clause cites this.
use Rattle.std.specs.Prelude.{ℕ, ◌<◌, ◌≤◌, List}
use Rattle.shr_base.specs.Walks.{WalkRecord}
use Rattle.shr_audit_formed.specs.Each.{Adjacent, EachItem}

-- walks stand in the order of their commands, each of which is among so many that are answered
pub record AreOfAnswers (answers : ℕ) (walks : List WalkRecord) : Type 0 where
  pub order : Adjacent (λ (x y : WalkRecord). x.by.command ≤ y.by.command) walks
  pub answered : EachItem (λ (w : WalkRecord). w.by.command < answers) walks
