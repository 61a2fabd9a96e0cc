-- SPDX-License-Identifier: GPL-2.0-only
use Rattle.std.proofs.Common.{refl, rules}
use Rattle.shr_list.specs.Answers.{add_entry}
use Rattle.shr_list.proofs.Keeping.{kept_taken}
use Rattle.shr_list.proofs.list.List.add.Goals as goal
use Rattle.shr_list.proofs.list.List.add.Goals.{then-added, else-added}

pub invariant_of-self-2 : goal.invariant_of-self-2
invariant_of-self-2 c =
    elim c.if-added.branch [
      | then-added w ↦ kept_taken _ _ _ _ (add_entry c.args.self.now c.args.object) c.self.invariant (search rules) (search rules) (search rules) (search rules) refl refl
      | else-added w ↦ kept_taken _ _ _ _ (add_entry c.args.self.now c.args.object) c.self.invariant (search rules) (search rules) (search rules) (search rules) refl refl
    ]
