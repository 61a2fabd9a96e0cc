-- SPDX-License-Identifier: GPL-2.0-only
use Rattle.std.proofs.Common.{refl, rules}
use Rattle.shr_list.specs.Answers.{drain_entry}
use Rattle.shr_list.proofs.Keeping.{kept_taken}
use Rattle.shr_list.proofs.Slots.{keys_none}
use Rattle.shr_list.proofs.list.List.drain.Goals as goal

pub invariant_of-self-2 : goal.invariant_of-self-2
invariant_of-self-2 c =
    kept_taken _ _ _ _ (drain_entry c.args.self.now c.args.by) c.self.invariant (search rules) (search rules) (search rules) (search rules) refl refl

pub returns : goal.returns
returns c =
    let none = keys_none c.args.self.now.keys c.args.self.now.items c.take_all.new.self.objects.keys in
    search rules
