-- SPDX-License-Identifier: GPL-2.0-only
use Rattle.std.proofs.Common.{length-append, rules}
use Rattle.shr_list.proofs.Keeping.{kept_moved, kept_closed}
use Rattle.shr_list.proofs.list.List.close_into.Goals as goal

pub invariant_of-self-2 : goal.invariant_of-self-2
invariant_of-self-2 c = kept_closed _ _ _ _ c.self.invariant (search rules) (search rules) (search rules)

pub invariant_of-parent-2 : goal.invariant_of-parent-2
invariant_of-parent-2 c =
    let joined = length-append c.args.self.now.items c.parent.inside.contents.objects.items in
    kept_moved _ _ _ _ c.args.self.now.items c.args.child c.parent.invariant (search rules) (search rules) (search rules) (search rules)
