-- SPDX-License-Identifier: GPL-2.0-only
use Rattle.shr_core.proofs.Common.{slots_items, bits_in}
use Rattle.shr_core.proofs.Endings.{groups_none, groups_next}
use Rattle.shr_core.proofs.ending.add_groups.Goals as goal

pub loop-group-init : goal.loop-group-init
loop-group-init c = record { added = groups_none c.args.units c.args.node (bits_in c.args.sizes (slots_items c.args.ended.now.words)) c.args.maps.now.items; narrow = λ all. all }

pub loop-group-preserved : goal.loop-group-preserved
loop-group-preserved c = record {
  added = groups_next c.args.units c.loop-group.group c.args.node (bits_in c.args.sizes (slots_items c.args.ended.now.words)) c.args.maps.now.items c.loop-group.maps.items _ c.loop-group.invariant.added c.in_ok-add_group.ensures.added;
  narrow = λ all. c.in_ok-add_group.ensures.narrow (c.loop-group.invariant.narrow all);
}
