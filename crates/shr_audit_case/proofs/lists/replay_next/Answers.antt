-- SPDX-License-Identifier: GPL-2.0-only
use Rattle.std.proofs.Common.{length, refl}
use Rattle.std.proofs.lemmas.Option.{slice_get_read}
use Rattle.shr_audit_case.proofs.Replaying.{next_replayed, left_after}
use Rattle.shr_audit_case.proofs.lists.replay_next.Goals as goal

pub returns-clause-replayed : goal.returns-clause-replayed
returns-clause-replayed c = next_replayed c.args.parents.now c.args.ends.now c.args.k c.index-ends-k.result c.renew.new.node.items c.in_ok-replayed.replayed c.requires.tree
    (slice_get_read c.args.ends.now (length c.args.ends.now) c.args.k c.index-ends-k.result refl c.requires.there c.index-ends-k.is) c.in_ok-renew.ensures c.in_ok-replayed.ensures.taken c.in_ok-replayed.ensures.alone

pub returns-clause-left : goal.returns-clause-left
returns-clause-left c = left_after c.args.parents.now c.args.ends.now c.args.k c.index-ends-k.result c.renew.new.node.items c.take_replay.new.node.items
    (slice_get_read c.args.ends.now (length c.args.ends.now) c.args.k c.index-ends-k.result refl c.requires.there c.index-ends-k.is) c.in_ok-renew.ensures c.in_ok-replayed.ensures.others
