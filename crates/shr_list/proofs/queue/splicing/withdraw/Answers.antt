-- SPDX-License-Identifier: GPL-2.0-only
use Rattle.shr_list.proofs.Common.{◌<◌, length, take, None, arith, rules, subst, Object, TurnsName, name_by}
use Rattle.shr_list.proofs.Walks.{here, is_at, past}
use Rattle.shr_list.proofs.Splicing.{withdraws_none, withdraws_one}
use Rattle.shr_list.proofs.queue.splicing.withdraw.Goals as goal

pub returns-in_default : goal.returns-in_default
returns-in_default c =
    let few = past c.args.links.now.nodes c.loop-met.met (search rules) in
    let within : c.loop-met.met < length c.args.links.now.nodes = search rules in
    absurd (omega (arith, few, within))

pub object-object-requires : goal.object-object-requires
object-object-requires c =
    let nodes = c.args.links.now.nodes in
    let met = c.loop-met.met in
    let now = here nodes met c.in-Some.node (search rules) in
    is_at nodes met c.in-Some.node now

pub next-at-requires : goal.next-at-requires
next-at-requires c =
    let nodes = c.args.links.now.nodes in
    let met = c.loop-met.met in
    let now = here nodes met c.in-Some.node (search rules) in
    is_at nodes met c.in-Some.node now

pub loop-met-preserved : goal.loop-met-preserved
loop-met-preserved c =
    let nodes = c.args.links.now.nodes in
    let met = c.loop-met.met in
    let now = here nodes met c.in-Some.node (search rules) in
    let object = c.object-object.ensures _ now.object _ now.split in
    let turns : TurnsName c.loop-met.names c.remove.new.self (name_by now.object) None = subst (λ (o : Object). TurnsName c.loop-met.names c.remove.new.self (name_by o) None) object c.remove.ensures in
    record {
      at = c.next-at.ensures _ now.object _ now.split;
      so_far = rw now.more (withdraws_one c.args.names.now c.loop-met.names c.remove.new.self (take met nodes) c.in-Some.node now.object c.loop-met.invariant.so_far turns);
    }

pub loop-met-init : goal.loop-met-init
loop-met-init c = record { at = search rules; so_far = withdraws_none c.args.names.now }
