-- SPDX-License-Identifier: GPL-2.0-only
use Rattle.shr_list.proofs.Common.{◌+◌, ◌<◌, length, take, drop, arith, rules, subst, Object, GainsName, KeepsFound, AreStrangers, name_by}
use Rattle.shr_list.proofs.Walks.{here, is_at, past}
use Rattle.shr_list.proofs.Splicing.{admits_one, withdrawn}
use Rattle.shr_list.proofs.queue.splicing.enlist.Goals as goal

pub object-object-requires : goal.object-object-requires
object-object-requires c =
    let nodes = c.args.other.now.nodes in
    let met = c.loop-met.met in
    is_at nodes met c.in-Some.node (here nodes met c.in-Some.node (search rules))

pub next-at-requires : goal.next-at-requires
next-at-requires c =
    let nodes = c.args.other.now.nodes in
    let met = c.loop-met.met in
    is_at nodes met c.in-Some.node (here nodes met c.in-Some.node (search rules))

pub returns-in-Err-clause-kept : goal.returns-in-Err-clause-kept
returns-in-Err-clause-kept c =
    let keeps : KeepsFound c.loop-met.names c.put.new.self = search rules in
    withdrawn c.loop-met.names c.put.new.self c.withdraw.new.names c.args.links.now.nodes (take c.loop-met.met c.args.other.now.nodes) c.loop-met.invariant.so_far keeps c.withdraw.ensures

pub loop-met-preserved : goal.loop-met-preserved
loop-met-preserved c =
    let kids = c.args.other.now.nodes in
    let met = c.loop-met.met in
    let now = here kids met c.in-Some.node (search rules) in
    let object = c.object-object.ensures _ now.object _ now.split in
    let strangers : AreStrangers c.args.links.now.nodes kids = c.requires.strangers in
    let put : GainsName c.loop-met.names c.put.new.self (name_by c.object-object.result.now) c.in-Some.node = search rules in
    let gains = subst (λ (o : Object). GainsName c.loop-met.names c.put.new.self (name_by o) c.in-Some.node) object put in
    record {
      at = c.next-at.ensures _ now.object _ now.split;
      so_far =
          rw now.more
          (admits_one c.loop-met.names c.put.new.self c.args.links.now.nodes kids (take met kids) (drop (met + 1) kids) c.in-Some.node now.object now.split strangers.fresh strangers.others
          c.loop-met.invariant.so_far gains);
    }

pub returns-in_default : goal.returns-in_default
returns-in_default c =
    let few = past c.args.other.now.nodes c.loop-met.met (search rules) in
    let within : c.loop-met.met < length c.args.other.now.nodes = search rules in
    absurd (omega (arith, few, within))
