-- SPDX-License-Identifier: GPL-2.0-only
use Rattle.shr_audit.specs.declared.verdict.Law.TheVariants as laws
use Rattle.shr_audit.proofs.Order.{decided}
use Rattle.shr_audit.proofs.Premises.{few_groups, few_of_each, few_pools, some_node}
use Rattle.shr_audit.proofs.asked.is_held.Goals as goal
use Rattle.shr_audit_causes.proofs.Few.{few_commands, few_workers, is_tree}

pub are_journals_lawful-requires-clause-tree : goal.are_journals_lawful-requires-clause-tree
are_journals_lawful-requires-clause-tree c = is_tree c.args.script.now c.requires.valid

pub are_journals_lawful-requires-clause-few : goal.are_journals_lawful-requires-clause-few
are_journals_lawful-requires-clause-few c = few_groups c.args.script.now c.requires.valid

pub are_walks_lawful-requires-clause-tree : goal.are_walks_lawful-requires-clause-tree
are_walks_lawful-requires-clause-tree c = is_tree c.args.script.now c.requires.valid

pub are_walks_lawful-requires-clause-groups : goal.are_walks_lawful-requires-clause-groups
are_walks_lawful-requires-clause-groups c = few_groups c.args.script.now c.requires.valid

pub are_walks_lawful-requires-clause-nodes : goal.are_walks_lawful-requires-clause-nodes
are_walks_lawful-requires-clause-nodes c = some_node c.args.script.now c.requires.valid

pub are_walks_lawful-requires-clause-few : goal.are_walks_lawful-requires-clause-few
are_walks_lawful-requires-clause-few c = few_of_each c.args.script.now c.requires.valid

pub are_charges_lawful-requires-clause-tree : goal.are_charges_lawful-requires-clause-tree
are_charges_lawful-requires-clause-tree c = is_tree c.args.script.now c.requires.valid

pub are_charges_lawful-requires-clause-few : goal.are_charges_lawful-requires-clause-few
are_charges_lawful-requires-clause-few c = record { few = few_workers c.args.script.now c.requires.valid; short = few_commands c.args.script.now c.requires.valid }

pub are_pools_lawful-requires-clause-pools : goal.are_pools_lawful-requires-clause-pools
are_pools_lawful-requires-clause-pools c = few_pools c.args.script.now c.requires.valid

pub is_sweep_lawful-requires-clause-few : goal.is_sweep_lawful-requires-clause-few
is_sweep_lawful-requires-clause-few c = few_groups c.args.script.now c.requires.valid

pub returns-in-Replies : goal.returns-in-Replies
returns-in-Replies c = decided c.args.law laws.Replies c.args.script.now c.args.report.now c.are_replies_held.result c.in-Replies.is c.are_replies_held.ensures

pub returns-in-Journals : goal.returns-in-Journals
returns-in-Journals c = decided c.args.law laws.Journals c.args.script.now c.args.report.now c.are_journals_lawful.result c.in-Journals.is c.are_journals_lawful.ensures

pub returns-in-Bag : goal.returns-in-Bag
returns-in-Bag c = decided c.args.law laws.Bag c.args.script.now c.args.report.now c.is_bag_lawful.result c.in-Bag.is c.is_bag_lawful.ensures

pub returns-in-Walks : goal.returns-in-Walks
returns-in-Walks c = decided c.args.law laws.Walks c.args.script.now c.args.report.now c.are_walks_lawful.result c.in-Walks.is c.are_walks_lawful.ensures

pub returns-in-Lookups : goal.returns-in-Lookups
returns-in-Lookups c = decided c.args.law laws.Lookups c.args.script.now c.args.report.now c.are_lookups_lawful.result c.in-Lookups.is c.are_lookups_lawful.ensures

pub returns-in-Charges : goal.returns-in-Charges
returns-in-Charges c = decided c.args.law laws.Charges c.args.script.now c.args.report.now c.are_charges_lawful.result c.in-Charges.is c.are_charges_lawful.ensures

pub returns-in-Deferred : goal.returns-in-Deferred
returns-in-Deferred c = decided c.args.law laws.Deferred c.args.script.now c.args.report.now c.is_deferred_lawful.result c.in-Deferred.is c.is_deferred_lawful.ensures

pub returns-in-Bits : goal.returns-in-Bits
returns-in-Bits c = decided c.args.law laws.Bits c.args.script.now c.args.report.now c.are_bits_lawful.result c.in-Bits.is c.are_bits_lawful.ensures

pub returns-in-Causes : goal.returns-in-Causes
returns-in-Causes c = decided c.args.law laws.Causes c.args.script.now c.args.report.now c.are_causes_lawful.result c.in-Causes.is c.are_causes_lawful.ensures

pub returns-in-Pools : goal.returns-in-Pools
returns-in-Pools c = decided c.args.law laws.Pools c.args.script.now c.args.report.now c.are_pools_lawful.result c.in-Pools.is c.are_pools_lawful.ensures

pub returns-in-Isolations : goal.returns-in-Isolations
returns-in-Isolations c = decided c.args.law laws.Isolations c.args.script.now c.args.report.now c.are_isolations_lawful.result c.in-Isolations.is c.are_isolations_lawful.ensures

pub returns-in-Sweep : goal.returns-in-Sweep
returns-in-Sweep c = decided c.args.law laws.Sweep c.args.script.now c.args.report.now c.is_sweep_lawful.result c.in-Sweep.is c.is_sweep_lawful.ensures
