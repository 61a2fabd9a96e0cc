-- SPDX-License-Identifier: GPL-2.0-only
use Rattle.std.proofs.Common.{arith}
use Rattle.shr_audit_pools.proofs.Lawed.{few_tries, versed_fails, walks_decided}
use Rattle.shr_audit_pools.proofs.pools.are_walks_right.Goals as goal

pub are_walks_lawful-requires-clause-small : goal.are_walks_lawful-requires-clause-small
are_walks_lawful-requires-clause-small c = let few = c.requires.well.few_parts in omega (arith, few)

pub are_all_versed-requires-clause-few : goal.are_all_versed-requires-clause-few
are_all_versed-requires-clause-few c = few_tries c.args.script.now c.args.report.now c.requires.pools (c.are_walks_lawful.ensures.0 c.if-not-are_walks_lawful.false)

pub are_words_right-requires-clause-few : goal.are_words_right-requires-clause-few
are_words_right-requires-clause-few c = few_tries c.args.script.now c.args.report.now c.requires.pools (c.are_walks_lawful.ensures.0 c.if-not-are_walks_lawful.false)

pub returns-then-not-branch : goal.returns-then-not-branch
returns-then-not-branch c = versed_fails c.args.script.now c.args.report.now c.in_ok-are_all_versed.field-0 c.in_ok-are_all_versed.ensures c.if-not-branch.true

pub returns : goal.returns
returns c =
    walks_decided c.args.script.now c.args.report.now c.in_ok-words.words (c.are_walks_lawful.ensures.0 c.if-not-are_walks_lawful.false) (c.are_walks_due.ensures.0 c.if-not-are_walks_due.false) (c.are_walks_of_commands.ensures.0 c.if-not-are_walks_of_commands.false)
    (c.in_ok-are_all_versed.ensures.0 c.if-not-branch.false) c.in_ok-words.ensures
