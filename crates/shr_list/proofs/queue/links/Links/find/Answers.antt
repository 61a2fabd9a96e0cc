-- SPDX-License-Identifier: GPL-2.0-only
use Rattle.shr_list.proofs.Common.{◌≡◌, true, false, ◌∙◌, rules, sym, is_named}
use Rattle.shr_list.proofs.Walks.{here, is_at, ahead_hit, ahead_miss}
use Rattle.shr_list.proofs.queue.links.Links.find.Goals as goal

pub has_name-requires : goal.has_name-requires
has_name-requires c = is_at c.args.self.now.nodes c.loop-met.met c.in-Some.node (here c.args.self.now.nodes c.loop-met.met c.in-Some.node (search rules))

pub returns-then-has_name : goal.returns-then-has_name
returns-then-has_name c =
    let now = here c.args.self.now.nodes c.loop-met.met c.in-Some.node (search rules) in
    let named : is_named c.args.birth c.args.key.now now.object ≡ true = sym (c.has_name.ensures _ now.object _ now.split) ∙ c.if-has_name.true in
    sym (c.loop-met.invariant.ahead ∙ ahead_hit c.args.birth c.args.key.now c.args.self.now.nodes c.loop-met.met c.in-Some.node now named)

pub next-at-requires : goal.next-at-requires
next-at-requires c = is_at c.args.self.now.nodes c.loop-met.met c.in-Some.node (here c.args.self.now.nodes c.loop-met.met c.in-Some.node (search rules))

pub loop-met-preserved : goal.loop-met-preserved
loop-met-preserved c =
    let now = here c.args.self.now.nodes c.loop-met.met c.in-Some.node (search rules) in
    let apart : is_named c.args.birth c.args.key.now now.object ≡ false = sym (c.has_name.ensures _ now.object _ now.split) ∙ c.if-has_name.false in
    record {
      at = c.next-at.ensures _ now.object _ now.split;
      ahead = c.loop-met.invariant.ahead ∙ ahead_miss c.args.birth c.args.key.now c.args.self.now.nodes c.loop-met.met c.in-Some.node now apart;
    }
