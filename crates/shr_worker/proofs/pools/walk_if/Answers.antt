-- SPDX-License-Identifier: GPL-2.0-only
use Rattle.shr_worker.proofs.Common.{◌<◌, ◌∷◌, [], Bool, List, ap, length, length-append, refl, sym, subst, arith, Setting, PlainState, PlainSeated, Sizes, Acting, WalksIf}
use Rattle.shr_plain.specs.Walks.{PlainWalkGives}
use Rattle.shr_worker.proofs.Pooled.{of_script, node_there}
use Rattle.shr_worker.proofs.pools.walk_if.Goals as goal

pub walk_plain-requires-clause-node : goal.walk_plain-requires-clause-node
walk_plain-requires-clause-node g c = subst (λ (q : PlainSeated). c.args.node < q.pools.sizes.nodes) (sym c.reserve_walk.ensures.rest) (node_there c.args.worker.now.shared.script c.args.plain.now.pools c.requires.pools c.args.node c.requires.node)

pub returns-clause-few : goal.returns-clause-few
returns-clause-few g c = let w = c.walk_plain.ensures.walked.did in let more = ap (λ (s : PlainState). length s.walks) w.state in
    let same = ap (λ (q : PlainSeated). length q.state.walks) c.reserve_walk.ensures.rest in let one = length-append c.reserve_walk.new.self.state.walks (w.walk ∷ []) in omega (arith, more, same, one)

pub returns-then-not-due-clause-walks : goal.returns-then-not-due-clause-walks
returns-then-not-due-clause-walks g c = let s = c.args.plain.now.state in subst (λ (b : Bool). WalksIf b c.args.worker.now.shared.script c.args.worker.now.by c.args.node c.args.priority s s) (sym c.if-not-due.true) refl

pub returns-clause-walks : goal.returns-clause-walks
returns-clause-walks g c = let s = c.args.worker.now.shared.script in let p = c.args.plain.now.pools in let node = c.args.node in let before = c.args.plain.now.state in let after = c.walk_plain.new.self.state in
    subst (λ (b : Bool). WalksIf b s c.args.worker.now.by node c.args.priority before after) (sym c.if-not-due.false)
    (record {
      answer = c.walk_plain.result;
      walked = of_script s p c.requires.pools (λ (l : List Setting) (z : Sizes). PlainWalkGives l z c.args.worker.now.by node c.args.priority c.walk_plain.result before after)
          (subst (λ (w : Acting). PlainWalkGives p.settings.items p.sizes w.by node c.args.priority c.walk_plain.result before after) c.worker.view_is
          (subst (λ (q : PlainSeated). PlainWalkGives q.pools.settings.items q.pools.sizes c.worker.inside.by node c.args.priority c.walk_plain.result q.state after) c.reserve_walk.ensures.rest c.walk_plain.ensures.walked.did));
    })
