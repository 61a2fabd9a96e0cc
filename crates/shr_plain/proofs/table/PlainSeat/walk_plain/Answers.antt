-- SPDX-License-Identifier: GPL-2.0-only
use Rattle.shr_plain.proofs.Common.{◌≡◌, ℕ, ◌∷◌, ◌++◌, List, [], length, refl, ap, subst, ◌∙◌, arith, AreTried, ActsPlain, PlainSeated, PlainWalk, plain_seated}
use Rattle.std.specs.Prelude.{◌-◌}
use Rattle.shr_plain.proofs.Trying.{walk_acts}
use Rattle.shr_plain.proofs.table.PlainSeat.walk_plain.Goals as goal

pub returns : goal.returns
returns g c = let s = c.self-2.inside in let old = c.args.self.now in let mid = c.walk_pools-answer.new.self in let left = c.push.ensures.spare in
    let walk : PlainWalk = record { by = c.args.by; node = c.args.node; priority = c.args.priority; tries = c.walk_pools-answer.new.tries; answer = c.walk_pools-answer.result } in record {
      walked = walk_acts c.args.by c.args.node c.args.priority old mid _ walk refl refl refl
          (subst (λ (n : ℕ). ActsPlain (AreTried old.pools.settings.items old.pools.sizes c.args.by n c.args.node c.args.priority 0 walk.tries.items) old mid) (c.len.ensures ∙ ap (λ (x : PlainSeated). length x.state.walks) c.self.view_is) c.walk_pools-answer.ensures.tried)
          c.walk_pools-answer.ensures.answers
          (ap (λ (x : List PlainWalk × ℕ). record (plain_seated s.pools.now s.units s.deferred s.walks) { state = record (plain_seated s.pools.now s.units s.deferred s.walks).state { walks = x.0 }; spare = x.1 }) (λ i. (c.push.ensures.items i, (let less : c.push.new.self.spare ≡ s.walks.spare - 1 = omega (arith, left) in less) i))
          ∙ ap (λ (m : PlainSeated). record m { state = record m.state { walks = m.state.walks ++ walk ∷ [] }; spare = m.spare - 1 }) c.self-2.view_is);
    }
