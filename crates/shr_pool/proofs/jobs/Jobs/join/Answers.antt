-- SPDX-License-Identifier: GPL-2.0-only
use Rattle.shr_pool.proofs.Common.{ap, sym, subst, ◌∙◌, IsWhole, total, PassView, ArePopped, IsQueueShown, SweepItem, ◌≡◌, List}
use Rattle.shr_pool.proofs.Working.{worked}
use Rattle.shr_pool.proofs.Once.{each_once}
use Rattle.shr_pool.proofs.Keeping.{merges, shown}
use Rattle.shr_pool.proofs.jobs.Jobs.join.Goals as goal

pub absorb-requires-clause-rule : goal.absorb-requires-clause-rule
absorb-requires-clause-rule c = merges _ _ _ _ c.requires.first.1 c.requires.first.0.here c.requires.pass.1 c.requires.pass.0.here

pub learn_as-requires-clause-rule : goal.learn_as-requires-clause-rule
learn_as-requires-clause-rule c = let e = c.absorb.ensures.rule in shown _ _ (ap (λ (v : PassView). v.standing.first) e ∙ c.requires.first.1) (ap (λ (v : PassView). v.standing.gone) e ∙ c.requires.first.0.here)

-- what the first pass popped, once all are joined
popped_all : (old new : PassView) → new ≡ old → (items : List SweepItem) → IsQueueShown old items → IsWhole new.standing → ArePopped new
popped_all old new same items shown whole = let gone = shown (subst (λ (v : PassView). IsWhole v.standing) same whole) in record {
  gone = gone.0;
  left = items;
  line = ap (λ (v : PassView). v.pushed) same ∙ gone.1;
  same = λ h. gone.2 h ∙ ap (λ (v : PassView). total h v.popped) (sym same);
}

pub returns-clause-popped : goal.returns-clause-popped
returns-clause-popped c = let told = c.learn_as.ensures.rule in popped_all _ _ c.learn_as.ensures.queue.1 told.0 told.1

pub returns-clause-worked : goal.returns-clause-worked
returns-clause-worked c nodes groups whole full = let told = c.learn_as.ensures.rule in worked nodes groups _ full (popped_all _ _ c.learn_as.ensures.queue.1 told.0 told.1 whole)

pub returns-clause-once : goal.returns-clause-once
returns-clause-once c nodes groups whole full = let told = c.learn_as.ensures.rule in each_once nodes groups _ (worked nodes groups _ full (popped_all _ _ c.learn_as.ensures.queue.1 told.0 told.1 whole))
