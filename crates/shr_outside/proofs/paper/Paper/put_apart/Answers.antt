-- SPDX-License-Identifier: GPL-2.0-only
use Rattle.std.proofs.Common.{◌++◌, ◌∙◌, append_assoc}
use Rattle.shr_outside.specs.Paper.{IsLeft}
use Rattle.shr_outside.proofs.paper.Paper.put_apart.Goals as goal

pub returns-else-not-put : goal.returns-else-not-put
unfolding IsLeft
returns-else-not-put g c = (
  c.flush.ensures.kept.0,
  λ task left h. rw c.if-not-put.ensures.put (rw (append_assoc c.flush.new.self.page c.args.bytes.now left) (c.flush.ensures.kept.1 task (c.args.bytes.now ++ left) h)),
)

pub returns-then-not-put : goal.returns-then-not-put
unfolding IsLeft
returns-then-not-put g c = (
  c.flush.ensures.kept.0,
  λ task left h. rw (c.if-not-put.ensures.put ∙ c.flush.ensures.empty) (c.send-self.ensures.sent task left (rw c.flush.ensures.empty at (c.flush.ensures.kept.1 task (c.args.bytes.now ++ left) h))),
)
