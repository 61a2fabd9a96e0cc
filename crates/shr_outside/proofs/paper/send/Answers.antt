-- SPDX-License-Identifier: GPL-2.0-only
use Rattle.shr_outside.proofs.Sending.{sent}
use Rattle.shr_outside.proofs.paper.send.Goals as goal

pub returns : goal.returns
returns g c = record {
  sent = rw c.if-failed.false (sent _ _ _ _ _ _ c.write_all.ensures.output c.write_all.ensures.later);
}
