-- SPDX-License-Identifier: GPL-2.0-only
use Rattle.std.proofs.Common.{refl}
use Rattle.shr_audit_reasons.proofs.Behinds.{none_behind, none_yet}
use Rattle.shr_audit_reasons.proofs.behind.behinds_of.Goals as goal

pub loop-n-init : goal.loop-n-init
loop-n-init c = record {
  lasts = none_behind c.args.pool.now 65536 c.in_ok-lasts.lasts.items refl c.in_ok-lasts.ensures;
  behinds = none_yet c.args.pool.now c.new-behinds.result.items c.new-behinds.ensures.items;
}
