-- SPDX-License-Identifier: GPL-2.0-only
use Rattle.shr_audit_causes.proofs.BeganLaws.{upto_start}
use Rattle.shr_audit_causes.proofs.began.Began.start.Goals as goal

pub returns : goal.returns
returns c = upto_start c.args.report.now.pool.items c.args.count _ c.requires c.new-froms.ensures.items c.in_ok-idles.ensures c.in_ok-lasts.ensures
