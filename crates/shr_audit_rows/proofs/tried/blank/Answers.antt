-- SPDX-License-Identifier: GPL-2.0-only
use Rattle.shr_audit_rows.proofs.TriedLaws.{tries_none}
use Rattle.shr_audit_rows.proofs.tried.blank.Goals as goal

pub returns : goal.returns
returns c = tries_none c.args.count c.no_tried-tried.result c.in_ok-counts.counts.items c.requires c.in_ok-counts.ensures c.no_tried-tried.ensures
