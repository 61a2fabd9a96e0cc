-- SPDX-License-Identifier: GPL-2.0-only
use Rattle.std.proofs.Common.{arith}
use Rattle.shr_audit_causes.proofs.OfflineRowLaws.{alone_decided, spliced_here}
use Rattle.shr_audit_causes.proofs.offline_rows.is_alone.Goals as goal

pub returns-then-index : goal.returns-then-index
returns-then-index c = let few = c.ranges.group in spliced_here c.args.script.now c.args.report.now c.args.notes.now c.requires c.args.worker c.args.group (omega (arith, few)) c.index.result.now c.index.ensures c.if-index.true

pub returns : goal.returns
returns c = let few = c.ranges.group in alone_decided c.args.script.now c.args.report.now c.args.notes.now c.requires c.args.worker c.args.group (omega (arith, few)) c.index.result.now c.index-2.result.now c.is_only.result c.index.ensures c.if-index.false c.index-2.ensures c.is_only.ensures
