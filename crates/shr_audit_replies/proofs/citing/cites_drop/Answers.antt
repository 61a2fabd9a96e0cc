-- SPDX-License-Identifier: GPL-2.0-only
use Rattle.shr_audit_replies.proofs.Common.{Drop, journals_of, serial_of}
use Rattle.shr_audit_replies.proofs.Deciding.{cites_same, cites_none}
use Rattle.shr_audit_replies.proofs.citing.cites_drop.Goals as goal

pub returns-in-Some : goal.returns-in-Some
returns-in-Some c = cites_same (journals_of c.args.report.now) c.args.at c.args.tenant.id c.args.tenant.target.node c.in-Some.entry.now (Drop (serial_of c.args.tenant.worker c.args.tenant.command) c.args.tenant.target.group c.args.key.now c.args.kind) c.is_drop.result c.in-Some.ensures c.is_drop.ensures

pub returns-in-None : goal.returns-in-None
returns-in-None c = cites_none (journals_of c.args.report.now) c.args.at c.args.tenant.id c.args.tenant.target.node (Drop (serial_of c.args.tenant.worker c.args.tenant.command) c.args.tenant.target.group c.args.key.now c.args.kind) c.in-None.ensures
