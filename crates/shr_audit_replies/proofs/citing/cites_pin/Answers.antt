-- SPDX-License-Identifier: GPL-2.0-only
use Rattle.shr_audit_replies.proofs.Common.{Pin, journals_of, serial_of}
use Rattle.shr_audit_replies.proofs.Deciding.{cites_same, cites_none}
use Rattle.shr_audit_replies.proofs.citing.cites_pin.Goals as goal

pub returns-in-Some : goal.returns-in-Some
returns-in-Some c = cites_same (journals_of c.args.report.now) c.args.at c.args.tenant.id c.args.tenant.target.node c.in-Some.entry.now (Pin (serial_of c.args.tenant.worker c.args.tenant.command) c.args.tenant.target.group c.args.key.now c.args.pinned c.args.hit) c.is_pin.result c.in-Some.ensures c.is_pin.ensures

pub returns-in-None : goal.returns-in-None
returns-in-None c = cites_none (journals_of c.args.report.now) c.args.at c.args.tenant.id c.args.tenant.target.node (Pin (serial_of c.args.tenant.worker c.args.tenant.command) c.args.tenant.target.group c.args.key.now c.args.pinned c.args.hit) c.in-None.ensures
