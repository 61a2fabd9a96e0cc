-- SPDX-License-Identifier: GPL-2.0-only
use Rattle.shr_audit_replies.proofs.Common.{On, Put, Some, Decides, IsReply, MayReply, subst}
use Rattle.shr_audit_replies.specs.declared.entries.Tenant.{Tenant}
use Rattle.shr_laws.specs.Parts.{journals_of, serial_of}
use Rattle.shr_audit_replies.proofs.citing.may_held.Goals as goal

pub returns-in-Put : goal.returns-in-Put
returns-in-Put c = λ parents. rw c.in-Put.is (subst (λ (t : Tenant). Decides c.put_held.result (IsReply parents (journals_of c.args.report.now) (serial_of t.worker t.command) (Put t.target c.in-Put.key c.in-Put.value) (Some t.id) c.args.reply.now)) c.tenant_of-tenant.ensures (c.put_held.ensures parents))

pub returns-in-On : goal.returns-in-On
returns-in-On c = λ parents. rw c.in-On.is (subst (λ (t : Tenant). Decides c.on_held.result (MayReply parents (journals_of c.args.report.now) (serial_of t.worker t.command) (On t.target c.in-On.key c.in-On.act) (Some t.id) c.args.reply.now)) c.tenant_of-tenant-in-On.ensures (c.on_held.ensures parents))

pub returns-in-Isolate : goal.returns-in-Isolate
returns-in-Isolate c = λ parents. rw c.in-Isolate.is (c.isolate_held.ensures parents (journals_of c.args.report.now) (serial_of c.args.worker c.args.number) c.in-Isolate.at c.in-Isolate.budget c.args.id)
