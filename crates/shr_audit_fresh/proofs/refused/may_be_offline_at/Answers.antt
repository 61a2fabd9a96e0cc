-- SPDX-License-Identifier: GPL-2.0-only
use Rattle.shr_audit_fresh.proofs.Common.{Option, sym, subst, Decides, IsSomeAnd, Reply, MayBeOffline, serial_of}
use Rattle.shr_audit_fresh.proofs.Answering.{reply_answered, reply_none}
use Rattle.shr_audit_fresh.proofs.refused.may_be_offline_at.Goals as goal

pub returns-in-Some : goal.returns-in-Some
returns-in-Some c = subst (λ (o : Option Reply). Decides c.may_be_offline.result (IsSomeAnd o MayBeOffline))
    (sym (reply_answered c.args.report.now (serial_of c.args.worker c.args.number) c.in-Some.answer.now c.in-Some.ensures)) c.may_be_offline.ensures

pub returns-in-None : goal.returns-in-None
returns-in-None c = (λ t. absurd cc, λ h. absurd (subst (λ (o : Option Reply). IsSomeAnd o MayBeOffline) (reply_none c.args.report.now (serial_of c.args.worker c.args.number) c.in-None.ensures) h))
