-- SPDX-License-Identifier: GPL-2.0-only
use Rattle.shr_audit_fresh.proofs.Common.{List, ℕ, refl, sym, subst, Decides, pool_seen, serial_of, Reaches}
use Rattle.shr_audit_fresh.proofs.Answering.{of_answered, of_none}
use Rattle.shr_audit_fresh.proofs.own.pool_reaches_at.Goals as goal

pub returns-in-Some : goal.returns-in-Some
returns-in-Some c = subst (λ (ms : List ℕ). Decides c.pool_reaches.result (Reaches c.args.floor ms))
    (sym (of_answered c.args.report.now (serial_of c.args.worker c.args.number) pool_seen c.in-Some.answer.now c.in-Some.ensures)) c.pool_reaches.ensures

pub returns-in-None : goal.returns-in-None
returns-in-None c = (
  λ t. subst (Reaches c.args.floor) (sym (of_none c.args.report.now (serial_of c.args.worker c.args.number) pool_seen c.in-None.ensures)) tt,
  λ h. refl,
)
