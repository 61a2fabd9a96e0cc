-- SPDX-License-Identifier: GPL-2.0-only
use Rattle.shr_audit_reasons.proofs.cites.begun.Goals as goal

pub returns : goal.returns
returns c = λ group. (λ h. (c.offlined.ensures group).0 h.0, λ e. ((c.offlined.ensures group).1 e, c.may_have_begun.ensures.0 c.if-not-may_have_begun.false))
