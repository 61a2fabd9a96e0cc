-- SPDX-License-Identifier: GPL-2.0-only
use Rattle.shr_audit_case.proofs.RegistrationsCommon.{List, ap, ◌∙◌, Span, lookup_key, last_in}
use Rattle.shr_audit_case.proofs.Living.{live_is}
use Rattle.shr_audit_case.proofs.live.Lives.of.Goals as goal

pub returns : goal.returns
returns c = λ ids decls h. record {
  rising = c.in_ok-steps.ensures.rising;
  each = λ id entry few le. c.in_ok-steps.ensures.each (lookup_key id entry) ∙ ap (λ (xs : List Span). last_in xs (lookup_key id entry)) c.as_slice.ensures.value ∙ c.in_ok-spans.ensures id entry few
      ∙ live_is ids decls id entry c.args.pool.now h le;
}
