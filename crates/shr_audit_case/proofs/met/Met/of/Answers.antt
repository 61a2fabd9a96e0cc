-- SPDX-License-Identifier: GPL-2.0-only
use Rattle.shr_audit_case.proofs.RegistrationsCommon.{List, ap, ◌∙◌, Span, decl_found, lookup_key, last_in}
use Rattle.shr_audit_case.proofs.met.Met.of.Goals as goal

pub returns : goal.returns
returns c = record {
  rising = c.in_ok-steps.ensures.rising;
  each = λ id number few. ap decl_found (c.in_ok-steps.ensures.each (lookup_key id number) ∙ ap (λ (xs : List Span). last_in xs (lookup_key id number)) c.as_slice.ensures.value) ∙ c.in_ok-spans.ensures id number few;
}
