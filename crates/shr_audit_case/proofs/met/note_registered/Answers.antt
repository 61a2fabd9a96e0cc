-- SPDX-License-Identifier: GPL-2.0-only
use Rattle.shr_audit_case.proofs.RegistrationsCommon.{List, ◌∷◌, sym, subst, ◌∙◌, Registered, Span, AreNoted}
use Rattle.shr_audit_case.proofs.Noting.{noted_registered}
use Rattle.shr_audit_case.proofs.met.note_registered.Goals as goal

pub returns : goal.returns
returns c = λ es h.
    subst (λ (xs : List Span). AreNoted (Registered c.args.decl c.args.id c.args.from ∷ es) xs c.args.ends.now) (sym c.in_ok-push.ensures.items)
    (noted_registered c.args.decl c.args.id c.args.from es c.args.spans.now.items c.args.ends.now c.copied-to.result c.span_of-span.result (c.copied-to.ensures ∙ c.get.ensures.value) c.span_of-span.ensures.of c.span_of-span.ensures.lookups h)
