-- SPDX-License-Identifier: GPL-2.0-only
use Rattle.shr_audit_case.proofs.RegistrationsCommon.{List, ◌∷◌, sym, subst, ◌∙◌, Registered, Span, AreLivesNoted}
use Rattle.shr_audit_case.proofs.Spanning.{lives_registered, of_is}
use Rattle.shr_audit_case.proofs.live.note_registered.Goals as goal

pub returns : goal.returns
returns c = λ es h.
    subst (λ (xs : List Span). AreLivesNoted c.args.at (Registered c.args.decl c.args.id c.args.from ∷ es) xs c.args.ends.now) (sym c.in_ok-push.ensures.items)
    (lives_registered c.args.at c.args.decl c.args.id c.args.from es c.args.spans.now.items c.args.ends.now c.copied-end.result c.live_span-span.result (c.copied-end.ensures ∙ c.get.ensures.value)
    (of_is c.args.decl c.args.from c.copied-end.result c.to_of-to.result c.live_span-span.result c.to_of-to.ensures c.live_span-span.ensures.of) c.live_span-span.ensures.entries h)
