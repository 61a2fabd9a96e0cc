-- SPDX-License-Identifier: GPL-2.0-only
use Rattle.shr_audit_text.proofs.Common.{◌≡◌, ◌∷◌, [], ◌++◌, List, map, ap, ◌∙◌, Answered, WorkerPart, kept, with_more, with_last, drafted_part, replied}
use Rattle.shr_audit_text.proofs.Lasts.{changed_last}
use Rattle.shr_audit_text.proofs.parts.take_reply.Goals as goal

pub returns : goal.returns
returns c =
    let y = record c.in-Some.part { answers = c.push.new.self } in
    let e : c.push-2.new.self.items ≡ c.pop.new.self.items ++ y ∷ [] = c.in_ok-push-2.ensures.items in
    ap (map drafted_part) e
    ∙ changed_last drafted_part (λ (p : WorkerPart). record p { answers = with_more (replied c.args.reply) p.answers }) c.pad.new.parts.items c.pop.new.self.items c.in-Some.part y c.in-Some.ensures.items
    (ap (λ (us : List Answered). record (drafted_part c.in-Some.part) { answers = kept us }) c.in_ok-push.ensures.items)
    ∙ ap (with_last (λ (p : WorkerPart). record p { answers = with_more (replied c.args.reply) p.answers })) c.in_ok-pad.ensures
