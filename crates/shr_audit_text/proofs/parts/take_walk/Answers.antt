-- SPDX-License-Identifier: GPL-2.0-only
use Rattle.shr_audit_text.proofs.Common.{◌≡◌, ◌∷◌, [], ◌++◌, List, map, ap, sym, ◌∙◌, WalkRecord, WorkerPart, kept, with_more, last_command, drafted_part, drafted_parts, walk_begun, length, ◌-◌}
use Rattle.shr_audit_text.proofs.Lasts.{by_last}
use Rattle.shr_audit_text.proofs.Lasts.{walks_more, begun_is}
use Rattle.shr_audit_text.proofs.Lasts.{changed_last, changed_none}
use Rattle.shr_audit_text.proofs.parts.take_walk.Goals as goal

pub returns-in_default : goal.returns-in_default
returns-in_default c = let none = c.in_default.ensures.cases in changed_none drafted_part (λ (p : WorkerPart). record p { walks = with_more (walk_begun (last_command (length (drafted_parts c.args.parts.now.items) - 1) p) c.args.head) p.walks }) c.args.parts.now.items c.pop.new.self.items (sym c.args.parts.now.ok.0 ∙ none.0) (sym c.pop.new.self.ok.0 ∙ none.1)

pub returns : goal.returns
returns c =
    let y = record c.in-Some.part { walks = c.push.new.self } in
    let e : c.push-2.new.self.items ≡ c.pop.new.self.items ++ y ∷ [] = c.in_ok-push-2.ensures.items in
    ap (map drafted_part) e ∙ changed_last drafted_part (λ (p : WorkerPart). record p { walks = with_more (walk_begun (last_command (length (drafted_parts c.args.parts.now.items) - 1) p) c.args.head) p.walks }) c.args.parts.now.items c.pop.new.self.items c.in-Some.part y c.in-Some.ensures.items (ap (λ (ws : List WalkRecord). record (drafted_part c.in-Some.part) { walks = kept ws })
    (walks_more c.in-Some.part.walks.items c.push.new.self.items (record { by = c.last-by.result; head = c.args.head; maps = c.new.result; attempts = c.new-2.result }) (walk_begun (last_command (length (drafted_parts c.args.parts.now.items) - 1) (drafted_part c.in-Some.part)) c.args.head)
    c.in_ok-push.ensures.items (begun_is c.last-by.result (last_command (length (drafted_parts c.args.parts.now.items) - 1) (drafted_part c.in-Some.part)) c.args.head c.new.result c.new-2.result (by_last c.args.parts.now.items c.pop.new.self.items c.in-Some.part c.len.result c.last-by.result c.in-Some.ensures.items (c.len.ensures ∙ c.pop.new.self.ok.0) c.last-by.ensures.worker c.last-by.ensures.command) c.new.ensures.items c.new-2.ensures.items)))
