-- SPDX-License-Identifier: GPL-2.0-only
use Rattle.shr_audit_text.proofs.Common.{◌≡◌, ◌∷◌, [], ◌++◌, List, map, ap, sym, ◌∙◌, Carry, WorkerPart, kept, with_more, last_command, drafted_part, drafted_parts, length, ◌-◌, Serial}
use Rattle.shr_audit_text.proofs.Lasts.{by_last}
use Rattle.shr_audit_text.proofs.Lasts.{changed_last, changed_none}
use Rattle.shr_audit_text.proofs.parts.take_carry.Goals as goal

pub returns-in_default : goal.returns-in_default
returns-in_default c = let none = c.in_default.ensures.cases in changed_none drafted_part (λ (p : WorkerPart). record p { carries = with_more (record { by = last_command (length (drafted_parts c.args.parts.now.items) - 1) p; place = c.args.carried.place; amount = c.args.carried.amount }) p.carries }) c.args.parts.now.items c.pop.new.self.items (sym c.args.parts.now.ok.0 ∙ none.0) (sym c.pop.new.self.ok.0 ∙ none.1)

pub returns : goal.returns
returns c =
    let y = record c.in-Some.part { carries = c.push.new.self } in
    let e : c.push-2.new.self.items ≡ c.pop.new.self.items ++ y ∷ [] = c.in_ok-push-2.ensures.items in
    ap (map drafted_part) e ∙ changed_last drafted_part (λ (p : WorkerPart). record p { carries = with_more (record { by = last_command (length (drafted_parts c.args.parts.now.items) - 1) p; place = c.args.carried.place; amount = c.args.carried.amount }) p.carries }) c.args.parts.now.items c.pop.new.self.items c.in-Some.part y c.in-Some.ensures.items (ap (λ (cs : List Carry). record (drafted_part c.in-Some.part) { carries = kept cs }) c.in_ok-push.ensures.items ∙ ap (λ (s : Serial). record (drafted_part c.in-Some.part) { carries = kept (c.in-Some.part.carries.items ++ record { by = s; place = c.args.carried.place; amount = c.args.carried.amount } ∷ []) }) (by_last c.args.parts.now.items c.pop.new.self.items c.in-Some.part c.len.result c.last-by.result c.in-Some.ensures.items (c.len.ensures ∙ c.pop.new.self.ok.0) c.last-by.ensures.worker c.last-by.ensures.command))
