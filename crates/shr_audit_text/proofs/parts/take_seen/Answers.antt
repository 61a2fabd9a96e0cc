-- SPDX-License-Identifier: GPL-2.0-only
use Rattle.shr_audit_text.proofs.Common.{◌≡◌, ◌∷◌, [], ◌++◌, List, map, ap, sym, ◌∙◌, WalkRecord, WorkerPart, kept, last_changed, drafted_part, seen_walk}
use Rattle.shr_audit_text.proofs.Lasts.{changed_last, changed_none}
use Rattle.shr_audit_text.proofs.parts.take_seen.Goals as goal

pub returns-in_default : goal.returns-in_default
returns-in_default c = let none = c.in_default.ensures.cases in changed_none drafted_part (λ (p : WorkerPart). record p { walks = last_changed (seen_walk c.args.seen) p.walks }) c.args.parts.now.items c.pop.new.self.items (sym c.args.parts.now.ok.0 ∙ none.0) (sym c.pop.new.self.ok.0 ∙ none.1)

pub returns : goal.returns
returns c =
    let y = record c.in-Some.part { walks = c.see_last.new.walks } in
    let e : c.push.new.self.items ≡ c.pop.new.self.items ++ y ∷ [] = c.in_ok-push.ensures.items in
    ap (map drafted_part) e ∙ changed_last drafted_part (λ (p : WorkerPart). record p { walks = last_changed (seen_walk c.args.seen) p.walks }) c.args.parts.now.items c.pop.new.self.items c.in-Some.part y c.in-Some.ensures.items (ap (λ (ws : List WalkRecord). record (drafted_part c.in-Some.part) { walks = kept ws }) c.in_ok-see_last.ensures)
