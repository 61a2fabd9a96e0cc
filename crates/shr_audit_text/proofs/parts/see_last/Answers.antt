-- SPDX-License-Identifier: GPL-2.0-only
use Rattle.shr_audit_text.proofs.Common.{◌≡◌, ◌∷◌, [], ◌++◌, List, map, ap, sym, ◌∙◌, MapSeen, kept, drafted_walk, seen_walk}
use Rattle.shr_audit_text.proofs.Lasts.{changed_last, changed_none}
use Rattle.shr_audit_text.proofs.parts.see_last.Goals as goal

pub returns-in_default : goal.returns-in_default
returns-in_default c = let none = c.in_default.ensures.cases in changed_none drafted_walk (seen_walk c.args.seen) c.args.walks.now.items c.pop.new.self.items (sym c.args.walks.now.ok.0 ∙ none.0) (sym c.pop.new.self.ok.0 ∙ none.1)

pub returns : goal.returns
returns c =
    let y = record c.in-Some.walk { maps = c.push.new.self } in
    let e : c.push-2.new.self.items ≡ c.pop.new.self.items ++ y ∷ [] = c.in_ok-push-2.ensures.items in
    ap (map drafted_walk) e ∙ changed_last drafted_walk (seen_walk c.args.seen) c.args.walks.now.items c.pop.new.self.items c.in-Some.walk y c.in-Some.ensures.items (ap (λ (ms : List MapSeen). record (drafted_walk c.in-Some.walk) { maps = kept ms }) c.in_ok-push.ensures.items)
