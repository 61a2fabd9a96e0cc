-- SPDX-License-Identifier: GPL-2.0-only
use Rattle.shr_audit_text.proofs.Common.{◌≡◌, ◌∷◌, [], ◌++◌, List, map, ap, sym, ◌∙◌, Attempt, kept, drafted_walk, tried_walk}
use Rattle.shr_audit_text.proofs.Lasts.{changed_last, changed_none}
use Rattle.shr_audit_text.proofs.parts.try_last.Goals as goal

pub returns-in_default : goal.returns-in_default
returns-in_default c = let none = c.in_default.ensures.cases in changed_none drafted_walk (tried_walk c.args.attempt) c.args.walks.now.items c.pop.new.self.items (sym c.args.walks.now.ok.0 ∙ none.0) (sym c.pop.new.self.ok.0 ∙ none.1)

pub returns : goal.returns
returns c =
    let y = record c.in-Some.walk { attempts = c.push.new.self } in
    let e : c.push-2.new.self.items ≡ c.pop.new.self.items ++ y ∷ [] = c.in_ok-push-2.ensures.items in
    ap (map drafted_walk) e ∙ changed_last drafted_walk (tried_walk c.args.attempt) c.args.walks.now.items c.pop.new.self.items c.in-Some.walk y c.in-Some.ensures.items (ap (λ (us : List Attempt). record (drafted_walk c.in-Some.walk) { attempts = kept us }) c.in_ok-push.ensures.items)
