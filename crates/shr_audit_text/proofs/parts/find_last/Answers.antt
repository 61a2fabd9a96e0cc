-- SPDX-License-Identifier: GPL-2.0-only
use Rattle.shr_audit_text.proofs.Common.{◌≡◌, ◌∷◌, [], ◌++◌, sym, ap, ◌∙◌, with_last, found_answer}
use Rattle.shr_audit_text.proofs.Lasts.{last_is, none_changed}
use Rattle.shr_audit_text.proofs.parts.find_last.Goals as goal

pub returns-in_default : goal.returns-in_default
returns-in_default c = let none = c.in_default.ensures.cases in none_changed (found_answer c.args.found) c.args.answers.now.items c.pop.new.self.items (sym c.args.answers.now.ok.0 ∙ none.0) (sym c.pop.new.self.ok.0 ∙ none.1)

pub returns : goal.returns
returns c =
    let e : c.push.new.self.items ≡ c.pop.new.self.items ++ found_answer c.args.found c.in-Some.answered ∷ [] = c.in_ok-push.ensures.items in
    e ∙ sym (last_is (found_answer c.args.found) c.pop.new.self.items c.in-Some.answered) ∙ ap (with_last (found_answer c.args.found)) (sym c.in-Some.ensures.items)
