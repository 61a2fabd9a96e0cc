-- SPDX-License-Identifier: GPL-2.0-only
use Rattle.shr_audit_text.proofs.Common.{◌≡◌, ◌∷◌, [], ◌++◌, List, map, ap, sym, ◌∙◌, PlainEntry, UnitsEnd, kept, with_more, drafted_pool}
use Rattle.shr_audit_text.proofs.Lasts.{changed_last, changed_none}
use Rattle.shr_audit_text.proofs.lists.take_unit.Goals as goal

pub returns-in_default : goal.returns-in_default
returns-in_default c = let none = c.in_default.ensures.cases in changed_none drafted_pool (λ (end : UnitsEnd). record end { entries = with_more c.args.entry end.entries }) c.args.units.now.items c.pop.new.self.items (sym c.args.units.now.ok.0 ∙ none.0) (sym c.pop.new.self.ok.0 ∙ none.1)

pub returns : goal.returns
returns c =
    let y = record c.in-Some.last { entries = c.push.new.self } in
    let e : c.push-2.new.self.items ≡ c.pop.new.self.items ++ y ∷ [] = c.in_ok-push-2.ensures.items in
    ap (map drafted_pool) e ∙ changed_last drafted_pool (λ (end : UnitsEnd). record end { entries = with_more c.args.entry end.entries }) c.args.units.now.items c.pop.new.self.items c.in-Some.last y c.in-Some.ensures.items (ap (λ (es : List PlainEntry). record (drafted_pool c.in-Some.last) { entries = kept es }) c.in_ok-push.ensures.items)
