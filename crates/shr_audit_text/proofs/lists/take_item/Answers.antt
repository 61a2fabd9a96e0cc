-- SPDX-License-Identifier: GPL-2.0-only
use Rattle.shr_audit_text.proofs.Common.{◌≡◌, ◌∷◌, [], ◌++◌, List, map, ap, sym, ◌∙◌, Object, PlaceEnd, kept, with_more, list_of}
use Rattle.shr_audit_text.proofs.Lasts.{changed_last, changed_none}
use Rattle.shr_audit_text.proofs.lists.take_item.Goals as goal

pub returns-in_default : goal.returns-in_default
returns-in_default c = let none = c.in_default.ensures.cases in changed_none list_of (λ (end : PlaceEnd). record end { items = with_more c.args.item end.items }) c.args.lists.now.items c.pop.new.self.items (sym c.args.lists.now.ok.0 ∙ none.0) (sym c.pop.new.self.ok.0 ∙ none.1)

pub returns : goal.returns
returns c =
    let y = record c.in-Some.list { items = c.push.new.self } in
    let e : c.push-2.new.self.items ≡ c.pop.new.self.items ++ y ∷ [] = c.in_ok-push-2.ensures.items in
    ap (map list_of) e ∙ changed_last list_of (λ (end : PlaceEnd). record end { items = with_more c.args.item end.items }) c.args.lists.now.items c.pop.new.self.items c.in-Some.list y c.in-Some.ensures.items (ap (λ (os : List Object). record (list_of c.in-Some.list) { items = kept os }) c.in_ok-push.ensures.items)
