-- SPDX-License-Identifier: GPL-2.0-only
use Rattle.shr_tree.proofs.Common.{◌≡◌, map, arith, ap, ◌∙◌, ChildrenOfAll}
use Rattle.shr_tree.proofs.ChildrenLaws.{unseen_write, seen_write, seen_within}
use Rattle.shr_tree.proofs.children.Children.reserve.Goals as goal

pub returns-in_err-reserve-2-clause-lists : goal.returns-in_err-reserve-2-clause-lists
returns-in_err-reserve-2-clause-lists c =
    let same : map (λ l. l.items) c.reserve.new.self.items ≡ c.args.self.now.lists = ap (map (λ l. l.items)) c.reserve.ensures.items ∙ ap (λ (v : ChildrenOfAll). v.lists) c.self.view_is in
    unseen_write (λ l. l.items) c.reserve.new.self.items c.args.parent c.index_mut.result.now c.reserve-2.new.self
    (seen_within (λ l. l.items) c.reserve.new.self.items c.args.self.now.lists c.args.parent same c.requires) c.index_mut.ensures.value c.in_err-reserve-2.ensures.items ∙ same

pub returns-clause-lists : goal.returns-clause-lists
returns-clause-lists c =
    let same : map (λ l. l.items) c.reserve.new.self.items ≡ c.args.self.now.lists = ap (map (λ l. l.items)) c.reserve.ensures.items ∙ ap (λ (v : ChildrenOfAll). v.lists) c.self.view_is in
    unseen_write (λ l. l.items) c.reserve.new.self.items c.args.parent c.index_mut.result.now c.reserve-2.new.self
    (seen_within (λ l. l.items) c.reserve.new.self.items c.args.self.now.lists c.args.parent same c.requires) c.index_mut.ensures.value c.in_ok-reserve-2.ensures.items ∙ same

pub returns-clause-room : goal.returns-clause-room
returns-clause-room c =
    let same : map (λ l. l.items) c.reserve.new.self.items ≡ c.args.self.now.lists = ap (map (λ l. l.items)) c.reserve.ensures.items ∙ ap (λ (v : ChildrenOfAll). v.lists) c.self.view_is in
    let room = c.in_ok-reserve-2.ensures.spare in
    let seen = seen_write (λ l. l.spare) c.reserve.new.self.items c.args.parent c.reserve-2.new.self 0 (seen_within (λ l. l.items) c.reserve.new.self.items c.args.self.now.lists c.args.parent same c.requires) in
    omega (arith, seen, room)
