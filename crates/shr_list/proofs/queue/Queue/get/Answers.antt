-- SPDX-License-Identifier: GPL-2.0-only
use Rattle.shr_list.proofs.Common.{◌≡◌, ◌∙◌, sym, ap, Some, None, rules, is_named, find_none, key_named, objects_of}
use Rattle.shr_list.proofs.Indexed.{found_at, none_at}
use Rattle.shr_list.proofs.queue.Queue.get.Goals as goal

pub object-requires : goal.object-requires
object-requires c =
    let is : key_named c.args.birth c.args.key.now c.self.inside.links.nodes ≡ Some c.in-Some.node = search rules in
    let at = found_at c.args.birth c.args.key.now c.self.inside.links.nodes c.in-Some.node is in
    (at.before, at.object, at.after, at.split)

pub returns-in-None : goal.returns-in-None
returns-in-None c =
    let is : key_named c.args.birth c.args.key.now c.self.inside.links.nodes ≡ None = search rules in
    let off = none_at c.args.birth c.args.key.now c.self.inside.links.nodes is in
    rw (← c.self.view_is) (sym (find_none (is_named c.args.birth c.args.key.now) (objects_of c.self.inside.links.nodes) off))

pub returns-in-Some : goal.returns-in-Some
returns-in-Some c =
    let is : key_named c.args.birth c.args.key.now c.self.inside.links.nodes ≡ Some c.in-Some.node = search rules in
    let at = found_at c.args.birth c.args.key.now c.self.inside.links.nodes c.in-Some.node is in
    rw (← c.self.view_is) (ap Some (c.object.ensures at.before at.object at.after at.split) ∙ sym at.found)
