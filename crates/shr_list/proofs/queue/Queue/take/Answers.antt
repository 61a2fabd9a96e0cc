-- SPDX-License-Identifier: GPL-2.0-only
use Rattle.shr_list.proofs.Common.{◌≡◌, ◌∙◌, sym, ap, true, false, Some, None, rules, refl, is_named, find_none, key_named, keys_of, objects_of}
use Rattle.shr_list.proofs.Slots.{keys_whole, keys_same, nodes_removed}
use Rattle.shr_list.proofs.Indexed.{found_at, none_at}
use Rattle.shr_list.proofs.queue.Queue.take.Goals as goal

pub object-requires : goal.object-requires
object-requires c =
    let is : key_named c.args.birth c.args.key.now c.self.inside.links.nodes ≡ Some c.in-Some.node = search rules in
    let at = found_at c.args.birth c.args.key.now c.self.inside.links.nodes c.in-Some.node is in
    (at.before, at.object, at.after, at.split)

pub free-requires : goal.free-requires
free-requires c =
    let is : key_named c.args.birth c.args.key.now c.args.self.now.nodes ≡ Some c.in-Some.node = search rules in
    let at = found_at c.args.birth c.args.key.now c.args.self.now.nodes c.in-Some.node is in
    (at.before, at.object, at.after, at.split)

pub returns-in_default : goal.returns-in_default
returns-in_default c =
    let nodes = c.args.self.now.nodes in
    let is : key_named c.args.birth c.args.key.now nodes ≡ None = search rules in
    let off = none_at c.args.birth c.args.key.now nodes is in
    rw (c.locate.ensures.whole.items, find_none (is_named c.args.birth c.args.key.now) (objects_of nodes) off) record {
      kind = refl;
      taken = refl;
      items = refl;
      keys = keys_same c.args.self.now.keys (objects_of nodes);
    }

pub returns-then-object : goal.returns-then-object
returns-then-object c =
    let nodes = c.self.inside.links.nodes in
    let is : key_named c.args.birth c.args.key.now nodes ≡ Some c.in-Some.node = search rules in
    let at = found_at c.args.birth c.args.key.now nodes c.in-Some.node is in
    let object = c.object.ensures at.before at.object at.after at.split in
    let pinned : at.object.pinned ≡ true = rw (← object) c.if-object.true in
    rw (← c.self.view_is, at.found, pinned) record {
      kind = refl;
      taken = refl;
      items = refl;
      keys = keys_same (keys_of nodes) (objects_of nodes);
    }

pub returns : goal.returns
returns c =
    let now = c.args.self.now in
    let nodes = c.self.inside.links.nodes in
    let same : now.nodes ≡ nodes = rw (← c.self.view_is) refl in
    let is : key_named c.args.birth c.args.key.now now.nodes ≡ Some c.in-Some.node = search rules in
    let at = found_at c.args.birth c.args.key.now now.nodes c.in-Some.node is in
    let object = c.object.ensures at.before at.object at.after (sym same ∙ at.split) in
    let loose : at.object.pinned ≡ false = rw (← object) c.if-object.false in
    record {
      kind = rw (c.locate.ensures.whole.items, at.found, loose) refl;
      taken = rw (c.locate.ensures.whole.items, at.found, loose) (ap Some (c.free.ensures.taken at.before at.object at.after at.split));
      items = rw (c.locate.ensures.whole.items, at.found, loose) (c.free.ensures.whole.items ∙ ap objects_of (c.free.ensures.nodes at.before at.object at.after at.split) ∙ sym at.removed);
      keys =
          keys_whole now c.free.new.self c.locate.ensures.whole c.free.ensures.whole
          (nodes_removed now.nodes c.free.new.self.nodes at.before at.after c.in-Some.node at.object at.split (c.free.ensures.nodes at.before at.object at.after at.split));
    }
