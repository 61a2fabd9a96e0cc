-- SPDX-License-Identifier: GPL-2.0-only
use Rattle.shr_list.proofs.Common.{◌≡◌, ◌∙◌, sym, ap, Some, None, rules, refl, Object, is_named, marked_object, change_first_none, find_none, key_named, objects_of}
use Rattle.shr_list.proofs.Slots.{keys_changed, keys_same}
use Rattle.shr_list.proofs.Indexed.{found_at, none_at}
use Rattle.shr_list.proofs.Known.{knows_changed}
use Rattle.shr_list.proofs.queue.Queue.look.Goals as goal

pub object-requires : goal.object-requires
object-requires c =
    let is : key_named c.args.birth c.args.key.now c.self.inside.links.nodes ≡ Some c.in-Some.node = search rules in
    let at = found_at c.args.birth c.args.key.now c.self.inside.links.nodes c.in-Some.node is in
    (at.before, at.object, at.after, at.split)

pub set_mark-requires : goal.set_mark-requires
set_mark-requires c =
    let is : key_named c.args.birth c.args.key.now c.self.inside.links.nodes ≡ Some c.in-Some.node = search rules in
    let at = found_at c.args.birth c.args.key.now c.self.inside.links.nodes c.in-Some.node is in
    (at.before, at.object, at.after, at.split)

pub invariant_of-self : goal.invariant_of-self
invariant_of-self c =
    let nodes = c.self.inside.links.nodes in
    let is : key_named c.args.birth c.args.key.now nodes ≡ Some c.in-Some.node = search rules in
    let at = found_at c.args.birth c.args.key.now nodes c.in-Some.node is in
    knows_changed c.self.inside.index nodes at.before at.after c.in-Some.node at.object at.split c.self.invariant c.set_mark.new.self.nodes
    (marked_object at.object) refl (c.set_mark.ensures at.before at.object at.after at.split)

pub returns-in_default : goal.returns-in_default
returns-in_default c =
    let test = is_named c.args.birth c.args.key.now in
    let nodes = c.args.self.now.nodes in
    let is : key_named c.args.birth c.args.key.now nodes ≡ None = search rules in
    let off = none_at c.args.birth c.args.key.now nodes is in
    record {
      value = rw (c.locate.ensures.whole.items, find_none test (objects_of nodes) off) refl;
      items = rw c.locate.ensures.whole.items (sym (change_first_none test marked_object (objects_of nodes) off));
      keys = keys_same c.args.self.now.keys c.args.self.now.items;
      kept = tt;
    }

pub returns-in_err-value-clause-keys : goal.returns-in_err-value-clause-keys
returns-in_err-value-clause-keys c = keys_same c.args.self.now.keys c.args.self.now.items

pub returns : goal.returns
returns c =
    let nodes = c.self.inside.links.nodes in
    let is : key_named c.args.birth c.args.key.now nodes ≡ Some c.in-Some.node = search rules in
    let at = found_at c.args.birth c.args.key.now nodes c.in-Some.node is in
    let now = c.set_mark.ensures at.before at.object at.after at.split in
    let object = c.object.ensures at.before at.object at.after at.split in
    let copied : c.in_ok-value.value ≡ c.object.result.now.value = search rules in
    rw (← c.self.view_is) record {
      value = rw at.found (ap Some (copied ∙ ap (λ (o : Object). o.value) object));
      items = ap objects_of now ∙ sym (at.changed marked_object);
      keys = keys_changed nodes c.set_mark.new.self.nodes at.before at.after c.in-Some.node at.object at.split (marked_object at.object) refl now;
      kept = tt;
    }
