-- SPDX-License-Identifier: GPL-2.0-only
use Rattle.shr_list.proofs.Common.{◌≡◌, ◌∙◌, sym, ap, Some, None, rules, refl, is_named, pinned_object, change_first_none, key_named, objects_of}
use Rattle.shr_list.proofs.Slots.{keys_changed, keys_kept, kept_itself}
use Rattle.shr_list.proofs.Indexed.{found_at, none_at}
use Rattle.shr_list.proofs.Known.{knows_changed}
use Rattle.shr_list.proofs.queue.Queue.set_pin.Goals as goal

pub set_pin-requires : goal.set_pin-requires
set_pin-requires c =
    let is : key_named c.args.birth c.args.key.now c.self.inside.links.nodes ≡ Some c.in-Some.node = search rules in
    let at = found_at c.args.birth c.args.key.now c.self.inside.links.nodes c.in-Some.node is in
    (at.before, at.object, at.after, at.split)

pub invariant_of-self : goal.invariant_of-self
invariant_of-self c =
    let nodes = c.self.inside.links.nodes in
    let is : key_named c.args.birth c.args.key.now nodes ≡ Some c.in-Some.node = search rules in
    let at = found_at c.args.birth c.args.key.now nodes c.in-Some.node is in
    knows_changed c.self.inside.index nodes at.before at.after c.in-Some.node at.object at.split c.self.invariant c.set_pin.new.self.nodes
    (pinned_object c.args.pinned at.object) refl (c.set_pin.ensures at.before at.object at.after at.split)

pub returns-in_default : goal.returns-in_default
returns-in_default c =
    let nodes = c.self.inside.links.nodes in
    let is : key_named c.args.birth c.args.key.now nodes ≡ None = search rules in
    let off = none_at c.args.birth c.args.key.now nodes is in
    rw (← c.self.view_is) record {
      told = sym off;
      items = sym (change_first_none (is_named c.args.birth c.args.key.now) (pinned_object c.args.pinned) (objects_of nodes) off);
      keys = keys_kept nodes nodes (kept_itself nodes);
    }

pub returns : goal.returns
returns c =
    let nodes = c.self.inside.links.nodes in
    let is : key_named c.args.birth c.args.key.now nodes ≡ Some c.in-Some.node = search rules in
    let at = found_at c.args.birth c.args.key.now nodes c.in-Some.node is in
    let now = c.set_pin.ensures at.before at.object at.after at.split in
    rw (← c.self.view_is) record {
      told = sym at.some;
      items = ap objects_of now ∙ sym (at.changed (pinned_object c.args.pinned));
      keys = keys_changed nodes c.set_pin.new.self.nodes at.before at.after c.in-Some.node at.object at.split (pinned_object c.args.pinned at.object) refl now;
    }
