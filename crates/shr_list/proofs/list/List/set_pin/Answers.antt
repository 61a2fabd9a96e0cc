-- SPDX-License-Identifier: GPL-2.0-only
use Rattle.shr_list.proofs.Common.{refl, rules, is_named, pinned_object, length_change_first}
use Rattle.shr_list.specs.Answers.{pin_entry}
use Rattle.shr_list.proofs.Keeping.{kept_taken}
use Rattle.shr_list.proofs.list.List.set_pin.Goals as goal

pub returns-then-entry-self : goal.returns-then-entry-self
returns-then-entry-self c =
    let same_length = length_change_first (is_named c.args.birth c.args.key.now) (pinned_object c.args.pinned) c.args.self.now.items in
    search rules

pub returns-in_default : goal.returns-in_default
returns-in_default c =
    let same_length = length_change_first (is_named c.args.birth c.args.key.now) (pinned_object c.args.pinned) c.args.self.now.items in
    search rules

pub returns-then-is_err : goal.returns-then-is_err
returns-then-is_err c =
    let same_length = length_change_first (is_named c.args.birth c.args.key.now) (pinned_object c.args.pinned) c.args.self.now.items in
    search rules

pub invariant_of-self-2 : goal.invariant_of-self-2
invariant_of-self-2 c =
    let same_length = length_change_first (is_named c.args.birth c.args.key.now) (pinned_object c.args.pinned) c.args.self.now.items in
    kept_taken _ _ _ _ (pin_entry c.args.self.now c.args.by c.args.birth c.args.key.now c.args.pinned) c.self.invariant (search rules) (search rules) (search rules) (search rules) refl refl

pub returns : goal.returns
returns c =
    let same_length = length_change_first (is_named c.args.birth c.args.key.now) (pinned_object c.args.pinned) c.args.self.now.items in
    search rules
