-- SPDX-License-Identifier: GPL-2.0-only
use Rattle.shr_list.proofs.Common.{◌≡◌, Option, Some, None, is_some, refl, rules, option_map, Object, is_named, named_in, marked_object, length_change_first, is_some_find}
use Rattle.shr_list.specs.Answers.{look_entry}
use Rattle.shr_list.proofs.Keeping.{kept_taken}
use Rattle.shr_list.proofs.list.List.look.Goals as goal
use Rattle.shr_list.proofs.list.List.look.Goals.{in-None, in-Some}

some_value : (found : Option Object) → is_some (option_map (λ (o : Object). o.value) found) ≡ is_some found
some_value None = refl
some_value (Some o) = refl

pub returns-then-entry-self : goal.returns-then-entry-self
returns-then-entry-self c =
    let same_length = length_change_first (is_named c.args.birth c.args.key.now) marked_object c.args.self.now.items in
    search rules

pub returns-in_default : goal.returns-in_default
returns-in_default c =
    let same_length = length_change_first (is_named c.args.birth c.args.key.now) marked_object c.args.self.now.items in
    search rules

pub returns-then-is_err : goal.returns-then-is_err
returns-then-is_err c =
    let same_length = length_change_first (is_named c.args.birth c.args.key.now) marked_object c.args.self.now.items in
    search rules

pub returns-in_default-look : goal.returns-in_default-look
returns-in_default-look c =
    let same_length = length_change_first (is_named c.args.birth c.args.key.now) marked_object c.args.self.now.items in
    search rules

pub invariant_of-self-2 : goal.invariant_of-self-2
invariant_of-self-2 c =
    let same_length = length_change_first (is_named c.args.birth c.args.key.now) marked_object c.args.self.now.items in
    let found = is_some_find (is_named c.args.birth c.args.key.now) c.args.self.now.items in
    let mapped = some_value (named_in c.args.birth c.args.key.now c.args.self.now.items) in
    kept_taken _ _ _ _ (look_entry c.args.self.now c.args.by c.args.birth c.args.key.now) c.self.invariant (search rules) (search rules) (search rules) (search rules) refl refl

pub returns : goal.returns
returns c =
    let same_length = length_change_first (is_named c.args.birth c.args.key.now) marked_object c.args.self.now.items in
    let found = is_some_find (is_named c.args.birth c.args.key.now) c.args.self.now.items in
    let mapped = some_value (named_in c.args.birth c.args.key.now c.args.self.now.items) in
    elim c.match-value.branch [
      | in-None w ↦ rw w.result-is (search rules)
      | in-Some w ↦ rw w.result-is (search rules)
    ]
