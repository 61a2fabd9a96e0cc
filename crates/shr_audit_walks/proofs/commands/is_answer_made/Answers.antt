-- SPDX-License-Identifier: GPL-2.0-only
use Rattle.shr_audit_walks.proofs.RoundsCommon.{◌<◌, List, length, sym, ap, subst, ◌∙◌, ◌==◌, AllByRecursion, Refusal, refusals_with, refusal_key}
use Rattle.shr_audit_walks.proofs.Refusing.{some_there}
use Rattle.shr_audit_walks.proofs.commands.is_answer_made.Goals as goal

pub is_command_made-requires-clause-there : goal.is_command_made-requires-clause-there
is_command_made-requires-clause-there c =
    let n = length c.args.dues.now.subtrees.parents.items in
    let key = refusal_key c.args.by in
    subst (λ (xs : List Refusal). AllByRecursion (λ (x : Refusal). x.group < n) xs) (sym (c.refusals_by-refusals.ensures ∙ ap (refusals_with key) c.as_slice.ensures.value))
    (some_there (λ (x : Refusal). x.key == key) n c.args.dues.now.refusals.items c.requires.dues.there)
