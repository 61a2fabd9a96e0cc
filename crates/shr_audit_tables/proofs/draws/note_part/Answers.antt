-- SPDX-License-Identifier: GPL-2.0-only
use Rattle.shr_audit_tables.proofs.Common.{◌++◌, List, ap, ◌∙◌, flat_map, append_assoc, Answered, WalkRecord, answer_draws, walk_draws}
use Rattle.shr_audit_tables.proofs.draws.note_part.Goals as goal

pub returns : goal.returns
returns c =
    let keys = c.args.keys.now.items in
    let part = c.args.part.now in
    let answers = c.in_ok-note_answers.ensures ∙ ap (λ (xs : List Answered). keys ++ flat_map answer_draws xs) c.as_slice.ensures in
    let walks = c.in_ok-note_walks.ensures ∙ ap (λ (xs : List WalkRecord). c.note_answers.new.keys.items ++ flat_map walk_draws xs) c.as_slice-2.ensures in
    walks ∙ ap (λ l. l ++ flat_map walk_draws part.walks.items) answers ∙ append_assoc keys (flat_map answer_draws part.answers.items) (flat_map walk_draws part.walks.items)
