-- SPDX-License-Identifier: GPL-2.0-only
use Rattle.std.proofs.Common.{ℕ, ◌+◌, ◌%◌, ◌∙◌, ap, arith}
use Rattle.std.proofs.lemmas.List.{get_or_default}
use Rattle.shr_audit_lists.proofs.Phasing.{phases_noted}
use Rattle.shr_audit_lists.proofs.phases.note_entry.Goals as goal

pub returns-clause-noted : goal.returns-clause-noted
returns-clause-noted c = λ pool are. phases_noted pool c.args.entry.now c.args.phases.now.items c.id_of-id.result c.next_phase-phase.result c.id_of-id.ensures.id c.id_of-id.ensures.small
    (c.next_phase-phase.ensures ∙ ap (λ (n : ℕ). (n + 1) % 3) (c.index.ensures ∙ get_or_default c.args.phases.now.items c.id_of-id.result c.index.result.now 0 (let small = c.id_of-id.ensures.small in let many = c.requires in omega arith))) are
