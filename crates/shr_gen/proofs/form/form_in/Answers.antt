-- SPDX-License-Identifier: GPL-2.0-only
use Rattle.shr_gen.proofs.FormsCommon.{◌≡◌, ◌∙◌, List, ap, option_map, codes, same_Some, Row, Text, first_of, found_of, rows_of}
use Rattle.shr_gen.proofs.form.form_in.Goals as goal

pub returns-else-eq-2-clause-generated : goal.returns-else-eq-2-clause-generated
returns-else-eq-2-clause-generated c = λ rows s w k met first second third.
    let same : rows_of (found_of c.in-Some.given.now) ≡ rows = same_Some _ rows (c.in-Some.ensures.rows ∙ ap (option_map (λ (p : Text × List Row). p.1)) met) in
    c.generated_form.ensures s w k (ap (first_of (codes "seed")) same ∙ first) (ap (first_of (codes "workers")) same ∙ second) (ap (first_of (codes "commands")) same ∙ third)
