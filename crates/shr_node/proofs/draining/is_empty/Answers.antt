-- SPDX-License-Identifier: GPL-2.0-only
use Rattle.std.proofs.Common.{sym, ap, ◌∙◌, eqb}
use Rattle.shr_node.proofs.Marking.{filled_open}
use Rattle.shr_node.proofs.draining.is_empty.Goals as goal

pub returns-clause-opened : goal.returns-clause-opened
returns-clause-opened c some = filled_open c.args.list.now.entries c.args.list.now.items c.entries-entries.ensures.sound.journal (ap (λ n. eqb n 0) (sym c.len.ensures) ∙ some)
