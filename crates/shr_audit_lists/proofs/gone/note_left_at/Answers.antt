-- SPDX-License-Identifier: GPL-2.0-only
use Rattle.shr_audit_lists.proofs.BagCommon.{◌++◌, List, map, ap, ◌∙◌, Serial, left_serial}
use Rattle.shr_audit_lists.proofs.BagLaw.{left_serials}
use Rattle.shr_audit_lists.proofs.gone.note_left_at.Goals as goal

pub returns : goal.returns
returns c = c.in_ok-note_left.ensures ∙ ap (λ (xs : List Serial). c.args.serials.now.items ++ xs) (ap (map left_serial) c.left.ensures ∙ left_serials _)
