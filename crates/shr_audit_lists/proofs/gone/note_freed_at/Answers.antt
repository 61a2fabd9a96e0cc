-- SPDX-License-Identifier: GPL-2.0-only
use Rattle.shr_audit_lists.proofs.BagCommon.{◌++◌, List, map, ap, [], ◌∙◌, Serial, freed_serial}
use Rattle.shr_audit_case.specs.declared.tags.FreedTag.{FreedTag}
use Rattle.shr_audit_lists.proofs.BagLaw.{freed_serials}
use Rattle.shr_audit_lists.proofs.gone.note_freed_at.Goals as goal

pub returns : goal.returns
returns c = c.in_ok-note_tags.ensures ∙ ap (λ (xs : List Serial). c.args.serials.now.items ++ xs) (ap (map freed_serial) c.freed.ensures ∙ freed_serials 0 _ [] _)
