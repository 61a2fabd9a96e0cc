-- SPDX-License-Identifier: GPL-2.0-only
use Rattle.shr_audit_walks.proofs.LaterCommon.{subst, sym, NotesFilled}
use Rattle.shr_audit_walks.proofs.Filling.{none_set}
use Rattle.shr_audit_walks.proofs.filled.note_filled.Goals as goal

pub returns-in-None : goal.returns-in-None
returns-in-None c = subst (NotesFilled c.args.filled.now c.args.filled.now) (sym c.in-None.is) (none_set c.args.filled.now)
