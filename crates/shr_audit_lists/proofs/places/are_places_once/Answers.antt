-- SPDX-License-Identifier: GPL-2.0-only
use Rattle.shr_audit_lists.proofs.Common.{List, subst, Decides, PlaceEnd, ArePrintedOnce}
use Rattle.shr_audit_lists.proofs.Journals.{once_of}
use Rattle.shr_audit_lists.proofs.places.are_places_once.Goals as goal

pub returns : goal.returns
returns c = once_of c.args.report.now c.are_firsts-once.result (subst (λ (ends : List PlaceEnd). Decides c.are_firsts-once.result (ArePrintedOnce ends)) c.as_slice.ensures c.are_firsts-once.ensures)
