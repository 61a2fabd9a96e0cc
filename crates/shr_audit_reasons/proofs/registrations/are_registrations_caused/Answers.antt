-- SPDX-License-Identifier: GPL-2.0-only
use Rattle.shr_audit_reasons.proofs.Making.{made_decided, renamed}
use Rattle.shr_audit_reasons.proofs.registrations.are_registrations_caused.Goals as goal

pub returns : goal.returns
returns c =
    let s = c.args.script.now in
    let r = c.args.report.now in
    let b = c.are_entries_cited-all.result in
    let made = c.in_ok-made.made in
    made_decided s r made c.in_ok-made.ensures b (renamed b made _ _ _ _ c.count_on-from.ensures c.as_slice.ensures c.are_entries_cited-all.ensures)
