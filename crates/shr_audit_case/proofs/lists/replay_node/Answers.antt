-- SPDX-License-Identifier: GPL-2.0-only
use Rattle.shr_audit_case.proofs.Common.{ℕ, List, length, sym, subst, AreJournals, ArePrinted, items_printed_in, journals_in}
use Rattle.shr_audit_case.proofs.Replaying.{journals_there, printed_there}
use Rattle.shr_audit_case.proofs.lists.replay_node.Goals as goal

pub returns : goal.returns
returns c =
    let ends = c.args.ends.now in
    let count = length c.args.parents.now in
    c.in_ok-told.ensures (journals_in ends) (items_printed_in ends) c.args.place
    (subst (λ (firsts : List ℕ). AreJournals ends firsts count (journals_in ends) c.args.place) (sym c.as_slice.ensures.value) (journals_there ends c.args.place count c.in_ok-firsts.firsts.items c.in_ok-firsts.ensures))
    (subst (λ (firsts : List ℕ). ArePrinted ends firsts count (items_printed_in ends) c.args.place) (sym c.as_slice.ensures.value) (printed_there ends c.args.place count c.in_ok-firsts.firsts.items c.in_ok-firsts.ensures))
