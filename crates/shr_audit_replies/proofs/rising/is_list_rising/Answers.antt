-- SPDX-License-Identifier: GPL-2.0-only
use Rattle.shr_audit_replies.proofs.Common.{List, subst, Decides, Entry, AreCommandsRising}
use Rattle.shr_audit_replies.proofs.Risings.{below_more}
use Rattle.shr_audit_replies.proofs.rising.is_list_rising.Goals as goal

pub returns-then-not-first-clause-seen : goal.returns-then-not-first-clause-seen
returns-then-not-first-clause-seen c = λ t. below_more c.args.journal c.args.seen.now.items c.requires

pub returns-clause-rising : goal.returns-clause-rising
returns-clause-rising c =
    let b = c.is_rising-rising.result in
    let all : Decides b (AreCommandsRising c.args.end.now.entries.items) = subst (λ (es : List Entry). Decides b (AreCommandsRising es)) c.as_slice.ensures c.is_rising-rising.ensures.rising in
    (λ t first. all.0 t, λ h. all.1 (h c.if-not-first.false))
