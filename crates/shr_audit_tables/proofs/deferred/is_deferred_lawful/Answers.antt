-- SPDX-License-Identifier: GPL-2.0-only
use Rattle.shr_audit_tables.proofs.Common.{WorkerPart, IsCarryRight, EachItem}
use Rattle.shr_audit_tables.proofs.Steps.{along, failed}
use Rattle.shr_audit_tables.proofs.Carried.{deferred_of, carries_of_law, words_of_law}
use Rattle.shr_audit_tables.proofs.deferred.is_deferred_lawful.Goals as goal

pub returns-then-not-are_all_right : goal.returns-then-not-are_all_right
returns-then-not-are_all_right c =
    let s = c.args.script.now in
    let r = c.args.report.now in
    let P = EachItem (λ (part : WorkerPart). EachItem (IsCarryRight s r) part.carries.items) in
    let here = along P c.are_all_right.result _ r.workers.items c.as_slice.ensures c.are_all_right.ensures in
    (λ t. absurd cc, λ law. absurd (failed (P r.workers.items) c.are_all_right.result here c.if-not-are_all_right.true (carries_of_law s r law)))

pub returns : goal.returns
returns c =
    let s = c.args.script.now in
    let r = c.args.report.now in
    let P = EachItem (λ (part : WorkerPart). EachItem (IsCarryRight s r) part.carries.items) in
    let here = along P c.are_all_right.result _ r.workers.items c.as_slice.ensures c.are_all_right.ensures in
    let words = c.in_ok-right.ensures in
    (λ t. deferred_of s r c.args.parents.now c.requires.parents c.requires.well (here.0 c.if-not-are_all_right.false) (words.0 t), λ law. words.1 (words_of_law s r c.args.parents.now c.requires.parents law))
