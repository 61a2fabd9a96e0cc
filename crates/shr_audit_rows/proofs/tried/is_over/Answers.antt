-- SPDX-License-Identifier: GPL-2.0-only
use Rattle.shr_audit_rows.proofs.Common.{arith, refl, nat_eq, get, IsTriedKeyed, tried_key}
use Rattle.shr_audit_rows.proofs.OverLaws.{not_fourteen, not_last, over_decided}
use Rattle.shr_audit_rows.proofs.tried.is_over.Goals as goal

pub returns-then-not-is_last_refused : goal.returns-then-not-is_last_refused
returns-then-not-is_last_refused c =
    let by = c.args.by in
    let own : IsTriedKeyed c.args.own by.worker by.command = record { group = omega arith; worker = omega arith; command = omega arith } in
    let keyed : IsTriedKeyed c.args.refused.group by.worker by.command = record { group = omega arith; worker = omega arith; command = omega arith } in
    let tried = c.args.tries.now.tried in
    not_last c.args.script.now c.args.report.now by c.args.own c.args.refused tried c.args.tries.now.counts.items c.requires keyed own c.tried_in-last.result (get nat_eq tried (tried_key c.args.own by.worker by.command)) c.tried_in-last.ensures refl
    c.is_last_refused.result c.is_last_refused.ensures c.if-not-is_last_refused.true

pub returns-then-not-are_fourteen : goal.returns-then-not-are_fourteen
returns-then-not-are_fourteen c =
    let by = c.args.by in
    let own : IsTriedKeyed c.args.own by.worker by.command = record { group = omega arith; worker = omega arith; command = omega arith } in
    let keyed : IsTriedKeyed c.args.refused.group by.worker by.command = record { group = omega arith; worker = omega arith; command = omega arith } in
    not_fourteen c.args.script.now c.args.report.now by c.args.own c.args.refused c.args.tries.now.tried c.args.tries.now.counts.items c.requires keyed own c.tried_in-last.result c.tried_in-whole.result c.tried_in-last.ensures c.tried_in-whole.ensures
    c.are_fourteen.result c.are_fourteen.ensures c.if-not-are_fourteen.true

pub returns : goal.returns
returns c =
    let by = c.args.by in
    let own : IsTriedKeyed c.args.own by.worker by.command = record { group = omega arith; worker = omega arith; command = omega arith } in
    let keyed : IsTriedKeyed c.args.refused.group by.worker by.command = record { group = omega arith; worker = omega arith; command = omega arith } in
    over_decided c.args.script.now c.args.report.now by c.args.own c.args.refused c.args.tries.now.tried c.args.tries.now.counts.items c.requires keyed own c.tried_in-last.result c.tried_in-whole.result c.tried_in-last.ensures c.tried_in-whole.ensures
    c.is_full.result (c.is_last_refused.ensures.0 c.if-not-is_last_refused.false) (c.are_fourteen.ensures.0 c.if-not-are_fourteen.false) c.is_full.ensures
