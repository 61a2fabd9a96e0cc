-- SPDX-License-Identifier: GPL-2.0-only
use Rattle.shr_audit_causes.proofs.OfflinesCommon.{◌<◌, ◌+◌, ◌%◌, ◌^◌, ◌∙◌, ℕ, ap, length, arith, get_or_default}
use Rattle.shr_audit_causes.proofs.CarriedLaws.{no_command, one_noted, other_worker}
use Rattle.shr_audit_causes.proofs.carried.note.Goals as goal

pub returns-then-by-worker-clause-noted : goal.returns-then-by-worker-clause-noted
returns-then-by-worker-clause-noted c = other_worker c.args.worker c.args.carry.now c.args.carried.now.items c.if-by-worker.true

pub returns-then-command-len-clause-noted : goal.returns-then-command-len-clause-noted
returns-then-command-len-clause-noted c =
    let w = c.args.carry.now in
    let table = c.args.carried.now.items in
    let l = c.len.ensures in
    let ok = c.args.carried.now.ok.0 in
    let lt = c.if-command-len.true in
    let there : w.by.command < length table = omega (arith, l, ok, lt) in
    one_noted c.args.worker w table ((c.index.result.now + w.amount) % 2 ^ 64) c.if-by-worker.false there
    (ap (λ (n : ℕ). (n + w.amount) % 2 ^ 64) (c.index.ensures ∙ get_or_default table w.by.command c.index.result.now 0 there))

pub returns-else-command-len-clause-noted : goal.returns-else-command-len-clause-noted
returns-else-command-len-clause-noted c = no_command c.args.worker c.args.carry.now c.args.carried.now.items (let l = c.len.ensures in let ok = c.args.carried.now.ok.0 in let le = c.if-command-len.false in omega (arith, l, ok, le))
