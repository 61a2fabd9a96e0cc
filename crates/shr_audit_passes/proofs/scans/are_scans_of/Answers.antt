-- SPDX-License-Identifier: GPL-2.0-only
use Rattle.shr_audit_passes.proofs.Common.{◌≡◌, ◌-◌, ◌≤◌, length, arith, due, batch_of, total_of}
use Rattle.shr_audit_passes.proofs.Scanned.{scans_freed, scans_differ}
use Rattle.shr_audit_passes.proofs.scans.are_scans_of.Goals as goal

pub returns-then-not-are_alike : goal.returns-then-not-are_alike
returns-then-not-are_alike c =
    let d = c.args.decl.now in
    let p = c.args.pass.now in
    let count : length c.args.scans.now ≡ p.asks - p.closed = omega arith in
    let few : p.asks - p.closed ≤ due (batch_of d.batch) p.len (total_of p.len p.nr c.args.priority d.seeks) = omega arith in
    scans_differ c.args.priority d p c.args.scans.now c.asks_due-due.result.size c.are_alike.result c.asks_due-due.ensures.size count few c.are_alike.ensures c.if-not-are_alike.true

pub returns : goal.returns
returns c =
    let d = c.args.decl.now in
    let p = c.args.pass.now in
    let count : length c.args.scans.now ≡ p.asks - p.closed = omega arith in
    let few : p.asks - p.closed ≤ due (batch_of d.batch) p.len (total_of p.len p.nr c.args.priority d.seeks) = omega arith in
    scans_freed c.args.priority d p c.args.scans.now c.asks_due-due.result.size c.scans_free-freed.result c.asks_due-due.ensures.size count few (c.are_alike.ensures.0 c.if-not-are_alike.false) c.scans_free-freed.ensures
