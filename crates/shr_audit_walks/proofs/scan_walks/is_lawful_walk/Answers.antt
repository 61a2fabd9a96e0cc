-- SPDX-License-Identifier: GPL-2.0-only
use Rattle.shr_audit_walks.proofs.ScansCommon.{Decides, IsShaped}
use Rattle.shr_audit_walks.proofs.LawfulLaw.{lawful_if, not_counts, not_kinds, not_shaped, not_stops}
use Rattle.shr_audit_walks.proofs.scan_walks.is_lawful_walk.Goals as goal

pub returns-then-not-branch : goal.returns-then-not-branch
returns-then-not-branch c =
    let k = c.args.known.now in
    not_shaped k.script.now k.report.now c.args.worker c.args.n c.args.walk.now c.in_ok-is_shaped.field-0 c.in_ok-is_shaped.ensures c.if-not-branch.true

pub returns-then-not-are_kinds : goal.returns-then-not-are_kinds
returns-then-not-are_kinds c =
    let k = c.args.known.now in
    not_kinds k.script.now k.report.now c.args.worker c.args.n c.args.walk.now c.are_kinds.result c.are_kinds.ensures c.if-not-are_kinds.true

pub returns-then-not-are_stops : goal.returns-then-not-are_stops
returns-then-not-are_stops c =
    let k = c.args.known.now in
    not_stops k.script.now k.report.now c.args.worker c.args.n c.args.walk.now c.are_stops.result c.are_stops.ensures c.if-not-are_stops.true

pub returns-then-not-are_counts : goal.returns-then-not-are_counts
returns-then-not-are_counts c =
    let k = c.args.known.now in
    not_counts k.script.now k.report.now c.args.worker c.args.n c.args.walk.now c.are_counts.result (c.are_counts.ensures k.script.now c.requires.case) c.if-not-are_counts.true

pub returns : goal.returns
returns c =
    let k = c.args.known.now in
    let shaped : Decides c.in_ok-is_shaped.field-0 (IsShaped k.script.now c.args.walk.now) = c.in_ok-is_shaped.ensures in
    lawful_if k.script.now k.report.now c.args.worker c.args.n c.args.walk.now c.are_scanned-scanned.result (shaped.0 c.if-not-branch.false) (c.are_kinds.ensures.0 c.if-not-are_kinds.false)
    (c.are_stops.ensures.0 c.if-not-are_stops.false) ((c.are_counts.ensures k.script.now c.requires.case).0 c.if-not-are_counts.false) c.are_scanned-scanned.ensures
