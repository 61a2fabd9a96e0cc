-- SPDX-License-Identifier: GPL-2.0-only
use Rattle.shr_audit_formed.proofs.Common.{List, subst, Decides, WorkerPart, IsWellFormed, ArePartsFormed, IsLastFormed, AreHeadsFormed, AreListsFormed, AreMapsPrinted}
use Rattle.shr_audit_formed.proofs.Eachs.{fails}
use Rattle.shr_audit_formed.proofs.WellParts.{heads_of, parts_of, last_of, lists_of, maps_of, tables_of, well_of}
use Rattle.shr_audit_formed.proofs.formed.is_well_formed.Goals as goal

pub returns-then-not-are_heads_well : goal.returns-then-not-are_heads_well
returns-then-not-are_heads_well c = fails (AreHeadsFormed c.args.report.now) (IsWellFormed c.args.report.now) c.are_heads_well.result c.are_heads_well.ensures c.if-not-are_heads_well.true (heads_of c.args.report.now)

pub returns-then-not-are_parts_well : goal.returns-then-not-are_parts_well
returns-then-not-are_parts_well c =
    let parts : Decides c.are_parts_well.result (ArePartsFormed c.args.report.now.workers.items) = subst (λ (xs : List WorkerPart). Decides c.are_parts_well.result (ArePartsFormed xs)) c.as_slice.ensures c.are_parts_well.ensures in
    fails (ArePartsFormed c.args.report.now.workers.items) (IsWellFormed c.args.report.now) c.are_parts_well.result parts c.if-not-are_parts_well.true (parts_of c.args.report.now)

pub returns-then-not-is_last_well : goal.returns-then-not-is_last_well
returns-then-not-is_last_well c =
    let last : Decides c.is_last_well.result (IsLastFormed c.args.report.now.workers.items) = subst (λ (xs : List WorkerPart). Decides c.is_last_well.result (IsLastFormed xs)) c.as_slice-2.ensures c.is_last_well.ensures in
    fails (IsLastFormed c.args.report.now.workers.items) (IsWellFormed c.args.report.now) c.is_last_well.result last c.if-not-is_last_well.true (last_of c.args.report.now)

pub returns-then-not-are_lists_well : goal.returns-then-not-are_lists_well
returns-then-not-are_lists_well c = fails (AreListsFormed c.args.report.now) (IsWellFormed c.args.report.now) c.are_lists_well.result c.are_lists_well.ensures c.if-not-are_lists_well.true (lists_of c.args.report.now)

pub returns-then-not-are_maps_well : goal.returns-then-not-are_maps_well
returns-then-not-are_maps_well c = fails (AreMapsPrinted c.args.report.now) (IsWellFormed c.args.report.now) c.are_maps_well.result c.are_maps_well.ensures c.if-not-are_maps_well.true (maps_of c.args.report.now)

pub returns : goal.returns
returns c =
    let parts : Decides c.are_parts_well.result (ArePartsFormed c.args.report.now.workers.items) = subst (λ (xs : List WorkerPart). Decides c.are_parts_well.result (ArePartsFormed xs)) c.as_slice.ensures c.are_parts_well.ensures in
    let last : Decides c.is_last_well.result (IsLastFormed c.args.report.now.workers.items) = subst (λ (xs : List WorkerPart). Decides c.is_last_well.result (IsLastFormed xs)) c.as_slice-2.ensures c.is_last_well.ensures in (
      λ t. well_of c.args.report.now c.numbers_fit.ensures.sizes c.numbers_fit.ensures.totals (c.are_heads_well.ensures.0 c.if-not-are_heads_well.false) (parts.0 c.if-not-are_parts_well.false) (last.0 c.if-not-is_last_well.false)
          (c.are_lists_well.ensures.0 c.if-not-are_lists_well.false) (c.are_maps_well.ensures.0 c.if-not-are_maps_well.false) (c.are_tables_well-tables.ensures.0 t),
      λ w. c.are_tables_well-tables.ensures.1 (tables_of c.args.report.now w),
    )
