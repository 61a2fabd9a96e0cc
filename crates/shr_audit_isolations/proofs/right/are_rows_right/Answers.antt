-- SPDX-License-Identifier: GPL-2.0-only
use Rattle.shr_audit_isolations.proofs.Common.{ℕ, List, length, refl, subst, Vec, Decides, Global, Script, EachItem, all_at, fails, more_at, Report, Gathered, told_of, AreRowsRight, IsToldRight, slice_get_read}
use Rattle.shr_audit_isolations.proofs.right.are_rows_right.Goals as goal

abbrev all : Script → Report → ℕ → List Gathered → Type 0
all s r worker xs = EachItem (λ g. IsToldRight s r worker (told_of g)) xs

abbrev row : Script → Report → ℕ → Vec Gathered Global → Type 0
row s r worker v = all s r worker v.items

pub returns-then-not-is_row_right : goal.returns-then-not-is_row_right
returns-then-not-is_row_right c =
    let s = c.args.script.now in
    let r = c.args.report.now in
    let t = c.args.table.now in
    let k = c.loop-worker.worker in
    let v = c.index-table-worker.result in
    let b = c.is_row_right.result in
    let here : Decides b (row s r k v) = subst (λ (xs : List Gathered). Decides b (all s r k xs)) c.as_slice.ensures.value c.is_row_right.ensures in
    fails (row s r k v) (AreRowsRight s r t) b here c.if-not-is_row_right.true (λ h. h k v (slice_get_read t (length t) k v refl c.loop-worker-test.true c.index-table-worker.is))

pub loop-worker-preserved : goal.loop-worker-preserved
loop-worker-preserved c =
    let s = c.args.script.now in
    let r = c.args.report.now in
    let b = c.is_row_right.result in
    let here : Decides b (row s r c.loop-worker.worker c.index-table-worker.result) = subst (λ (xs : List Gathered). Decides b (all s r c.loop-worker.worker xs)) c.as_slice.ensures.value c.is_row_right.ensures in
    more_at (row s r) c.args.table.now c.loop-worker.worker c.index-table-worker.result c.loop-worker-test.true c.index-table-worker.is c.loop-worker.invariant (here.0 c.if-not-is_row_right.false)

pub returns : goal.returns
returns c = all_at (row c.args.script.now c.args.report.now) c.args.table.now c.loop-worker.worker c.loop-worker-test.false c.loop-worker.invariant
