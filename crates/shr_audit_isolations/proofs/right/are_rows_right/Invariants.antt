-- SPDX-License-Identifier: GPL-2.0-only
use Rattle.shr_audit_isolations.proofs.Common.{◌≡◌, ◌<◌, ℕ, Some, slice_get, Vec, Global, EachItem, Gathered, told_of, IsToldRight}
use Rattle.shr_audit_isolations.proofs.right.are_rows_right.Given as goal

abbrev pub invariant-loop-worker : goal.invariant-loop-worker
invariant-loop-worker l = (n : ℕ) (row : Vec Gathered Global) → n < l.worker → slice_get l.table n ≡ Some row → EachItem (λ g. IsToldRight l.script l.report n (told_of g)) row.items
