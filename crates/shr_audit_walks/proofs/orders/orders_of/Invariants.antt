-- SPDX-License-Identifier: GPL-2.0-only
use Rattle.shr_audit_walks.proofs.RoundsCommon.{◌-◌, length, AreOrdersFrom}
use Rattle.shr_audit_walks.proofs.orders.orders_of.Given as goal

abbrev pub invariant-loop-k : goal.invariant-loop-k
invariant-loop-k l = AreOrdersFrom l.parents (length l.parents - l.k) l.orders.items
