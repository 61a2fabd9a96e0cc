-- SPDX-License-Identifier: GPL-2.0-only
use Rattle.shr_audit_case.proofs.ReplayCommon.{drop, took_of, KeepsOthers}
use Rattle.shr_audit_case.proofs.Following.{IsBehind}
use Rattle.shr_audit_case.proofs.journal.replay_journal.Given as goal

abbrev pub invariant-loop-entry : goal.invariant-loop-entry
invariant-loop-entry l = IsBehind (took_of l.parents l.group l.fn.lists.items) l.entries l.course (took_of l.parents l.group l.lists.items) (drop l.entry-index l.entries) × KeepsOthers l.parents l.group l.fn.lists.items l.lists.items
