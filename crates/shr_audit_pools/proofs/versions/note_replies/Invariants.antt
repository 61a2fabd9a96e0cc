-- SPDX-License-Identifier: GPL-2.0-only
use Rattle.shr_audit_pools.specs.Lows.{NotesReplies}
use Rattle.shr_audit_pools.proofs.versions.note_replies.Given as goal

abbrev pub invariant-loop-k : goal.invariant-loop-k
invariant-loop-k l = NotesReplies l.answers l.from l.k l.fn.lows l.lows
