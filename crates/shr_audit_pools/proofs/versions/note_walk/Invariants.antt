-- SPDX-License-Identifier: GPL-2.0-only
use Rattle.shr_audit_pools.specs.Lows.{NotesTries}
use Rattle.shr_audit_pools.proofs.versions.note_walk.Given as goal

abbrev pub invariant-loop-pool : goal.invariant-loop-pool
invariant-loop-pool l = NotesTries l.script l.walk l.pool l.fn.lows l.lows
