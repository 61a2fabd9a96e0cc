-- SPDX-License-Identifier: GPL-2.0-only
use Rattle.std.proofs.Common.{◌≡◌, drop}
use Rattle.shr_audit_case.specs.Moves.{settles}
use Rattle.shr_audit_case.proofs.moves.runs_settle.Given as goal

abbrev pub invariant-loop-m : goal.invariant-loop-m
invariant-loop-m l = settles l.key l.up l.down (drop l.m-index l.moves) ≡ settles 0 0 0 l.moves
