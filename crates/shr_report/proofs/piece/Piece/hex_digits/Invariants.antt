-- SPDX-License-Identifier: GPL-2.0-only
use Rattle.shr_report.proofs.Common.{◌≡◌, ◌≤◌, ◌+◌, ◌++◌, drop, hex, hex_digits}
use Rattle.shr_report.proofs.piece.Piece.hex_digits.Given as goal

abbrev pub invariant-loop-digits : goal.invariant-loop-digits
invariant-loop-digits l = record {
  within : l.digits ≤ 16;
  start : l.start + 16 ≡ l.fn.end + l.digits;
  text : hex_digits l.digits l.left ++ drop l.start l.self ≡ hex l.fn.n ++ drop l.fn.end l.fn.self;
}

abbrev pub decreases-loop-digits : goal.decreases-loop-digits
decreases-loop-digits l = l.digits
