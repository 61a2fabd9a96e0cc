-- SPDX-License-Identifier: GPL-2.0-only
use Rattle.std.proofs.Common.{◌≡◌, ◌++◌, length}
use Rattle.shr_tool.proofs.reading.append.Given as goal

abbrev pub invariant-loop-left : goal.invariant-loop-left
invariant-loop-left l = l.bytes.items ++ l.left ≡ l.initial.bytes.items ++ l.more

abbrev pub decreases-loop-left : goal.decreases-loop-left
decreases-loop-left l = length l.left
