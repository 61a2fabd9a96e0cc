-- SPDX-License-Identifier: GPL-2.0-only
use Rattle.shr_words.proofs.Common.{◌-◌, ◌≤◌, length, is_name_byte, AllPassBetween}
use Rattle.shr_words.proofs.runs.name_len.Given as goal

abbrev pub invariant-loop-n : goal.invariant-loop-n
invariant-loop-n l = (l.n ≤ length l.bytes) × AllPassBetween is_name_byte l.bytes 0 l.n

abbrev pub decreases-loop-n : goal.decreases-loop-n
decreases-loop-n l = length l.bytes - l.n
