-- SPDX-License-Identifier: GPL-2.0-only
use Rattle.shr_words.proofs.Common.{◌-◌, ◌≤◌, length, is_visible, AllPassBetween}
use Rattle.shr_words.proofs.runs.visible_len.Given as goal

abbrev pub invariant-loop-n : goal.invariant-loop-n
invariant-loop-n l = (l.n ≤ length l.bytes) × AllPassBetween is_visible l.bytes 0 l.n

abbrev pub decreases-loop-n : goal.decreases-loop-n
decreases-loop-n l = length l.bytes - l.n
