-- SPDX-License-Identifier: GPL-2.0-only
use Rattle.shr_words.proofs.Common.{◌≡◌, length, option_map, pieces, all_parts, left}
use Rattle.shr_words.proofs.paths.all_parts.Given as goal

abbrev pub invariant-loop-part : goal.invariant-loop-part
invariant-loop-part l = all_parts (left 47 (option_map (λ r. r.now) l.rest)) ≡ all_parts (pieces 47 l.bytes)

abbrev pub decreases-loop-part : goal.decreases-loop-part
decreases-loop-part l = length (left 47 (option_map (λ r. r.now) l.rest))
