-- SPDX-License-Identifier: GPL-2.0-only
use Rattle.shr_script.proofs.Common.{◌≡◌, ◌≤◌, length, option_map, said_state, drafted, run_from, run_of, left}
use Rattle.shr_script.proofs.GrowthLaws.{Few, said_lines}
use Rattle.shr_script.proofs.read.run.Given as goal

abbrev pub invariant-lines : goal.invariant-lines
invariant-lines l = record {
  run : run_from (said_state l.said) (drafted l.draft) l.number (left 10 (option_map (λ r. r.now) l.rest)) ≡ run_of l.bytes;
  few : Few (said_state l.said);
  counted : l.number ≤ said_lines (said_state l.said);
}

abbrev pub decreases-lines : goal.decreases-lines
decreases-lines l = length (left 10 (option_map (λ r. r.now) l.rest))
