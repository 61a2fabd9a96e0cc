-- SPDX-License-Identifier: GPL-2.0-only
use Rattle.shr_gen.proofs.Common.{◌≡◌, ◌+◌, map, range_with_len, drawn_after, chosen_by, generated_command}
use Rattle.shr_gen.proofs.generating.commands_of.Given as goal

abbrev pub invariant-loop-number : goal.invariant-loop-number
invariant-loop-number l = record {
  made : l.made.items ≡ map (λ j. generated_command l.fn.worker l.fn.commands j (chosen_by (drawn_after l.fn.draws.state (j + 1)))) (range_with_len 0 l.number);
  drawn : l.draws.state ≡ drawn_after l.fn.draws.state l.number;
}
