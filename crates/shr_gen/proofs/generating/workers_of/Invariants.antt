-- SPDX-License-Identifier: GPL-2.0-only
use Rattle.shr_gen.proofs.Common.{◌≡◌, ◌*◌, map, range_with_len, drawn_after, commands_from}
use Rattle.shr_gen.proofs.generating.workers_of.Given as goal

abbrev pub invariant-loop-worker : goal.invariant-loop-worker
invariant-loop-worker l = record {
  made : map (λ w. w.commands.items) l.made.items ≡ map (λ w. commands_from (drawn_after l.fn.seed (w * l.fn.commands)) w l.fn.commands) (range_with_len 0 l.worker);
  drawn : l.draws.state ≡ drawn_after l.fn.seed (l.worker * l.fn.commands);
}
