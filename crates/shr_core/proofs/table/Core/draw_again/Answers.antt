-- SPDX-License-Identifier: GPL-2.0-only
use Rattle.shr_core.proofs.Common.{ℕ, ◌+◌, ◌*◌, ◌%◌, ◌^◌, eqb, looked_again}
use prog.Atomic.{either}
use Rattle.shr_core.proofs.AgainSteps.{looks_again}
use Rattle.shr_core.proofs.Laying.{look_low}
use Rattle.shr_core.proofs.Calls.{may}
use Rattle.shr_core.proofs.table.Core.draw_again.Goals as goal

pub swap_as-requires : goal.swap_as-requires
swap_as-requires c = let core = c.args.self.now in let token = c.args.token.now in let i : ℕ = c.args.id in let wanted : ℕ = c.args.wanted in let v = c.requires.view in
    may core token _ (8 * i + 3) (λ y. either (eqb y wanted) ((wanted + 257) % 2 ^ 64) y) (looked_again token.me i wanted) c.requires.seat.table c.lookup_word.ensures (look_low core.setting.shape i core.nodes core.limits.3 c.requires.id)
    (looks_again core.setting _ _ token.me i wanted c.requires.id c.requires.seat.present v.0 v.1 v.2 c.requires.left c.requires.phase.0 c.requires.phase.1)
