-- SPDX-License-Identifier: GPL-2.0-only
use Rattle.shr_core.proofs.Common.{ℕ, ◌+◌, ◌*◌, worded}
use Rattle.shr_core.proofs.LookupSteps.{words}
use Rattle.shr_core.proofs.Laying.{look_low}
use Rattle.shr_core.proofs.Calls.{may, stepped}
use Rattle.shr_core.proofs.table.Core.peek.Goals as goal

pub load_as-requires : goal.load_as-requires
load_as-requires c = let core = c.args.self.now in let token = c.args.token.now in let i : ℕ = c.args.id in
    may core token _ (8 * i + 3) (λ y. y) (worded core.setting token.me i) c.requires.seat.table c.lookup_word.ensures (look_low core.setting.shape i core.nodes core.limits.3 c.requires.id)
    (words core.setting _ _ token.me i c.requires.id c.requires.seat.present)

pub returns-clause-loaded : goal.returns-clause-loaded
returns-clause-loaded c = stepped c.args.token.now _ _ (record { same = c.load_as.ensures.same; told = c.load_as.ensures.told.0 })
