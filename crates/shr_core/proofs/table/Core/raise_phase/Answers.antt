-- SPDX-License-Identifier: GPL-2.0-only
use Rattle.shr_core.proofs.Common.{ℕ, ◌+◌, ◌*◌, ◌%◌, ◌^◌, ap, sym, ◌∙◌, LookupWord, with_phase, phase_told}
use Rattle.shr_core.proofs.LookupSteps.{phased}
use Rattle.shr_core.proofs.Laying.{look_low}
use Rattle.shr_core.proofs.Calls.{may, stepped}
use Rattle.shr_core.proofs.table.Core.raise_phase.Goals as goal

pub add_as-requires : goal.add_as-requires
add_as-requires c = let core = c.args.self.now in let token = c.args.token.now in let i : ℕ = c.args.id in
    may core token _ (8 * i + 3) (λ y. (y + c.args.more) % 2 ^ 64) (phase_told core.setting token.me i c.args.decl) c.requires.seat.table c.lookup_word.ensures (look_low core.setting.shape i core.nodes core.limits.3 c.requires.may.near)
    (phased core.setting _ _ token.me i c.args.decl c.args.more c.requires.seat.present c.requires.may c.requires.more)

pub returns-clause-raised : goal.returns-clause-raised
returns-clause-raised c = stepped c.args.token.now _ _ (record { same = c.add_as.ensures.same; told = c.add_as.ensures.told.0 ∙ ap (λ (w : LookupWord). (with_phase c.args.self.now.setting.shape c.args.token.now.me.0 c.args.id c.args.decl w, c.args.token.now.me.1)) (sym c.unpack.ensures) })
