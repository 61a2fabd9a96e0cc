-- SPDX-License-Identifier: GPL-2.0-only
use Rattle.shr_core.proofs.Common.{ℕ, ◌+◌, ◌*◌, ◌%◌, ◌^◌, ap, sym, ◌∙◌, LookupWord, with_lookup}
use Rattle.shr_core.specs.Tells.{looked}
use Rattle.shr_core.proofs.LookupSteps.{looks}
use Rattle.shr_core.proofs.Laying.{look_low}
use Rattle.shr_core.proofs.Calls.{may, stepped}
use Rattle.shr_core.proofs.table.Core.draw.Goals as goal

pub add_as-requires : goal.add_as-requires
add_as-requires c = let core = c.args.self.now in let token = c.args.token.now in let i : ℕ = c.args.id in let v = c.requires.view in
    may core token _ (8 * i + 3) (λ y. (y + 257) % 2 ^ 64) (looked core.setting token.me i) c.requires.seat.table c.lookup_word.ensures (look_low core.setting.shape i core.nodes core.limits.3 c.requires.id)
    (looks core.setting _ _ token.me i c.requires.id c.requires.seat.present v.0 v.1 v.2)

pub returns-clause-drawn : goal.returns-clause-drawn
returns-clause-drawn c = stepped c.args.token.now _ _ (record { same = c.add_as.ensures.same; told = c.add_as.ensures.told.0 ∙ ap (λ (w : LookupWord). (with_lookup c.args.token.now.me.0 c.args.id w, c.args.token.now.me.1)) (sym c.unpack.ensures) })
