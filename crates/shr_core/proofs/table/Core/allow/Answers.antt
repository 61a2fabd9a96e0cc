-- SPDX-License-Identifier: GPL-2.0-only
use Rattle.shr_core.proofs.Common.{ℕ, ◌≡◌, ◌+◌, ◌*◌, ap, sym, ◌∙◌, LookupWord, word_in, with_leave}
use Rattle.shr_core.proofs.LookupSteps.{allows}
use Rattle.shr_core.proofs.Laying.{look_low}
use Rattle.shr_core.proofs.Calls.{may, stepped}
use Rattle.shr_core.proofs.table.Core.allow.Goals as goal

pub load_as-requires : goal.load_as-requires
load_as-requires c = let core = c.args.self.now in let token = c.args.token.now in let i : ℕ = c.args.id in
    may core token _ (8 * i + 3) (λ y. y) (λ r q. q ≡ (with_leave token.me.0 i (word_in r), token.me.1)) c.requires.seat.table c.lookup_word.ensures (look_low core.setting.shape i core.nodes core.limits.3 c.requires.id)
    (allows core.setting _ _ token.me i c.requires.id c.requires.seat.present c.requires.view)

pub returns : goal.returns
returns c = record { allowed = stepped c.args.token.now _ _ (record { same = c.load_as.ensures.same; told = c.load_as.ensures.told ∙ ap (λ (w : LookupWord). (with_leave c.args.token.now.me.0 c.args.id w, c.args.token.now.me.1)) (sym c.unpack.ensures) }) }
