-- SPDX-License-Identifier: GPL-2.0-only
use Rattle.shr_core.proofs.Common.{ℕ, ◌≡◌, ◌+◌, ◌*◌, word_in, with_given_up}
use Rattle.shr_core.proofs.LookupSteps.{gives_up}
use Rattle.shr_core.proofs.Laying.{look_low}
use Rattle.shr_core.proofs.Calls.{may}
use Rattle.shr_core.proofs.seat.Seat.give_up.Goals as goal

pub load_as-requires : goal.load_as-requires
load_as-requires c = let seat = c.self.inside in let core = seat.core.now in let i : ℕ = c.args.id in
    may core seat.token _ (8 * i + 3) (λ y. y) (λ r q. q ≡ (with_given_up seat.token.me.0 i (word_in r), seat.token.me.1)) c.self.invariant.table c.lookup_word.ensures (look_low core.setting.shape i core.nodes core.limits.3 (rw (← c.self.view_is) at c.requires.id))
    (gives_up core.setting _ _ seat.token.me i (rw (← c.self.view_is) at c.requires.id) c.self.invariant.present)
