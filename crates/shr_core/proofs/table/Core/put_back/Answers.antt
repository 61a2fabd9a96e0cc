-- SPDX-License-Identifier: GPL-2.0-only
use Rattle.shr_core.proofs.Common.{ℕ, ◌≡◌, ◌+◌, ◌-◌, ◌*◌, ◌%◌, ◌^◌, with_put}
use Rattle.shr_core.proofs.LookupSteps.{puts}
use Rattle.shr_core.proofs.Laying.{look_low}
use Rattle.shr_core.proofs.Calls.{may, stepped}
use Rattle.shr_core.proofs.table.Core.put_back.Goals as goal

pub sub_as-requires : goal.sub_as-requires
sub_as-requires c = let core = c.args.self.now in let token = c.args.token.now in let i : ℕ = c.args.id in
    may core token _ (8 * i + 3) (λ y. (y + (2 ^ 64 - 1)) % 2 ^ 64) (λ r q. q ≡ (with_put token.me.0, token.me.1)) c.requires.seat.table c.lookup_word.ensures (look_low core.setting.shape i core.nodes core.limits.3 c.requires.id)
    (puts core.setting _ _ token.me i c.requires.id c.requires.seat.present c.requires.has)

pub returns : goal.returns
returns c = record { back = stepped c.args.token.now _ _ c.sub_as.ensures }
