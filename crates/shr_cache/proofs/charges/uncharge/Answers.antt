-- SPDX-License-Identifier: GPL-2.0-only
use Rattle.shr_cache.proofs.Common.{subst, Acting, state_of, Uncharges}
use Rattle.shr_cache.proofs.Links.{with_charge, uncharged}
use Rattle.shr_cache.proofs.charges.uncharge.Goals as goal

pub returns-clause-uncharged : goal.returns-clause-uncharged
returns-clause-uncharged g c = let at = c.worker.inside in let e = c.uncharge in
    subst (λ (w : Acting). Uncharges w.shared w.by c.args.group w.state (state_of (with_charge at.seats e.new.self e.new.uses))) c.worker.view_is
    (uncharged at.shared.now c.worker.invariant.shared at.by c.args.group at.seats e.new.self e.new.uses c.worker.invariant.rested.charge e.ensures.uncharges)
