-- SPDX-License-Identifier: GPL-2.0-only
use Rattle.shr_worker.proofs.Common.{◌≡◌, None, subst, Acting, DeedGives, crew_at, command_serial}
use Rattle.shr_worker.proofs.running.run_next.Goals as goal

pub returns-clause-deed : goal.returns-clause-deed
returns-clause-deed g c = let did = c.in_ok-answered.ensures in let new = c.run_command.new in
    subst (λ (w : Acting). DeedGives w.shared (command_serial w.by.worker c.args.number) c.args.command.now c.in_ok-answered.answered (crew_at w c.args.plain.now c.args.isolations.now.items) (crew_at new.worker new.plain new.isolations.items)) c.worker.view_is
    (record {
      seats = did.gives;
      plain = did.plain;
      recorded = did.recorded;
      free = subst (λ (w : Acting). w.state.core.claims.held ≡ None) c.worker-2.view_is c.worker-2.invariant.rested.idle.held;
    })
