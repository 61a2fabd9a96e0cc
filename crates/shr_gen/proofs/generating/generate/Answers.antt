-- SPDX-License-Identifier: GPL-2.0-only
use Rattle.shr_gen.proofs.Validity.{valid_made}
use Rattle.shr_gen.proofs.generating.generate.Goals as goal

pub returns-clause-valid : goal.returns-clause-valid
returns-clause-valid c = rw c.new.ensures.items (valid_made c.args.seed c.args.workers c.args.commands c.requires _ _ _ c.in_ok-groups.ensures c.in_ok-caches.ensures c.in_ok-workers_of.ensures)
