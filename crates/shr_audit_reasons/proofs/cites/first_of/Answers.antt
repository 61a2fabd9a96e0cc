-- SPDX-License-Identifier: GPL-2.0-only
use Rattle.shr_audit_reasons.proofs.Phases.{next_one}
use Rattle.shr_audit_reasons.proofs.cites.first_of.Goals as goal

pub returns : goal.returns
returns c = next_one c.args.pool.now c.args.id c.args.entry c.next_of-first.result c.next_of-first.ensures
