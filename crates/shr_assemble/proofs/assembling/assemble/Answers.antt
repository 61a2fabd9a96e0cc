-- SPDX-License-Identifier: GPL-2.0-only
use Rattle.shr_assemble.proofs.Common.{◌≡◌, ◌+◌, Report, IsFaithful, IsLawful, AreFreePutsAdded, DoPutsAddUp, IsWellFormed, IsMadeOf, IsPutTogether}
use Rattle.std.proofs.lemmas.Result.{IfOk-weaker}
use Rattle.shr_assemble.proofs.EndsLawful.{lawful, faithful, sums, free_puts, add_up, is_well_formed}
use Rattle.shr_assemble.proofs.Made.{made_of}
use Rattle.shr_assemble.proofs.assembling.assemble.Goals as goal

made : (c : goal.After-put_together) (r : Report) → IsPutTogether c.args.ends c.in_ok-noted.noted r → IsMadeOf c.args.ends.script c.args.logs.items c.args.ends r
made c r together = let noted = c.in_ok-noted.ensures in made_of c.args.ends c.args.logs.items c.in_ok-noted.noted r c.requires noted.parts together noted.uses noted.sorted

pub returns-clause-made : goal.returns-clause-made
returns-clause-made c = IfOk-weaker c.put_together.result (IsPutTogether c.args.ends c.in_ok-noted.noted) (IsMadeOf c.args.ends.script c.args.logs.items c.args.ends) (made c) c.put_together.ensures

pub returns-clause-lawful : goal.returns-clause-lawful
returns-clause-lawful c = IfOk-weaker c.put_together.result (IsPutTogether c.args.ends c.in_ok-noted.noted) (IsLawful c.args.ends.script)
    (λ r together. lawful c.args.logs.items c.args.ends c.requires r (made c r together)) c.put_together.ensures

pub returns-clause-faithful : goal.returns-clause-faithful
returns-clause-faithful c = IfOk-weaker c.put_together.result (IsPutTogether c.args.ends c.in_ok-noted.noted) (IsFaithful c.args.ends.script)
    (λ r together. faithful c.args.logs.items c.args.ends c.requires r (made c r together)) c.put_together.ensures

pub returns-clause-sums : goal.returns-clause-sums
returns-clause-sums c = IfOk-weaker c.put_together.result (IsPutTogether c.args.ends c.in_ok-noted.noted) (λ r. r.freed + r.listed ≡ r.added)
    (λ r together. sums c.args.logs.items c.args.ends c.requires r (made c r together)) c.put_together.ensures

pub returns-clause-puts : goal.returns-clause-puts
returns-clause-puts c = IfOk-weaker c.put_together.result (IsPutTogether c.args.ends c.in_ok-noted.noted) (AreFreePutsAdded c.args.ends.script)
    (λ r together. free_puts c.args.logs.items c.args.ends c.requires r (made c r together)) c.put_together.ensures

pub returns-clause-add_up : goal.returns-clause-add_up
returns-clause-add_up c = IfOk-weaker c.put_together.result (IsPutTogether c.args.ends c.in_ok-noted.noted) (DoPutsAddUp c.args.ends.script)
    (λ r together. add_up c.args.logs.items c.args.ends c.requires r (made c r together)) c.put_together.ensures

pub returns-clause-well_formed : goal.returns-clause-well_formed
returns-clause-well_formed c = IfOk-weaker c.put_together.result (IsPutTogether c.args.ends c.in_ok-noted.noted) IsWellFormed
    (λ r together. is_well_formed c.args.logs.items c.args.ends c.requires r (made c r together) c.in_ok-noted.noted c.in_ok-noted.ensures.parts together) c.put_together.ensures
