-- SPDX-License-Identifier: GPL-2.0-only
use Rattle.shr_script.proofs.ReadLaws.{either_way}
use Rattle.shr_script.proofs.laws.spelling_or_fault.Goals as goal

pub returns : goal.returns
returns c = either_way
