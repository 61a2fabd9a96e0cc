-- SPDX-License-Identifier: GPL-2.0-only
use Rattle.shr_script.proofs.BoundsLaws.{within_of_valid}
use Rattle.shr_script.proofs.laws.bounds.Goals as goal

pub returns : goal.returns
returns c = within_of_valid
