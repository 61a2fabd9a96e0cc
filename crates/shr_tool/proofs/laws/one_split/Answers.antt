-- SPDX-License-Identifier: GPL-2.0-only
use Rattle.shr_tool.proofs.OneSplit.{one_split}
use Rattle.shr_tool.proofs.laws.one_split.Goals as goal

pub returns : goal.returns
returns c = one_split
