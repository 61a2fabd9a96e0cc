-- SPDX-License-Identifier: GPL-2.0-only
use Rattle.shr_model.proofs.GroupsOrder.{IsAtOrAbove-le}
use Rattle.shr_tree.proofs.laws.numbers_rise_downwards.Goals as goal

pub returns-clause-above : goal.returns-clause-above
returns-clause-above c = λ parents tree. IsAtOrAbove-le parents tree

pub returns-clause-parent : goal.returns-clause-parent
returns-clause-parent c = λ parents tree b above there. tree.lower b above there
