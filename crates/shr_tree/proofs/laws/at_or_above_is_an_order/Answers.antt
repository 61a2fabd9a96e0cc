-- SPDX-License-Identifier: GPL-2.0-only
use Rattle.shr_model.proofs.GroupsOrder.{IsAtOrAbove-refl, IsAtOrAbove-trans, IsAtOrAbove-antisym, IsAtOrAbove-root}
use Rattle.shr_tree.proofs.laws.at_or_above_is_an_order.Goals as goal

pub returns-clause-reflexive : goal.returns-clause-reflexive
returns-clause-reflexive c = λ parents tree. IsAtOrAbove-refl parents tree

pub returns-clause-transitive : goal.returns-clause-transitive
returns-clause-transitive c = λ parents tree. IsAtOrAbove-trans parents tree

pub returns-clause-antisymmetric : goal.returns-clause-antisymmetric
returns-clause-antisymmetric c = λ parents tree. IsAtOrAbove-antisym parents tree

pub returns-clause-root : goal.returns-clause-root
returns-clause-root c = λ parents tree. IsAtOrAbove-root parents tree
