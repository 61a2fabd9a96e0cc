-- SPDX-License-Identifier: GPL-2.0-only
use Rattle.shr_model.proofs.GroupsLaws.{path_of-root, path_of-below}
use Rattle.shr_tree.proofs.laws.paths_go_up.Goals as goal

pub returns-clause-root : goal.returns-clause-root
returns-clause-root c = path_of-root

pub returns-clause-below : goal.returns-clause-below
returns-clause-below c = path_of-below
