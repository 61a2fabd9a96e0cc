-- SPDX-License-Identifier: GPL-2.0-only
use Rattle.shr_words.proofs.PathLaws.{found_is_path}
use Rattle.shr_words.proofs.groups.Paths.place.Goals as goal

pub returns-clause-path : goal.returns-clause-path
returns-clause-path c = found_is_path c.args.word.now c.self.inside.paths c.place.result c.self.invariant c.place.ensures.place
