-- SPDX-License-Identifier: GPL-2.0-only
use Rattle.std.proofs.Common.{◌∙◌}
use Rattle.shr_words.specs.declared.names.Whole.{Whole}
use Rattle.shr_words.proofs.NamesLaws.{position_is}
use Rattle.shr_words.proofs.names.place_hashed.Goals as goal

pub returns-clause-place : goal.returns-clause-place
returns-clause-place c = c.get_index_of.ensures.index ∙ position_is (λ (w : Whole). w.bytes.now) c.args.word.now c.args.words.now.keys
