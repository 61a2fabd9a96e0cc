-- SPDX-License-Identifier: GPL-2.0-only
use Rattle.shr_tree.proofs.Common.{◌∙◌, ap, Word, place_of, List}
use Rattle.shr_words.proofs.NamesLaws.{position_is}
use Rattle.shr_tree.proofs.names.PathNames.place.Goals as goal

pub returns-clause-place : goal.returns-clause-place
returns-clause-place c =
    c.get_index_of.ensures.index
    ∙ position_is (λ w. w.items) c.args.path.now c.self.inside.words.keys
    ∙ ap (λ (paths : List Word). place_of c.args.path.now paths) c.self.view_is
