-- SPDX-License-Identifier: GPL-2.0-only
use Rattle.shr_words.proofs.Common.{◌∙◌, List, ap, map, place_of}
use Rattle.shr_words.specs.declared.names.Whole.{Whole}
use Rattle.shr_words.proofs.NamesLaws.{position_is}
use Rattle.shr_words.proofs.names.place_in.Goals as goal

pub returns-then-len-le-FEW-clause-place : goal.returns-then-len-le-FEW-clause-place
returns-then-len-le-FEW-clause-place c = c.place_among.ensures ∙ (position_is (λ (w : Whole). w.bytes.now) c.args.word.now c.as_slice.result.now ∙ ap (λ (ks : List Whole). place_of c.args.word.now (map (λ w. w.bytes.now) ks)) c.as_slice.ensures.keys)
