-- SPDX-License-Identifier: GPL-2.0-only
use Rattle.shr_words.proofs.Common.{refl, is_visible}
use Rattle.shr_model.specs.PieceParts.{left}
use Rattle.shr_words.specs.WordReading.{taken}
use Rattle.shr_words.proofs.TakenLaws.{cut_is}
use Rattle.shr_words.proofs.word.visible_word.Goals as goal

pub returns-in-Some : goal.returns-in-Some
returns-in-Some c =
    let is = cut_is is_visible refl c.in-Some.bytes.now c.visible_len.result c.visible_len.ensures.front in
    rw c.in-Some.is (rw is at c.cut_at.ensures)

pub returns-in-None : goal.returns-in-None
unfolding left taken
returns-in-None c = rw c.in-None.is refl
