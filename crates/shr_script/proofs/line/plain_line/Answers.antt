-- SPDX-License-Identifier: GPL-2.0-only
use Rattle.shr_script.proofs.Common.{said_state, drafted, words_left}
use Rattle.shr_model.specs.PieceParts.{left}
use Rattle.shr_script.proofs.PutLaws.{put_is}
use Rattle.shr_script.proofs.line.plain_line.Goals as goal

pub returns-in-Some : goal.returns-in-Some
unfolding left
returns-in-Some c =
    let words = c.in-Some.words.now in
    rw (put_is (said_state c.args.said.now) (drafted c.args.draft.now) (words_left c.args.rest) words c.in-Workers.is c.in-Some.ensures) c.put_line.ensures
