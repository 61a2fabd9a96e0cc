-- SPDX-License-Identifier: GPL-2.0-only
use Rattle.shr_model.specs.PieceParts.{left}
use Rattle.shr_model.specs.Pieces.{pieces}
use Rattle.shr_words.proofs.DigitLaws.{digit_item}
use Rattle.shr_words.proofs.word.number.Goals as goal

pub returns-then-n-high-clause-reads : goal.returns-then-n-high-clause-reads
unfolding left
returns-then-n-high-clause-reads c =
    let found = c.in-Some-digit in
    rw c.in-Some.is (digit_item c.args.low c.args.high found.n (pieces 32 found.behind.now) (pieces 32 c.in-Some.bytes.now) found.ensures c.if-low-n.true c.if-n-high.true)
