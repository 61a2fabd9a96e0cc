-- SPDX-License-Identifier: GPL-2.0-only
use Rattle.shr_tool.proofs.Answering.{run_gives, traced_gives}
use Rattle.shr_tool.proofs.top.read_and_answer.Goals as goal

pub returns-in-All-clause-run : goal.returns-in-All-clause-run
returns-in-All-clause-run g c =
    let read = c.in-All.ensures.input in
    run_gives _ _ _ _ c.in-All.bytes.items _ c.answer.result read c.answer.ensures.answer

pub returns-in-All-clause-traced : goal.returns-in-All-clause-traced
returns-in-All-clause-traced g c =
    let read = c.in-All.ensures.input in
    traced_gives _ _ _ _ c.in-All.bytes.items _ c.answer.result read c.answer.ensures.traced
