-- SPDX-License-Identifier: GPL-2.0-only
use Rattle.shr_script.specs.Content.{content_of, spell}
use Rattle.shr_tool.proofs.Answering.{answers_spelling, answers_refusal, traced_spelling, traced_refusal}
use Rattle.shr_tool.proofs.top.answer.Goals as goal

pub returns-in-Ok-clause-answer : goal.returns-in-Ok-clause-answer
returns-in-Ok-clause-answer g c = answers_spelling c.args.bytes.items (spell (content_of c.in-Ok.script)) _ c.serve.result (rw c.as_slice.ensures.value at c.in-Ok.ensures.found.spelled) c.serve.ensures.answer

pub returns-in-Ok-clause-traced : goal.returns-in-Ok-clause-traced
returns-in-Ok-clause-traced g c = traced_spelling c.args.bytes.items (spell (content_of c.in-Ok.script)) _ c.serve.result (rw c.as_slice.ensures.value at c.in-Ok.ensures.found.spelled) c.serve.ensures.traced

pub returns-in-Err-Fault-clause-answer : goal.returns-in-Err-Fault-clause-answer
returns-in-Err-Fault-clause-answer g c =
    let fault = rw c.as_slice.ensures.value at rw c.in-Err-Fault.field-0-is at c.in-Err-Fault.ensures.fault in
    let told = rw c.in-Err-Fault.field-0-is at c.refuse.ensures.refusal in
    answers_refusal c.args.bytes.items c.in-Err-Fault.line c.in-Err-Fault.code _ c.refuse.result fault told

pub returns-in-Err-Fault-clause-traced : goal.returns-in-Err-Fault-clause-traced
returns-in-Err-Fault-clause-traced g c =
    let told = rw c.in-Err-Fault.field-0-is at c.refuse.ensures.refusal in
    traced_refusal c.args.bytes.items c.in-Err-Fault.line c.in-Err-Fault.code _ c.refuse.result told
