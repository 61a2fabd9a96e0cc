-- SPDX-License-Identifier: GPL-2.0-only
use Rattle.std.proofs.Common.{map, refl, subst}
use Rattle.std.specs.Prelude.{string_bytes, Some, String}
use Rattle.std.proofs.Common.{List, Global}
use Rattle.shr_gen.specs.Forms.{AreGenWords, ReadsAs}
use Rattle.shr_tool.proofs.Complete.{is_complete, is_refusing}
use Rattle.shr_tool.proofs.Judging.{is_judging}
use Rattle.shr_gen.proofs.OneForm.{same_numbers}
use Rattle.shr_tool.proofs.top.top.Goals as goal

pub returns-in-Some-Run-clause-complete : goal.returns-in-Some-Run-clause-complete
returns-in-Some-Run-clause-complete g c = λ words. is_complete _ _ c.read_and_answer.result c.read_and_answer.ensures.run

pub returns-in-Some-Run-clause-refusing : goal.returns-in-Some-Run-clause-refusing
returns-in-Some-Run-clause-refusing g c = λ words. is_refusing _ _ c.read_and_answer.result c.read_and_answer.ensures.run

pub returns-in-Some-Gen-clause-generated : goal.returns-in-Some-Gen-clause-generated
returns-in-Some-Gen-clause-generated g c = λ s w k words.
    let all = map string_bytes c.args.words.now.items in
    let read : ReadsAs all c.form_of.result = subst (λ (ws : List (String Global)). ReadsAs (map string_bytes ws) c.form_of.result) c.as_slice.ensures.value c.form_of.ensures in
    let made : AreGenWords all c.in-Some-Gen.seed c.in-Some-Gen.workers c.in-Some-Gen.commands = subst (λ f. ReadsAs all (Some f)) c.in-Some-Gen.field-0-is (subst (ReadsAs all) c.in-Some-Gen.is read) in
    let same = same_numbers all c.in-Some-Gen.seed c.in-Some-Gen.workers c.in-Some-Gen.commands s w k made words in
    record {
      read = record { kept = refl; faults = refl };
      written = rw (same.0, same.1, same.2) at c.run_generated.ensures.written;
    }

pub returns-in-Some-Audit-clause-judged : goal.returns-in-Some-Audit-clause-judged
returns-in-Some-Audit-clause-judged g c = λ words. is_judging _ _ c.read_and_judge.result c.read_and_judge.ensures.audited
