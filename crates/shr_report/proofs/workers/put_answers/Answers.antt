-- SPDX-License-Identifier: GPL-2.0-only
use Rattle.shr_report.proofs.Common.{◌+◌, ◌++◌, refl, sym, subst, arith, prints_part, prints_all, reply_line, found_lines, IsAnsweredNumbered, logs_from}
use Rattle.shr_report.proofs.Ranges.{each_more, each_done, AreLeft, left_first, left_next, part_numbers}
use Rattle.shr_report.proofs.Joined.{answers_next, answers_end}
use Rattle.shr_report.proofs.workers.put_answers.Goals as goal

pub loop-command-init : goal.loop-command-init
loop-command-init g c = record {
  within = record { isolations = omega arith; walks = omega arith; carries = omega arith; plain = omega arith };
  printed = (refl, λ task left h. h);
  answers = tt;
  numbers = record { isolations = tt; walks = tt; carries = tt; plain = tt };
  left = λ well. left_first c.args.worker c.args.part.now well;
}

pub loop-command-preserved : goal.loop-command-preserved
loop-command-preserved g c =
    let command = c.loop-command.command in
    let part = c.args.part.now in
    let before = logs_from part c.loop-command.at in
    let x = c.index-answers-command.result in
    let reply = prints_part _ _ c.args.out.now c.loop-command.out c.put_answered.new.out _ _ (reply_line c.args.worker command x.reply ++ found_lines x.found) _ c.loop-command.invariant.printed c.put_answered.ensures.printed
    (answers_next c.args.worker command _ before x c.loop-command-test.true c.index-answers-command.is) in
    let logs = prints_part _ _ c.args.out.now c.put_answered.new.out c.logs-at.new.out _ _ _ _ reply c.logs-at.ensures.printed refl in
    record {
      within = c.logs-at.ensures.within;
      printed = rw c.logs-at.ensures.after logs;
      answers = each_more IsAnsweredNumbered _ command x c.loop-command-test.true c.index-answers-command.is c.loop-command.invariant.answers c.put_answered.ensures.numbers;
      numbers = c.logs-at.ensures.numbers c.loop-command.invariant.numbers;
      left = λ well. subst (AreLeft (command + 1)) (sym c.logs-at.ensures.after) (left_next command before (c.loop-command.invariant.left well));
    }

pub returns-clause-printed : goal.returns-clause-printed
returns-clause-printed g c = rw (sym c.as_slice-answers.ensures) (prints_all _ _ _ _ _ _ c.loop-command.invariant.printed (answers_end c.args.worker c.loop-command.command _ _ c.loop-command-test.false))

pub returns-clause-numbers : goal.returns-clause-numbers
returns-clause-numbers g c = λ well. part_numbers c.args.worker c.loop-command.command c.args.part.now c.loop-command.at well (rw c.as_slice-answers.ensures at c.loop-command-test.false) (c.loop-command.invariant.left well) c.loop-command.invariant.numbers
    (rw c.as_slice-answers.ensures at (each_done IsAnsweredNumbered _ c.loop-command.command c.loop-command-test.false c.loop-command.invariant.answers))
