-- SPDX-License-Identifier: GPL-2.0-only
use Rattle.shr_script.proofs.Common.{refl, sym, subst, ◌≡◌, option_map, arith, ◌≤◌, State, start, said_state, drafted, run_of}
use Rattle.shr_model.specs.PieceParts.{left}
use Rattle.shr_script.proofs.RunLaws.{run_ended, run_goes_on, run_out}
use Rattle.shr_script.proofs.ReadLaws.{run_stops}
use Rattle.shr_script.proofs.GrowthLaws.{Few, few_start, few_lines, part_grows, said_lines}
use Rattle.shr_script.proofs.read.run.Goals as goal

pub lines-init : goal.lines-init
unfolding left
lines-init c =
    let begun : start ≡ said_state c.in_ok-said.said = sym c.in_ok-said.ensures in
    record {
      run = rw (c.in_ok-said.ensures, c.new.ensures.items, c.new-2.ensures.items, c.new-3.ensures.items, c.new-4.ensures.items, c.new-5.ensures.items) refl;
      few = subst Few begun few_start;
      counted = let P : State → Type 0 = λ st. 1 ≤ said_lines st in subst P begun (omega arith);
    }

pub returns-then-complete : goal.returns-then-complete
returns-then-complete c =
    run_ended (said_state c.lines.said) (drafted c.lines.draft) c.lines.number (left 10 (option_map (λ r. r.now) c.lines.rest)) c.in-Some.line.now (left 10 (option_map (λ r. r.now) c.in-Some.behind)) c.is_last.result (said_state c.part.new.said, drafted c.part.new.draft) (run_of c.args.bytes.now)
    c.in-Some.ensures c.is_last.ensures (rw c.if-complete.true at c.in-Ok.ensures) c.lines.invariant.run

pub returns-in-Err : goal.returns-in-Err
returns-in-Err c =
    rw c.error_at.ensures (run_stops (said_state c.lines.said) (drafted c.lines.draft) c.lines.number (left 10 (option_map (λ r. r.now) c.lines.rest)) c.in-Some.line.now (left 10 (option_map (λ r. r.now) c.in-Some.behind)) c.is_last.result (said_state c.part.new.said, drafted c.part.new.draft) c.in-Err.stopped (run_of c.args.bytes.now)
    c.in-Some.ensures c.is_last.ensures c.in-Err.ensures c.lines.invariant.run)

pub overflow_add-number : goal.overflow_add-number
overflow_add-number c =
    let few = few_lines (said_state c.lines.said) c.lines.invariant.few in
    omega (arith, few, c.lines.invariant.counted)

pub lines-preserved : goal.lines-preserved
lines-preserved c =
    let on = rw c.if-complete.false at c.in-Ok.ensures in
    let grown = part_grows (said_state c.lines.said) (drafted c.lines.draft) c.in-Some.line.now c.is_last.result (said_state c.part.new.said, drafted c.part.new.draft) on c.lines.invariant.few in
    let more = grown.more in
    record {
      run = run_goes_on (said_state c.lines.said) (drafted c.lines.draft) c.lines.number (left 10 (option_map (λ r. r.now) c.lines.rest)) c.in-Some.line.now (left 10 (option_map (λ r. r.now) c.in-Some.behind)) c.is_last.result (said_state c.part.new.said, drafted c.part.new.draft) (run_of c.args.bytes.now)
          c.in-Some.ensures c.is_last.ensures on c.lines.invariant.run;
      few = grown.few;
      counted = omega (arith, more, c.lines.invariant.counted);
    }

pub returns : goal.returns
returns c = run_out (said_state c.lines.said) (drafted c.lines.draft) c.lines.number (left 10 (option_map (λ r. r.now) c.lines.rest)) (run_of c.args.bytes.now) c.in_default.ensures c.lines.invariant.run
