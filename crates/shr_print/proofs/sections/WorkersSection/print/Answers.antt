-- SPDX-License-Identifier: GPL-2.0-only
use Rattle.std.proofs.Common.{◌<◌, length, refl, sym, subst, arith}
use Rattle.std.proofs.lemmas.Option.{slice_get_read}
use Rattle.std.specs.List.{AllByRecursion}
use Rattle.shr_outside.proofs.Printing.{prints_as, prints_both}
use Rattle.shr_outside.specs.Paper.{Prints}
use Rattle.shr_laws.specs.Numbers.{IsPartNumbered}
use Rattle.shr_laws.specs.WellFormed.{IsPartWell}
use Rattle.shr_laws.specs.Text.{worker_lines}
use Rattle.shr_print.specs.Joined.{run_none, numbered_none}
use Rattle.shr_print.proofs.Runs.{texts_more, facts_more}
use Rattle.shr_print.proofs.sections.WorkersSection.print.Goals as goal

pub loop-worker-init : goal.loop-worker-init
loop-worker-init g c =
    let none = run_none c.args.self.now.parts.now c.args.from in
    record {
      printed = rw (numbered_none worker_lines c.args.self.now.parts.now c.args.from) (refl, λ task left h. h);
      numbers = λ well. subst (AllByRecursion IsPartNumbered) (sym none) tt;
    }

pub loop-worker-preserved : goal.loop-worker-preserved
loop-worker-preserved g c =
    let parts = c.args.self.now.parts.now in
    let worker = c.loop-worker.worker in
    let part = c.index-self-worker.result in
    let from = c.loop-worker.auto.worker in
    let within : worker < length parts = omega (arith, c.loop-worker-test.true, c.requires.1) in
    let printed : Prints g.K.Sink.written g.K.Sink.faults c.loop-worker.out c.put_answers.new.out (worker_lines worker part) = rw (sym c.index-self-worker.is) at c.put_answers.ensures.printed in
    let numbers : IsPartWell worker part → IsPartNumbered part = rw (sym c.index-self-worker.is) at c.put_answers.ensures.numbers in
    record {
      printed = prints_as _ _ _ _ _ _ (prints_both _ _ c.args.out.now c.loop-worker.out c.put_answers.new.out _ _ c.loop-worker.invariant.printed printed)
          (texts_more worker_lines parts c.args.from worker part from within c.index-self-worker.is);
      numbers = λ well. facts_more IsPartNumbered parts c.args.from worker part from within c.index-self-worker.is (c.loop-worker.invariant.numbers well)
          (numbers (well worker part (slice_get_read parts _ worker part refl within c.index-self-worker.is)));
    }
