-- SPDX-License-Identifier: GPL-2.0-only
use Rattle.std.proofs.Common.{◌+◌, ◌<◌, ◌≤◌, length, arith}
use Rattle.shr_outside.proofs.Printing.{prints_as, prints_both}
use Rattle.shr_outside.specs.Paper.{Prints}
use Rattle.shr_print.specs.Cuts.{cut_at}
use Rattle.shr_print.proofs.Cutting.{run_first, run_last, risen}
use Rattle.shr_print.proofs.turns.print_turns.Goals as goal

pub loop-at-preserved : goal.loop-at-preserved
loop-at-preserved g c =
    -- the section's laws, which hold in each thread, in this one
    let laws = g.met.S.Section g.world.𝓛 g.world.𝓜 g.world.𝓡 ((λ s x. x), (λ x. x), (λ x. x), λ x. x) in
    let s = c.args.section.now in
    let cuts = c.args.cuts.now in
    let at = c.loop-at.at in
    let to = at + c.min.result in
    let inside : to < length cuts = omega (arith, c.min.ensures, c.loop-at-test.true, c.requires.rising.some) in
    let forward : at < to = omega (arith, c.min.ensures, c.max.ensures, c.loop-at-test.true) in
    let first = run_first cuts at (to + 1) (omega (arith, forward)) in
    let last = run_last cuts at to (omega (arith, forward)) inside in
    let printed : Prints g.K.Sink.written g.K.Sink.faults c.loop-at.out c.print_turn.new.out (g.S.Section.text s (cut_at cuts at) (cut_at cuts to)) = rw (first, last) at c.print_turn.ensures.printed in
    let known : g.S.Section.known s (cut_at cuts at) (cut_at cuts to) = rw (first, last) at c.print_turn.ensures.known in
    let start : 0 ≤ cut_at cuts at = omega arith in
    let le = risen cuts _ at to c.requires.rising (omega (arith, forward)) inside in
    let within = c.requires.rising.within to inside in
    record {
      printed = prints_as _ _ _ _ _ _ (prints_both _ _ c.args.out.now c.loop-at.out c.print_turn.new.out _ _ c.loop-at.invariant.printed printed) (laws.joined s 0 (cut_at cuts at) (cut_at cuts to) start le within);
      known = laws.both s 0 (cut_at cuts at) (cut_at cuts to) start le within c.loop-at.invariant.known known;
      within = omega (arith, inside);
    }
