-- SPDX-License-Identifier: GPL-2.0-only
use Rattle.std.proofs.Common.{◌≡◌, ◌+◌, ◌-◌, ◌<◌, length, refl, ap, arith}
use Rattle.shr_outside.proofs.Printing.{prints_as, prints_both}
use Rattle.shr_print.specs.Cuts.{cut_at}
use Rattle.shr_print.proofs.Cutting.{risen}
use Rattle.shr_print.proofs.parts.put_parts.Goals as goal

pub loop-i-init : goal.loop-i-init
loop-i-init g c =
    let s = c.args.section.now in
    let first = cut_at c.args.cuts.now 0 in
    record {
      printed = rw (g.met.S.Section.empty s first) (refl, λ task left h. h);
      known = g.met.S.Section.none s first;
    }

pub loop-i-preserved : goal.loop-i-preserved
loop-i-preserved g c =
    let s = c.args.section.now in
    let cuts = c.args.cuts.now in
    let i = c.loop-i.i in
    let inside : i + 1 < length cuts = omega (arith, c.requires.len, c.loop-i-test.true) in
    let first = risen cuts _ 0 i c.requires.cuts (omega arith) (omega (arith, inside)) in
    let le = c.requires.cuts.rising i inside in
    let within = c.requires.cuts.within (i + 1) inside in
    record {
      printed = prints_as _ _ _ _ _ _ (prints_both _ _ c.args.out.now c.loop-i.out c.put_part.new.out _ _ c.loop-i.invariant.printed c.put_part.ensures.printed) (g.met.S.Section.joined s (cut_at cuts 0) (cut_at cuts i) (cut_at cuts (i + 1)) first le within);
      known = g.met.S.Section.both s (cut_at cuts 0) (cut_at cuts i) (cut_at cuts (i + 1)) first le within c.loop-i.invariant.known (c.requires.parts i c.index-parts-i.result inside).met;
    }

pub returns-clause-printed : goal.returns-clause-printed
returns-clause-printed g c =
    let end : c.loop-i.i ≡ length c.args.cuts.now - 1 = omega (arith, c.requires.len, c.loop-i-test.false, c.loop-i.auto.i-end) in
    rw (ap (cut_at c.args.cuts.now) end) at c.loop-i.invariant.printed

pub returns-clause-known : goal.returns-clause-known
returns-clause-known g c =
    let end : c.loop-i.i ≡ length c.args.cuts.now - 1 = omega (arith, c.requires.len, c.loop-i-test.false, c.loop-i.auto.i-end) in
    rw (ap (cut_at c.args.cuts.now) end) at c.loop-i.invariant.known
