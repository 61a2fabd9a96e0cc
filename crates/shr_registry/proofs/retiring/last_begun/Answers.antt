-- SPDX-License-Identifier: GPL-2.0-only
use Rattle.shr_registry.proofs.Common.{◌∙◌, ap, arith, refl, from_of}
use Rattle.shr_registry.proofs.Retires.{begun_before, begun_here, begun_whole, begun_none}
use Rattle.shr_registry.proofs.retiring.last_begun.Goals as goal

pub loop-left-init : goal.loop-left-init
loop-left-init c = record {
  within = omega arith;
  same = begun_whole c.as_slice-entries.result.now _ c.args.id refl;
}

pub loop-left-preserved : goal.loop-left-preserved
loop-left-preserved c = record {
  within = omega (arith, c.loop-left.invariant.within);
  same = begun_before c.as_slice-entries.result.now c.loop-left.left c.args.id _ c.loop-left-test.true c.loop-left.invariant.within c.loop-left.invariant.same (c.begun.ensures.other c.in_default.is);
}

pub returns-in-Some : goal.returns-in-Some
returns-in-Some c = begun_here c.as_slice-entries.result.now c.loop-left.left c.args.id _ c.loop-left-test.true c.loop-left.invariant.within c.loop-left.invariant.same c.in-Some.from c.in-Some.ensures.begun ∙ ap (from_of c.args.id) c.as_slice-entries.ensures

pub returns : goal.returns
returns c = begun_none c.as_slice-entries.result.now c.loop-left.left c.args.id c.loop-left-test.false c.loop-left.invariant.same ∙ ap (from_of c.args.id) c.as_slice-entries.ensures
