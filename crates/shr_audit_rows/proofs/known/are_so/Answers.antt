-- SPDX-License-Identifier: GPL-2.0-only
use Rattle.shr_audit_rows.proofs.Common.{arith, IsAskedRight, each_all}
use Rattle.shr_audit_rows.proofs.KnownLaws.{at_entry, from_start, low_next, so_fails}
use Rattle.shr_audit_rows.proofs.known.are_so.Goals as goal
use Rattle.shr_audit_formed.proofs.Eachs.{each_copied}

pub loop-n-init : goal.loop-n-init
loop-n-init c = record {
  stands = from_start c.args.report.now.pool.items c.in_ok-pooled.pooled.next c.in_ok-pooled.pooled.phases.items c.in_ok-pooled.pooled.decls.items c.in_ok-pooled.ensures.next c.in_ok-pooled.ensures.stands;
  low = λ m d le lt. (let e = c.in_ok-pooled.ensures.next in omega (arith, e));
  before = λ k a lt e. absurd (omega (arith, lt));
}

pub loop-n-preserved : goal.loop-n-preserved
loop-n-preserved c =
    let yes_so = c.if-not-is_so.false in
    record {
      stands = at_entry c.args.report.now.pool.items c.is_so.new.pooled.next _ c.is_so.new.pooled.phases.items c.is_so.new.pooled.decls.items (c.is_so.ensures.next yes_so) (c.is_so.ensures.stands yes_so);
      low = low_next c.args.asked.now c.loop-n.n c.is_so.new.pooled.next _ c.requires (c.is_so.ensures.next yes_so);
      before = each_copied (IsAskedRight c.args.script.now c.args.report.now) c.args.asked.now c.loop-n.n _ c.loop-n-test.true c.loop-n.invariant.before (c.is_so.ensures.so.0 yes_so);
    }

pub returns-then-not-is_so : goal.returns-then-not-is_so
returns-then-not-is_so c = so_fails (IsAskedRight c.args.script.now c.args.report.now) c.args.asked.now c.loop-n.n _ c.is_so.result c.loop-n-test.true c.is_so.ensures.so c.if-not-is_so.true

pub returns : goal.returns
returns c = each_all (IsAskedRight c.args.script.now c.args.report.now) c.args.asked.now c.loop-n.n c.loop-n-test.false c.loop-n.invariant.before
