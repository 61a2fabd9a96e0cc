-- SPDX-License-Identifier: GPL-2.0-only
use Rattle.shr_audit_replies.proofs.Common.{◌≡◌, Some, length, refl, slice_get, slice_get_read, by_of}
use Rattle.shr_audit_replies.proofs.Risings.{all_below, fails, more, none_noted, whole}
use Rattle.shr_audit_replies.proofs.rising.is_rising.Goals as goal

pub goes_on-requires : goal.goes_on-requires
goes_on-requires c = c.loop-n.invariant.count

pub loop-n-init : goal.loop-n-init
loop-n-init c = none_noted c.args.journal c.args.entries.now c.args.seen.now.items c.requires

pub returns-then-not-goes_on : goal.returns-then-not-goes_on
returns-then-not-goes_on c =
    let e = c.index-entries-n.result in
    let at : slice_get c.args.entries.now c.loop-n.n ≡ Some e = slice_get_read c.args.entries.now (length c.args.entries.now) c.loop-n.n e refl c.loop-n-test.true c.index-entries-n.is in
    record {
      rising = (λ t. absurd cc, λ rises. absurd (fails c.args.journal c.args.entries.now c.loop-n.n c.loop-n.seen.items c.goes_on.new.seen.items e c.goes_on.result at (by_of e) refl c.goes_on.ensures c.if-not-goes_on.true c.loop-n.invariant rises));
      seen = λ t. absurd cc;
    }

pub loop-n-preserved : goal.loop-n-preserved
loop-n-preserved c =
    let e = c.index-entries-n.result in
    let at : slice_get c.args.entries.now c.loop-n.n ≡ Some e = slice_get_read c.args.entries.now (length c.args.entries.now) c.loop-n.n e refl c.loop-n-test.true c.index-entries-n.is in
    more c.args.journal c.args.entries.now c.loop-n.n c.loop-n.seen.items c.goes_on.new.seen.items e c.goes_on.result at (by_of e) refl c.goes_on.ensures c.if-not-goes_on.false c.loop-n.invariant

pub returns : goal.returns
returns c = record {
  rising = (λ t. whole c.args.journal c.args.entries.now c.loop-n.n c.loop-n.seen.items c.loop-n-test.false c.loop-n.invariant, λ h. refl);
  seen = λ t. all_below c.args.journal c.args.entries.now c.loop-n.n c.loop-n.seen.items c.loop-n.invariant;
}
