-- SPDX-License-Identifier: GPL-2.0-only
use Rattle.shr_audit_isolations.proofs.Common.{IsLawfulIsolation, ◌≡◌, map, mets_of, EachItem, fails, seen_of, IsAskedAlike, IsBounded, met_by}
use Rattle.shr_audit_isolations.proofs.Meeting.{all_tested, tested_lawful}
use Rattle.shr_audit_isolations.proofs.lawful.is_lawful.Goals as goal

pub returns-then-not-is_bounded : goal.returns-then-not-is_bounded
returns-then-not-is_bounded c =
    fails (IsBounded c.args.isolation.now) (IsLawfulIsolation c.args.policy (map seen_of c.args.scans.now) c.args.isolation.now) c.is_bounded.result c.is_bounded.ensures c.if-not-is_bounded.true
    (λ h. (tested_lawful c.args.policy c.args.scans.now c.args.isolation.now h).bounded)

pub returns-then-not-are_asked_alike : goal.returns-then-not-are_asked_alike
returns-then-not-are_asked_alike c =
    fails (EachItem (IsAskedAlike c.args.policy) c.args.scans.now) (IsLawfulIsolation c.args.policy (map seen_of c.args.scans.now) c.args.isolation.now) c.are_asked_alike.result c.are_asked_alike.ensures c.if-not-are_asked_alike.true
    (λ h. (tested_lawful c.args.policy c.args.scans.now c.args.isolation.now h).alike)

pub returns-then-not-have_met : goal.returns-then-not-have_met
returns-then-not-have_met c =
    fails (map met_by c.args.scans.now ≡ mets_of c.args.isolation.now.visits c.args.isolation.now.ending) (IsLawfulIsolation c.args.policy (map seen_of c.args.scans.now) c.args.isolation.now) c.have_met.result c.have_met.ensures c.if-not-have_met.true
    (λ h. (tested_lawful c.args.policy c.args.scans.now c.args.isolation.now h).met)

pub returns : goal.returns
returns c =
    all_tested c.args.policy c.args.scans.now c.args.isolation.now c.have_freed.result (c.is_bounded.ensures.0 c.if-not-is_bounded.false) (c.are_asked_alike.ensures.0 c.if-not-are_asked_alike.false)
    (c.have_met.ensures.0 c.if-not-have_met.false) c.have_freed.ensures
