-- SPDX-License-Identifier: GPL-2.0-only
use Rattle.shr_report.proofs.Common.{◌≡◌, ◌+◌, ◌-◌, arith, get_or, refl, take_rest, prints_part, prints_all, map_line, IsSeenNumbered, IsAttemptNumbered, length-drop}
use Rattle.shr_report.proofs.Ranges.{each_joined, each_rest, each_more_at}
use Rattle.shr_report.proofs.Joined.{units_next, units_end}
use Rattle.shr_report.proofs.walks.units.Goals as goal

pub loop-map-preserved : goal.loop-map-preserved
loop-map-preserved g c =
    let at = c.loop-map.at in
    let n = c.count_in_unit.result in
    let width : at + n - at ≡ n = omega arith in
    let map = prints_part _ _ c.args.out.now c.loop-map.out c.put_map.new.out _ _ (map_line (get_or c.args.maps.now c.loop-map.map-index (record { unit = 0; bits = 0 }))) _ c.loop-map.invariant.printed c.put_map.ensures.printed
    (units_next c.args.maps.now c.loop-map.map-index (record { unit = 0; bits = 0 }) _ c.args.all.now at n c.loop-map-test.true refl (rw take_rest at c.count_in_unit.ensures.count)) in
    record {
      within = omega (arith, c.count_in_unit.ensures.within, length-drop at c.args.all.now);
      printed = prints_part _ _ _ _ _ _ _ _ _ map (rw width at c.attempts.ensures.printed) refl;
      maps = each_more_at IsSeenNumbered c.args.maps.now c.loop-map.map-index (record { unit = 0; bits = 0 }) c.loop-map-test.true c.loop-map.invariant.maps c.put_map.ensures.numbers;
      attempts = each_joined IsAttemptNumbered c.args.all.now at n c.loop-map.invariant.attempts (rw width at c.attempts.ensures.numbers);
    }

pub returns-clause-printed : goal.returns-clause-printed
returns-clause-printed g c = prints_all _ _ _ _ _ _ (prints_part _ _ _ _ _ _ _ _ _ c.loop-map.invariant.printed (rw take_rest at c.attempts-2.ensures.printed) (units_end c.args.maps.now c.loop-map.map-index _ c.loop-map-test.false)) refl

pub returns-clause-attempts : goal.returns-clause-attempts
returns-clause-attempts g c = each_rest IsAttemptNumbered c.args.all.now c.loop-map.at c.loop-map.invariant.attempts (rw take_rest at c.attempts-2.ensures.numbers)
