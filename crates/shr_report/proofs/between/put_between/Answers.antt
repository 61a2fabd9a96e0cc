-- SPDX-License-Identifier: GPL-2.0-only
use Rattle.shr_report.proofs.Common.{◌++◌, flat_map, prints_both, units_lines, bit_line, deferred_line, pool_deferred_line}
use Rattle.shr_report.proofs.between.put_between.Goals as goal

pub returns-clause-printed : goal.returns-clause-printed
returns-clause-printed g c =
    let r = c.args.report.now in
    let old = c.args.out.now in
    let pools = flat_map units_lines r.units.items in
    let maps = flat_map (bit_line r.version) r.maps.items in
    let words = flat_map deferred_line r.deferred.items in
    let two = prints_both _ _ old c.pool_ends.new.out c.bits.new.out pools maps (rw c.as_slice.ensures at c.pool_ends.ensures.printed) (rw c.as_slice-2.ensures at c.bits.ensures.printed) in
    let three = prints_both _ _ old c.bits.new.out c.deferred.new.out (pools ++ maps) words two (rw c.as_slice-3.ensures at c.deferred.ensures) in
    prints_both _ _ old c.deferred.new.out c.pool_words.new.out (pools ++ maps ++ words) (flat_map pool_deferred_line r.pool_deferred.items) three (rw c.as_slice-4.ensures at c.pool_words.ensures)

pub returns-clause-numbers : goal.returns-clause-numbers
returns-clause-numbers g c = record {
  units = rw c.as_slice.ensures at c.pool_ends.ensures.numbers;
  maps = rw c.as_slice-2.ensures at c.bits.ensures.numbers;
}
