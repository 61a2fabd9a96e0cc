-- SPDX-License-Identifier: GPL-2.0-only
use Rattle.shr_report.proofs.Common.{◌++◌, flat_map, prints_as, prints_both, numbered, worker_lines, place_lines, units_lines, bit_line, deferred_line, pool_deferred_line, use_line, lookups_line, end_lines}
use Rattle.shr_report.specs.Body.{body_lines}
use Rattle.shr_laws.specs.Text.{text, head_lines, journal_lines}
use Rattle.shr_report.proofs.Bodies.{body_apart}
use Rattle.shr_report.proofs.Ranges.{numbers_of}
use Rattle.shr_report.proofs.text.lines.Goals as goal

pub returns-clause-printed : goal.returns-clause-printed
unfolding text
returns-clause-printed g c =
    let r = c.args.report.now in
    let old = c.args.out.now in
    let front = head_lines r ++ journal_lines r in
    let told = numbered lookups_line 0 r.lookups.items in
    let journals = prints_both _ _ old c.head.new.out c.journals.new.out (head_lines r) (journal_lines r) c.head.ensures c.journals.ensures in
    let body = prints_both _ _ old c.journals.new.out c.body.new.out front (body_lines r) journals c.body.ensures.printed in
    let lookups = prints_both _ _ old c.body.new.out c.lookups.new.out (front ++ body_lines r) told body (rw c.as_slice.ensures at c.lookups.ensures) in
    prints_as _ _ _ _ _ _ (prints_both _ _ old c.lookups.new.out c.end.new.out (front ++ body_lines r ++ told) (end_lines r) lookups c.end.ensures)
    (body_apart front (numbered worker_lines 0 r.workers.items) (flat_map place_lines r.places.items) (flat_map units_lines r.units.items) (flat_map (bit_line r.version) r.maps.items)
    (flat_map deferred_line r.deferred.items) (flat_map pool_deferred_line r.pool_deferred.items) (flat_map use_line r.uses.items) told (end_lines r))

pub returns-clause-numbers : goal.returns-clause-numbers
returns-clause-numbers g c well =
    let body = c.body.ensures.numbers in
    numbers_of c.args.report.now well (body.workers well.parts) body.places body.between.units body.between.maps body.uses
