-- SPDX-License-Identifier: GPL-2.0-only
use Rattle.shr_report.proofs.Common.{◌++◌, flat_map, prints_both, numbered, worker_lines, place_lines, use_line}
use Rattle.shr_report.specs.Body.{between_lines}
use Rattle.shr_report.proofs.printers.AlonePrinter.body.Goals as goal

pub returns-clause-printed : goal.returns-clause-printed
returns-clause-printed g c =
    let r = c.args.report.now in
    let old = c.args.out.now in
    let workers = numbered worker_lines 0 r.workers.items in
    let places = flat_map place_lines r.places.items in
    let two = prints_both _ _ old c.put_workers.new.out c.put_places.new.out workers places (rw c.as_slice.ensures at c.put_workers.ensures.printed) (rw c.as_slice-2.ensures at c.put_places.ensures.printed) in
    let three = prints_both _ _ old c.put_places.new.out c.put_between.new.out (workers ++ places) (between_lines r) two c.put_between.ensures.printed in
    prints_both _ _ old c.put_between.new.out c.put_uses.new.out (workers ++ places ++ between_lines r) (flat_map use_line r.uses.items) three (rw c.as_slice-3.ensures at c.put_uses.ensures.printed)

pub returns-clause-numbers : goal.returns-clause-numbers
returns-clause-numbers g c = record {
  workers = rw c.as_slice.ensures at c.put_workers.ensures.numbers;
  places = rw c.as_slice-2.ensures at c.put_places.ensures.numbers;
  between = c.put_between.ensures.numbers;
  uses = rw c.as_slice-3.ensures at c.put_uses.ensures.numbers;
}
