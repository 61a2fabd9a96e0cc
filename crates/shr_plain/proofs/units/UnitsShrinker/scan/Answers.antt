-- SPDX-License-Identifier: GPL-2.0-only
use Rattle.shr_plain.proofs.Common.{ap, UnitSeat}
use Rattle.shr_plain.proofs.Scanning.{scan_keeps, scan_more, scan_counts, scan_tells}
use Rattle.shr_plain.proofs.units.UnitsShrinker.scan.Goals as goal

pub returns-clause-scans : goal.returns-clause-scans
returns-clause-scans g c = scan_more c.args.self.now.place c.args.self.now.room c.args.self.now.worker c.args.self.now.walk c.args.asked c.args.seat.now c.reclaim-answer.new.seat (ap (λ (x : UnitSeat). x.table_id) c.reclaim-answer.ensures.reclaimed.same) c.reclaim-answer.result c.reclaim-answer.ensures.reclaimed.did

pub returns-clause-counts : goal.returns-clause-counts
returns-clause-counts g c = scan_counts c.args.self.now.place c.args.self.now.room c.args.self.now.worker c.args.self.now.walk c.args.asked c.args.seat.now c.reclaim-answer.new.seat (ap (λ (x : UnitSeat). x.table_id) c.reclaim-answer.ensures.reclaimed.same) c.args.self.now.floor c.reclaim-answer.result c.reclaim-answer.ensures.reclaimed.did

pub returns-clause-told : goal.returns-clause-told
returns-clause-told g c = scan_tells c.args.self.now.place c.args.self.now.room c.args.self.now.worker c.args.self.now.walk c.args.asked c.args.seat.now c.reclaim-answer.new.seat (ap (λ (x : UnitSeat). x.table_id) c.reclaim-answer.ensures.reclaimed.same) c.reclaim-answer.result c.reclaim-answer.ensures.reclaimed.did

pub returns-clause-kept : goal.returns-clause-kept
returns-clause-kept g c = scan_keeps c.args.self.now.place c.args.self.now.room c.args.self.now.worker c.args.self.now.walk c.args.asked c.args.seat.now c.reclaim-answer.new.seat (ap (λ (x : UnitSeat). x.table_id) c.reclaim-answer.ensures.reclaimed.same) c.reclaim-answer.result (c.requires.0.out c.args.self.now.room) c.reclaim-answer.ensures.reclaimed.did
