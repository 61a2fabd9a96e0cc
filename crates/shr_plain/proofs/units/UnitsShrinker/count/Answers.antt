-- SPDX-License-Identifier: GPL-2.0-only
use Rattle.shr_plain.proofs.Common.{ap, arith, UnitSeat}
use Rattle.shr_plain.proofs.Scanning.{kind_empty, kind_skip, kind_many, count_keeps, count_more, count_scans, count_low}
use Rattle.shr_plain.proofs.units.UnitsShrinker.count.Goals as goal

pub returns-then-len-eq0-clause-counts : goal.returns-then-len-eq0-clause-counts
returns-then-len-eq0-clause-counts g c = count_more c.args.self.now.room c.args.self.now.worker c.args.self.now.walk c.args.seat.now c.count-len.new.seat (ap (λ (x : UnitSeat). x.table_id) c.count-len.ensures.counted.same) c.count-len.result.0 c.count-len.result.1 c.count-len.ensures.counted.did c.args.self.now.floor _ (kind_empty c.args.self.now.floor c.count-len.result.0 c.count-len.result.1 (let z = c.if-len-eq0.true in omega (arith, z)))

pub returns-then-len-eq0-clause-scans : goal.returns-then-len-eq0-clause-scans
returns-then-len-eq0-clause-scans g c = count_scans c.args.self.now.room c.args.self.now.worker c.args.self.now.walk c.args.seat.now c.count-len.new.seat (ap (λ (x : UnitSeat). x.table_id) c.count-len.ensures.counted.same) c.count-len.result.0 c.count-len.result.1 c.count-len.ensures.counted.did

pub returns-then-len-eq0-clause-kept : goal.returns-then-len-eq0-clause-kept
returns-then-len-eq0-clause-kept g c = count_keeps c.args.self.now.room c.args.self.now.worker c.args.self.now.walk c.args.seat.now c.count-len.new.seat (ap (λ (x : UnitSeat). x.table_id) c.count-len.ensures.counted.same) c.count-len.result.0 c.count-len.result.1 c.count-len.ensures.counted.did

pub returns-then-len-self-clause-counts : goal.returns-then-len-self-clause-counts
returns-then-len-self-clause-counts g c = count_more c.args.self.now.room c.args.self.now.worker c.args.self.now.walk c.args.seat.now c.count-len.new.seat (ap (λ (x : UnitSeat). x.table_id) c.count-len.ensures.counted.same) c.count-len.result.0 c.count-len.result.1 c.count-len.ensures.counted.did c.args.self.now.floor _ (kind_skip c.args.self.now.floor c.count-len.result.0 c.count-len.result.1 (let z = c.if-len-eq0.false in λ e. absurd (omega (arith, z, e))) (let z = c.if-len-self.true in omega (arith, z)))

pub returns-then-len-self-clause-scans : goal.returns-then-len-self-clause-scans
returns-then-len-self-clause-scans g c = count_scans c.args.self.now.room c.args.self.now.worker c.args.self.now.walk c.args.seat.now c.count-len.new.seat (ap (λ (x : UnitSeat). x.table_id) c.count-len.ensures.counted.same) c.count-len.result.0 c.count-len.result.1 c.count-len.ensures.counted.did

pub returns-then-len-self-clause-kept : goal.returns-then-len-self-clause-kept
returns-then-len-self-clause-kept g c = count_keeps c.args.self.now.room c.args.self.now.worker c.args.self.now.walk c.args.seat.now c.count-len.new.seat (ap (λ (x : UnitSeat). x.table_id) c.count-len.ensures.counted.same) c.count-len.result.0 c.count-len.result.1 c.count-len.ensures.counted.did

pub returns-then-len-self-clause-fits : goal.returns-then-len-self-clause-fits
returns-then-len-self-clause-fits g c = let low = count_low c.args.self.now.room c.args.self.now.worker c.args.self.now.walk c.args.seat.now c.count-len.new.seat (ap (λ (x : UnitSeat). x.table_id) c.count-len.ensures.counted.same) c.count-len.result.0 c.count-len.result.1 c.count-len.ensures.counted.did in let z = c.if-len-eq0.false in (omega (arith, z), omega (arith, low))

pub returns-else-len-self-clause-counts : goal.returns-else-len-self-clause-counts
returns-else-len-self-clause-counts g c = count_more c.args.self.now.room c.args.self.now.worker c.args.self.now.walk c.args.seat.now c.count-len.new.seat (ap (λ (x : UnitSeat). x.table_id) c.count-len.ensures.counted.same) c.count-len.result.0 c.count-len.result.1 c.count-len.ensures.counted.did c.args.self.now.floor _ (kind_many c.args.self.now.floor c.count-len.result.0 c.count-len.result.1 (let z = c.if-len-eq0.false in λ e. absurd (omega (arith, z, e))) (let z = c.if-len-self.false in omega (arith, z)))

pub returns-else-len-self-clause-scans : goal.returns-else-len-self-clause-scans
returns-else-len-self-clause-scans g c = count_scans c.args.self.now.room c.args.self.now.worker c.args.self.now.walk c.args.seat.now c.count-len.new.seat (ap (λ (x : UnitSeat). x.table_id) c.count-len.ensures.counted.same) c.count-len.result.0 c.count-len.result.1 c.count-len.ensures.counted.did

pub returns-else-len-self-clause-kept : goal.returns-else-len-self-clause-kept
returns-else-len-self-clause-kept g c = count_keeps c.args.self.now.room c.args.self.now.worker c.args.self.now.walk c.args.seat.now c.count-len.new.seat (ap (λ (x : UnitSeat). x.table_id) c.count-len.ensures.counted.same) c.count-len.result.0 c.count-len.result.1 c.count-len.ensures.counted.did

pub returns-else-len-self-clause-fits : goal.returns-else-len-self-clause-fits
returns-else-len-self-clause-fits g c = let low = count_low c.args.self.now.room c.args.self.now.worker c.args.self.now.walk c.args.seat.now c.count-len.new.seat (ap (λ (x : UnitSeat). x.table_id) c.count-len.ensures.counted.same) c.count-len.result.0 c.count-len.result.1 c.count-len.ensures.counted.did in let z = c.if-len-eq0.false in (omega (arith, z), omega (arith, low))
