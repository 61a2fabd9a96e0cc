-- SPDX-License-Identifier: GPL-2.0-only
use Rattle.shr_audit_rows.proofs.Common.{◌≤◌, ◌<◌, length, take, arith, length-take}
use Rattle.shr_audit_rows.proofs.PooledLaws.{room_for, stands_more}
use Rattle.shr_audit_rows.proofs.pooled.Pooled.advance.Goals as goal

pub note-requires-clause-room : goal.note-requires-clause-room
note-requires-clause-room c = λ id lt.
    let n = c.loop-n.n in
    let long = length-take n c.args.pool.now in
    let few : length (take n c.args.pool.now) ≤ n = omega (arith, long) in
    let le = room_for c.args.pool.now n id c.loop-n.self.phases.items c.loop-n.self.decls.items lt few c.loop-n.invariant in
    omega (arith, le)

pub loop-n-preserved : goal.loop-n-preserved
loop-n-preserved c =
    let there : c.loop-n.n < length c.args.pool.now = omega arith in
    stands_more c.args.pool.now c.loop-n.n _ _ _ there (c.note.ensures (take c.loop-n.n c.args.pool.now) c.loop-n.invariant)
