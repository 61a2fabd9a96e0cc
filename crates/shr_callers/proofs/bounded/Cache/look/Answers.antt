-- SPDX-License-Identifier: GPL-2.0-only
use Rattle.std.proofs.Common.{arith}
use Rattle.shr_list.proofs.Lengths.{length-look}
use Rattle.shr_callers.specs.Bounded.{maker}
use Rattle.shr_callers.proofs.bounded.Cache.look.Goals as goal

-- a look leaves the length
pub invariant_of-self : goal.invariant_of-self
invariant_of-self c =
    let old = c.args.self.now in
    let same = length-look old.list c.look.new.self maker 0 c.args.key.now c.look.result c.look.ensures in
    record { some = old.some; bounded = omega (arith, same, old.bounded) }
