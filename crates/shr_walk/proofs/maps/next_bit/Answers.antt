-- SPDX-License-Identifier: GPL-2.0-only
use Rattle.shr_walk.proofs.Mapping.{bits_done, bit_next}
use Rattle.shr_walk.proofs.maps.next_bit.Goals as goal

pub returns-then-rest-eq0 : goal.returns-then-rest-eq0
returns-then-rest-eq0 c = bits_done c.args.bits c.args.from c.if-rest-eq0.true

pub returns : goal.returns
returns c = bit_next c.args.bits c.args.from c.ranges.bits.fits c.if-rest-eq0.false
