-- SPDX-License-Identifier: GPL-2.0-only
use Rattle.std.proofs.Common.{arith}
use Rattle.shr_print.proofs.parts.printed_parts.Goals as goal

pub returns-clause-parts : goal.returns-clause-parts
returns-clause-parts g c i d lt = (c.in_ok-map_indices.ensures.each i d (omega (arith, lt, c.requires.some))).1.met
