-- SPDX-License-Identifier: GPL-2.0-only
use Rattle.shr_charge.proofs.Common.{true, call_count, TellsUse, op_of}
use Rattle.shr_charge.proofs.table.ChargeSeat.add_up.Given as goal

abbrev pub ghosts-add_as : goal.ghosts-add_as
ghosts-add_as a = record { tells = λ w r. TellsUse a.token.now.me (op_of a._group a._by true w) (call_count a._first) 0 r }
