-- SPDX-License-Identifier: GPL-2.0-only
-- The exit status of the program.
use Rattle.std.specs.Prelude.{ℕ}
use Rattle.shr_tool.specs.declared.status.Status.{Status}
use Rattle.shr_tool.specs.declared.status.Status.TheVariants.{Done, Usage, ReadFault, WriteFault, Refused, Memory, TooLong, Unlawful}

-- the number that the program ends with
abbrev pub status_number : Status → ℕ
status_number Done = 0
status_number Usage = 2
status_number ReadFault = 3
status_number WriteFault = 4
status_number Refused = 5
status_number Memory = 6
status_number TooLong = 7
status_number Unlawful = 8
