-- SPDX-License-Identifier: GPL-2.0-only
-- How hard the buffers are squeezed.
use Rattle.shr_arith.specs.declared.passes.Pressure.{Pressure}

-- a quarter of the count, at the cost of 2 seeks
abbrev pub mild : Pressure
mild = record { priority = 2; seeks = 2; batch = 0 }
