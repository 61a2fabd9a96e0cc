-- SPDX-License-Identifier: GPL-2.0-only
-- How a text keeps its bytes. No public clause cites this module.
use Rattle.std.specs.Prelude.{ℕ, List, take, ◌≤◌}
use Rattle.std.specs.Arc.{arc_slice_items}
use Rattle.shr_base.specs.declared.text.Bytes.{Bytes}
use Rattle.shr_base.specs.declared.text.Bytes.TheVariants.{Short, Shared}

-- the bytes that are kept so
abbrev pub bytes_of : Bytes → List ℕ
bytes_of (Short len bytes) = take len bytes
bytes_of (Shared bytes) = arc_slice_items bytes

-- those in place are within it
abbrev pub IsShortWithin : Bytes → Type 0
IsShortWithin (Short len bytes) = len ≤ 22
IsShortWithin (Shared bytes) = Unit {0}
