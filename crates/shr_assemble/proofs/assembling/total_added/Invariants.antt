-- SPDX-License-Identifier: GPL-2.0-only
use Rattle.shr_assemble.proofs.Common.{◌≡◌, take, added_count}
use Rattle.shr_assemble.proofs.assembling.total_added.Given as goal

abbrev pub invariant-loop-end : goal.invariant-loop-end
invariant-loop-end l = l.total ≡ added_count (take l.end-index l.ends)
