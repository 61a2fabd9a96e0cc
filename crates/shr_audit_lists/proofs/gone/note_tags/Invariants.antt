-- SPDX-License-Identifier: GPL-2.0-only
use Rattle.shr_audit_lists.proofs.BagCommon.{◌≡◌, ◌++◌, map, take, freed_serial}
use Rattle.shr_audit_lists.proofs.gone.note_tags.Given as goal

abbrev pub invariant-loop-freed : goal.invariant-loop-freed
invariant-loop-freed l = l.serials.items ≡ l.fn.serials.items ++ map freed_serial (take l.freed-index l.tags)
