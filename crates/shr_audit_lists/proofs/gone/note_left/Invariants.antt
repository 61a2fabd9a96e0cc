-- SPDX-License-Identifier: GPL-2.0-only
use Rattle.shr_audit_lists.proofs.BagCommon.{◌≡◌, ◌++◌, map, take, left_serial}
use Rattle.shr_audit_lists.proofs.gone.note_left.Given as goal

abbrev pub invariant-loop-tag : goal.invariant-loop-tag
invariant-loop-tag l = l.serials.items ≡ l.fn.serials.items ++ map left_serial (take l.tag-index l.tags)
