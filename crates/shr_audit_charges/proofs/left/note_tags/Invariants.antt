-- SPDX-License-Identifier: GPL-2.0-only
use Rattle.shr_audit_charges.proofs.Common.{◌≡◌, ◌++◌, take, flat_map, tag_keys}
use Rattle.shr_audit_charges.proofs.left.note_tags.Given as goal

abbrev pub invariant-loop-tag : goal.invariant-loop-tag
invariant-loop-tag l = l.keys.items ≡ l.fn.keys.items ++ flat_map (tag_keys l.parents) (take l.tag-index l.tags)
