-- SPDX-License-Identifier: GPL-2.0-only
use Rattle.shr_audit_charges.proofs.Common.{◌≡◌, ◌++◌, take, flat_map, freed_keys}
use Rattle.shr_audit_charges.proofs.nets.note_freed.Given as goal

abbrev pub invariant-loop-tag : goal.invariant-loop-tag
invariant-loop-tag l = l.keys.items ≡ l.fn.keys.items ++ flat_map (freed_keys l.parents l.report l.entries) (take l.tag-index l.tags)
