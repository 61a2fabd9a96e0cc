-- SPDX-License-Identifier: GPL-2.0-only
use Rattle.std.proofs.Common.{◌≡◌, ◌++◌, map, take}
use Rattle.shr_audit_case.specs.Tags.{freed_tag}
use Rattle.shr_audit_case.proofs.tags.note_freed.Given as goal

abbrev pub invariant-loop-object : goal.invariant-loop-object
invariant-loop-object l = l.tags.items ≡ l.fn.tags.items ++ map (freed_tag l.entry) (take l.object-index l.freed)
