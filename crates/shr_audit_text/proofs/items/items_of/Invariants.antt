-- SPDX-License-Identifier: GPL-2.0-only
use Rattle.shr_audit_text.proofs.Common.{◌≡◌, ◌++◌, length, slab_len, objects_from}
use Rattle.shr_audit_text.proofs.items.items_of.Given as goal

abbrev pub invariant-loop-object : goal.invariant-loop-object
invariant-loop-object l = (l.fn.objects.items ≡ l.objects.items ++ objects_from l.nodes (slab_len l.nodes) l.head) × (length (objects_from l.nodes (slab_len l.nodes) l.head) ≡ slab_len l.nodes)

abbrev pub decreases-loop-object : goal.decreases-loop-object
decreases-loop-object l = length l.objects.items
