-- SPDX-License-Identifier: GPL-2.0-only
use Rattle.shr_audit_charges.proofs.Common.{◌≡◌, ◌<◌, ◌++◌, length, path_of, keys_with, path_keys}
use Rattle.shr_audit_charges.proofs.climb.note_path.Given as goal

abbrev pub invariant-loop-group : goal.invariant-loop-group
invariant-loop-group l = record { within : l.group < length l.parents; keys : l.keys.items ++ keys_with l.by (path_of l.parents l.group) ≡ l.fn.keys.items ++ path_keys l.parents l.by l.birth }

abbrev pub decreases-loop-group : goal.decreases-loop-group
decreases-loop-group l = l.group
