-- SPDX-License-Identifier: GPL-2.0-only
use Rattle.shr_audit_walks.proofs.ScansCommon.{◌≡◌, ◌++◌, ℕ, take, flat_map, enumerate_from, WalkRecord, keys_in}
use Rattle.shr_audit_walks.proofs.passes.note_part.Given as goal

abbrev pub invariant-loop-n : goal.invariant-loop-n
invariant-loop-n l = l.keys.items ≡ l.fn.keys.items ++ flat_map (λ (x : ℕ × WalkRecord). keys_in l.worker x.0 x.1) (take l.n (enumerate_from 0 l.walks))
