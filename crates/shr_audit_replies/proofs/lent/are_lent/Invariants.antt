-- SPDX-License-Identifier: GPL-2.0-only
use Rattle.shr_audit_replies.proofs.LendingCommon.{◌≡◌, ◌<◌, ℕ, List, [], Some, slice_get, Entry, Object, values_from, AreAhead, IsMetLent}
use Rattle.shr_audit_replies.proofs.lent.are_lent.Given as goal

abbrev pub invariant-loop-n : goal.invariant-loop-n
invariant-loop-n l = (moved : List (List Object)) → l.found ≡ values_from 0 moved [] l.entries → AreAhead moved l.entries l.n l.rest
    × ((m : ℕ) (e : Entry) → m < l.n → slice_get l.entries m ≡ Some e → IsMetLent l.report l.place moved l.entries m e)
