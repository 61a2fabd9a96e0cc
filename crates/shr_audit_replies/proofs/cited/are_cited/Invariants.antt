-- SPDX-License-Identifier: GPL-2.0-only
use Rattle.shr_audit_replies.proofs.Common.{◌≡◌, ◌<◌, ℕ, Some, slice_get, Entry, IsCited}
use Rattle.shr_audit_replies.proofs.cited.are_cited.Given as goal

abbrev pub invariant-loop-n : goal.invariant-loop-n
invariant-loop-n l = (m : ℕ) (e : Entry) → m < l.n → slice_get l.entries m ≡ Some e → IsCited l.report l.place m e
