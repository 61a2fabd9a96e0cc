-- SPDX-License-Identifier: GPL-2.0-only
use Rattle.shr_audit_replies.proofs.Common.{◌≡◌, ◌<◌, ℕ, length, last_of_worker}
use Rattle.shr_audit_replies.proofs.rising.no_lasts.Given as goal

abbrev pub invariant-loop-worker : goal.invariant-loop-worker
invariant-loop-worker l = record {
  count : length l.seen.items ≡ l._worker;
  below : (worker : ℕ) → (last_of_worker l.seen.items worker).journal < 1;
}
