-- SPDX-License-Identifier: GPL-2.0-only
use Rattle.shr_audit_replies.proofs.Risings.{AreNoted}
use Rattle.shr_audit_replies.proofs.rising.is_rising.Given as goal

abbrev pub invariant-loop-n : goal.invariant-loop-n
invariant-loop-n l = AreNoted l.journal l.entries l.n l.seen.items
