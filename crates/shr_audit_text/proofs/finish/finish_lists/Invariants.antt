-- SPDX-License-Identifier: GPL-2.0-only
use Rattle.shr_audit_text.proofs.Common.{◌≡◌, map, list_of}
use Rattle.shr_audit_text.proofs.finish.finish_lists.Given as goal

abbrev pub invariant-loop-draft : goal.invariant-loop-draft
invariant-loop-draft l = l.ends.items ≡ map list_of l.yielded
