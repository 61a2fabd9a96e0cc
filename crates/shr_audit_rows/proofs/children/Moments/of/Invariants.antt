-- SPDX-License-Identifier: GPL-2.0-only
use Rattle.shr_audit_rows.proofs.Common.{◌≡◌, length, is_done, is_making, done_in, group_made_in}
use Rattle.shr_audit_rows.proofs.MomentsLaws.{Upto, doing, making}
use Rattle.shr_audit_rows.proofs.children.Moments.of.Given as goal

abbrev pub invariant-loop-n : goal.invariant-loop-n
invariant-loop-n l = record {
  made : Upto is_making group_made_in making l.tree l.n l.made.items;
  done : Upto is_done done_in doing l.tree l.n l.done.items;
  made_count : length l.made.items ≡ length l.parents.items;
  done_count : length l.done.items ≡ length l.parents.items;
}
