-- SPDX-License-Identifier: GPL-2.0-only
-- When groups were made, and done, by the entries of the journal of the tree.
use Rattle.std.specs.Prelude.{◌≡◌, ℕ, ◌<◌, ◌≤◌, ◌==◌, ◌&&◌, nat_lt, cond, is_some, List, length, get_or, set, take, Option, Some, None}
use Rattle.shr_base.specs.declared.journals.TreeEntry.{TreeEntry}
use Rattle.shr_base.specs.declared.journals.TreeEntry.TheVariants.{Begin, Done, Made}
use Rattle.shr_base.specs.declared.scripts.Script.{Script}
use Rattle.shr_model.specs.TreeJournal.{done_of, made_of}
use Rattle.shr_laws.specs.declared.report.Report.{Report}
use Rattle.shr_laws.specs.Parts.{parents_of}
use Rattle.shr_audit_rows.specs.declared.children.Moments.{Moments}

-- the group that an entry makes, and the one that is done with it
abbrev pub group_made_in : TreeEntry → Option ℕ
group_made_in (Begin g) = None
group_made_in (Done g) = None
group_made_in (Made g) = Some g

-- the group that an entry says is done, if it says so
abbrev pub done_in : TreeEntry → Option ℕ
done_in (Begin g) = None
done_in (Done g) = Some g
done_in (Made g) = None

-- one more is noted, of a group that had none
abbrev pub moment_noted : ℕ → ℕ → Option ℕ → List ℕ → List ℕ
moment_noted total n None moments = moments
moment_noted total n (Some g) moments = cond (nat_lt g (length moments) && (get_or moments g 0 == total)) (set moments g n) moments

-- the moments of all groups: an entry of a group stands among so many exactly where the group's moment is below that
pub record AreMoments (s : Script) (r : Report) (m : Moments) : Type 0 where
  pub parents : m.parents.items ≡ parents_of s
  pub made_count : length m.made.items ≡ length m.parents.items
  pub done_count : length m.done.items ≡ length m.parents.items
  pub made : (g entry : ℕ) → g < length m.made.items → entry ≤ length r.tree.items → is_some (made_of (take entry r.tree.items) g) ≡ nat_lt (get_or m.made.items g 0) entry
  pub done : (g entry : ℕ) → g < length m.done.items → entry ≤ length r.tree.items → is_some (done_of (take entry r.tree.items) g) ≡ nat_lt (get_or m.done.items g 0) entry
