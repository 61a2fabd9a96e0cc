-- SPDX-License-Identifier: GPL-2.0-only
-- The rule of the queue.
use Rattle.std.specs.Prelude.{◌≡◌, ℕ, ◌≤◌, true, false, cond, List, [], ◌∷◌, ◌++◌, map, sum_by}
use Rattle.shr_seats.specs.Views.{Each}
use Rattle.shr_seats.specs.Weights.{total}
use Rattle.shr_seats.specs.Standing.{Standing, at_first, at_split, at_end, with_split, with_join, AreSeats, AreEmptied}
use Rattle.shr_pool.specs.declared.items.SweepItem.{SweepItem}
use Rattle.shr_pool.specs.declared.view.PassView.{PassView}
use Rattle.shr_pool.specs.Lines.{ends, most_helpers}

-- where a view stands among the passes
abbrev pub pass_standing_in : PassView → Standing
pass_standing_in v = v.standing

-- the first pass of a new queue
abbrev pub first_pass_view : PassView
first_pass_view = record { pushed = []; popped = []; standing = at_first }

-- what is left of a pass that was joined into the first
abbrev pub spent_pass_view : PassView
spent_pass_view = record { pushed = []; popped = []; standing = at_end }

-- a pass that was split off: it knows what was pushed
abbrev pub new_pass_view : PassView → PassView
new_pass_view v = record { pushed = v.pushed; popped = []; standing = at_split }

-- x was pushed
abbrev pub with_push : PassView → SweepItem → PassView
with_push v x = record v { pushed = v.pushed ++ x ∷ [] }

-- x was popped
abbrev pub with_pop : PassView → SweepItem → PassView
with_pop v x = record v { popped = v.popped ++ x ∷ [] }

-- the first pass, split once more
abbrev pub split_pass_view : PassView → PassView
split_pass_view v = record v { standing = with_split v.standing }

-- the first pass, with what another popped that was joined into it
abbrev pub joined_pass_view : PassView → PassView → PassView
joined_pass_view v u = record { pushed = v.pushed; popped = v.popped ++ u.popped; standing = with_join v.standing }

-- how many marks a pass may have popped: a helper one, and the first one for each that was joined
abbrev pub marks_for : Standing → ℕ
marks_for z = cond z.first z.joins 1

-- the rule of the queue, which holds between any two steps
pub record IsQueued (items : List SweepItem) (views : List PassView) : Type 0 where
  -- what was pushed, and what of it was popped, in order
  pub pushed : List SweepItem
  pub gone : List SweepItem
  pub line : pushed ≡ gone ++ items
  -- each pass that is here knows what was pushed
  pub told : Each (λ v. v.standing.gone ≡ false → v.pushed ≡ pushed) views
  -- what was popped stands in the views, each once: however items are weighed, both weigh the same
  pub popped : (h : SweepItem → ℕ) → total h gone ≡ sum_by (λ v. total h v.popped) views
  pub marks : Each (λ v. v.standing.gone ≡ false → ends v.popped ≤ marks_for v.standing) views
  pub few : Each (λ v. v.standing.first ≡ true → v.standing.splits ≤ most_helpers) views
  pub seats : AreSeats (map pass_standing_in views)
  pub emptied : AreEmptied pass_standing_in spent_pass_view views
