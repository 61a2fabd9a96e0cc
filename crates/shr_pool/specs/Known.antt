-- SPDX-License-Identifier: GPL-2.0-only
-- What a pass knows of the queue.
use Rattle.std.specs.Prelude.{◌≡◌, ℕ, ◌≤◌, List, [], ◌++◌}
use Rattle.shr_seats.specs.Weights.{total}
use Rattle.shr_seats.specs.Standing.{IsWhole}
use Rattle.shr_pool.specs.declared.items.SweepItem.{SweepItem}
use Rattle.shr_pool.specs.declared.view.PassView.{PassView}
use Rattle.shr_pool.specs.Lines.{ends, most_helpers}
use Rattle.shr_pool.specs.Rule.{with_pop}

-- a pass popped of no item more than was pushed: however items are weighed, those that it popped
-- weigh no more than those that were pushed
abbrev pub HasPoppedWithin : PassView → Type 0
HasPoppedWithin v = (h : SweepItem → ℕ) → total h v.popped ≤ total h v.pushed

-- this pass popped x, and of no item more than was pushed
pub record IsPopped (old : PassView) (x : SweepItem) (new : PassView) : Type 0 where
  pub view : new ≡ with_pop old x
  pub within : HasPoppedWithin new

-- where all marks were pushed, a helper that has popped none finds something in the queue
abbrev pub IsFaced : PassView → List SweepItem → Type 0
IsFaced v items = most_helpers ≤ ends v.pushed → items ≡ [] → ⊥

-- once all others are joined, what was pushed is what this pass popped, in some order, and then
-- what the queue holds
abbrev pub IsQueueShown : PassView → List SweepItem → Type 0
IsQueueShown v items = IsWhole v.standing → (gone : List SweepItem) × (v.pushed ≡ gone ++ items) × ((h : SweepItem → ℕ) → total h gone ≡ total h v.popped)
