-- SPDX-License-Identifier: GPL-2.0-only
-- The arithmetic of a pass, over unbounded numbers. Linux: do_shrink_slab in mm/shrinker.c.
use Rattle.std.specs.Prelude.{◌≡◌, ℕ, ◌+◌, ◌-◌, ◌*◌, ◌/◌, ◌^◌, ◌≤◌, ◌<◌, min, cond, ◌==◌, nat_le, List, take, replicate, sum}
use Rattle.shr_base.specs.declared.walks.Ending.{Ending}
use Rattle.shr_base.specs.declared.walks.Ending.TheVariants.{Through, Stop, NoRoom, Worn}
use Rattle.shr_base.specs.declared.walks.PassRecord.{PassRecord}

-- a batch of 0 stands for the default of 128
abbrev pub batch_of : ℕ → ℕ
batch_of batch = cond (batch == 0) 128 batch

-- the new work of a pass over `freeable` objects
abbrev pub delta_of : ℕ → ℕ → ℕ → ℕ
delta_of freeable priority seeks = cond (seeks == 0) (freeable / 2) (freeable / 2 ^ priority * 4 / seeks)

-- what a pass is to scan: its new work and a share of what was deferred, and at most twice what can
-- be freed
abbrev pub total_of : ℕ → ℕ → ℕ → ℕ → ℕ
total_of freeable nr priority seeks = min (nr / 2 ^ priority + delta_of freeable priority seeks) (2 * freeable)

-- what is deferred again, of which `-` ends at 0
abbrev pub next_of : ℕ → ℕ → ℕ → ℕ → ℕ
next_of nr delta scanned freeable = min (nr + delta - scanned) (2 * freeable)

-- how many asks are due: each whole batch of the total, or a single one where a batch is more than
-- can be freed
unfoldable pub due : ℕ → ℕ → ℕ → ℕ
due batch freeable total = cond (nat_le batch freeable) (total / batch) (cond (nat_le freeable total) 1 0)

-- the size that all due asks have
unfoldable pub ask_size : ℕ → ℕ → ℕ → ℕ
ask_size batch freeable total = cond (nat_le batch freeable) batch (min batch total)

-- the due asks, in order
abbrev pub due_asks : ℕ → ℕ → ℕ → List ℕ
due_asks batch freeable total = replicate (due batch freeable total) (ask_size batch freeable total)

-- as many asks were made as were due where the pass went through, and fewer otherwise
abbrev pub MadeOf : ℕ → Ending → ℕ → Type 0
MadeOf asks Through number = asks ≡ number
MadeOf asks Stop number = asks < number
MadeOf asks NoRoom number = asks < number
MadeOf asks (Worn spent) number = asks < number

-- the record of a pass follows the arithmetic
pub record FollowsArithmetic (priority seeks batch : ℕ) (p : PassRecord) : Type 0 where
  -- the first of the due asks were made
  pub made : MadeOf p.asks p.ending (due (batch_of batch) p.len (total_of p.len p.nr priority seeks))
  pub scanned : p.scanned ≡ sum (take p.asks (due_asks (batch_of batch) p.len (total_of p.len p.nr priority seeks)))
  pub next : p.next ≡ next_of p.nr (delta_of p.len priority seeks) p.scanned p.len
  -- those that found the list closed are among them
  pub closed : p.closed ≤ p.asks
