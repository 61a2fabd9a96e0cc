-- SPDX-License-Identifier: GPL-2.0-only
-- The entry of an id before another, in the journal of registrations.
use Rattle.std.specs.Prelude.{◌≡◌, ◌⊎◌, ℕ, ◌+◌, ◌-◌, ◌<◌, ◌≤◌, List, length, get_or, take}
use Rattle.shr_base.specs.declared.journals.PoolEntry.{PoolEntry}
use Rattle.shr_base.specs.declared.replies.Reply.{Reply}
use Rattle.shr_base.specs.declared.replies.Reply.TheVariants as reply
use Rattle.shr_model.specs.Pool.{id_of, phase_of}
use Rattle.shr_audit_reasons.specs.Cites.{IsEntryOfId}

-- This number is the one behind the last entry of an id before an entry, 0 where there is none.
pub record IsBehindOf (pool : List PoolEntry) (id n behind : ℕ) : Type 0 where
  pub low : behind ≤ n
  pub of : (behind ≡ 0) ⊎ IsEntryOfId pool id (behind - 1)
  pub quiet : (m : ℕ) → behind ≤ m → m < n → IsEntryOfId pool id m → ⊥

-- so it is for each id, after so many entries
pub record AreBehind (pool : List PoolEntry) (n : ℕ) (table : List ℕ) : Type 0 where
  pub count : length table ≡ 65536
  pub each : (id : ℕ) → id < 65536 → IsBehindOf pool id n (get_or table id 0)

-- and for each of so many entries, of its own id
pub record HasBehinds (pool : List PoolEntry) (n : ℕ) (table : List ℕ) : Type 0 where
  pub count : length table ≡ n
  pub each : (k : ℕ) (d : PoolEntry) → k < n → IsBehindOf pool (id_of (get_or pool k d)) k (get_or table k 0)

-- an entry of an id is its next one behind the first from a number on
abbrev pub IsSecondOf : List PoolEntry → ℕ → ℕ → ℕ → Type 0
IsSecondOf pool id entry n = IsEntryOfId pool id n × (entry < n) × (phase_of id (take n pool) ≡ phase_of id (take entry pool) + 1)

-- the answer freed an id by an entry, and this is the id's next one
abbrev pub IsIdledBy : List PoolEntry → ℕ → Reply → Type 0
IsIdledBy pool n (reply.Freed id entry from to objects) = IsSecondOf pool id entry n
IsIdledBy pool n x = ⊥
