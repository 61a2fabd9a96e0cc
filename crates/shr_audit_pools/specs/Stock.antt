-- SPDX-License-Identifier: GPL-2.0-only
-- What is read once of the journal of a pool. No public clause cites this.
use Rattle.std.specs.Prelude.{◌≡◌, ℕ, ◌+◌, ◌*◌, ◌<◌, ◌≤◌, ◌^◌, ◌==◌, List, [], length, map, filter, filter_map, take, get_or, slice_get, Option, Some, None}
use Rattle.std.specs.List.{enumerate_from}
use Rattle.shr_base.specs.declared.ends.UnitsEnd.{UnitsEnd}
use Rattle.shr_base.specs.declared.journals.PlainEntry.{PlainEntry}
use Rattle.shr_base.specs.declared.journals.PlainEntry.TheVariants as plain
use Rattle.shr_model.specs.Units.{free_of}
use Rattle.shr_audit_formed.specs.Each.{Adjacent}
use Rattle.shr_laws.specs.Pools.{ReclaimMade, reclaims_by}
use Rattle.shr_audit_pools.specs.declared.stock.Reclaimed.{Reclaimed}
use Rattle.shr_audit_pools.specs.declared.stock.Stock.{Stock}

-- a walk of a worker by one number
abbrev pub walk_key : ℕ → ℕ → ℕ
walk_key worker walk = 4294967296 * worker + walk

-- a Reclaim as the law sees it
abbrev pub made_of_reclaim : Reclaimed → ReclaimMade
made_of_reclaim x = record { number = x.number; asked = x.asked; freed = x.freed }

-- the entry with this number, if it is a Reclaim
abbrev pub reclaimed_of : ℕ → PlainEntry → Option Reclaimed
reclaimed_of number (plain.Reclaim worker walk asked freed) = Some (record { key = walk_key worker walk; number = number; asked = asked; freed = freed })
reclaimed_of number e = None

-- the Reclaims of a journal, in order
abbrev pub all_reclaims : List PlainEntry → List Reclaimed
all_reclaims entries = filter_map (λ (e : ℕ × PlainEntry). reclaimed_of e.0 e.1) (enumerate_from 0 entries)

-- those of a walk
abbrev pub reclaims_with_key : ℕ → List Reclaimed → List Reclaimed
reclaims_with_key key xs = filter (λ (x : Reclaimed). x.key == key) xs

-- as the Reclaims stand that were read
abbrev pub StandByWalk : List Reclaimed → Type 0
StandByWalk xs = Adjacent (λ x y. x.key ≤ y.key) xs

-- how many units are free after so many entries, for each number of them
pub record AreFree (entries : List PlainEntry) (free : List ℕ) : Type 0 where
  pub count : length free ≡ length entries + 1
  pub each : (n : ℕ) → n ≤ length entries → get_or free n 0 ≡ free_of (take n entries)

-- the Reclaims of each walk of a journal, in order
pub record AreReclaims (entries : List PlainEntry) (xs : List Reclaimed) : Type 0 where
  pub stand : StandByWalk xs
  pub each : (worker walk : ℕ) → walk < 2 ^ 32 → map made_of_reclaim (reclaims_with_key (walk_key worker walk) xs) ≡ reclaims_by worker walk entries
  pub far : (worker walk : ℕ) → 2 ^ 32 ≤ walk → reclaims_by worker walk entries ≡ []

-- both
pub record IsStockOf (entries : List PlainEntry) (stock : Stock) : Type 0 where
  pub free : AreFree entries stock.free.items
  pub reclaims : AreReclaims entries stock.reclaims.items

-- those of these journals
pub record AreStocksOf (ends : List UnitsEnd) (stocks : List Stock) : Type 0 where
  pub count : length stocks ≡ length ends
  pub each : (k : ℕ) (u : UnitsEnd) (x : Stock) → slice_get ends k ≡ Some u → slice_get stocks k ≡ Some x → IsStockOf u.entries.items x

-- after so many entries of a journal so many units are free
pub record IsFreeAfter (es : List PlainEntry) (entries free : ℕ) : Type 0 where
  pub there : entries ≤ length es
  pub counted : free ≡ free_of (take entries es)
