-- SPDX-License-Identifier: GPL-2.0-only
-- Where registrations began, and where ids became idle last. No public clause of the law cites this.
use Rattle.std.specs.Prelude.{◌≡◌, ℕ, ◌<◌, ◌≤◌, nat_lt, Bool, true, false, List, length, get_or, take, drop}
use Rattle.std.specs.List.{list_any}
use Rattle.shr_base.specs.declared.journals.PoolEntry.{PoolEntry}
use Rattle.shr_base.specs.declared.journals.PoolEntry.TheVariants.{Registered, Unregistered, Idle}
use Rattle.shr_model.specs.Pool.{from_of, id_of}
use Rattle.shr_laws.specs.declared.report.Report.{Report}
use Rattle.shr_laws.specs.Causes.{is_idle_entry}
use Rattle.shr_audit_causes.specs.declared.began.Began.{Began}

-- an id became idle with the entry
abbrev pub is_idle : PoolEntry → Bool
is_idle (Registered decl id from) = false
is_idle (Unregistered decl id to) = false
is_idle (Idle id) = true

-- so it is after so many entries
pub record IsUpto (pool : List PoolEntry) (n : ℕ) (b : Began) : Type 0 where
  pub last_count : length b.lasts.items ≡ 65536
  pub idle_count : length b.idles.items ≡ 65536
  pub from_count : length b.froms.items ≡ n
  pub last : (id : ℕ) → id < 65536 → get_or b.lasts.items id 0 ≡ from_of id (take n pool)
  pub from : (k : ℕ) (d : PoolEntry) → k < n → get_or b.froms.items k 0 ≡ from_of (id_of (get_or pool k d)) (take k pool)
  pub idle : (id j : ℕ) → id < 65536 → list_any (is_idle_entry id) (drop j (take n pool)) ≡ nat_lt j (get_or b.idles.items id 0)
  pub low : (id : ℕ) → id < 65536 → get_or b.idles.items id 0 ≤ n

-- after all
abbrev pub AreBegan : Report → Began → Type 0
AreBegan r b = IsUpto r.pool.items (length r.pool.items) b
