-- SPDX-License-Identifier: GPL-2.0-only
-- Passes of pools, each by itself. No public clause cites this.
use Rattle.std.specs.Prelude.{◌≡◌, ℕ, ◌≤◌, List, map, sum_by, take}
use Rattle.std.specs.List.{AllByRecursion}
use Rattle.shr_base.specs.declared.places.Place.{Place}
use Rattle.shr_base.specs.declared.scripts.PoolDecl.{PoolDecl}
use Rattle.shr_base.specs.declared.walks.Ending.TheVariants as ending
use Rattle.shr_base.specs.declared.walks.PassRecord.{PassRecord}
use Rattle.shr_base.specs.declared.walks.PlainTry.{PlainTry}
use Rattle.shr_base.specs.declared.walks.PlainTry.TheVariants.{Ran}
use Rattle.shr_base.specs.declared.walks.PlainWalk.{PlainWalk}
use Rattle.shr_model.specs.Pass.{batch_of, due_asks, total_of}
use Rattle.shr_laws.specs.declared.report.Report.{Report}
use Rattle.shr_laws.specs.Pools.{IsKind, IsLastTry, IsPlainCount, IsPlainPass, ReclaimMade, reclaims_by}
use Rattle.shr_laws.specs.UnitParts.{units_journal}
use Rattle.shr_audit_pools.specs.declared.stock.Reclaimed.{Reclaimed}

-- a Reclaim asked for so many units, and stands at this number or behind it
abbrev pub IsReclaimAfter : ℕ → ℕ → Reclaimed → Type 0
IsReclaimAfter size version x = (x.asked ≡ size) × (version ≤ x.number)

-- how many units it freed
abbrev pub reclaim_freed : Reclaimed → ℕ
reclaim_freed x = x.freed

-- these are the Reclaims of a pass
pub record AreReclaimsOf (d : PoolDecl) (priority : ℕ) (p : PassRecord) (reclaims : List ReclaimMade) : Type 0 where
  pub asked : map (λ x. x.asked) reclaims ≡ take p.asks (due_asks (batch_of d.batch) p.len (total_of p.len p.nr priority d.seeks))
  pub freed : sum_by (λ (x : ReclaimMade). x.freed) reclaims ≡ p.freed
  pub later : AllByRecursion (λ (x : ReclaimMade). p.version ≤ x.number) reclaims

-- if a pass ended for want of room, it is the last try of a walk that memory ended
abbrev pub IsCutRight : PlainWalk → ℕ → PassRecord → Type 0
IsCutRight w pool p = p.ending ≡ ending.NoRoom → IsLastTry w pool

-- the pass of a try, if it ran one, is one of its pool
abbrev pub IsRunRight : Report → ℕ → ℕ → PlainWalk → ℕ → Place → PoolDecl → PlainTry → Type 0
IsRunRight r worker n w pool place d x = (p : PassRecord) → x ≡ Ran p → IsPlainPass r place d w.priority p (reclaims_by worker n (units_journal r place)) × IsCutRight w pool p

-- what the law asks of a try
pub record IsTryRight (r : Report) (worker n : ℕ) (w : PlainWalk) (pool : ℕ) (place : Place) (d : PoolDecl) (x : PlainTry) : Type 0 where
  pub count : IsPlainCount r place x
  pub kind : IsKind d x
  pub run : IsRunRight r worker n w pool place d x
