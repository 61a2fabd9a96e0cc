-- SPDX-License-Identifier: GPL-2.0-only
-- What an `unregister` that drained says, but for the places that it drained.
use Rattle.std.specs.Prelude.{◌≡◌, ℕ, Bool, take, slice_get, Some}
use Rattle.shr_base.specs.declared.journals.PoolEntry.TheVariants.{Unregistered}
use Rattle.shr_base.specs.declared.places.Serial.{Serial}
use Rattle.shr_model.specs.Pool.{from_of}
use Rattle.shr_laws.specs.declared.report.Report.{Report}
use Rattle.shr_laws.specs.Causes.{became_idle, drained_of}
use Rattle.shr_audit_causes.specs.declared.ended.Ended.{Ended}
use Rattle.shr_audit_causes.specs.declared.ended.Notes.{Notes}
use Rattle.shr_audit_causes.specs.Began.{AreBegan}
use Rattle.shr_audit_causes.specs.Sums.{AreSums}

-- what is noted once of a report
pub record AreNotes (r : Report) (n : Notes) : Type 0 where
  pub began : AreBegan r n.began
  pub drained : AreSums n.drained (drained_of r)

-- a command made its entry, its registration began there, and it drained so many objects
pub record IsEnd (r : Report) (by : Serial) (decl : ℕ) (e : Ended) : Type 0 where
  pub made : slice_get r.pool.items e.entry ≡ Some (Unregistered decl e.id e.to)
  pub from_is : e.from ≡ from_of e.id (take e.entry r.pool.items)
  pub drained : e.objects ≡ drained_of r by

-- and its id is idle afterwards, or isn't
pub record IsEndedSo (r : Report) (by : Serial) (decl : ℕ) (e : Ended) (idle : Bool) : Type 0 where
  pub end : IsEnd r by decl e
  pub idle_is : became_idle r e.id e.entry ≡ idle
