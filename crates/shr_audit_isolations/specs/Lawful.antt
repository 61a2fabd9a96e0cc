-- SPDX-License-Identifier: GPL-2.0-only
-- What an isolation and its scans did, tested field by field. No public clause cites this.
use Rattle.std.specs.Prelude.{◌≡◌, ℕ, ◌<◌, ◌≤◌, Bool}
use Rattle.shr_model.specs.Isolations.{Met, met_of}
use Rattle.shr_base.specs.declared.objects.Policy.{Policy}
use Rattle.shr_base.specs.declared.replies.IsolateEnd.TheVariants as isolate
use Rattle.shr_base.specs.declared.walks.Isolation.{Isolation}
use Rattle.shr_audit_isolations.specs.declared.gathered.IsolationScan.{IsolationScan}
use Rattle.shr_audit_isolations.specs.Gathered.{seen_of}

-- a scan was asked for one object, by this policy
abbrev pub IsAskedAlike : Policy → IsolationScan → Type 0
IsAskedAlike policy x = (x.asked ≡ 1) × (x.policy ≡ policy)

-- so many objects were met, and the scan stopped or didn't
abbrev pub met : ℕ → Bool → Met
met visits stopped = record { visits = visits; stopped = stopped }

-- what a scan that was gathered met
abbrev pub met_by : IsolationScan → Met
met_by x = met_of (seen_of x)

-- how many objects it freed
abbrev pub isolation_freed : IsolationScan → ℕ
isolation_freed x = x.freed

-- no more visits than the budget, and as many as the end says
pub record IsBounded (i : Isolation) : Type 0 where
  pub within : i.visits ≤ i.budget
  pub stopped : i.ending ≡ isolate.Stop → 0 < i.visits
  pub whole : i.ending ≡ isolate.Spent → i.visits ≡ i.budget
