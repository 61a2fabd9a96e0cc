-- SPDX-License-Identifier: GPL-2.0-only
-- Isolations: each visits its list once for each scan that it makes, and tells what these did.
use Rattle.std.specs.Prelude.{◌≡◌, ℕ, ◌+◌, ◌-◌, ◌^◌, ◌<◌, ◌≤◌, Bool, true, false, List, [], ◌∷◌, ◌++◌, map, replicate, sum}
use Rattle.std.specs.List.{AllByRecursion}
use Rattle.shr_base.specs.declared.objects.Policy.{Policy}
use Rattle.shr_base.specs.declared.replies.IsolateEnd.{IsolateEnd}
use Rattle.shr_base.specs.declared.replies.IsolateEnd.TheVariants as isolate
use Rattle.shr_base.specs.declared.walks.Isolation.{Isolation}

-- what stands as walk in the Scan entries of a worker's first isolation: walks have lower numbers
abbrev pub first_isolation : ℕ
first_isolation = 2 ^ 63

-- what stands as walk in the Scan entries of the isolation with this number of its worker
abbrev pub isolation_walk : ℕ → ℕ
isolation_walk k = first_isolation + k

-- a Scan entry: what it was asked and met, by which policy, how many objects it freed, and whether it
-- stopped
pub record ScanSeen : Type 0 where
  pub asked : ℕ
  pub policy : Policy
  pub visits : ℕ
  pub freed : ℕ
  pub stopped : Bool

-- how many objects a scan met, and whether it stopped
pub record Met : Type 0 where
  pub visits : ℕ
  pub stopped : Bool

abbrev pub met_of : ScanSeen → Met
met_of x = record { visits = x.visits; stopped = x.stopped }

-- a scan that met one object and didn't stop, one that stopped at it, and one that met none
abbrev pub met_one : Met
met_one = record { visits = 1; stopped = false }

abbrev pub met_stop : Met
met_stop = record { visits = 1; stopped = true }

abbrev pub met_none : Met
met_none = record { visits = 0; stopped = false }

-- What the scans of so many visits met, in order: one object each. The last visit alone stopped, exactly
-- if the isolation ended by Stop; one scan more met nothing, exactly if it ended Bare.
abbrev pub mets_of : ℕ → IsolateEnd → List Met
mets_of n isolate.Spent = replicate n met_one
mets_of n isolate.Bare = replicate n met_one ++ met_none ∷ []
mets_of n isolate.Stop = replicate (n - 1) met_one ++ met_stop ∷ []
mets_of n isolate.Closed = replicate n met_one
mets_of n (isolate.Worn why) = replicate n met_one
mets_of n isolate.NoRoom = replicate n met_one

-- An isolation of a list with this policy made these scans, in order: each was asked for one object,
-- there is one for each visit, and what they freed adds up. It made no more visits than its budget, and
-- as many if it ended by Spent.
pub record IsLawfulIsolation (policy : Policy) (scans : List ScanSeen) (i : Isolation) : Type 0 where
  pub policies : AllByRecursion (λ (x : ScanSeen). x.policy ≡ policy) scans
  pub asked : AllByRecursion (λ (x : ScanSeen). x.asked ≡ 1) scans
  pub met : map met_of scans ≡ mets_of i.visits i.ending
  pub freed : i.freed ≡ sum (map (λ (x : ScanSeen). x.freed) scans)
  pub within : i.visits ≤ i.budget
  pub stopped : i.ending ≡ isolate.Stop → 0 < i.visits
  pub whole : i.ending ≡ isolate.Spent → i.visits ≡ i.budget
