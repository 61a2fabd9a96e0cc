-- SPDX-License-Identifier: GPL-2.0-only
-- What is counted once of a script and a report: closed lists, charges and uncharges of workers, puts.
use Rattle.std.specs.Prelude.{◌≡◌, ℕ, ◌-◌, ◌^◌, ◌<◌, ◌≤◌, Bool, true, false, cond, List, length, map, count_by, get_or}
use Rattle.shr_base.specs.declared.journals.UseStep.{UseStep}
use Rattle.shr_base.specs.declared.ends.PlaceEnd.{PlaceEnd}
use Rattle.shr_base.specs.declared.scripts.Script.{Script}
use Rattle.shr_model.specs.Items.{is_closed}
use Rattle.shr_laws.specs.declared.report.Report.{Report}
use Rattle.shr_laws.specs.Causes.{is_of_worker}
use Rattle.shr_laws.specs.Parts.{puts_of}
use Rattle.shr_audit_reasons.specs.declared.counted.Counted.{Counted}

-- whether each list is closed
abbrev pub closed_of : List PlaceEnd → List Bool
closed_of ends = map (λ (end : PlaceEnd). is_closed end.entries.items) ends

-- an operation is of this kind: a charge, or an uncharge
abbrev pub is_of_kind : Bool → Bool → Bool
is_of_kind true up = up
is_of_kind false up = cond up false true

-- how many of these operations are a worker's charges, or its uncharges
abbrev pub worker_uses : Bool → ℕ → List UseStep → ℕ
worker_uses kind worker steps = count_by (λ (o : UseStep). cond (is_of_worker worker o) (is_of_kind kind o.up) false) steps

-- a count of so many, or 2^32 - 1 where there are more
pub record IsCapped (n count : ℕ) : Type 0 where
  pub most : n ≤ count
  pub same : n < 2 ^ 32 - 1 → n ≡ count

-- the steps of each worker that has a part
abbrev pub AreCounted : Bool → List UseStep → List ℕ → Type 0
AreCounted kind steps counts = (worker : ℕ) → worker < length counts → IsCapped (get_or counts worker 0) (worker_uses kind worker steps)

-- all that is counted
pub record IsCountOf (s : Script) (r : Report) (c : Counted) : Type 0 where
  pub closed : c.closed.items ≡ closed_of r.places.items
  pub up_parts : length c.ups.items ≡ length r.workers.items
  pub ups : AreCounted true r.uses.items c.ups.items
  pub down_parts : length c.downs.items ≡ length r.workers.items
  pub downs : AreCounted false r.uses.items c.downs.items
  pub puts : IsCapped c.puts (puts_of s)
