-- SPDX-License-Identifier: GPL-2.0-only
-- Scan entries with the places where they stand.
use Rattle.std.specs.Prelude.{◌≡◌, ℕ, ◌≤◌}
use Rattle.shr_base.specs.declared.objects.Policy.{Policy}
use Rattle.shr_model.specs.Scans.{ScanMade}
use Rattle.shr_audit_passes.specs.declared.scans.ScanSeen.{ScanSeen}

-- what a scan did, by its number
abbrev pub made_of_scan : ScanSeen → ScanMade
made_of_scan x = record { number = x.number; asked = x.asked; policy = x.policy; freed = x.freed }

-- how many objects it freed
abbrev pub freed_of_scan : ScanSeen → ℕ
freed_of_scan x = x.freed

-- it asked for so many objects by this policy, and stands at this number or behind it
abbrev pub IsScanAfter : ℕ → Policy → ℕ → ScanSeen → Type 0
IsScanAfter size policy version x = (x.asked ≡ size) × ((x.policy ≡ policy) × (version ≤ x.number))
