-- SPDX-License-Identifier: GPL-2.0-only
-- The passes of walks by one number each.
use Rattle.std.specs.Prelude.{ℕ, ◌+◌, ◌*◌}
use Rattle.shr_base.specs.declared.places.Place.{Place}
use Rattle.shr_audit_passes.specs.declared.scans.ScanSeen.{ScanSeen}

-- a pass by its walk, which has a number among those of its worker, and its place
abbrev pub key_of : ℕ → ℕ → Place → ℕ
key_of worker walk place = 65536 * (256 * (65536 * (65536 * walk + worker) + place.id) + place.node) + place.group

-- that of the pass that a scan is of
abbrev pub row_key : ScanSeen → ℕ
row_key x = key_of x.worker x.walk x.place
