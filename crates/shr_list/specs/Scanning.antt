-- SPDX-License-Identifier: GPL-2.0-only
-- What a scan of a queue does.
use Rattle.std.specs.Prelude.{◌≡◌, ℕ, List}
use Rattle.shr_base.specs.declared.objects.LruStatus.{LruStatus}
use Rattle.shr_base.specs.declared.objects.LruStatus.TheVariants.{Removed, Rotate, Skip, Stop}
use Rattle.shr_base.specs.declared.objects.Object.{Object}
use Rattle.shr_base.specs.declared.objects.Policy.{Policy}
use Rattle.shr_model.specs.Scan.{scan_of}
use Rattle.shr_list.specs.declared.queue.scanning.Scan.{Scan}

-- a scan with this policy and budget took these items to those, and did this
abbrev pub IsScan : Policy → ℕ → List Object → List Object → Scan → Type 0
IsScan policy asked old new scan =
    scan_of policy asked old ≡ record { items = new; freed = scan.freed.items; visits = scan.visits; stopped = scan.stopped }

-- the callback left the object as it is
abbrev pub IsLeftAlone : LruStatus → Type 0
IsLeftAlone Removed = ⊥
IsLeftAlone Rotate = ⊥
IsLeftAlone Skip = Unit {0}
IsLeftAlone Stop = Unit {0}
