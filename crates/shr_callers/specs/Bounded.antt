-- SPDX-License-Identifier: GPL-2.0-only
-- What a bounded cache does.
use Rattle.std.specs.Prelude.{◌≡◌, ℕ, ◌+◌, ◌-◌, Option, Some, None, List, [], ◌∷◌, ◌++◌, length, drop}
use Rattle.shr_base.specs.declared.objects.Object.{Object}
use Rattle.shr_base.specs.declared.objects.Policy.TheVariants.{Clock}
use Rattle.shr_base.specs.declared.places.Serial.{Serial}
use Rattle.shr_model.specs.Objects.{fresh}
use Rattle.shr_model.specs.Scan.{scan_of}
use Rattle.shr_callers.specs.declared.bounded.Added.{Added}
use Rattle.shr_callers.specs.declared.bounded.Added.TheVariants.{Done, Exists, Full, Refused}

-- the maker of every object: a cache outside a run has no commands
abbrev pub maker : Serial
maker = record { worker = 0; command = 0 }

-- the objects that stay when room is made for one more: the oldest ones above the bound go
abbrev pub with_room : ℕ → List Object → List Object
with_room most items = drop (length items + 1 - most) items

-- what `add` answers, and what the cache holds then
abbrev pub AddGives : ℕ → List Object → List ℕ → List ℕ → Added → List Object → Type 0
AddGives most old key value Done new = new ≡ with_room most old ++ fresh maker 0 key value ∷ []
AddGives most old key value Exists new = new ≡ with_room most old
AddGives most old key value Full new = new ≡ old
AddGives most old key value Refused new = new ≡ with_room most old

-- what `trim` answers, and what the cache holds then: the scan goes from the head, and an object
-- that was looked up gets a second chance
abbrev pub TrimLeaves : List Object → ℕ → Option ℕ → List Object → Type 0
TrimLeaves old asked (Some freed) new = (new ≡ (scan_of Clock asked old).items) × (freed + length new ≡ length old)
TrimLeaves old asked None new = new ≡ old
