-- SPDX-License-Identifier: GPL-2.0-only
-- The definitions on entries of tenants at known values.
use Rattle.shr_model.proofs.Common.{◌≡◌, true, false, List, [], ◌∷◌, map, codes, refl, Some, None, Clock, Serial, Entry, Add, Look, Drop, Pin, Scan, MovedIn, Closed, Drained, is_tenant, AreTenant, birth_of, by_of}
use Rattle.shr_base.specs.declared.journals.DropKind.TheVariants as kind

abbrev by : Serial
by = record { worker = 1; command = 7 }

-- one entry of each tenant's command
abbrev of_tenants : List Entry
of_tenants = Add by 3 true (codes "k") (codes "v") ∷ Look by 3 (codes "k") true ∷ Pin by 3 (codes "k") true true ∷ Drop by 3 (codes "k") kind.Pinned ∷ []

-- one entry of each other kind
abbrev of_others : List Entry
of_others = Scan 1 2 128 Clock 1 0 false ∷ MovedIn 4 2 ∷ Closed ∷ Drained by 1 ∷ []

are_tenants : AreTenant of_tenants
are_tenants = refl

no_other_is : map is_tenant of_others ≡ false ∷ false ∷ false ∷ false ∷ []
no_other_is = refl

commands_of_tenants : map by_of of_tenants ≡ Some by ∷ Some by ∷ Some by ∷ Some by ∷ []
commands_of_tenants = refl

-- an unregister's command is no tenant's
commands_of_others : map by_of of_others ≡ None ∷ None ∷ None ∷ None ∷ []
commands_of_others = refl

births_of_tenants : map birth_of of_tenants ≡ Some 3 ∷ Some 3 ∷ Some 3 ∷ Some 3 ∷ []
births_of_tenants = refl

births_of_others : map birth_of of_others ≡ None ∷ None ∷ None ∷ None ∷ []
births_of_others = refl
