-- SPDX-License-Identifier: GPL-2.0-only
-- The values of objects that Looks found.
use Rattle.std.specs.Prelude.{ℕ, List, [], ◌∷◌, Option, Some, None, option_map}
use Rattle.shr_base.specs.declared.objects.Object.{Object}
use Rattle.shr_base.specs.declared.journals.Entry.{Entry}
use Rattle.shr_base.specs.declared.journals.Entry.TheVariants.{Look}
use Rattle.shr_model.specs.Objects.{named_in}
use Rattle.shr_audit_case.specs.declared.values.FoundValue.{FoundValue}

-- the value of the object that a Look finds among these
abbrev pub value_met : List Object → Entry → Option (List ℕ)
value_met items (Look by birth key hit) = option_map (λ (o : Object). o.value) (named_in birth key items)
value_met items e = None

-- the value, if there is one, by the number of the entry that met it
abbrev pub values_noted : ℕ → Option (List ℕ) → List FoundValue
values_noted entry None = []
values_noted entry (Some value) = record { entry = entry; value = value } ∷ []
