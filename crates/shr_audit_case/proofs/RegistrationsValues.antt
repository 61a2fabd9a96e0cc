-- SPDX-License-Identifier: GPL-2.0-only
-- The predicates of this crate, by values that meet them and values that don't.
use Rattle.shr_audit_case.proofs.RegistrationsCommon.{◌≡◌, true, false, List, [], ◌∷◌, Some, None, refl, Registration, Span, Step, decl_found, lookup_key, stop_key, has_key, last_in, step_at}
use Rattle.shr_audit_case.specs.Steps.{last_from, step_from}

abbrev first : Registration
first = record { decl = 1; from = 2; to = Some 5 }

abbrev second : Registration
second = record { decl = 3; from = 4; to = None }

abbrev low : Span
low = record { begin = 2; end = 5; of = first }

abbrev high : Span
high = record { begin = 4; end = 9; of = second }

has_first : has_key 2 low ≡ true
has_first = refl

not_the_end : has_key 5 low ≡ false
not_the_end = refl

the_last_one : last_in (low ∷ high ∷ []) 4 ≡ Some second
unfolding last_from
the_last_one = refl

the_other : last_in (low ∷ high ∷ []) 3 ≡ Some first
unfolding last_from
the_other = refl

none_there : last_in (low ∷ high ∷ []) 9 ≡ None
unfolding last_from
none_there = refl

abbrev steps : List Step
steps = record { begin = 2; of = Some first } ∷ record { begin = 4; of = Some second } ∷ record { begin = 9; of = None } ∷ []

a_step : step_at steps 8 ≡ Some second
unfolding step_from
a_step = refl

before_all : step_at steps 1 ≡ None
unfolding step_from
before_all = refl

third_lookup : lookup_key 1 3 ≡ 4294967299
third_lookup = refl

last_of_an_id : stop_key 1 None ≡ 8589934592
last_of_an_id = refl

found : decl_found (Some second) ≡ Some 3
found = refl

not_found : decl_found None ≡ None
not_found = refl
