-- SPDX-License-Identifier: GPL-2.0-only
-- The records of walks, and what commands make and move, at known values.
use Rattle.shr_model.proofs.Common.{◌≡◌, ◌^◌, ◌+◌, pos, true, false, [], ◌∷◌, Some, None, refl, UseStep, set_bits_of, ids_in, units_of, is_refused}
use Rattle.shr_base.specs.declared.scripts.Command.TheVariants.{Balance}
use Rattle.shr_base.specs.declared.walks.GoneThen.TheVariants as gone
use Rattle.shr_base.specs.declared.walks.Outcome.TheVariants as outcome
use Rattle.shr_model.specs.Attempts.{number_of, counts_of, as_count, is_clearing, is_held}
use Rattle.shr_model.specs.Commands.{rounds_from, jobs_of}
use Rattle.shr_model.specs.Freeings.{is_at_or_above}
use Rattle.shr_model.specs.Groups.{preorder_within, path_within}
use Rattle.shr_model.specs.Moves.{is_below}
use Rattle.shr_model.specs.Walks.{job}

first_and_last : set_bits_of (2 ^ 63 + 1) ≡ 0 ∷ 63 ∷ []
first_and_last = refl

no_bits : set_bits_of 0 ≡ []
no_bits = refl

ids_of_second_unit : ids_in 1 6 ≡ 65 ∷ 66 ∷ []
ids_of_second_unit = refl

one_unit : units_of 64 ≡ 0 ∷ []
one_unit = refl

two_units : units_of 65 ≡ 0 ∷ 1 ∷ []
two_units = refl

worn_has_no_number : number_of (outcome.Worn 4294967040) ≡ None
worn_has_no_number = refl

gone_is_unheld : is_held (outcome.Gone 7 gone.Set) ≡ false
gone_is_unheld = refl

-- a bit that was set again was cleared first
set_again : is_clearing (outcome.Gone 7 gone.Set) ≡ true
set_again = refl

root_clears_none : is_clearing (outcome.Gone 7 gone.Root) ≡ false
root_clears_none = refl

counts_of_restored : counts_of (outcome.RestoredSkip 7 3 2 4) ≡ as_count 0 3 ∷ as_count 2 4 ∷ []
counts_of_restored = refl

-- two rounds over group 1 with its child 2, on two nodes
two_rounds : rounds_from (0 ∷ 0 ∷ 1 ∷ []) 2 12 (1 ∷ 2 ∷ []) ≡
    job 1 0 12 false ∷ job 2 0 12 false ∷ job 1 1 12 false ∷ job 2 1 12 false ∷ job 2 0 11 false ∷ job 2 1 11 false ∷ []
unfolding rounds_from preorder_within
two_rounds = refl

balance_of_three : jobs_of (0 ∷ 0 ∷ 0 ∷ []) 2 [] (Balance 1 4 true) ≡ job 0 1 4 true ∷ job 1 1 4 true ∷ job 2 1 4 true ∷ []
unfolding preorder_within
balance_of_three = refl

root_above : is_at_or_above (0 ∷ 0 ∷ 1 ∷ []) 0 2 ≡ true
unfolding path_within
root_above = refl

child_not_above : is_at_or_above (0 ∷ 0 ∷ 1 ∷ []) 2 1 ≡ false
unfolding path_within
child_not_above = refl

child_below : is_below (0 ∷ 0 ∷ 1 ∷ []) (record { id = 0; node = 1; group = 1 }) (record { id = 0; node = 1; group = 2 }) ≡ true
child_below = refl

abbrev charge_at : UseStep
charge_at = record { group = 1; operation = 5; up = true; found = pos 2; by = record { worker = 0; command = 0 } }

-- a charge that finds the limit is refused, and one below it isn't
refused_at_limit : is_refused (Some 2) charge_at ≡ true
refused_at_limit = refl

taken_below_limit : is_refused (Some 3) charge_at ≡ false
taken_below_limit = refl
