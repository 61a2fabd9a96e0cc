-- SPDX-License-Identifier: GPL-2.0-only
-- What is asked of charges, at known values.
use Rattle.shr_audit_charges.proofs.Common.{◌≡◌, ℕ, ◌-◌, ◌≤◌, Bool, true, false, List, [], ◌∷◌, Some, None, refl, arith, pos, Begin, Made, UseStep, AreBalanced, AreCharged, with_use, usage_of, group_uses, IsWithinLimit, Serial, AreWorkersFew, answer_keys, by_keys, charge_keys, MayStandBefore, limit_in, own_key, own_in_group, path_keys, start_of, hierarchy, state_of_group, down_keys, up_keys, ℤ, FoundSo}
use Rattle.shr_model.specs.Groups.{path_within}
use Rattle.shr_base.specs.declared.replies.Reply.TheVariants.{Root}
use Rattle.shr_base.specs.declared.scripts.Command.TheVariants.{Offline}
use Rattle.shr_audit_charges.proofs.Pushed.{none_some}

-- an operation of command 5 of worker 0
op : ℕ → ℕ → ℤ → Bool → UseStep
op group number found up = record { operation = number; found = found; by = record { worker = 0; command = 5 }; group = group; up = up }

abbrev one_up : List UseStep
one_up = op 1 0 (pos 0) true ∷ []

of_its_group : group_uses one_up 1 ≡ one_up
unfolding op
of_its_group = refl

of_no_other : group_uses one_up 2 ≡ []
unfolding op
of_no_other = refl

comes_to_one : usage_of one_up ≡ record { ups = 1; downs = 0 }
unfolding op
comes_to_one = refl

noted_once : with_use (record { ups = 0; downs = 0 } ∷ record { ups = 0; downs = 0 } ∷ []) (op 1 0 (pos 0) true) ≡ record { ups = 0; downs = 0 } ∷ record { ups = 1; downs = 0 } ∷ []
unfolding op
noted_once = refl

charged_nowhere : AreCharged 1 one_up → ⊥
unfolding op
charged_nowhere h = absurd (let low = h.there.0 in omega (arith, low))

second_of_none : AreCharged 2 (op 1 1 (pos 0) true ∷ []) → ⊥
unfolding op
second_of_none h = absurd (let next = h.histories 1 0 (op 1 1 (pos 0) true) refl in let n = next.number in omega (arith, n))

found_one : FoundSo (pos 1) (record { ups = 3; downs = 2 })
found_one = refl

none_behind : own_in_group [] ≡ None
none_behind = refl

one_behind : own_in_group one_up ≡ Some (record { up = true; ups = 1 })
unfolding op
one_behind = refl

limit_of_the_root : limit_in (None ∷ Some 3 ∷ []) 0 ≡ None
limit_of_the_root = refl

limit_below : limit_in (None ∷ Some 3 ∷ []) 1 ≡ Some 3
limit_below = refl

-- a refused charge stands before nothing
refused_last : MayStandBefore (Some 0) (op 1 0 (pos 0) true) None → ⊥
unfolding op
refused_last h = let no : true ≡ false = h in cc

two_up : MayStandBefore None (op 1 0 (pos 0) true) (Some (record { up = true; ups = 1 })) → ⊥
unfolding op
two_up h = let no : true ≡ false = (h refl).0 in cc

key_of_a_command : own_key 1 2 3 ≡ 281483566645251
key_of_a_command = refl

from_the_root : start_of (0 ∷ 0 ∷ []) 9 ≡ 0
from_the_root = refl

keys_of_a_path : path_keys (0 ∷ 0 ∷ []) (record { worker = 0; command = 0 }) 0 ≡ 0 ∷ []
unfolding path_within
keys_of_a_path = refl

key_that_goes_up : up_keys false (op 0 0 (pos 0) true) ≡ 0 ∷ []
unfolding op
key_that_goes_up = refl

none_that_goes_down : down_keys false (op 0 0 (pos 0) true) ≡ []
unfolding op
none_that_goes_down = refl

not_balanced : AreBalanced (7 ∷ []) [] → ⊥
not_balanced h = absurd (let e : 1 ≡ 0 = h 7 in omega (arith, e))

within : IsWithinLimit (Some 1) (record { ups = 3; downs = 2 })
within = omega arith

not_within : IsWithinLimit (Some 0) (record { ups = 3; downs = 2 }) → ⊥
not_within h = absurd (let few : 3 - 2 ≤ 0 = h in omega (arith, few))

later_and_made : state_of_group (hierarchy (0 ∷ 0 ∷ []) (false ∷ true ∷ [])) (Made 1 ∷ Begin 1 ∷ []) 1 ≡ record { made = true; begun = true; done = false }
later_and_made = refl

not_made : state_of_group (hierarchy (0 ∷ 0 ∷ []) (false ∷ true ∷ [])) [] 1 ≡ record { made = false; begun = false; done = false }
not_made = refl

by_five : Serial
by_five = record { worker = 0; command = 5 }

none_freed : by_keys (0 ∷ 0 ∷ []) None 1 ≡ []
none_freed = refl

not_charged : charge_keys (0 ∷ 0 ∷ []) by_five (Offline 1) Root ≡ []
not_charged = refl

not_answered : answer_keys (0 ∷ 0 ∷ []) by_five (Offline 1) None ≡ []
not_answered = refl

no_workers : AreWorkersFew []
no_workers = record { few = omega arith; short = λ worker w at. absurd (none_some w at) }
