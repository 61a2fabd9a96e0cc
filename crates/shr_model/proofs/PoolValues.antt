-- SPDX-License-Identifier: GPL-2.0-only
-- The journal of registrations at known values.
use Rattle.shr_model.proofs.Common.{◌≡◌, List, [], ◌∷◌, Some, None, true, refl, PoolEntry, Registered, Unregistered, Idle}
use Rattle.shr_model.specs.Pool.{phase_of, decl_of, decl_from, last_number, number_from, is_live_decl, is_live_below, lowest_idle, lowest_free, end_of, registrations, decl_at, attempt_at}

-- one cache is registered, unregistered after three lookups, and registered again
abbrev twice : List PoolEntry
twice = Registered 0 0 0 ∷ Unregistered 0 0 3 ∷ Idle 0 ∷ Registered 0 0 3 ∷ []

phase_of_twice : phase_of 0 twice ≡ 4
unfolding phase_of
phase_of_twice = refl

decl_of_twice : decl_of 0 twice ≡ 0
unfolding decl_from
decl_of_twice = refl

last_number_of_twice : last_number 0 twice ≡ 3
unfolding number_from
last_number_of_twice = refl

registrations_of_twice : registrations 0 twice ≡ record { decl = 0; from = 0; to = Some 3 } ∷ record { decl = 0; from = 3; to = None } ∷ []
unfolding registrations end_of
registrations_of_twice = refl

live_twice : is_live_decl 1 0 twice ≡ true
unfolding is_live_below phase_of decl_from
live_twice = refl

-- of one id none is free
none_free_twice : lowest_idle 1 twice ≡ None
unfolding lowest_free phase_of
none_free_twice = refl

-- of two ids the second is
second_free_twice : lowest_idle 2 twice ≡ Some 1
unfolding lowest_free phase_of
second_free_twice = refl

-- the lookup that follows the second registration is held
held_twice : attempt_at 0 3 4 twice ≡ Some 0
unfolding decl_at registrations end_of
held_twice = refl

-- a lookup after the cache was unregistered is not
gone_once : attempt_at 0 1 2 (Registered 0 0 0 ∷ Unregistered 0 0 1 ∷ Idle 0 ∷ []) ≡ None
unfolding decl_at registrations end_of
gone_once = refl
