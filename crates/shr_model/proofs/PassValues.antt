-- SPDX-License-Identifier: GPL-2.0-only
-- The arithmetic of a pass and the deferred word at known values.
use Rattle.shr_model.proofs.Common.{◌≡◌, ◌-◌, ◌^◌, refl, [], ◌∷◌, replicate, Some, None, Place, batch_of, delta_of, total_of, next_of, ask_of, due_asks}
use Rattle.shr_model.specs.Pass.{due, ask_size}
use Rattle.shr_model.specs.Deferred.{amount_of, deferred_word}
use Rattle.shr_model.specs.Amounts.{sum_at}

batch_default : batch_of 0 ≡ 128
batch_default = refl

batch_given : batch_of 32 ≡ 32
batch_given = refl

-- 1000 objects, priority 0, seeks 2, nothing deferred: 15 asks of 128 scan 1920 of 2000, and 80 are
-- deferred
thousand_delta : delta_of 1000 0 2 ≡ 2000
thousand_delta = refl

thousand_total : total_of 1000 0 0 2 ≡ 2000
thousand_total = refl

thousand_asks : due_asks 128 1000 2000 ≡ replicate 15 128
unfolding due ask_size
thousand_asks = refl

thousand_next : next_of 0 2000 1920 1000 ≡ 80
thousand_next = refl

-- 100 objects: one ask of 128, though a batch is more than can be freed
hundred_asks : due_asks 128 100 (total_of 100 0 0 2) ≡ 128 ∷ []
unfolding due ask_size
hundred_asks = refl

hundred_next : next_of 0 (delta_of 100 0 2) 128 100 ≡ 72
hundred_next = refl

-- 60 objects: one ask of all 120, which is less than a batch
sixty_asks : due_asks 128 60 (total_of 60 0 0 2) ≡ 120 ∷ []
unfolding due ask_size
sixty_asks = refl

sixty_next : next_of 0 (delta_of 60 0 2) 120 60 ≡ 0
sixty_next = refl

-- the mildest priority leaves 1000 objects alone
mild_total : total_of 1000 0 12 2 ≡ 0
mild_total = refl

mild_asks : due_asks 128 1000 0 ≡ []
unfolding due ask_size
mild_asks = refl

-- 5000 deferred, priority 2: 13 asks, and what is left of 5500 is cut to twice the count
deferred_delta : delta_of 1000 2 2 ≡ 500
deferred_delta = refl

deferred_total : total_of 1000 5000 2 2 ≡ 1750
deferred_total = refl

deferred_asks : due_asks 128 1000 1750 ≡ replicate 13 128
unfolding due ask_size
deferred_asks = refl

deferred_next : next_of 5000 500 1664 1000 ≡ 2000
deferred_next = refl

-- seeks of 0 take half of what can be freed
nine_total : total_of 9 0 0 0 ≡ 4
nine_total = refl

nine_asks : due_asks 128 9 4 ≡ []
unfolding due ask_size
nine_asks = refl

nine_next : next_of 0 4 0 9 ≡ 4
nine_next = refl

-- the pass after one that a stop ended before any ask
stopped_next : next_of 0 2000 0 1000 ≡ 2000
stopped_next = refl

after_stop_next : next_of 2000 2000 1920 1000 ≡ 2000
after_stop_next = refl

-- two objects: one ask of 4 at priority 0, and of 2 at priority 1
two_asks : due_asks 128 2 (total_of 2 0 0 2) ≡ 4 ∷ []
unfolding due ask_size
two_asks = refl

two_asks_milder : due_asks 128 2 (total_of 2 0 1 2) ≡ 2 ∷ []
unfolding due ask_size
two_asks_milder = refl

-- the loop's test
last_batch : ask_of 128 128 1000 ≡ Some 128
last_batch = refl

below_both : ask_of 128 72 100 ≡ None
below_both = refl

all_that_is_left : ask_of 128 60 60 ≡ Some 60
all_that_is_left = refl

-- amounts at two places
near : Place
near = record { id = 0; node = 1; group = 2 }

far : Place
far = record { id = 0; node = 1; group = 3 }

one_place : sum_at near (amount_of near 3 ∷ amount_of far 5 ∷ amount_of near 7 ∷ []) ≡ 10
unfolding near far
one_place = refl

-- 3 and 7 give 10, 7 less 7 is 0, and what is below 0 counts from 2^64
given_ten : deferred_word 10 0 ≡ 10
given_ten = refl

given_none : deferred_word 7 7 ≡ 0
given_none = refl

given_less : deferred_word 0 1 ≡ 2 ^ 64 - 1
given_less = refl
