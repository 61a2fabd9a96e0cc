-- SPDX-License-Identifier: GPL-2.0-only
-- What a call gains, what a lookup met and what a map shows, at known values.
use Rattle.shr_core.proofs.Common.{◌≡◌, ℕ, ◌*◌, ◌<◌, false, true, [], ◌∷◌, length, refl, ap, subst, arith, sym, MovedIn, Closed, beside, none-some, List, Some, None, Registered, Unregistered, Idle, from_of, total, times, Marks, no_marks, no_claims, IsShown, HasOnlyIds, IsDated, opener, only_some, with_set, dated_now, split_off, half_after, is_drained, nothing, then_gained, Adds, OwesNoMore, MetLive, IsBusy, IsIdle}
use Rattle.shr_model.specs.Pool.{phase_of, decl_from, from_from, end_of, registrations, decl_at}
use Rattle.shr_core.proofs.Gains.{of_set}

-- a bit that was set is gained, and not nothing
set_gained : Adds opener (with_set opener 7) (record nothing { sets = 7 ∷ [] })
set_gained = of_set opener 7

set_not_nothing : Adds opener (with_set opener 7) nothing → ⊥
set_not_nothing a = absurd (omega (arith, ap (λ (l : List ℕ). length l) a.sets))

one_then_two : then_gained (record nothing { sets = 1 ∷ []; gives = 1 }) (record nothing { sets = 2 ∷ []; gives = 1 }) ≡ record nothing { sets = 1 ∷ 2 ∷ []; gives = 2 }
one_then_two = refl

-- a place that comes to be owed
owes_no_more : OwesNoMore (record opener { marks = record no_marks { owed = 3 ∷ [] } }) opener
owes_no_more k h = absurd (omega (arith, h))

owes_more : OwesNoMore opener (record opener { marks = record no_marks { owed = 3 ∷ [] } }) → ⊥
owes_more f = absurd (omega (arith, f 3 (omega arith)))

new_seat_idle : IsIdle opener
new_seat_idle = record { rooms = refl; held = refl; owner = refl }

holder_not_idle : IsIdle (record opener { claims = record no_claims { held = Some 0 } }) → ⊥
holder_not_idle i = none-some 0 (sym i.held)

-- a seat that is alone and has no room finds none busy; another may
alone_finds_none : IsBusy opener 3 → ⊥
alone_finds_none b = absurd (omega (arith, b refl refl))

other_may : IsBusy (split_off opener) 3
other_may first = absurd (cc)

-- a number in the live registration, and one in the registration before it
in_live : MetLive (Registered 2 0 5 ∷ []) 0 6 2
unfolding phase_of decl_from from_from end_of registrations decl_at
in_live = let from : from_of 0 (Registered 2 0 5 ∷ []) ≡ 5 = refl in record { live = refl; named = refl; registered = refl; began = omega (arith, from) }

in_earlier : MetLive (Registered 2 0 5 ∷ Unregistered 2 0 9 ∷ Idle 0 ∷ Registered 2 0 9 ∷ []) 0 6 2 → ⊥
unfolding from_from
in_earlier m = let from : from_of 0 (Registered 2 0 5 ∷ Unregistered 2 0 9 ∷ Idle 0 ∷ Registered 2 0 9 ∷ []) ≡ 9 = refl in absurd (omega (arith, from, m.began))

-- bit 0 of the word of node 0 and group 1
set_and_shown : IsShown 1024 (record no_marks { sets = 1 ∷ [] } ∷ []) (record { map = 1; bits = 1; set = 1 ∷ [] })
set_and_shown k near same is-one = let one : 1 ≡ k = omega (arith, near, same) in subst (λ (x : ℕ). 0 < total (λ (m : Marks). times x m.sets) (record no_marks { sets = 1 ∷ [] } ∷ [])) one (omega arith)

shown_by_nobody : IsShown 1024 (no_marks ∷ []) (record { map = 1; bits = 1; set = [] }) → ⊥
shown_by_nobody f = absurd (omega (arith, f 1 (omega arith) refl refl))

-- of 64 ids each bit of the first map stands for one, and of one id the second bit stands for none
all_of_ids : HasOnlyIds 64 (record { map = 0; bits = 3; set = [] })
all_of_ids b small is-one = omega (arith, small)

one_of_none : HasOnlyIds 1 (record { map = 0; bits = 3; set = [] }) → ⊥
one_of_none f = absurd (omega (arith, f 1 (omega arith) refl))

-- an id is dated where it is held
held_is_dated : dated_now (record no_claims { held = Some 2; number = 6 }) 4 ≡ record { id = 2; number = 6; entries = 4 } ∷ []
held_is_dated = refl

none_is_dated : dated_now no_claims 4 ≡ []
none_is_dated = refl

-- an Option weighs 1 at its own number alone
some_at_its_own : only_some 4 (Some 4) ≡ 1
some_at_its_own = refl

some_at_another : only_some 3 (Some 4) ≡ 0
some_at_another = refl

none_anywhere : only_some 0 None ≡ 0
none_anywhere = refl

-- a splice is under way from a MovedIn to the child's Closed
splice_begins : half_after None 1 (MovedIn 2 7) ≡ Some (beside 1 2)
splice_begins = refl

splice_ends : half_after (Some 2) 2 Closed ≡ None
splice_ends = refl

-- the mark of the first place moves for its owner once it is quiet, and for no other seat
quiet_owner_drains : is_drained (record no_claims { owner = Some 0; quiet = true; drained = 1 ∷ [] }) 0 [] ≡ true
quiet_owner_drains = refl

owner_waits : is_drained (record no_claims { owner = Some 0; drained = 1 ∷ [] }) 0 [] ≡ false
owner_waits = refl

other_drains_none : is_drained (record no_claims { owner = Some 1; quiet = true; drained = 1 ∷ [] }) 0 [] ≡ false
other_drains_none = refl

-- lookup 6 of a registration that ended at 9 came before its end, and lookup 9 did not
before_the_end : IsDated 1 (λ id. 10 * 256) (Registered 2 0 5 ∷ Unregistered 2 0 9 ∷ []) (record { id = 0; number = 6; entries = 1 })
unfolding end_of
before_the_end = record { near = omega arith; below = omega arith; entries = omega arith; ended = refl }

after_the_end : IsDated 1 (λ id. 10 * 256) (Registered 2 0 5 ∷ Unregistered 2 0 9 ∷ []) (record { id = 0; number = 9; entries = 1 }) → ⊥
unfolding end_of
after_the_end d = let e : false ≡ true = d.ended in absurd (cc)
