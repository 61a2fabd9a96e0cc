-- SPDX-License-Identifier: GPL-2.0-only
-- What is tested of answers to an `offline` that was done, at known values.
use Rattle.shr_audit_causes.proofs.OfflinesCommon.{◌≡◌, ℕ, zero, suc, ◌<◌, ◌≤◌, ◌^◌, ◌-◌, true, false, [], ◌∷◌, Some, None, refl, subst, arith, slice_get, IsSomeAnd, GroupDecl, Carry, IsAtOrAbove-le, IsOffline, objects_moved_from, parents_of, reply_at, serial_of, Never, Often, Nobody, One, Several, BeganAbove, BeganAt, IsWhose, either, is_only, whose_of, HasCarriedSums, IsCarriedOf, carried_by, AreCappedSums, HasOfflineCause, IsCarriedSo, IsOfflineCausedAt, IsMoveRight, IsMovedSo, AddsSpliced, AreOnlySpliced, HasSpliced, IsIn, with_spliced_group, MayHaveBegun}
use Rattle.shr_base.specs.declared.replies.Reply.TheVariants as reply
use Rattle.shr_base.specs.declared.scripts.Command.TheVariants as command
use Rattle.shr_laws.proofs.OfflineReport.{place, report, script}
use Rattle.shr_audit_causes.proofs.TreeLaws.{tree_of}

-- ---- workers

nobody : IsWhose (λ w. w ≡ 3) Nobody → ⊥
nobody h = h 3 refl

just_one : IsWhose (λ w. w ≡ 3) (One 3)
just_one = (refl, λ w e. e)

another : IsWhose (λ w. w ≡ 3) (One 4) → ⊥
another h = let e : 4 ≡ 3 = h.0 in absurd (omega (arith, e))

several : IsWhose (λ w. w < 2) Several
several = record { one = 0; other = 1; apart = λ e. (let f : 0 ≡ 1 = e in absurd (omega (arith, f))); first = omega arith; second = omega arith }

not_several : IsWhose (λ w. w ≡ 3) Several → ⊥
not_several h = let a = h.first in let b = h.second in h.apart (omega (arith, a, b))

of_none : whose_of Never ≡ Nobody
of_none = refl

of_one_worker : whose_of (Often 2 0 false) ≡ One 2
of_one_worker = refl

of_two_workers : whose_of (Often 2 0 true) ≡ Several
of_two_workers = refl

same_worker : either (One 2) (One 2) ≡ One 2
same_worker = refl

two_workers : either (One 2) (One 3) ≡ Several
two_workers = refl

only_this : is_only (One 2) 2 ≡ true
only_this = refl

not_only : is_only (One 2) 3 ≡ false
not_only = refl

not_of_several : is_only Several 3 ≡ false
not_of_several = refl

-- ---- a report of an `offline` of group 2 by worker 0, its command 3

done_here : IsOffline script report (serial_of 0 3) 2 MayHaveBegun
done_here = record { command_is = refl; answer = tt }

began_here : BeganAt script report 2 0
began_here = record { by = serial_of 0 3; own = refl; began = done_here }

not_by_another : BeganAt script report 2 1 → ⊥
not_by_another h = away h.by.worker h.by.command h.own h.began.answer
  where
    away : (w k : ℕ) → w ≡ 1 → IsSomeAnd (reply_at report (serial_of w k)) MayHaveBegun → ⊥
    away w k e a = subst (λ (v : ℕ). IsSomeAnd (reply_at report (serial_of v k)) MayHaveBegun) e a

-- no group is above the root
not_above_root : BeganAbove script report 0 0 → ⊥
not_above_root h = (let most = IsAtOrAbove-le (parents_of script) (tree_of script.groups.items low) h.at 0 (omega arith) h.above in h.other (omega (arith, most)))
  where
    low : (k : ℕ) (g : GroupDecl) → k < 2 → slice_get script.groups.items k ≡ Some g → g.parent ≤ k
    low zero g lt e = (let same : 0 ≡ g.parent = cc in omega (arith, same))
    low (suc zero) g lt e = (let same : 1 ≡ g.parent = cc in omega (arith, same))
    low (suc (suc k)) g lt e = absurd (omega (arith, lt))

-- ---- carries

abbrev carry : ℕ → ℕ → Carry
carry command amount = record { by = serial_of 0 command; place = place 0 0 2; amount = amount }

summed : carried_by 0 3 (carry 3 5 ∷ carry 2 7 ∷ carry 3 6 ∷ []) ≡ 11
summed = refl

by_another : carried_by 1 3 (carry 3 5 ∷ []) ≡ 0
by_another = refl

five_commands : IsCarriedOf report 0 (0 ∷ 0 ∷ 0 ∷ 0 ∷ 0 ∷ [])
five_commands = record { count = refl; each = each }
  where
    each : HasCarriedSums 0 [] (0 ∷ 0 ∷ 0 ∷ 0 ∷ 0 ∷ [])
    each zero lt = refl
    each (suc zero) lt = refl
    each (suc (suc zero)) lt = refl
    each (suc (suc (suc zero))) lt = refl
    each (suc (suc (suc (suc zero)))) lt = refl
    each (suc (suc (suc (suc (suc k))))) lt = absurd (omega (arith, lt))

not_four : IsCarriedOf report 0 (0 ∷ 0 ∷ 0 ∷ 0 ∷ []) → ⊥
not_four h = let e : 4 ≡ 5 = h.count in absurd (omega (arith, e))

modulo : HasCarriedSums 0 (carry 0 18446744073709551615 ∷ carry 0 4 ∷ []) (3 ∷ [])
modulo zero lt = refl
modulo (suc k) lt = absurd (omega (arith, lt))

carried_nothing : IsCarriedSo report 0 3 (reply.OfflineDone 1 2 0)
carried_nothing = refl

carried_something : IsCarriedSo report 0 3 (reply.OfflineDone 1 2 1) → ⊥
carried_something h = let e : 1 ≡ 0 = h in absurd (omega (arith, e))

of_another_reply : IsCarriedSo report 0 3 (reply.AlreadyDone 1)
of_another_reply = tt

-- ---- moved objects

two_moved : objects_moved_from report 2 ≡ 2
two_moved = refl

sums : AreCappedSums (λ g. 7) (7 ∷ 7 ∷ [])
sums zero lt = refl
sums (suc zero) lt = refl
sums (suc (suc g)) lt = absurd (omega (arith, lt))

most : AreCappedSums (λ g. 2 ^ 130) ((2 ^ 128 - 1) ∷ [])
most zero lt = refl
most (suc g) lt = absurd (omega (arith, lt))

not_sums : AreCappedSums (λ g. 7) (6 ∷ []) → ⊥
not_sums h = let e : 6 ≡ 7 = h 0 (omega arith) in absurd (omega (arith, e))

all_told : IsMoveRight script report 0 2 2
all_told = record { most = omega arith; whole = λ alone. refl }

too_many : IsMoveRight script report 0 2 3 → ⊥
too_many h = let le : 3 ≤ 2 = h.most in absurd (omega (arith, le))

done_and_told : IsMovedSo script report 0 (Some 2) (reply.OfflineDone 1 2 0)
done_and_told = (refl, all_told)

another_entry : IsMovedSo script report 0 (Some 2) (reply.OfflineDone 0 2 0) → ⊥
another_entry h = absurd cc

no_group : IsMovedSo script report 0 None (reply.OfflineDone 1 2 0) → ⊥
no_group h = h

done_with_cause : HasOfflineCause script report (serial_of 0 3) (command.Offline 2) (reply.OfflineDone 1 2 0)
done_with_cause = record { made = refl; carried = refl; most = omega arith; whole = λ alone. refl }

done_without : HasOfflineCause script report (serial_of 0 3) (command.Offline 2) (reply.OfflineDone 1 3 0) → ⊥
done_without h = let le : 3 ≤ 2 = h.most in absurd (omega (arith, le))

asks_nothing_else : HasOfflineCause script report (serial_of 0 3) (command.Offline 2) (reply.AlreadyDone 7)
asks_nothing_else = tt

no_such_worker : IsOfflineCausedAt script report 1 0
no_such_worker c a e f = absurd cc

-- ---- groups that may have been spliced

noted : with_spliced_group (Some 1) (false ∷ false ∷ []) ≡ false ∷ true ∷ []
noted = refl

past_the_last : with_spliced_group (Some 2) (false ∷ false ∷ []) ≡ false ∷ false ∷ []
past_the_last = refl

is_in : IsIn (false ∷ true ∷ []) 1
is_in = refl

not_in : IsIn (false ∷ true ∷ []) 0 → ⊥
not_in h = absurd cc

none_in : AreOnlySpliced script report (false ∷ [])
none_in zero h = absurd cc
none_in (suc g) h = absurd cc

told_of_all : HasSpliced script report (false ∷ false ∷ false ∷ []) 0 3
told_of_all group lt h = absurd h.answer

kept : AddsSpliced script report (false ∷ []) (false ∷ [])
kept = record { count = refl; kept = λ g lt h. h; only = λ h. h }

lost : AddsSpliced script report (true ∷ []) (false ∷ []) → ⊥
lost h = absurd (let e : false ≡ true = h.kept 0 (omega arith) refl in cc)
