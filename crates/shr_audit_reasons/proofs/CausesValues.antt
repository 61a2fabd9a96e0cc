-- SPDX-License-Identifier: GPL-2.0-only
-- What is tested of the law on causes, at known values.
use Rattle.shr_audit_reasons.proofs.Common.{◌≡◌, ℕ, ◌<◌, ◌≤◌, true, false, List, [], ◌∷◌, Some, None, refl, subst, inl, inr, arith, ◌-◌, Serial, PoolEntry, Registered, Unregistered, Idle, Begin, Done, Cited, Never, Once, Often, IsBehindOf, IsIdledBy, IsSecondOf, CitesNow, IsEarlier, IsFreedAt, IsEntryOfId, TellsCited, cited_in, is_registered_by, is_unregistered_by, noted_at, IsBeginCited, IsDoneNotedOnce, is_cited, is_once, IsAttemptCaused, IsDrainedRightly, ◌^◌}
use Rattle.shr_base.specs.declared.journals.Entry.TheVariants.{Drained}
use Rattle.shr_base.specs.declared.replies.Reply.TheVariants as reply
use Rattle.shr_base.specs.declared.scripts.Command.TheVariants as command
use Rattle.shr_base.specs.declared.walks.Outcome.TheVariants as outcome
use Rattle.shr_model.specs.Pool.{phase_of}
use Rattle.shr_laws.proofs.FirstReport.{script, report}
use Rattle.shr_audit_reasons.specs.declared.cites.What.TheVariants as say

-- ---- what an answer says

registered : is_registered_by 4 (reply.Registered 0 4) ≡ true
registered = refl

not_registered : is_registered_by 4 (reply.AlreadyRegistered 4) ≡ false
not_registered = refl

freed : is_unregistered_by 6 (reply.Freed 0 6 1 2 3) ≡ true
freed = refl

freed_by_another : is_unregistered_by 7 (reply.Freed 0 6 1 2 3) ≡ false
freed_by_another = refl

begun : CitesNow report say.Begun (Some (command.Offline 2)) reply.Memory 2
begun = (refl, tt)

begun_by_root : CitesNow report say.Begun (Some (command.Offline 0)) reply.Root 0 → ⊥
begun_by_root h = h.1

-- ---- entries of an id

abbrev entries : List PoolEntry
entries = Registered 1 0 0 ∷ Unregistered 1 0 5 ∷ Registered 2 3 0 ∷ Idle 0 ∷ []

next_here : IsEntryOfId entries 0 1
next_here = refl

of_another : IsEntryOfId entries 0 2 → ⊥
of_another h = absurd cc

second : IsSecondOf entries 0 1 3
unfolding phase_of
second = (refl, omega arith, refl)

idled : IsIdledBy entries 3 (reply.Freed 0 1 0 5 2)
idled = second

idled_by_half : IsIdledBy entries 3 (reply.Memory) → ⊥
idled_by_half h = h

freed_here : IsFreedAt entries 1 (reply.Freed 0 1 0 5 2)
freed_here = (omega arith, omega arith, refl, λ n le lt of. absurd (omega (arith, le, lt)))

freed_of_another : IsFreedAt entries 1 (reply.Freed 3 1 0 5 2) → ⊥
freed_of_another h = of_another_here h.2
  where
    of_another_here : IsEntryOfId entries 3 1 → ⊥
    of_another_here e = absurd cc

-- behind entry 1 there is none of id 0 before entry 3, and behind entry 0 there is
behind_one : IsBehindOf entries 0 3 2
behind_one = record {
  low = omega arith;
  of = inr refl;
  quiet = λ m le lt of. (let same : m ≡ 2 = omega (arith, le, lt) in of_another (subst (λ (k : ℕ). IsEntryOfId entries 0 k) same of));
}

behind_none : IsBehindOf entries 0 3 1 → ⊥
behind_none h = h.quiet 1 (omega arith) (omega arith) refl

-- ---- the table

abbrev by : ℕ → ℕ → Serial
by worker command = record { worker = worker; command = command }

abbrev table : List Cited
table = Never ∷ Once 0 3 ∷ []

noted : noted_at (Some 0) 1 5 table ≡ Once 1 5 ∷ Once 0 3 ∷ []
noted = refl

noted_again : noted_at (Some 1) 1 5 table ≡ Never ∷ Often 0 3 true ∷ []
noted_again = refl

nothing_noted : noted_at None 1 5 table ≡ table
nothing_noted = refl

past_the_last : cited_in table 2 ≡ Never
past_the_last = refl

earlier_worker : IsEarlier 1 0 (by 0 9)
earlier_worker = inl (omega arith)

later_command : IsEarlier 1 4 (by 1 4) → ⊥
later_command (inl below) = let lt : 1 < 1 = below in absurd (omega arith)
later_command (inr below) = let lt : 4 < 4 = below.1 in absurd (omega arith)

tells_one : TellsCited (λ x. x ≡ by 0 3) (Once 0 3)
tells_one = (refl, λ x same. same)

tells_none : TellsCited (λ x. x ≡ by 0 3) Never → ⊥
tells_none h = h (by 0 3) refl

once : is_once (Once 0 3) ≡ true
once = refl

often_is_not_once : is_once (Often 0 3 true) ≡ false
often_is_not_once = refl

often_is_cited : is_cited (Often 0 3 false) ≡ true
often_is_cited = refl

done_once : IsDoneNotedOnce table 1 (Done 2)
done_once = refl

done_never : IsDoneNotedOnce table 0 (Done 2) → ⊥
done_never h = absurd cc

begin_uncited : IsBeginCited table (Begin 0) → ⊥
begin_uncited h = absurd cc

-- ---- attempts and drains of the first report, which has one lookup and one put

not_worn : IsAttemptCaused script report 0 (record { id = 0; outcome = outcome.Empty 0 0 })
not_worn = tt

worn_early : IsAttemptCaused script report 0 (record { id = 0; outcome = outcome.Worn 3 }) → ⊥
worn_early h = let few : 2 ^ 32 - 256 ≤ 3 = h.0 in absurd (omega arith)

drained_by_put : IsDrainedRightly report (Drained (by 0 0) 2) → ⊥
drained_by_put h = h (by 0 0) 2 refl
