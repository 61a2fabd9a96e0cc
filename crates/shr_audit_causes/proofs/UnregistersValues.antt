-- SPDX-License-Identifier: GPL-2.0-only
-- What is tested of answers to an `unregister` that drained, at known values.
use Rattle.shr_audit_causes.proofs.UnregistersCommon.{◌≡◌, ℕ, zero, suc, ◌+◌, ◌-◌, ◌^◌, ◌<◌, ◌≤◌, true, false, [], ◌∷◌, length, Option, Some, None, refl, sym, ap, ◌∙◌, arith, slice_get, unwrap_or, BTreeMap, PlaceEnd, Drained, Registered, Idle, serial_of, Began, IsUpto, is_idle, IsEndedSo, IsOfId, IsDrainPlaced, id_drained, id_drained_by, HasEnd, HasHalfReason, HasUnregisterCause, as_ended, AreSums, IsSerialKeyed, IsNothing, AreOfOnePlace, capped, drained_key, Closed, AreBegan, AreNotes, IsEnd, some_injective}
use Rattle.shr_base.specs.declared.replies.HalfWhy.TheVariants as why
use Rattle.shr_base.specs.declared.replies.Reply.TheVariants as reply
use Rattle.shr_base.specs.declared.replies.Spent.TheVariants as spent
use Rattle.shr_base.specs.declared.scripts.Command.TheVariants as command
use Rattle.shr_model.specs.Pool.{from_from}
use Rattle.shr_laws.proofs.UnregisterReport.{list_0, place, report, script}
use Rattle.shr_audit_causes.specs.declared.ended.Notes.{Notes}
use Rattle.shr_audit_causes.proofs.SumsLaws.{none_summed}

-- ---- which id was drained

told : id_drained (reply.Half 4 1 0 3 3 why.Memory) ≡ Some 4
told = refl

told_nothing : id_drained (reply.NoCache 1) ≡ None
told_nothing = refl

told_by : id_drained_by script report (serial_of 0 3) ≡ Some 0
told_by = refl

told_by_another : id_drained_by script report (serial_of 0 4) ≡ None
told_by_another = refl

told_by_none : id_drained_by script report (serial_of 1 3) ≡ None
told_by_none = refl

of_id : IsOfId (place 0 0 1) (Some 0)
of_id = refl

of_any_id : IsOfId (place 5 0 1) None
of_any_id = tt

of_another_id : IsOfId (place 1 0 1) (Some 0) → ⊥
of_another_id h = let e : ◌≡◌ {A = ℕ} 1 0 = h in absurd (omega arith)

placed : IsDrainPlaced script report (place 0 0 1) (Drained (serial_of 0 3) 3)
placed = refl

not_drained : IsDrainPlaced script report (place 1 0 1) Closed
not_drained = tt

misplaced : IsDrainPlaced script report (place 1 0 1) (Drained (serial_of 0 3) 3) → ⊥
misplaced h = let e : ◌≡◌ {A = ℕ} 1 0 = h in absurd (omega arith)

-- ---- how it ended

is_end : IsEnd report (serial_of 0 3) 0 (as_ended 0 1 0 3 3)
unfolding from_from
is_end = record { made = refl; from_is = refl; drained = refl }

of_other_objects : IsEnd report (serial_of 0 3) 0 (as_ended 0 1 0 3 2) → ⊥
of_other_objects h = let e : ◌≡◌ {A = ℕ} 2 3 = h.drained in absurd (omega arith)

is_freed : IsEndedSo report (serial_of 0 3) 0 (as_ended 0 1 0 3 3) true
is_freed = record { end = is_end; idle_is = refl }

is_not_left : IsEndedSo report (serial_of 0 3) 0 (as_ended 0 1 0 3 3) false → ⊥
is_not_left h = absurd (let e : true ≡ false = h.idle_is in cc)

has_end : HasEnd report (serial_of 0 3) (command.Unregister 0) (reply.Freed 0 1 0 3 3)
has_end = is_freed

has_another_end : HasEnd report (serial_of 0 3) (command.Unregister 0) (reply.Half 0 1 0 3 3 why.Memory) → ⊥
has_another_end h = is_not_left h

names_no_declaration : HasEnd report (serial_of 0 3) (command.Offline 0) (reply.Freed 0 1 0 3 3) → ⊥
names_no_declaration h = h

needs_no_end : HasEnd report (serial_of 0 3) (command.Unregister 0) (reply.NoCache 9)
needs_no_end = tt

has_reason : HasHalfReason script report 0 (reply.Half 0 1 0 3 3 why.Memory)
has_reason = tt

worn_early : HasHalfReason script report 0 (reply.Half 0 1 0 3 3 (why.Worn (spent.Lookups 0 3))) → ⊥
worn_early h = let few : 2 ^ 32 - 256 ≤ 3 = h.0 in absurd (omega arith)

needs_no_cause : HasUnregisterCause script report (serial_of 0 3) (command.Unregister 0) (reply.NoCache 9)
needs_no_cause = tt

not_half : HasUnregisterCause script report (serial_of 0 3) (command.Unregister 0) (reply.Half 0 1 0 3 3 why.Memory) → ⊥
not_half h = absurd (let e : true ≡ false = h.dying in cc)

-- ---- sums

small : capped 5 ≡ 5
small = refl

large : capped (2 ^ 64 + 1) ≡ 2 ^ 64 - 1
large = refl

key : drained_key 1 2 ≡ 4294967298
key = refl

keyed : IsSerialKeyed 1 2
keyed = record { worker_few = omega arith; command_few = omega arith }

not_keyed : IsSerialKeyed 65536 0 → ⊥
not_keyed h = let few = h.worker_few in absurd (omega (arith, few))

not_summed : (sums : BTreeMap ℕ ℕ) → IsNothing sums → AreSums sums (λ by. 1) → ⊥
not_summed sums none h = absurd (let e : ◌≡◌ {A = ℕ} 0 1 = sym (ap (λ (o : Option ℕ). unwrap_or o 0) (none (drained_key 1 2))) ∙ h.each 1 2 keyed in omega (arith, e))

run : AreOfOnePlace (list_0 ∷ []) 0 1
run = record { some = omega arith; within = omega arith; same = same }
  where
    same : (n : ℕ) (x y : PlaceEnd) → 0 ≤ n → n < 1 → slice_get (list_0 ∷ []) 0 ≡ Some x → slice_get (list_0 ∷ []) n ≡ Some y → y.place ≡ x.place
    same zero x y le lt a b = ap (λ (z : PlaceEnd). z.place) (some_injective y x (sym b ∙ a))
    same (suc n) x y le lt a b = absurd (omega (arith, lt))

past_the_last : AreOfOnePlace (list_0 ∷ []) 0 2 → ⊥
past_the_last h = let within : 2 ≤ 1 = h.within in absurd (omega (arith, within))

-- ---- registrations

idle : is_idle (Idle 3) ≡ true
idle = refl

registered : is_idle (Registered 0 3 1) ≡ false
registered = refl

not_upto : (b : Began) → b.froms.items ≡ [] → IsUpto (Registered 0 0 0 ∷ []) 1 b → ⊥
not_upto b none h = absurd (let e : ◌≡◌ {A = ℕ} 0 1 = sym (ap length none) ∙ h.from_count in omega (arith, e))

not_began : (b : Began) → b.froms.items ≡ [] → AreBegan report b → ⊥
not_began b none h = absurd (let e : ◌≡◌ {A = ℕ} 0 4 = sym (ap length none) ∙ h.from_count in omega (arith, e))

not_noted : (n : Notes) → n.began.froms.items ≡ [] → AreNotes report n → ⊥
not_noted n none h = not_began n.began none h.began
