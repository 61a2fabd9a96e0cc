-- SPDX-License-Identifier: GPL-2.0-only
-- The fields of the law on replies that speak of all answers and entries, from those that are tested.
use Rattle.shr_audit_replies.proofs.Common.{◌≡◌, ℕ, ◌<◌, ◌≤◌, length, true, Option, Some, None, refl, sym, ap, subst, ◌∙◌, inl, inr, arith, slice_get, none-some, slice_get_cases, slice_get_within, Serial, At, Entry, Look, Answered, Reply, Command, Script, by_of, Report, parents_of, journals_of, answer_at, commands_of, command_at, cited_by, cited_at, at, serial_of, IsReply, AllHaveAnswers, AreLastSwept, AreAnswered, AreValuesLent, AreEntriesCited, option_map, option_and_then, answers_of, reply_at, id_found, EachAnswer, AreJournalsRising, some_injective}
use Rattle.shr_base.specs.declared.places.Place.{Place}
use Rattle.shr_base.specs.declared.replies.Reply.TheVariants as reply
use Rattle.shr_laws.specs.Swept.{IsSweepReply}
use Rattle.shr_laws.proofs.QuietSweep.{few_sweeps, sweep_cites}
use Rattle.shr_audit_replies.proofs.Replying.{Own, own_cited, whole, without_value, lent}

-- ---- answers by what they reply

-- an answer whose reply gives something
record Given {Y : Type 0} (o : Option Answered) (f : Reply → Option Y) (y : Y) : Type 0 where
  pub answer : Answered
  pub there : o ≡ Some answer
  pub gives : f answer.reply ≡ Some y

given : {Y : Type 0} (f : Reply → Option Y) (o : Option Answered) (y : Y) → option_and_then f (option_map (λ (a : Answered). a.reply) o) ≡ Some y → Given o f y
given f None y e = absurd (cc)
given f (Some a) y e = record { answer = a; there = refl; gives = e }

-- an answer behind those to a worker's commands is the next one
behind : (s : Script) (r : Report) → AllHaveAnswers s r → (by : Serial) (a : Answered) → answer_at r by ≡ Some a → length (commands_of s by.worker) ≤ by.command → length (commands_of s by.worker) ≡ by.command
behind s r counted by a e past =
    let lt = slice_get_within (answers_of r by.worker) by.command a e in
    let same = counted by.worker in
    let few = few_sweeps s.sweep (slice_get s.workers.items by.worker) in
    omega (arith, lt, same, few, past)

-- each answer has its command, if it isn't to a sweep
command_of : (s : Script) (r : Report) → AllHaveAnswers s r → AreLastSwept s r → (by : Serial) (a : Answered) → answer_at r by ≡ Some a → (IsSweepReply a.reply → ⊥) → (c : Command) × (command_at s by ≡ Some c)
command_of s r counted last by a e own = elim ((slice_get_cases (commands_of s by.worker) by.command).1) [
  | inl there ↦ (there.0, there.2)
  | inr past ↦ absurd (own (last by.worker a (ap (λ (n : ℕ). answer_at r (serial_of by.worker n)) (behind s r counted by a e past.0) ∙ e)))
]

-- what the reply to a command cites is its own entry
own_of : (s : Script) (r : Report) → AllHaveAnswers s r → AreLastSwept s r → AreAnswered s r → (by : Serial) (a : At) → cited_at r by ≡ Some a → Own (journals_of r) a by
own_of s r counted last answered by a e =
    let g = given cited_by (answer_at r by) a e in
    let c = command_of s r counted last by g.answer g.there (λ is. none-some a (sym (sweep_cites g.answer.reply is) ∙ g.gives)) in
    own_cited (parents_of s) (journals_of r) by c.0 (id_found g.answer) g.answer.reply a (answered by c.0 g.answer c.1 g.there) g.gives

-- ---- values

replied : (r : Report) (by : Serial) (a : Answered) (x : Reply) → answer_at r by ≡ Some a → a.reply ≡ x → reply_at r by ≡ Some x
replied r by a x there is = ap (option_map (λ (b : Answered). b.reply)) there ∙ ap (λ (y : Reply). Some y) is

-- each answer is one that its command may have, if it may be with any value and the values are lent
pub answers_whole : (s : Script) (r : Report) → AreAnswered s r → AreValuesLent s r → EachAnswer s r (λ by c a. IsReply (parents_of s) (journals_of r) by c (id_found a) a.reply)
answers_whole s r answered lends by c a known there =
    whole (parents_of s) (journals_of r) by c (id_found a) a.reply (answered by c a known there)
    (λ cited value key birth is stands. lends cited.place cited.entry (Look by birth key true) stands by birth key value refl (replied r by a (reply.Hit cited value) there is))

pub answers_without : (s : Script) (r : Report) → EachAnswer s r (λ by c a. IsReply (parents_of s) (journals_of r) by c (id_found a) a.reply) → AreAnswered s r
answers_without s r all by c a known there = without_value (parents_of s) (journals_of r) by c (id_found a) a.reply (all by c a known there)

pub values_of : (s : Script) (r : Report) → AllHaveAnswers s r → AreLastSwept s r → EachAnswer s r (λ by c a. IsReply (parents_of s) (journals_of r) by c (id_found a) a.reply) → AreValuesLent s r
values_of s r counted last all place n e stands by birth key value is replies =
    let g = given (λ x. Some x) (answer_at r by) (reply.Hit (at place n) value) replies_so in
    let same : g.answer.reply ≡ reply.Hit (at place n) value = some_injective g.answer.reply (reply.Hit (at place n) value) g.gives in
    let c = command_of s r counted last by g.answer g.there (λ is. subst IsSweepReply same is) in
    lent (parents_of s) (journals_of r) by c.0 (id_found g.answer) (at place n) value key birth
    (subst (λ (x : Reply). IsReply (parents_of s) (journals_of r) by c.0 (id_found g.answer) x) same (all by c.0 g.answer c.1 g.there))
    (stands ∙ ap (λ (d : Entry). Some d) is)
  where
    itself : (o : Option Reply) → option_and_then (λ x. Some x) o ≡ o
    itself None = refl
    itself (Some x) = refl

    replies_so : option_and_then (λ x. Some x) (reply_at r by) ≡ Some (reply.Hit (at place n) value)
    replies_so = itself (reply_at r by) ∙ replies

-- ---- the order along a journal, and along a worker's replies

later_or : (n m : ℕ) → (n < m → ⊥) → (n ≡ m → ⊥) → m < n
later_or n m below other = grind arith

-- along each journal the commands of a worker rise, if along the worker's replies the cited entries do
pub journals_rise : (s : Script) (r : Report) → AreEntriesCited r
    → ((worker k later : ℕ) (place : Place) (n m : ℕ) → k < later → cited_at r (serial_of worker k) ≡ Some (at place n) → cited_at r (serial_of worker later) ≡ Some (at place m) → n < m)
    → AreJournalsRising r
journals_rise s r cited rise place n m d e by later lt here there by_is later_is same = later_or later.command by.command falls equal
  where
    first : cited_at r (serial_of by.worker by.command) ≡ Some (at place n)
    first = cited place n d here by by_is

    second : cited_at r (serial_of by.worker later.command) ≡ Some (at place m)
    second = subst (λ (w : ℕ). cited_at r (serial_of w later.command) ≡ Some (at place m)) (sym same) (cited place m e there later later_is)

    falls : later.command < by.command → ⊥
    falls down = let back = rise by.worker later.command by.command place m n down second first in omega (arith, back, lt)

    equal : later.command ≡ by.command → ⊥
    equal is =
        let both : ◌≡◌ {A = Option At} (Some (at place m)) (Some (at place n)) = sym second ∙ (ap (λ (k : ℕ). cited_at r (serial_of by.worker k)) is ∙ first) in
        let number : m ≡ n = ap (λ (x : At). x.entry) (some_injective (at place m) (at place n) both) in
        omega (arith, number, lt)

-- and the other way round
pub replies_rise : (s : Script) (r : Report) → AllHaveAnswers s r → AreLastSwept s r → AreAnswered s r → AreJournalsRising r
    → (worker k later : ℕ) (place : Place) (n m : ℕ) → k < later → cited_at r (serial_of worker k) ≡ Some (at place n) → cited_at r (serial_of worker later) ≡ Some (at place m) → n < m
replies_rise s r counted last answered rising worker k later place n m lt first second = later_or m n falls equal
  where
    one : Own (journals_of r) (at place n) (serial_of worker k)
    one = own_of s r counted last answered (serial_of worker k) (at place n) first

    two : Own (journals_of r) (at place m) (serial_of worker later)
    two = own_of s r counted last answered (serial_of worker later) (at place m) second

    falls : m < n → ⊥
    falls down = let back = rising place m n two.entry one.entry (serial_of worker later) (serial_of worker k) down two.stands one.stands two.by_is one.by_is refl in omega (arith, back, lt)

    equal : m ≡ n → ⊥
    equal is =
        let entries : ◌≡◌ {A = Option Entry} (Some two.entry) (Some one.entry) = sym two.stands ∙ (ap (λ (i : ℕ). slice_get (journals_of r place) i) is ∙ one.stands) in
        let serials : ◌≡◌ {A = Option Serial} (Some (serial_of worker later)) (Some (serial_of worker k)) = sym two.by_is ∙ (ap by_of (some_injective two.entry one.entry entries) ∙ one.by_is) in
        let number : later ≡ k = ap (λ (x : Serial). x.command) (some_injective (serial_of worker later) (serial_of worker k) serials) in
        omega (arith, number, lt)
