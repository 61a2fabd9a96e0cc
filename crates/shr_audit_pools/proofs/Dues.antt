-- SPDX-License-Identifier: GPL-2.0-only
-- The walks of the pools of commands, gone through worker by worker.
use Rattle.shr_audit_pools.proofs.DueCommon.{◌≡◌, ℕ, ◌<◌, ◌≤◌, Bool, true, false, List, length, get_or, Option, Some, refl, sym, ap, subst, ◌∙◌, arith, nat_lt, nat_le, slice_get, Decides, nat_tests, slice_get-get_or, slice_get_within, WorkerPart, Answered, PlainWalk, Report, commands_of, plain_in, EachItem, all_at, clash, HasDue, IsPartDue, plain_walks_with, here_at, suc, cond, [], ◌∷◌, map, ◌==◌, ◌&&◌, filter, IsNonDecreasingBy-from_all_adjacent, serial_of, EachAnswer, PlainJob, plain_by, plain_due, plain_job_of, IsWorkerCommand, below_of, PoolWalksByCommand, same_test}
use Rattle.std.specs.List.Sorted.{IsPartitionedBy, IsNonDecreasingBy}
use Rattle.shr_base.specs.declared.scripts.Command.{Command}
use Rattle.shr_base.specs.declared.scripts.Script.{Script}
use Rattle.shr_model.specs.Commands.{is_serial}
use Rattle.shr_laws.specs.WellFormed.{IsWellFormed}
use Rattle.shr_audit_formed.proofs.WellParts.{parts_of}
use Rattle.shr_audit_case.specs.Each.{AnswersInParts}
use Rattle.shr_audit_case.proofs.Eachs.{each_answer_of}

-- ---- walks in the order of their commands

rising : (xs : List PlainWalk) → PoolWalksByCommand xs → IsNonDecreasingBy (λ (w : PlainWalk). w.by.command) xs
rising xs h = IsNonDecreasingBy-from_all_adjacent (λ (w : PlainWalk). w.by.command) xs (below_of (λ (x y : PlainWalk). x.by.command ≤ y.by.command) xs h)

pub parted_below : (xs : List PlainWalk) (command : ℕ) → PoolWalksByCommand xs → IsPartitionedBy (λ (w : PlainWalk). nat_lt w.by.command command) xs
parted_below xs command h i j d le lt e = let up = rising xs h i j d le lt in grind (arith, nat_tests)

pub parted_up_to : (xs : List PlainWalk) (command : ℕ) → PoolWalksByCommand xs → IsPartitionedBy (λ (w : PlainWalk). nat_le w.by.command command) xs
parted_up_to xs command h i j d le lt e = let up = rising xs h i j d le lt in grind (arith, nat_tests)

-- ---- those of a command

own_walks : (worker n answers : ℕ) (xs : List PlainWalk) → EachItem (λ w. IsWorkerCommand worker answers w.by) xs → filter (λ (w : PlainWalk). is_serial (serial_of worker n) w.by) xs ≡ plain_walks_with xs n
own_walks worker n answers [] h = refl
own_walks worker n answers (x ∷ xs) h =
    ap (λ (t : Bool). cond t (x ∷ filter (λ (w : PlainWalk). is_serial (serial_of worker n) w.by) xs) (filter (λ (w : PlainWalk). is_serial (serial_of worker n) w.by) xs)) (same_test worker n x.by.worker x.by.command (h 0 x refl).0)
    ∙ ap (λ (ys : List PlainWalk). cond (x.by.command == n) (x ∷ ys) ys) (own_walks worker n answers xs (λ k y e. h (suc k) y e))

walks_are : (r : Report) (worker n : ℕ) (part : WorkerPart) → IsWellFormed r → slice_get r.workers.items worker ≡ Some part → plain_by r (serial_of worker n) ≡ plain_walks_with part.plain.items n
walks_are r worker n part well at =
    ap (λ (x : Option WorkerPart). filter (λ (w : PlainWalk). is_serial (serial_of worker n) w.by) (plain_in x)) at ∙ own_walks worker n (length part.answers.items) part.plain.items (parts_of r well worker part at).1.1.1.0

-- ---- all workers

abbrev Due : Script → Report → Type 0
Due s r = EachAnswer s r (λ by c a. map plain_job_of (plain_by r by) ≡ plain_due s c a.reply)

pub stands_here : (r : Report) (parts : List WorkerPart) (worker : ℕ) (part : WorkerPart) → IsWellFormed r → parts ≡ r.workers.items → worker < length parts → part ≡ get_or parts worker part → PoolWalksByCommand part.plain.items
stands_here r parts worker part well e lt is = (parts_of r well worker part (here_at parts r.workers.items worker part e lt is)).1.1.1.1.0

pub due_all : (s : Script) (r : Report) (parts : List WorkerPart) (i : ℕ) → IsWellFormed r → parts ≡ r.workers.items → length parts ≤ i
    → ((k : ℕ) (part : WorkerPart) → k < i → slice_get parts k ≡ Some part → IsPartDue s k part) → Decides true (Due s r)
due_all s r parts i well e over before = each_answer_of s r (λ by c a. map plain_job_of (plain_by r by) ≡ plain_due s c a.reply) true (
  λ t worker part at n a here c is.
      let due : (k : ℕ) (x : WorkerPart) → slice_get parts k ≡ Some x → IsPartDue s k x = (all_at (λ (k : ℕ) (x : WorkerPart). IsPartDue s k x) parts i over before).0 refl in
      ap (map plain_job_of) (walks_are r worker n part well at) ∙ due worker part (ap (λ (xs : List WorkerPart). slice_get xs worker) e ∙ at) n a here c is,
  λ h. refl,
)

pub due_fails : (s : Script) (r : Report) (parts : List WorkerPart) (worker : ℕ) (part : WorkerPart) (b : Bool) → IsWellFormed r → parts ≡ r.workers.items → worker < length parts → part ≡ get_or parts worker part
    → Decides b (IsPartDue s worker part) → b ≡ false → Decides false (Due s r)
due_fails s r parts worker part b well e lt is dec f =
    let at = here_at parts r.workers.items worker part e lt is in
    let due : AnswersInParts s r (λ by c a. map plain_job_of (plain_by r by) ≡ plain_due s c a.reply) → IsPartDue s worker part =
    λ h n a here c is. ap (map plain_job_of) (sym (walks_are r worker n part well at)) ∙ h worker part at n a here c is in
    each_answer_of s r (λ by c a. map plain_job_of (plain_by r by) ≡ plain_due s c a.reply) false (λ t. absurd cc, λ h. absurd (clash b (dec.1 (due h)) f))

-- ---- one worker

-- the command that was read is the one with this number
pub has_one : (s : Script) (commands : List Command) (n : ℕ) (command : Command) (walks : List PlainWalk) (jobs : List PlainJob) (a : Answered) (b : Bool) → true ≡ nat_lt n (length commands) → command ≡ get_or commands n command
    → jobs ≡ plain_due s command a.reply → Decides b (map plain_job_of walks ≡ jobs) → Decides b (HasDue s commands n a walks)
has_one s commands n command walks jobs a b there is due d =
    let lt : n < length commands = (let t : nat_lt n (length commands) ≡ true = sym there in grind (arith, nat_tests)) in
    let at : slice_get commands n ≡ Some command = slice_get-get_or commands n command lt ∙ ap (λ (c : Command). Some c) (sym is) in (
      λ t c here. subst (λ (x : Command). map plain_job_of walks ≡ plain_due s x a.reply) (some_same command c (sym at ∙ here)) (d.0 t ∙ due),
      λ h. d.1 (h command at ∙ sym due),
    )
  where
    some_same : (x y : Command) → ◌≡◌ {A = Option Command} (Some x) (Some y) → x ≡ y
    some_same x y e = cc

pub has_none : (s : Script) (commands : List Command) (n : ℕ) (walks : List PlainWalk) (a : Answered) → false ≡ nat_lt n (length commands) → Decides true (HasDue s commands n a walks)
has_none s commands n walks a past = (λ t c here. absurd (let lt = slice_get_within commands n c here in let f : nat_lt n (length commands) ≡ false = sym past in let ge : length commands ≤ n = grind (arith, nat_tests) in omega (arith, lt, ge)), λ h. refl)

-- what is so of the commands and walks as they were found
pub answer_due : (s : Script) (worker n : ℕ) (commands : List Command) (own xs walks : List PlainWalk) (read a : Answered) (b : Bool)
    → commands ≡ commands_of s worker → own ≡ plain_walks_with xs n → xs ≡ walks → read ≡ a → Decides b (HasDue s commands n read own) → Decides b (HasDue s (commands_of s worker) n a (plain_walks_with walks n))
answer_due s worker n commands own xs walks read a b ec eo ex er d =
    subst (λ (cs : List Command). Decides b (HasDue s cs n a (plain_walks_with walks n))) ec
    (subst (λ (ws : List PlainWalk). Decides b (HasDue s commands n a ws)) (eo ∙ ap (λ (ys : List PlainWalk). plain_walks_with ys n) ex)
    (subst (λ (x : Answered). Decides b (HasDue s commands n x own)) er d))

pub part_fails : (s : Script) (worker : ℕ) (part : WorkerPart) (answers : List Answered) (n : ℕ) (a : Answered) (b : Bool) → answers ≡ part.answers.items → n < length answers → a ≡ get_or answers n a
    → Decides b (HasDue s (commands_of s worker) n a (plain_walks_with part.plain.items n)) → b ≡ false → Decides false (IsPartDue s worker part)
part_fails s worker part answers n a b e lt is dec f = (λ t. absurd cc, λ h. absurd (clash b (dec.1 (h n a (here_at answers part.answers.items n a e lt is))) f))

pub part_whole : (s : Script) (worker : ℕ) (part : WorkerPart) (answers : List Answered) (i : ℕ) → answers ≡ part.answers.items → length answers ≤ i
    → ((n : ℕ) (a : Answered) → n < i → slice_get answers n ≡ Some a → HasDue s (commands_of s worker) n a (plain_walks_with part.plain.items n)) → Decides true (IsPartDue s worker part)
part_whole s worker part answers i e over before =
    subst (λ (xs : List Answered). Decides true ((n : ℕ) (a : Answered) → slice_get xs n ≡ Some a → HasDue s (commands_of s worker) n a (plain_walks_with part.plain.items n))) e
    (all_at (λ (n : ℕ) (a : Answered). HasDue s (commands_of s worker) n a (plain_walks_with part.plain.items n)) answers i over before)
