-- SPDX-License-Identifier: GPL-2.0-only
-- What commands are answered, gone through worker by worker.
use Rattle.shr_audit_passes.proofs.Common.{◌≡◌, ℕ, suc, ◌<◌, ◌≤◌, Bool, true, false, cond, List, [], ◌∷◌, length, get_or, Option, Some, refl, sym, ap, subst, ◌∙◌, arith, ◌==◌, filter, slice_get, Decides, slice_get-get_or, nat_tests, WorkerPart, Answered, Script, WalkRecord, Report, serial_of, walks_in, EachItem, all_at, clash, StandByCommand, IsAnswerTold, IsPartTold, walks_with, ◌&&◌, command_at, walks_by, EachAnswer, IsWorkerCommand}
use Rattle.shr_base.specs.declared.replies.Reply.{Reply}
use Rattle.shr_base.specs.declared.scripts.Command.{Command}
use Rattle.shr_model.specs.Commands.{is_serial}
use Rattle.shr_laws.specs.WalksLawful.{IsToldBy}
use Rattle.shr_laws.specs.WellFormed.{IsWellFormed}
use Rattle.shr_audit_formed.proofs.WellParts.{parts_of}
use Rattle.shr_audit_case.specs.Each.{AnswersInParts}
use Rattle.shr_audit_case.proofs.Eachs.{each_answer_of}

pub same_test : (worker n a b : ℕ) → a ≡ worker → ((worker == a) && (n == b)) ≡ (b == n)
same_test worker n a b e = grind (arith, nat_tests)

-- of walks of one worker, those of a serial are those of its number
pub own_walks : (worker n answers : ℕ) (walks : List WalkRecord) → EachItem (λ x. IsWorkerCommand worker answers x.by) walks → filter (λ (w : WalkRecord). is_serial (serial_of worker n) w.by) walks ≡ walks_with walks n
own_walks worker n answers [] h = refl
own_walks worker n answers (w ∷ ws) h =
    ap (λ (t : Bool). cond t (w ∷ filter (λ (x : WalkRecord). is_serial (serial_of worker n) x.by) ws) (filter (λ (x : WalkRecord). is_serial (serial_of worker n) x.by) ws)) (same_test worker n w.by.worker w.by.command (h 0 w refl).0)
    ∙ ap (λ (xs : List WalkRecord). cond (w.by.command == n) (w ∷ xs) xs) (own_walks worker n answers ws (λ k x e. h (suc k) x e))

-- the walks of a command are those of its number in the part of its worker
pub walks_are : (r : Report) (worker n : ℕ) (part : WorkerPart) → IsWellFormed r → slice_get r.workers.items worker ≡ Some part → walks_by r (serial_of worker n) ≡ walks_with part.walks.items n
walks_are r worker n part well at =
    ap (λ (x : Option WorkerPart). filter (λ (w : WalkRecord). is_serial (serial_of worker n) w.by) (walks_in x)) at ∙ own_walks worker n (length part.answers.items) part.walks.items (parts_of r well worker part at).1.0.1.0

-- the walks of a part stand in the order of their commands
pub part_stands : (r : Report) (worker : ℕ) (part : WorkerPart) → IsWellFormed r → slice_get r.workers.items worker ≡ Some part → StandByCommand part.walks.items
part_stands r worker part well at = (parts_of r well worker part at).1.0.1.1

abbrev Told : Script → Report → Type 0
Told s r = EachAnswer s r (λ by c a. IsToldBy s (walks_by r by) c a.reply)

pub told_all : (s : Script) (r : Report) (parts : List WorkerPart) (i : ℕ) → IsWellFormed r → parts ≡ r.workers.items → length parts ≤ i
    → ((k : ℕ) (part : WorkerPart) → k < i → slice_get parts k ≡ Some part → IsPartTold s k part) → Decides true (Told s r)
told_all s r parts i well e over before = each_answer_of s r (λ by c a. IsToldBy s (walks_by r by) c a.reply) true (
  λ t worker part at n a here c is.
      let told : (k : ℕ) (x : WorkerPart) → slice_get parts k ≡ Some x → IsPartTold s k x = (all_at (λ (k : ℕ) (x : WorkerPart). IsPartTold s k x) parts i over before).0 refl in
      subst (λ (ws : List WalkRecord). IsToldBy s ws c a.reply) (sym (walks_are r worker n part well at)) (told worker part (ap (λ (xs : List WorkerPart). slice_get xs worker) e ∙ at) n a here c is),
  λ h. refl,
)

pub here_at : {X : Type 0} (xs ys : List X) (i : ℕ) (x : X) → xs ≡ ys → i < length xs → x ≡ get_or xs i x → slice_get ys i ≡ Some x
here_at {X} xs ys i x e lt is = ap (λ (zs : List X). slice_get zs i) (sym e) ∙ slice_get-get_or xs i x lt ∙ ap (λ (y : X). Some y) (sym is)

pub stands_here : (r : Report) (parts : List WorkerPart) (worker : ℕ) (part : WorkerPart) → IsWellFormed r → parts ≡ r.workers.items → worker < length parts → part ≡ get_or parts worker part → StandByCommand part.walks.items
stands_here r parts worker part well e lt is = part_stands r worker part well (here_at parts r.workers.items worker part e lt is)

pub told_fails : (s : Script) (r : Report) (parts : List WorkerPart) (worker : ℕ) (part : WorkerPart) (b : Bool) → IsWellFormed r → parts ≡ r.workers.items → worker < length parts → part ≡ get_or parts worker part
    → Decides b (IsPartTold s worker part) → b ≡ false → Decides false (Told s r)
told_fails s r parts worker part b well e lt is dec f =
    let at = here_at parts r.workers.items worker part e lt is in
    let told : AnswersInParts s r (λ by c a. IsToldBy s (walks_by r by) c a.reply) → IsPartTold s worker part =
    λ h n a here c is. subst (λ (ws : List WalkRecord). IsToldBy s ws c a.reply) (walks_are r worker n part well at) (h worker part at n a here c is) in
    each_answer_of s r (λ by c a. IsToldBy s (walks_by r by) c a.reply) false (λ t. absurd cc, λ h. absurd (clash b (dec.1 (told h)) f))

-- ---- one worker

-- what is so of the command and its walks as they were found
pub answer_decided : (s : Script) (worker n : ℕ) (o : Option Command) (ws xs walks : List WalkRecord) (reply : Reply) (a : Answered) (b : Bool)
    → o ≡ command_at s (serial_of worker n) → ws ≡ walks_with xs n → xs ≡ walks → reply ≡ a.reply
    → Decides b ((c : Command) → o ≡ Some c → IsToldBy s ws c reply) → Decides b (IsAnswerTold s worker walks n a)
answer_decided s worker n o ws xs walks reply a b eo ew ex er d =
    let found : ws ≡ walks_with walks n = ew ∙ ap (λ (ys : List WalkRecord). walks_with ys n) ex in (
      λ t c is. subst (λ (x : Reply). IsToldBy s (walks_with walks n) c x) er (subst (λ (ys : List WalkRecord). IsToldBy s ys c reply) found (d.0 t c (eo ∙ is))),
      λ h. d.1 (λ c is. subst (λ (ys : List WalkRecord). IsToldBy s ys c reply) (sym found) (subst (λ (x : Reply). IsToldBy s (walks_with walks n) c x) (sym er) (h c (sym eo ∙ is)))),
    )

pub part_fails : (s : Script) (worker : ℕ) (part : WorkerPart) (answers : List Answered) (n : ℕ) (a : Answered) (b : Bool) → answers ≡ part.answers.items → n < length answers → a ≡ get_or answers n a
    → Decides b (IsAnswerTold s worker part.walks.items n a) → b ≡ false → Decides false (IsPartTold s worker part)
part_fails s worker part answers n a b e lt is dec f = (λ t. absurd cc, λ h. absurd (clash b (dec.1 (h n a (here_at answers part.answers.items n a e lt is))) f))

pub part_whole : (s : Script) (worker : ℕ) (part : WorkerPart) (answers : List Answered) (i : ℕ) → answers ≡ part.answers.items → length answers ≤ i
    → ((n : ℕ) (a : Answered) → n < i → slice_get answers n ≡ Some a → IsAnswerTold s worker part.walks.items n a) → Decides true (IsPartTold s worker part)
part_whole s worker part answers i e over before =
    subst (λ (xs : List Answered). Decides true ((n : ℕ) (a : Answered) → slice_get xs n ≡ Some a → IsAnswerTold s worker part.walks.items n a)) e (all_at (λ (n : ℕ) (a : Answered). IsAnswerTold s worker part.walks.items n a) answers i over before)
