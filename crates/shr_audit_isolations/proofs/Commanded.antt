-- SPDX-License-Identifier: GPL-2.0-only
-- The isolations of commands, gone through worker by worker.
use Rattle.shr_audit_isolations.proofs.Common.{◌≡◌, ℕ, zero, suc, ◌<◌, Bool, true, false, cond, List, [], ◌∷◌, length, get_or, Option, Some, None, refl, sym, ap, subst, ◌∙◌, arith, nat_lt, nat_le, slice_get, Decides, nat_tests, slice_get-get_or, slice_get_within, WorkerPart, Answered, Script, Isolation, Report, isolations_by, isolations_told, isolations_in, EachAnswer, EachItem, all_at, clash, TellsIsolations, PartTellsIsolations, ◌≤◌, ◌==◌, ◌&&◌, filter, IsNonDecreasingBy-from_all_adjacent, commands_of, serial_of, IsWorkerCommand, below_of, IsolationsByCommand, isolations_with}
use Rattle.std.specs.List.Sorted.{IsPartitionedBy, IsNonDecreasingBy}
use Rattle.std.proofs.lemmas.Bool.{eqb-true}
use Rattle.shr_base.specs.declared.places.Serial.{Serial}
use Rattle.shr_base.specs.declared.scripts.Command.{Command}
use Rattle.shr_model.specs.Commands.{is_serial}
use Rattle.shr_laws.specs.WellFormed.{IsWellFormed}
use Rattle.shr_audit_formed.proofs.WellParts.{parts_of}
use Rattle.shr_audit_case.specs.Each.{AnswersInParts}
use Rattle.shr_audit_case.proofs.Eachs.{each_answer_of}
use Rattle.shr_audit_passes.proofs.Answered.{here_at, same_test}

-- ---- isolations in the order of their commands

rising : (xs : List Isolation) → IsolationsByCommand xs → IsNonDecreasingBy (λ (i : Isolation). i.by.command) xs
rising xs h = IsNonDecreasingBy-from_all_adjacent (λ (i : Isolation). i.by.command) xs (below_of (λ (x y : Isolation). x.by.command ≤ y.by.command) xs h)

pub parted_below : (xs : List Isolation) (command : ℕ) → IsolationsByCommand xs → IsPartitionedBy (λ (i : Isolation). nat_lt i.by.command command) xs
parted_below xs command h i j d le lt e = let up = rising xs h i j d le lt in grind (arith, nat_tests)

pub parted_up_to : (xs : List Isolation) (command : ℕ) → IsolationsByCommand xs → IsPartitionedBy (λ (i : Isolation). nat_le i.by.command command) xs
parted_up_to xs command h i j d le lt e = let up = rising xs h i j d le lt in grind (arith, nat_tests)

-- ---- those of a command

own_isolations : (worker n answers : ℕ) (xs : List Isolation) → EachItem (λ i. IsWorkerCommand worker answers i.by) xs → filter (λ (i : Isolation). is_serial (serial_of worker n) i.by) xs ≡ isolations_with xs n
own_isolations worker n answers [] h = refl
own_isolations worker n answers (x ∷ xs) h =
    ap (λ (t : Bool). cond t (x ∷ filter (λ (i : Isolation). is_serial (serial_of worker n) i.by) xs) (filter (λ (i : Isolation). is_serial (serial_of worker n) i.by) xs)) (same_test worker n x.by.worker x.by.command (h 0 x refl).0)
    ∙ ap (λ (ys : List Isolation). cond (x.by.command == n) (x ∷ ys) ys) (own_isolations worker n answers xs (λ k y e. h (suc k) y e))

isolations_are : (r : Report) (worker n : ℕ) (part : WorkerPart) → IsWellFormed r → slice_get r.workers.items worker ≡ Some part → isolations_by r (serial_of worker n) ≡ isolations_with part.isolations.items n
isolations_are r worker n part well at =
    ap (λ (x : Option WorkerPart). filter (λ (i : Isolation). is_serial (serial_of worker n) i.by) (isolations_in x)) at ∙ own_isolations worker n (length part.answers.items) part.isolations.items (parts_of r well worker part at).1.1.1.1.1.0

-- each of these is of the command
pub own_serial : (worker n : ℕ) (xs : List Isolation) → EachItem (λ i. i.by.worker ≡ worker) xs → EachItem (λ i. i.by ≡ serial_of worker n) (isolations_with xs n)
own_serial worker n [] h k y at = absurd (let lt = slice_get_within [] k y at in omega (arith, lt))
own_serial worker n (x ∷ xs) h k y at = by (own_serial worker n xs (λ j z e. h (suc j) z e)) (x.by.command == n) refl k y at
  where
    some_same : (a b : Isolation) → ◌≡◌ {A = Option Isolation} (Some a) (Some b) → a ≡ b
    some_same a b e = cc

    by : EachItem (λ i. i.by ≡ serial_of worker n) (isolations_with xs n) → (t : Bool) → (x.by.command == n) ≡ t → (j : ℕ) (z : Isolation) → slice_get (cond t (x ∷ isolations_with xs n) (isolations_with xs n)) j ≡ Some z → z.by ≡ serial_of worker n
    by rest false f j z e = rest j z e
    by rest true f zero z e =
        let here : x.by ≡ serial_of worker n = ap (λ (w : ℕ). serial_of w x.by.command) (h 0 x refl) ∙ ap (serial_of worker) (eqb-true x.by.command n f) in
        subst (λ (i : Isolation). i.by ≡ serial_of worker n) (some_same x z e) here
    by rest true f (suc j) z e = rest j z e

-- ---- one answer

-- there is one isolation
pub tells_one : (xs : List Isolation) (x : Isolation) (c : Command) (a : Answered) (b : Bool) → length xs ≤ 1 → Some x ≡ slice_get xs 0 → Decides b (x ∷ [] ≡ isolations_told x.by c a)
    → (by : Serial) → EachItem (λ i. i.by ≡ by) xs → Decides b (xs ≡ isolations_told by c a)
tells_one [] x c a b one is d by own = absurd (none is)
  where
    none : ◌≡◌ {A = Option Isolation} (Some x) None → ⊥
    none e = cc
tells_one (y ∷ []) x c a b one is d by own =
    let same : x ≡ y = some_same x y is in
    subst (λ (s : Serial). Decides b (y ∷ [] ≡ isolations_told s c a)) (own 0 y refl) (subst (λ (i : Isolation). Decides b (i ∷ [] ≡ isolations_told i.by c a)) same d)
  where
    some_same : (i j : Isolation) → ◌≡◌ {A = Option Isolation} (Some i) (Some j) → i ≡ j
    some_same i j e = cc
tells_one (y ∷ z ∷ zs) x c a b one is d by own = absurd (omega (arith, one))

-- the command that was read is the one with this number
pub answered_one : (commands : List Command) (n : ℕ) (command : Command) (xs : List Isolation) (a : Answered) (b : Bool) → true ≡ nat_lt n (length commands) → command ≡ get_or commands n command
    → ((by : Serial) → EachItem (λ i. i.by ≡ by) xs → Decides b (xs ≡ isolations_told by command a))
    → (by : Serial) → EachItem (λ i. i.by ≡ by) xs → Decides b ((c : Command) → slice_get commands n ≡ Some c → xs ≡ isolations_told by c a)
answered_one commands n command xs a b there is d by own =
    let lt : n < length commands = (let t : nat_lt n (length commands) ≡ true = sym there in grind (arith, nat_tests)) in
    let at : slice_get commands n ≡ Some command = slice_get-get_or commands n command lt ∙ ap (λ (c : Command). Some c) (sym is) in
    let dec = d by own in (
      λ t c here. subst (λ (x : Command). xs ≡ isolations_told by x a) (some_same command c (sym at ∙ here)) (dec.0 t),
      λ h. dec.1 (h command at),
    )
  where
    some_same : (x y : Command) → ◌≡◌ {A = Option Command} (Some x) (Some y) → x ≡ y
    some_same x y e = cc

pub answered_none : (commands : List Command) (n : ℕ) (xs : List Isolation) (a : Answered) → false ≡ nat_lt n (length commands)
    → (by : Serial) → EachItem (λ i. i.by ≡ by) xs → Decides true ((c : Command) → slice_get commands n ≡ Some c → xs ≡ isolations_told by c a)
answered_none commands n xs a past by own = (λ t c here. absurd (let lt = slice_get_within commands n c here in let f : nat_lt n (length commands) ≡ false = sym past in let ge : length commands ≤ n = grind (arith, nat_tests) in omega (arith, lt, ge)), λ h. refl)

-- ---- all workers

abbrev Told : Script → Report → Type 0
Told s r = EachAnswer s r (λ by c a. isolations_by r by ≡ isolations_told by c a)

pub stands_here : (r : Report) (parts : List WorkerPart) (worker : ℕ) (part : WorkerPart) → IsWellFormed r → parts ≡ r.workers.items → worker < length parts → part ≡ get_or parts worker part → IsolationsByCommand part.isolations.items
stands_here r parts worker part well e lt is = (parts_of r well worker part (here_at parts r.workers.items worker part e lt is)).1.1.1.1.1.1

pub owns_here : (r : Report) (parts : List WorkerPart) (worker : ℕ) (part : WorkerPart) → IsWellFormed r → parts ≡ r.workers.items → worker < length parts → part ≡ get_or parts worker part → EachItem (λ i. i.by.worker ≡ worker) part.isolations.items
owns_here r parts worker part well e lt is n i at = ((parts_of r well worker part (here_at parts r.workers.items worker part e lt is)).1.1.1.1.1.0 n i at).0

pub told_all : (s : Script) (r : Report) (parts : List WorkerPart) (i : ℕ) → IsWellFormed r → parts ≡ r.workers.items → length parts ≤ i
    → ((k : ℕ) (part : WorkerPart) → k < i → slice_get parts k ≡ Some part → PartTellsIsolations s k part) → Decides true (Told s r)
told_all s r parts i well e over before = each_answer_of s r (λ by c a. isolations_by r by ≡ isolations_told by c a) true (
  λ t worker part at n a here c is.
      let told : (k : ℕ) (x : WorkerPart) → slice_get parts k ≡ Some x → PartTellsIsolations s k x = (all_at (λ (k : ℕ) (x : WorkerPart). PartTellsIsolations s k x) parts i over before).0 refl in
      isolations_are r worker n part well at ∙ told worker part (ap (λ (xs : List WorkerPart). slice_get xs worker) e ∙ at) n a here c is,
  λ h. refl,
)

pub told_fails : (s : Script) (r : Report) (parts : List WorkerPart) (worker : ℕ) (part : WorkerPart) (b : Bool) → IsWellFormed r → parts ≡ r.workers.items → worker < length parts → part ≡ get_or parts worker part
    → Decides b (PartTellsIsolations s worker part) → b ≡ false → Decides false (Told s r)
told_fails s r parts worker part b well e lt is dec f =
    let at = here_at parts r.workers.items worker part e lt is in
    let told : AnswersInParts s r (λ by c a. isolations_by r by ≡ isolations_told by c a) → PartTellsIsolations s worker part =
    λ h n a here c is. sym (isolations_are r worker n part well at) ∙ h worker part at n a here c is in
    each_answer_of s r (λ by c a. isolations_by r by ≡ isolations_told by c a) false (λ t. absurd cc, λ h. absurd (clash b (dec.1 (told h)) f))

-- ---- one worker

-- what is so of the command and its isolations as they were found
pub answer_decided : (s : Script) (worker n : ℕ) (commands : List Command) (own xs isolations : List Isolation) (read a : Answered) (b : Bool)
    → commands ≡ commands_of s worker → own ≡ isolations_with xs n → xs ≡ isolations → read ≡ a
    → EachItem (λ i. i.by.worker ≡ worker) isolations
    → ((by : Serial) → EachItem (λ i. i.by ≡ by) own → Decides b ((c : Command) → slice_get commands n ≡ Some c → own ≡ isolations_told by c read)) → Decides b (TellsIsolations s worker isolations n a)
answer_decided s worker n commands own xs isolations read a b ec eo ex er owns d =
    let found : own ≡ isolations_with isolations n = eo ∙ ap (λ (ys : List Isolation). isolations_with ys n) ex in
    let serials : EachItem (λ i. i.by ≡ serial_of worker n) own = subst (λ (ys : List Isolation). EachItem (λ i. i.by ≡ serial_of worker n) ys) (sym found) (own_serial worker n isolations owns) in
    let dec = d (serial_of worker n) serials in (
      λ t c is. sym found ∙ (dec.0 t c (ap (λ (cs : List Command). slice_get cs n) ec ∙ is) ∙ ap (isolations_told (serial_of worker n) c) er),
      λ h. dec.1 (λ c is. found ∙ (h c (ap (λ (cs : List Command). slice_get cs n) (sym ec) ∙ is) ∙ ap (isolations_told (serial_of worker n) c) (sym er))),
    )

pub part_fails : (s : Script) (worker : ℕ) (part : WorkerPart) (answers : List Answered) (n : ℕ) (a : Answered) (b : Bool) → answers ≡ part.answers.items → n < length answers → a ≡ get_or answers n a
    → Decides b (TellsIsolations s worker part.isolations.items n a) → b ≡ false → Decides false (PartTellsIsolations s worker part)
part_fails s worker part answers n a b e lt is dec f = (λ t. absurd cc, λ h. absurd (clash b (dec.1 (h n a (here_at answers part.answers.items n a e lt is))) f))

pub part_whole : (s : Script) (worker : ℕ) (part : WorkerPart) (answers : List Answered) (i : ℕ) → answers ≡ part.answers.items → length answers ≤ i
    → ((n : ℕ) (a : Answered) → n < i → slice_get answers n ≡ Some a → TellsIsolations s worker part.isolations.items n a) → Decides true (PartTellsIsolations s worker part)
part_whole s worker part answers i e over before =
    subst (λ (xs : List Answered). Decides true ((n : ℕ) (a : Answered) → slice_get xs n ≡ Some a → TellsIsolations s worker part.isolations.items n a)) e (all_at (λ (n : ℕ) (a : Answered). TellsIsolations s worker part.isolations.items n a) answers i over before)
