-- SPDX-License-Identifier: GPL-2.0-only
-- The commands of all workers, against the law.
use Rattle.shr_audit_walks.proofs.RoundsCommon.{◌≡◌, ℕ, ◌+◌, ◌^◌, ◌<◌, ◌≤◌, Bool, true, false, List, [], ◌∷◌, length, get_or, map, Some, refl, sym, ap, subst, ◌∙◌, arith, ◌&&◌, ◌==◌, count_by, slice_get, Decides, AllByRecursion, get_or_from_slice_get, slice_get_within, WorkerPart, UseStep, Serial, Answered, Reply, Command, Script, is_refused, ops_by, Job, job_of, Report, commands_of, limit_of, parents_of, serial_of, uses_at, walks_by, AreWalksOf, clash, more_at, Dues, IsAnswerMade, IsCommandMade, IsPartMade, refused_groups, refusals_with, refusal_key, times_over, jobs_made, stands_here, here_at, EachAnswer, all_at, AreDues, walks_are, same_test}
use Rattle.shr_laws.specs.Numbers.{HasNumbers, IsUseNumbered}
use Rattle.shr_laws.specs.WellFormed.{IsWellFormed}
use Rattle.shr_audit_case.specs.Each.{AnswersInParts}
use Rattle.shr_audit_case.proofs.Eachs.{each_answer_of}
use Rattle.shr_audit_passes.specs.Commands.{walks_with}
use Rattle.shr_audit_walks.proofs.Making.{made_walks, walks_made}
use Rattle.shr_audit_walks.proofs.Refusing.{refusals_counted}

-- what is so of each two items with one number
pub both_more : {X Y : Type 0} (P : ℕ → X → Y → Type 0) (xs : List X) (ys : List Y) (i : ℕ) (x : X) (y : Y) → i < length xs → x ≡ get_or xs i x → y ≡ get_or ys i y
    → ((n : ℕ) (a : X) (b : Y) → n < i → slice_get xs n ≡ Some a → slice_get ys n ≡ Some b → P n a b) → P i x y
    → (n : ℕ) (a : X) (b : Y) → n < i + 1 → slice_get xs n ≡ Some a → slice_get ys n ≡ Some b → P n a b
both_more {X} {Y} P xs ys i x y lt at_x at_y before here n a b below e f =
    more_at (λ (k : ℕ) (v : X). (z : Y) → slice_get ys k ≡ Some z → P k v z) xs i x lt at_x (λ k v l g z m. before k v z l g m) (λ z m. subst (P i x) (at_y ∙ get_or_from_slice_get ys i z y m) here) n a below e b f

-- ---- the walks of a command

-- ---- a command

small_all : (uses : List UseStep) → AllByRecursion IsUseNumbered uses → AllByRecursion (λ (o : UseStep). o.by.command < 2 ^ 32) uses
small_all [] h = tt
small_all (o ∷ os) h = (h.0.by.command, small_all os h.1)

-- what a worker's command made, with the parents, the nodes and the walks as they were found
found_as : (ps qs : List ℕ) (m n : ℕ) (refused : List ℕ) (c : Command) (x : Reply) (vs ws : List Job) → ps ≡ qs → m ≡ n → vs ≡ ws → IsCommandMade ps m refused c x vs → IsCommandMade qs n refused c x ws
found_as ps qs m n refused c x vs ws p q e h =
    subst (λ (js : List Job). IsCommandMade qs n refused c x js) e (subst (λ (k : ℕ). IsCommandMade qs k refused c x vs) q (subst (λ (gs : List ℕ). IsCommandMade gs m refused c x vs) p h))

module _ (s : Script) (r : Report) (dues : Dues) (are : AreDues s r.uses.items dues) (well : IsWellFormed r) (numbers : HasNumbers r) (few : (worker : ℕ) → length (commands_of s worker) ≤ 2 ^ 32) where
  module _ (worker : ℕ) (part : WorkerPart) (at : slice_get r.workers.items worker ≡ Some part) (n : ℕ) (c : Command) (here : slice_get (commands_of s worker) n ≡ Some c) (x : Reply) where
    counts : (h : ℕ) → times_over h (refused_groups (refusals_with (refusal_key (serial_of worker n)) dues.refusals.items)) ≡ count_by (is_refused (limit_of s h)) (ops_by (serial_of worker n) (uses_at r h))
    counts h =
        let within = slice_get_within (commands_of s worker) n c here in
        let limit = few worker in
        refusals_counted s (serial_of worker n) h (omega (arith, within, limit)) r.uses.items dues.refusals.items (small_all r.uses.items numbers.uses) are.refusals

    jobs : jobs_made (walks_with part.walks.items n) ≡ map job_of (walks_by r (serial_of worker n))
    jobs = ap jobs_made (sym (walks_are r worker n part well at))

    to_law : IsAnswerMade dues (serial_of worker n) part.walks.items c x → AreWalksOf s r (serial_of worker n) c x
    to_law h = made_walks s r (serial_of worker n) (refused_groups (refusals_with (refusal_key (serial_of worker n)) dues.refusals.items)) counts c x
        (found_as dues.subtrees.parents.items (parents_of s) dues.nodes s.nodes (refused_groups (refusals_with (refusal_key (serial_of worker n)) dues.refusals.items)) c x (jobs_made (walks_with part.walks.items n)) (map job_of (walks_by r (serial_of worker n))) are.parents are.nodes jobs h)

    of_law : AreWalksOf s r (serial_of worker n) c x → IsAnswerMade dues (serial_of worker n) part.walks.items c x
    of_law h = found_as (parents_of s) dues.subtrees.parents.items s.nodes dues.nodes (refused_groups (refusals_with (refusal_key (serial_of worker n)) dues.refusals.items)) c x (map job_of (walks_by r (serial_of worker n))) (jobs_made (walks_with part.walks.items n)) (sym are.parents) (sym are.nodes) (sym jobs)
        (walks_made s r (serial_of worker n) (refused_groups (refusals_with (refusal_key (serial_of worker n)) dues.refusals.items)) counts c x h)

  abbrev Law : Serial → Command → Answered → Type 0
  Law by c a = AreWalksOf s r by c a.reply

  module _ (parts : List WorkerPart) (i : ℕ) (same : parts ≡ r.workers.items) where
    pub all_made : length parts ≤ i → ((k : ℕ) (part : WorkerPart) → k < i → slice_get parts k ≡ Some part → IsPartMade dues k (commands_of s k) part) → Decides true (EachAnswer s r Law)
    all_made over before = each_answer_of s r Law true (
      λ t worker part at n a is c here.
          let each : IsPartMade dues worker (commands_of s worker) part = (all_at (λ (k : ℕ) (x : WorkerPart). IsPartMade dues k (commands_of s k) x) parts i over before).0 refl worker part (ap (λ (xs : List WorkerPart). slice_get xs worker) same ∙ at) in
          to_law worker part at n c here a.reply (each n a is c here),
      λ h. refl,
    )

    pub part_fails : (part : WorkerPart) (b : Bool) → i < length parts → part ≡ get_or parts i part → Decides b (IsPartMade dues i (commands_of s i) part) → b ≡ false → Decides false (EachAnswer s r Law)
    part_fails part b lt is d isnt =
        let at = here_at parts r.workers.items i part same lt is in
        let each : AnswersInParts s r Law → IsPartMade dues i (commands_of s i) part = λ h n a at_n c here. of_law i part at n c here a.reply (h i part at n a at_n c here) in
        each_answer_of s r Law false (λ t. absurd cc, λ h. absurd (clash b (d.1 (each h)) isnt))
