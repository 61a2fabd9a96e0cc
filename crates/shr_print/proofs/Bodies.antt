-- SPDX-License-Identifier: GPL-2.0-only
-- The four sections of a body, each behind the other, are the body.
use Rattle.std.proofs.Common.{◌≡◌, ℕ, ◌+◌, List, [], ◌∷◌, ◌++◌, length, flat_map, subst, ap, ◌∙◌, append_assoc}
use Rattle.std.proofs.lemmas.List.{append-nil}
use Rattle.std.specs.List.{AllByRecursion}
use Rattle.shr_laws.specs.declared.report.Report.{Report}
use Rattle.shr_report.specs.Body.{between_lines, body_lines, IsBetweenNumbered, IsBodyNumbered}
use Rattle.shr_laws.specs.Lines.{numbered}
use Rattle.shr_laws.specs.PartNumbers.{ArePartsWell}
use Rattle.shr_laws.specs.Numbers.{IsListNumbered, IsPartNumbered, IsUseNumbered}
use Rattle.shr_laws.specs.Text.{worker_lines, place_lines, use_line}
use Rattle.shr_print.specs.Runs.{run_of}
use Rattle.shr_print.specs.Then.{then_text, then_known}
use Rattle.shr_print.specs.ThenLaws.{then_whole, then_parts}
use Rattle.shr_print.proofs.Runs.{run_all}

module _ (r : Report) where
  abbrev pub workers_text : ℕ → ℕ → List ℕ
  workers_text from to = numbered worker_lines from (run_of from to r.workers.items)

  abbrev pub lists_text : ℕ → ℕ → List ℕ
  lists_text from to = flat_map place_lines (run_of from to r.places.items)

  abbrev pub between_text : ℕ → ℕ → List ℕ
  between_text from to = flat_map between_lines (run_of from to (r ∷ []))

  abbrev pub uses_text : ℕ → ℕ → List ℕ
  uses_text from to = flat_map use_line (run_of from to r.uses.items)

  abbrev pub tail_text : ℕ → ℕ → List ℕ
  tail_text = then_text between_text uses_text 1

  abbrev pub behind_text : ℕ → ℕ → List ℕ
  behind_text = then_text lists_text tail_text (length r.places.items)

  abbrev pub sections_text : ℕ → ℕ → List ℕ
  sections_text = then_text workers_text behind_text (length r.workers.items)

  abbrev pub workers_known : ℕ → ℕ → Type 0
  workers_known from to = ArePartsWell r.workers.items → AllByRecursion IsPartNumbered (run_of from to r.workers.items)

  abbrev pub lists_known : ℕ → ℕ → Type 0
  lists_known from to = AllByRecursion IsListNumbered (run_of from to r.places.items)

  abbrev pub between_known : ℕ → ℕ → Type 0
  between_known from to = AllByRecursion IsBetweenNumbered (run_of from to (r ∷ []))

  abbrev pub uses_known : ℕ → ℕ → Type 0
  uses_known from to = AllByRecursion IsUseNumbered (run_of from to r.uses.items)

  abbrev pub sections_known : ℕ → ℕ → Type 0
  sections_known = then_known workers_known (then_known lists_known (then_known between_known uses_known 1) (length r.places.items)) (length r.workers.items)

  -- how many items there are
  abbrev pub sections_size : ℕ
  sections_size = length r.workers.items + (length r.places.items + (1 + length r.uses.items))

regrouped : (workers places between uses : List ℕ) → workers ++ (places ++ ((between ++ []) ++ uses)) ≡ workers ++ places ++ between ++ uses
regrouped workers places between uses = simp (append-nil, append_assoc)

-- their text is that of the body
pub body_text : (r : Report) → sections_text r 0 (sections_size r) ≡ body_lines r
body_text r =
    let workers = length r.workers.items in
    let places = length r.places.items in
    let uses = length r.uses.items in
    let tail = then_whole (between_text r) (uses_text r) 1 uses in
    let behind = then_whole (lists_text r) (tail_text r) places (1 + uses) ∙ ap (λ t. lists_text r 0 places ++ t) tail in
    let whole = then_whole (workers_text r) (behind_text r) workers (places + (1 + uses)) ∙ ap (λ t. workers_text r 0 workers ++ t) behind in
    let parts : workers_text r 0 workers ≡ numbered worker_lines 0 r.workers.items = ap (numbered worker_lines 0) (run_all r.workers.items) in
    let lists : lists_text r 0 places ≡ flat_map place_lines r.places.items = ap (flat_map place_lines) (run_all r.places.items) in
    let steps : uses_text r 0 uses ≡ flat_map use_line r.uses.items = ap (flat_map use_line) (run_all r.uses.items) in
    whole
    ∙ ap (λ t. t ++ (lists_text r 0 places ++ ((between_lines r ++ []) ++ uses_text r 0 uses))) parts
    ∙ ap (λ t. numbered worker_lines 0 r.workers.items ++ (t ++ ((between_lines r ++ []) ++ uses_text r 0 uses))) lists
    ∙ ap (λ t. numbered worker_lines 0 r.workers.items ++ (flat_map place_lines r.places.items ++ ((between_lines r ++ []) ++ t))) steps
    ∙ regrouped (numbered worker_lines 0 r.workers.items) (flat_map place_lines r.places.items) (between_lines r) (flat_map use_line r.uses.items)

-- what is known of them is known of the body
pub body_known : (r : Report) → sections_known r 0 (sections_size r) → IsBodyNumbered r
body_known r h =
    let workers = length r.workers.items in
    let places = length r.places.items in
    let uses = length r.uses.items in
    let tail_known = then_known (between_known r) (uses_known r) 1 in
    let whole = then_parts (workers_known r) (then_known (lists_known r) tail_known places) workers (places + (1 + uses)) h in
    let behind = then_parts (lists_known r) tail_known places (1 + uses) whole.1 in
    let tail = then_parts (between_known r) (uses_known r) 1 uses behind.1 in
    record {
      workers = λ well. subst (AllByRecursion IsPartNumbered) (run_all r.workers.items) (whole.0 well);
      places = subst (AllByRecursion IsListNumbered) (run_all r.places.items) behind.0;
      between = tail.0.0;
      uses = subst (AllByRecursion IsUseNumbered) (run_all r.uses.items) tail.1;
    }
