-- SPDX-License-Identifier: GPL-2.0-only
-- A valid script has few workers, of few commands each, and its groups are a tree.
use Rattle.std.proofs.Common.{◌≡◌, ℕ, ◌≤◌, ◌^◌, [], length, get_or, map, Some, ap, ◌∙◌, arith}
use Rattle.std.specs.Prelude.{slice_get, sum_by, option_map}
use Rattle.std.proofs.lemmas.List.{length-map}
use Rattle.std.proofs.lemmas.List.Sums.{get_or-le-sum_by}
use Rattle.std.proofs.lemmas.Option.{slice_get_within, get_or_from_slice_get, slice_get-map}
use Rattle.shr_base.specs.declared.scripts.Script.{Script}
use Rattle.shr_base.specs.declared.scripts.WorkerScript.{WorkerScript}
use Rattle.shr_model.specs.Trees.{IsTree}
use Rattle.shr_laws.specs.Parts.{parents_of}
use Rattle.shr_script.specs.Content.{content_of, IsValid}
use Rattle.shr_script.proofs.BoundsLaws.{within_of_valid}
use Rattle.shr_audit_rows.specs.Rows.{AreFew}

pub few_workers : (s : Script) → IsValid (content_of s) → length s.workers.items ≤ 2 ^ 16
few_workers s h =
    let few = (within_of_valid (content_of s) h).workers in
    let many : length (map (λ w. w.commands.items) s.workers.items) ≡ length s.workers.items = length-map s.workers.items (λ w. w.commands.items) in
    omega (arith, few, many)

pub few_commands : (s : Script) → IsValid (content_of s) → (worker : ℕ) (w : WorkerScript) → slice_get s.workers.items worker ≡ Some w → length w.commands.items ≤ 2 ^ 32
few_commands s h worker w e =
    let lists = map (λ w. w.commands.items) s.workers.items in
    let all = (within_of_valid (content_of s) h).commands in
    let there : slice_get lists worker ≡ Some w.commands.items = slice_get-map (λ (w : WorkerScript). w.commands.items) s.workers.items worker ∙ ap (option_map (λ w. w.commands.items)) e in
    let own : get_or lists worker [] ≡ w.commands.items = get_or_from_slice_get lists worker w.commands.items [] there in
    let below : length (get_or lists worker []) ≤ sum_by length lists = get_or-le-sum_by length lists worker [] (slice_get_within lists worker w.commands.items there) in
    let same = ap length own in
    omega (arith, all, below, same)

pub are_few : (s : Script) → IsValid (content_of s) → AreFew s.workers.items
are_few s h = record { few = few_workers s h; short = few_commands s h }

pub is_tree : (s : Script) → IsValid (content_of s) → IsTree (parents_of s)
is_tree s h = (within_of_valid (content_of s) h).tree
