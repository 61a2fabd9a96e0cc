-- SPDX-License-Identifier: GPL-2.0-only
-- What the laws' functions ask of a script and a report that were read.
use Rattle.shr_audit.proofs.Common.{◌≡◌, ℕ, ◌<◌, ◌≤◌, [], map, Some, None, refl, ◌∙◌, arith, slice_get, Script, WorkerScript, content_of, few_commands, few_workers, is_tree, ◌^◌, length, Option, IsValid}
use Rattle.std.proofs.lemmas.List.{length-map}
use Rattle.shr_script.proofs.BoundsLaws.{within_of_valid}
use Rattle.shr_laws.specs.Parts.{parents_of, commands_of, commands_in}

-- and few
pub few_groups : (s : Script) → IsValid (content_of s) → length (parents_of s) ≤ 65536
few_groups s h =
    let few = (within_of_valid (content_of s) h).groups in
    let many : length (map (λ g. g.parent) s.groups.items) ≡ length s.groups.items = length-map s.groups.items (λ g. g.parent) in
    omega (arith, few, many)

-- those of any number, none where there is no such worker
pub few_of_each : (s : Script) → IsValid (content_of s) → (worker : ℕ) → length (commands_of s worker) ≤ 2 ^ 32
few_of_each s h worker = by (slice_get s.workers.items worker) refl
  where
    by : (w : Option WorkerScript) → slice_get s.workers.items worker ≡ w → length (commands_in w) ≤ 2 ^ 32
    by None e = omega arith
    by (Some w) e = few_commands s h worker w e

-- it has few pools
pub few_pools : (s : Script) → IsValid (content_of s) → length s.pools.items ≤ 256
few_pools s h =
    let few = (within_of_valid (content_of s) h).pools in
    omega (arith, few)

-- it has a node
pub some_node : (s : Script) → IsValid (content_of s) → 0 < s.nodes
some_node s h = (within_of_valid (content_of s) h).some_node
