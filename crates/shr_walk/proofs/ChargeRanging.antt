-- SPDX-License-Identifier: GPL-2.0-only
-- The jobs of a round, node by node.
use Rattle.shr_walk.proofs.ChargingCommon.{◌≡◌, ℕ, ◌+◌, ◌<◌, List, [], ◌∷◌, ◌++◌, length, take, drop, get_or, false, sym, ap, ◌∙◌, arith, flat_map, All, flat_map-append, map-append, append-nil, take-append-drop, IsTree, preorder_of, Job, job, shape_of, Shared, jobs_on, due_in, take_more, take_all, Contains-get_or}
use Rattle.std.specs.List.{range_with_len}
use Rattle.std.proofs.lemmas.List.FromFn.{length-range_with_len, get_or-range_with_len}
use Rattle.shr_model.proofs.GroupsOrder.{preorder_of-on}
use Rattle.shr_model.proofs.Members.{Has_from_Contains}

abbrev nodes_of : Shared → List ℕ
nodes_of x = range_with_len 0 (shape_of x.core).nodes

-- those of the first nodes
abbrev pub jobs_to : Shared → ℕ → ℕ → ℕ → List Job
jobs_to x priority group n = flat_map (λ (node : ℕ). jobs_on node priority (preorder_of x.tree.parents group)) (take n (nodes_of x))

-- those of the nodes from one on
abbrev pub jobs_from : Shared → ℕ → ℕ → ℕ → List Job
jobs_from x priority group n = flat_map (λ (node : ℕ). jobs_on node priority (preorder_of x.tree.parents group)) (drop n (nodes_of x))

module _ (x : Shared) (priority group : ℕ) where
  abbrev on : ℕ → List Job
  on node = jobs_on node priority (preorder_of x.tree.parents group)

  pub jobs_more : (n : ℕ) → n < (shape_of x.core).nodes → jobs_to x priority group (n + 1) ≡ jobs_to x priority group n ++ on n
  jobs_more n low = let near : n < length (nodes_of x) = omega (arith, length-range_with_len 0 (shape_of x.core).nodes, low) in
      ap (flat_map on) (take_more (nodes_of x) n 0 near ∙ ap (λ (k : ℕ). take n (nodes_of x) ++ k ∷ []) (get_or-range_with_len 0 (shape_of x.core).nodes n 0 low ∙ (let z : 0 + n ≡ n = omega arith in z)))
      ∙ (flat_map-append on (take n (nodes_of x)) (n ∷ []) ∙ ap (λ l. jobs_to x priority group n ++ l) (append-nil (on n)))

  pub jobs_parted : (n : ℕ) → due_in x priority group ≡ jobs_to x priority group n ++ jobs_from x priority group n
  jobs_parted n = ap (flat_map on) (sym (take-append-drop n (nodes_of x))) ∙ flat_map-append on (take n (nodes_of x)) (drop n (nodes_of x))

  pub jobs_all : due_in x priority group ≡ jobs_to x priority group (shape_of x.core).nodes
  jobs_all = ap (flat_map on) (sym (take_all (shape_of x.core).nodes (nodes_of x) (omega (arith, length-range_with_len 0 (shape_of x.core).nodes))))

module _ (node priority : ℕ) (groups : List ℕ) (n : ℕ) (near : n < length groups) where
  pub on_more : jobs_on node priority (take (n + 1) groups) ≡ jobs_on node priority (take n groups) ++ job (get_or groups n 0) node priority false ∷ []
  on_more = ap (jobs_on node priority) (take_more groups n 0 near) ∙ map-append (λ g. job g node priority false) (take n groups) (get_or groups n 0 ∷ [])

  pub on_parted : jobs_on node priority groups ≡ (jobs_on node priority (take n groups) ++ job (get_or groups n 0) node priority false ∷ []) ++ jobs_on node priority (drop (n + 1) groups)
  on_parted = ap (jobs_on node priority) (sym (take-append-drop (n + 1) groups)) ∙ (map-append (λ g. job g node priority false) (take (n + 1) groups) (drop (n + 1) groups) ∙ ap (λ l. l ++ jobs_on node priority (drop (n + 1) groups)) on_more)

-- each group of a subtree is one of the tree
pub order_within : (parents : List ℕ) → IsTree parents → (group : ℕ) → group < length parents → All (λ (g : ℕ). g < length parents) (preorder_of parents group)
order_within parents tree group there k d low = let order = preorder_of parents group in (preorder_of-on parents tree group (get_or order k d) there (Has_from_Contains order (get_or order k d) (Contains-get_or order k d low))).1
