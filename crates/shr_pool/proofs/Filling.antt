-- SPDX-License-Identifier: GPL-2.0-only
-- The line of jobs and marks while it is pushed.
use Rattle.shr_pool.proofs.Common.{◌≡◌, ℕ, ◌+◌, ◌*◌, List, [], ◌∷◌, ◌++◌, map, length, sym, ap, ◌∙◌, arith, length-append, replicate, range_with_len, map-range_with_len_more, SweepItem, Walk, End, job_at, table_jobs, length-map-range_with_len}
use Rattle.std.proofs.lemmas.List.{map-append, length-map, length-replicate}

-- the first jobs
abbrev pub walks : ℕ → ℕ → List SweepItem
walks groups n = map Walk (map (job_at groups) (range_with_len 0 n))

pub length_walks : (groups n : ℕ) → length (walks groups n) ≡ n
length_walks groups n = length-map (map (job_at groups) (range_with_len 0 n)) Walk ∙ length-map-range_with_len (job_at groups) 0 n

pub length_line : (nodes groups m : ℕ) → length (map Walk (table_jobs nodes groups) ++ replicate m End) ≡ nodes * groups + m
length_line nodes groups m = omega (arith, length-append (walks groups (nodes * groups)) (replicate m End), length_walks groups (nodes * groups), length-replicate m End)

pub next_walk : (groups i : ℕ) → walks groups i ++ Walk (job_at groups i) ∷ [] ≡ walks groups (i + 1)
next_walk groups i = sym (ap (map Walk) (map-range_with_len_more (job_at groups) 0 i i (omega arith)) ∙ map-append Walk (map (job_at groups) (range_with_len 0 i)) (job_at groups i ∷ []))
