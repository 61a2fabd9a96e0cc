-- SPDX-License-Identifier: GPL-2.0-only
-- The passes of a report by their keys.
use Rattle.std.specs.Prelude.{ℕ, List, [], ◌∷◌, flat_map, Option, Some, None}
use Rattle.std.specs.List.{enumerate_from}
use Rattle.std.specs.List.Sorted.{IsNonDecreasing, IsPermutation}
use Rattle.shr_base.specs.declared.ends.WorkerPart.{WorkerPart}
use Rattle.shr_base.specs.Walks.{Attempt, WalkRecord}
use Rattle.shr_base.specs.declared.walks.PassRecord.{PassRecord}
use Rattle.shr_model.specs.Attempts.{pass_of}
use Rattle.shr_model.specs.Walks.{place_in}
use Rattle.shr_laws.specs.declared.report.Report.{Report}
use Rattle.shr_audit_walks.specs.declared.passes.Passes.{Passes}
use Rattle.shr_audit_walks.specs.Keys.{key_of}

-- a key, if a pass ran
abbrev pub key_if : ℕ → Option PassRecord → List ℕ
key_if key None = []
key_if key (Some p) = key ∷ []

-- the key of the pass of an attempt, if one ran
abbrev pub keys_at : ℕ → ℕ → WalkRecord → Attempt → List ℕ
keys_at worker n w a = key_if (key_of worker n (place_in w a.id)) (pass_of a.outcome)

-- the keys of the passes of a walk
abbrev pub keys_in : ℕ → ℕ → WalkRecord → List ℕ
keys_in worker n w = flat_map (keys_at worker n w) w.attempts.items

-- those of the walks of a worker
abbrev pub keys_of_part : ℕ → List WalkRecord → List ℕ
keys_of_part worker walks = flat_map (λ (x : ℕ × WalkRecord). keys_in worker x.0 x.1) (enumerate_from 0 walks)

-- those of all walks of a report
abbrev pub keys_of_report : Report → List ℕ
keys_of_report r = flat_map (λ (x : ℕ × WorkerPart). keys_of_part x.0 x.1.walks.items) (enumerate_from 0 r.workers.items)

-- the same keys, in order
pub record ArePassesOf (r : Report) (p : Passes) : Type 0 where
  pub order : IsNonDecreasing p.keys.items
  pub same : IsPermutation (keys_of_report r) p.keys.items
