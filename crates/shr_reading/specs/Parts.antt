-- SPDX-License-Identifier: GPL-2.0-only
-- The parts that a script is read in. No public clause cites this module.
use Rattle.std.specs.Prelude.{◌≡◌, ℕ, ◌+◌, ◌<◌, ◌≤◌, List, [], ◌∷◌, ◌++◌, length, map, codes, None, sum_by}
use Rattle.shr_base.specs.declared.scripts.WorkerScript.{WorkerScript}
use Rattle.shr_script.specs.Content.{Content}
use Rattle.shr_script.specs.Spelling.{IsSpelling}

-- the line `end`, with its line feed
abbrev pub end_text : List ℕ
end_text = codes "end" ++ 10 ∷ []

-- with an `end` behind them, the bytes spell a script that has declarations alone
pub record IsHead (bytes : List ℕ) (t : Content) : Type 0 where
  pub spelled : IsSpelling (bytes ++ end_text) t
  pub no_worker : t.workers ≡ []
  pub no_sweep : t.sweep ≡ None

-- as many groups, caches and pools
pub record AreDeclaredAlike (t u : Content) : Type 0 where
  pub groups : length t.groups ≡ length u.groups
  pub caches : length t.caches ≡ length u.caches
  pub pools : length t.pools ≡ length u.pools

-- how many commands these workers have in all
abbrev pub all_commands : List WorkerScript → ℕ
all_commands ws = sum_by length (map (λ w. w.commands.items) ws)

-- together no more workers and commands than a script may have
pub record AreFewTogether (ws vs : List WorkerScript) : Type 0 where
  pub workers : length ws + length vs ≤ 64
  pub commands : all_commands ws + all_commands vs ≤ 20000

-- behind this head, two parts that both have workers, and together few enough; the first has no
-- sweep
pub record DoFit (head first second : Content) : Type 0 where
  pub first_declared : AreDeclaredAlike head first
  pub second_declared : AreDeclaredAlike head second
  pub no_sweep : first.sweep ≡ None
  pub some_first : 0 < length first.workers
  pub some_second : 0 < length second.workers
  pub workers : length first.workers + length second.workers ≤ 64
  pub commands : sum_by length first.workers + sum_by length second.workers ≤ 20000

-- the second with the workers of the first before its own
abbrev pub joined_content : Content → Content → Content
joined_content first second = record second { workers = first.workers ++ second.workers }
