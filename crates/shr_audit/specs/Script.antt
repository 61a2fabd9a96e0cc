-- SPDX-License-Identifier: GPL-2.0-only
-- The script that bytes spell.
use Rattle.std.specs.Prelude.{ℕ, List, map}
use Rattle.std.specs.List.{AllByRecursion}
use Rattle.shr_base.specs.declared.scripts.Script.{Script}
use Rattle.shr_base.specs.declared.scripts.WorkerScript.{WorkerScript}
use Rattle.shr_script.specs.Content.{content_of}
use Rattle.shr_script.specs.Spelling.{IsSpelling}
use Rattle.shr_audit_text.specs.Draft.{kept}
use Rattle.shr_audit_text.specs.Reading.{IsTight}

-- a worker's list of commands has no room to spare
abbrev pub IsTightWorker : WorkerScript → Type 0
IsTightWorker w = IsTight w.commands

-- No list of a script has room to spare, at any depth. So bytes spell one such script alone.
pub record IsTightScript (s : Script) : Type 0 where
  pub groups : IsTight s.groups
  pub caches : IsTight s.caches
  pub pools : IsTight s.pools
  pub workers : IsTight s.workers
  pub commands : AllByRecursion IsTightWorker s.workers.items

-- The script that these bytes spell: valid, and with lists that have no room to spare.
pub record IsScriptOf (bytes : List ℕ) (s : Script) : Type 0 where
  pub spelling : IsSpelling bytes (content_of s)
  pub tight : IsTightScript s

-- the worker of the same commands, with a list that has no room to spare
abbrev pub tight_worker : WorkerScript → WorkerScript
tight_worker w = record { commands = kept w.commands.items }

-- the script that says the same, with lists that have no room to spare
abbrev pub tight_script : Script → Script
tight_script s = record {
  version = s.version;
  nodes = s.nodes;
  ids = s.ids;
  groups = kept s.groups.items;
  caches = kept s.caches.items;
  pools = kept s.pools.items;
  workers = kept (map tight_worker s.workers.items);
  sweep = s.sweep;
}
