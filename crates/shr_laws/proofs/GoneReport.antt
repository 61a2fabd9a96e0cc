-- SPDX-License-Identifier: GPL-2.0-only
-- A walk meets the bit of an id that is gone, and a balance walks the root.
use Rattle.shr_laws.proofs.Common.{ℕ, true, false, [], ◌∷◌, codes, Some, None, Plain, Registered, Unregistered, Idle, CacheDecl, Script, WalkRecord, PlaceEnd, Report, Place, serial_of, at}
use Rattle.shr_base.specs.declared.journals.Entry.TheVariants as entry
use Rattle.shr_base.specs.declared.replies.Reply.TheVariants as reply
use Rattle.shr_base.specs.declared.scripts.Command.TheVariants as command
use Rattle.shr_base.specs.declared.walks.GoneThen.TheVariants as gone
use Rattle.shr_base.specs.declared.walks.Outcome.TheVariants as outcome
use Rattle.shr_base.specs.declared.walks.WalkAnswer.TheVariants as walk
use Rattle.shr_laws.proofs.SecondReport.{kept, use_step, target}

abbrev pub place : ℕ → ℕ → ℕ → Place
place id node group = record { id = id; node = node; group = group }

abbrev pub cache_0 : CacheDecl
cache_0 = record { name = codes "dentry"; policy = Plain; seeks = 2; batch = 0; floor = 0; fs = false; on = true }

-- the script that the report is of
abbrev pub script : Script
script = record { version = 1; nodes = 1; ids = 1; groups = kept (record { path = codes "/a"; parent = 0; limit = None; later = false } ∷ []); caches = kept (cache_0 ∷ []); pools = kept []; workers = kept (record { commands = kept (command.Put (target 1 0 0) (codes "k1") (codes "v1") ∷ command.Unregister 0 ∷ command.Shrink 1 0 0 false ∷ command.Balance 0 0 false ∷ []) } ∷ []); sweep = None }

abbrev pub walk_0 : WalkRecord
walk_0 = record { by = (serial_of 0 2); group = 1; node = 0; priority = 0; nofs = false; maps = kept (record { unit = 0; bits = 1 } ∷ []); attempts = kept (record { id = 0; outcome = outcome.Gone 1 gone.Clear } ∷ []); answer = walk.Walked 0 }

abbrev pub walk_1 : WalkRecord
walk_1 = record { by = (serial_of 0 3); group = 0; node = 0; priority = 0; nofs = false; maps = kept ([]); attempts = kept (record { id = 0; outcome = outcome.Gone 2 gone.Root } ∷ []); answer = walk.Walked 0 }

abbrev pub walk_2 : WalkRecord
walk_2 = record { by = (serial_of 0 3); group = 1; node = 0; priority = 0; nofs = false; maps = kept (record { unit = 0; bits = 0 } ∷ []); attempts = kept ([]); answer = walk.Walked 0 }

abbrev pub list_0 : PlaceEnd
list_0 = record { place = (place 0 0 1); entries = kept (entry.Add (serial_of 0 0) 1 true (codes "k1") (codes "v1") ∷ entry.Drained (serial_of 0 1) 1 ∷ []); items = kept ([]) }

-- the whole report
abbrev pub report : Report
report = record {
  version = 1;
  nodes = 1;
  ids = 1;
  groups = kept (codes "/" ∷ codes "/a" ∷ []);
  caches = kept (codes "dentry" ∷ []);
  pools = kept [];
  pool = kept (Registered 0 0 0 ∷ Unregistered 0 0 1 ∷ Idle 0 ∷ []);
  tree = kept ([]);
  workers = kept (record { answers = kept (record { reply = reply.Added (at (place 0 0 1) 0); found = Some (record { id = 0; number = 0; entry = 1 }) } ∷ record { reply = reply.Freed 0 1 0 1 1; found = None } ∷ record { reply = reply.Walked 0; found = None } ∷ record { reply = reply.Walked 0; found = None } ∷ []); walks = kept (walk_0 ∷ walk_1 ∷ walk_2 ∷ []); carries = kept ([]); plain = kept []; isolations = kept [] } ∷ []);
  places = kept (list_0 ∷ []);
  units = kept [];
  maps = kept (record { node = 0; group = 1; unit = 0; bits = 0 } ∷ []);
  deferred = kept ([]);
  pool_deferred = kept [];
  uses = kept (use_step 0 0 true 0 0 ∷ use_step 0 1 false 1 1 ∷ use_step 1 0 true 0 0 ∷ use_step 1 1 false 1 1 ∷ []);
  lookups = kept (3 ∷ []);
  added = 1;
  freed = 1;
  listed = 0;
}
