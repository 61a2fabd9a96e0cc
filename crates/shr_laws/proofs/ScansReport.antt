-- SPDX-License-Identifier: GPL-2.0-only
-- Two walks of a cache of floor 1: one skips, one scans and frees both.
use Rattle.shr_laws.proofs.Common.{ℕ, true, false, [], ◌∷◌, codes, Some, None, Plain, Registered, CacheDecl, Script, WalkRecord, PlaceEnd, Report, Place, serial_of, at}
use Rattle.shr_base.specs.declared.journals.Entry.TheVariants as entry
use Rattle.shr_base.specs.declared.replies.Reply.TheVariants as reply
use Rattle.shr_base.specs.declared.scripts.Command.TheVariants as command
use Rattle.shr_base.specs.declared.walks.Ending.TheVariants as ending
use Rattle.shr_base.specs.declared.walks.Outcome.TheVariants as outcome
use Rattle.shr_base.specs.declared.walks.WalkAnswer.TheVariants as walk
use Rattle.shr_laws.proofs.SecondReport.{kept, use_step, target}

abbrev pub place : ℕ → ℕ → ℕ → Place
place id node group = record { id = id; node = node; group = group }

abbrev pub cache_0 : CacheDecl
cache_0 = record { name = codes "dentry"; policy = Plain; seeks = 2; batch = 0; floor = 1; fs = false; on = true }

-- the script that the report is of
abbrev pub script : Script
script = record { version = 1; nodes = 1; ids = 1; groups = kept (record { path = codes "/a"; parent = 0; limit = None; later = false } ∷ []); caches = kept (cache_0 ∷ []); pools = kept []; workers = kept (record { commands = kept (command.Put (target 1 0 0) (codes "k1") (codes "v1") ∷ command.Shrink 1 0 0 false ∷ command.Put (target 1 0 0) (codes "k2") (codes "v1") ∷ command.Shrink 1 0 0 false ∷ []) } ∷ []); sweep = None }

abbrev pub walk_0 : WalkRecord
walk_0 = record { by = (serial_of 0 1); group = 1; node = 0; priority = 0; nofs = false; maps = kept (record { unit = 0; bits = 1 } ∷ []); attempts = kept (record { id = 0; outcome = outcome.Skip 1 1 1 } ∷ []); answer = walk.Walked 0 }

abbrev pub walk_1 : WalkRecord
walk_1 = record { by = (serial_of 0 3); group = 1; node = 0; priority = 0; nofs = false; maps = kept (record { unit = 0; bits = 1 } ∷ []); attempts = kept (record { id = 0; outcome = outcome.Ran 3 (record { len = 2; version = 2; nr = 0; asks = 1; closed = 0; scanned = 4; freed = 2; next = 0; ending = ending.Through }) } ∷ []); answer = walk.Walked 2 }

abbrev pub list_0 : PlaceEnd
list_0 = record { place = (place 0 0 1); entries = kept (entry.Add (serial_of 0 0) 1 true (codes "k1") (codes "v1") ∷ entry.Add (serial_of 0 2) 1 true (codes "k2") (codes "v1") ∷ entry.Scan 0 1 4 Plain 2 2 false ∷ []); items = kept ([]) }

-- the whole report
abbrev pub report : Report
report = record {
  version = 1;
  nodes = 1;
  ids = 1;
  groups = kept (codes "/" ∷ codes "/a" ∷ []);
  caches = kept (codes "dentry" ∷ []);
  pools = kept [];
  pool = kept (Registered 0 0 0 ∷ []);
  tree = kept ([]);
  workers = kept (record { answers = kept (record { reply = reply.Added (at (place 0 0 1) 0); found = Some (record { id = 0; number = 0; entry = 1 }) } ∷ record { reply = reply.Walked 0; found = None } ∷ record { reply = reply.Added (at (place 0 0 1) 1); found = Some (record { id = 0; number = 2; entry = 1 }) } ∷ record { reply = reply.Walked 2; found = None } ∷ []); walks = kept (walk_0 ∷ walk_1 ∷ []); carries = kept ([]); plain = kept []; isolations = kept [] } ∷ []);
  places = kept (list_0 ∷ []);
  units = kept [];
  maps = kept (record { node = 0; group = 1; unit = 0; bits = 1 } ∷ []);
  deferred = kept ([]);
  pool_deferred = kept [];
  uses = kept (use_step 0 0 true 0 0 ∷ use_step 0 1 true 1 2 ∷ use_step 0 2 false 2 3 ∷ use_step 0 3 false 1 3 ∷ use_step 1 0 true 0 0 ∷ use_step 1 1 true 1 2 ∷ use_step 1 2 false 2 3 ∷ use_step 1 3 false 1 3 ∷ []);
  lookups = kept (4 ∷ []);
  added = 2;
  freed = 2;
  listed = 0;
}
