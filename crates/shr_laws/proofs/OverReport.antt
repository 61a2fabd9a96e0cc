-- SPDX-License-Identifier: GPL-2.0-only
-- A put is refused after thirteen rounds that free nothing.
use Rattle.shr_laws.proofs.Common.{ℕ, true, false, [], ◌∷◌, codes, Some, None, Clock, Registered, CacheDecl, Script, WalkRecord, PlaceEnd, Report, Place, serial_of, at, SetPin}
use Rattle.shr_base.specs.declared.journals.Entry.TheVariants as entry
use Rattle.shr_base.specs.declared.replies.Reply.TheVariants as reply
use Rattle.shr_base.specs.declared.scripts.Command.TheVariants as command
use Rattle.shr_base.specs.declared.walks.Ending.TheVariants as ending
use Rattle.shr_base.specs.declared.walks.Outcome.TheVariants as outcome
use Rattle.shr_base.specs.declared.walks.WalkAnswer.TheVariants as walk
use Rattle.shr_laws.proofs.SecondReport.{kept, use_step, target}

abbrev pub place : ℕ → ℕ → ℕ → Place
place id node group = record { id = id; node = node; group = group }

abbrev pub cache_0 : CacheDecl
cache_0 = record { name = codes "dentry"; policy = Clock; seeks = 2; batch = 0; floor = 0; fs = false; on = true }

-- the script that the report is of
abbrev pub script : Script
script = record { version = 1; nodes = 1; ids = 1; groups = kept (record { path = codes "/a"; parent = 0; limit = Some 2; later = false } ∷ []); caches = kept (cache_0 ∷ []); pools = kept []; workers = kept (record { commands = kept (command.Put (target 1 0 0) (codes "k1") (codes "v1") ∷ command.On (target 1 0 0) (codes "k1") (SetPin true) ∷ command.Put (target 1 0 0) (codes "k2") (codes "v1") ∷ command.On (target 1 0 0) (codes "k2") (SetPin true) ∷ command.Put (target 1 0 0) (codes "k3") (codes "v1") ∷ []) } ∷ []); sweep = None }

abbrev pub walk_0 : WalkRecord
walk_0 = record { by = (serial_of 0 4); group = 1; node = 0; priority = 12; nofs = false; maps = kept (record { unit = 0; bits = 1 } ∷ []); attempts = kept (record { id = 0; outcome = outcome.Ran 4 (record { len = 2; version = 4; nr = 0; asks = 0; closed = 0; scanned = 0; freed = 0; next = 0; ending = ending.Through }) } ∷ []); answer = walk.Walked 0 }

abbrev pub walk_1 : WalkRecord
walk_1 = record { by = (serial_of 0 4); group = 1; node = 0; priority = 11; nofs = false; maps = kept (record { unit = 0; bits = 1 } ∷ []); attempts = kept (record { id = 0; outcome = outcome.Ran 5 (record { len = 2; version = 4; nr = 0; asks = 0; closed = 0; scanned = 0; freed = 0; next = 0; ending = ending.Through }) } ∷ []); answer = walk.Walked 0 }

abbrev pub walk_2 : WalkRecord
walk_2 = record { by = (serial_of 0 4); group = 1; node = 0; priority = 10; nofs = false; maps = kept (record { unit = 0; bits = 1 } ∷ []); attempts = kept (record { id = 0; outcome = outcome.Ran 6 (record { len = 2; version = 4; nr = 0; asks = 0; closed = 0; scanned = 0; freed = 0; next = 0; ending = ending.Through }) } ∷ []); answer = walk.Walked 0 }

abbrev pub walk_3 : WalkRecord
walk_3 = record { by = (serial_of 0 4); group = 1; node = 0; priority = 9; nofs = false; maps = kept (record { unit = 0; bits = 1 } ∷ []); attempts = kept (record { id = 0; outcome = outcome.Ran 7 (record { len = 2; version = 4; nr = 0; asks = 0; closed = 0; scanned = 0; freed = 0; next = 0; ending = ending.Through }) } ∷ []); answer = walk.Walked 0 }

abbrev pub walk_4 : WalkRecord
walk_4 = record { by = (serial_of 0 4); group = 1; node = 0; priority = 8; nofs = false; maps = kept (record { unit = 0; bits = 1 } ∷ []); attempts = kept (record { id = 0; outcome = outcome.Ran 8 (record { len = 2; version = 4; nr = 0; asks = 0; closed = 0; scanned = 0; freed = 0; next = 0; ending = ending.Through }) } ∷ []); answer = walk.Walked 0 }

abbrev pub walk_5 : WalkRecord
walk_5 = record { by = (serial_of 0 4); group = 1; node = 0; priority = 7; nofs = false; maps = kept (record { unit = 0; bits = 1 } ∷ []); attempts = kept (record { id = 0; outcome = outcome.Ran 9 (record { len = 2; version = 4; nr = 0; asks = 0; closed = 0; scanned = 0; freed = 0; next = 0; ending = ending.Through }) } ∷ []); answer = walk.Walked 0 }

abbrev pub walk_6 : WalkRecord
walk_6 = record { by = (serial_of 0 4); group = 1; node = 0; priority = 6; nofs = false; maps = kept (record { unit = 0; bits = 1 } ∷ []); attempts = kept (record { id = 0; outcome = outcome.Ran 10 (record { len = 2; version = 4; nr = 0; asks = 0; closed = 0; scanned = 0; freed = 0; next = 0; ending = ending.Through }) } ∷ []); answer = walk.Walked 0 }

abbrev pub walk_7 : WalkRecord
walk_7 = record { by = (serial_of 0 4); group = 1; node = 0; priority = 5; nofs = false; maps = kept (record { unit = 0; bits = 1 } ∷ []); attempts = kept (record { id = 0; outcome = outcome.Ran 11 (record { len = 2; version = 4; nr = 0; asks = 0; closed = 0; scanned = 0; freed = 0; next = 0; ending = ending.Through }) } ∷ []); answer = walk.Walked 0 }

abbrev pub walk_8 : WalkRecord
walk_8 = record { by = (serial_of 0 4); group = 1; node = 0; priority = 4; nofs = false; maps = kept (record { unit = 0; bits = 1 } ∷ []); attempts = kept (record { id = 0; outcome = outcome.Ran 12 (record { len = 2; version = 4; nr = 0; asks = 0; closed = 0; scanned = 0; freed = 0; next = 0; ending = ending.Through }) } ∷ []); answer = walk.Walked 0 }

abbrev pub walk_9 : WalkRecord
walk_9 = record { by = (serial_of 0 4); group = 1; node = 0; priority = 3; nofs = false; maps = kept (record { unit = 0; bits = 1 } ∷ []); attempts = kept (record { id = 0; outcome = outcome.Ran 13 (record { len = 2; version = 4; nr = 0; asks = 0; closed = 0; scanned = 0; freed = 0; next = 0; ending = ending.Through }) } ∷ []); answer = walk.Walked 0 }

abbrev pub walk_10 : WalkRecord
walk_10 = record { by = (serial_of 0 4); group = 1; node = 0; priority = 2; nofs = false; maps = kept (record { unit = 0; bits = 1 } ∷ []); attempts = kept (record { id = 0; outcome = outcome.Ran 14 (record { len = 2; version = 4; nr = 0; asks = 0; closed = 0; scanned = 0; freed = 0; next = 0; ending = ending.Through }) } ∷ []); answer = walk.Walked 0 }

abbrev pub walk_11 : WalkRecord
walk_11 = record { by = (serial_of 0 4); group = 1; node = 0; priority = 1; nofs = false; maps = kept (record { unit = 0; bits = 1 } ∷ []); attempts = kept (record { id = 0; outcome = outcome.Ran 15 (record { len = 2; version = 4; nr = 0; asks = 1; closed = 0; scanned = 2; freed = 0; next = 0; ending = ending.Through }) } ∷ []); answer = walk.Walked 0 }

abbrev pub walk_12 : WalkRecord
walk_12 = record { by = (serial_of 0 4); group = 1; node = 0; priority = 0; nofs = false; maps = kept (record { unit = 0; bits = 1 } ∷ []); attempts = kept (record { id = 0; outcome = outcome.Ran 16 (record { len = 2; version = 5; nr = 0; asks = 1; closed = 0; scanned = 4; freed = 0; next = 0; ending = ending.Through }) } ∷ []); answer = walk.Walked 0 }

abbrev pub list_0 : PlaceEnd
list_0 = record { place = (place 0 0 1); entries = kept (entry.Add (serial_of 0 0) 1 true (codes "k1") (codes "v1") ∷ entry.Pin (serial_of 0 1) 1 (codes "k1") true true ∷ entry.Add (serial_of 0 2) 1 true (codes "k2") (codes "v1") ∷ entry.Pin (serial_of 0 3) 1 (codes "k2") true true ∷ entry.Scan 0 11 2 Clock 2 0 false ∷ entry.Scan 0 12 4 Clock 2 0 false ∷ []); items = kept (record { serial = (serial_of 0 0); birth = 1; key = codes "k1"; value = codes "v1"; marked = false; pinned = true } ∷ record { serial = (serial_of 0 2); birth = 1; key = codes "k2"; value = codes "v1"; marked = false; pinned = true } ∷ []) }

-- the whole report
abbrev pub report : Report
report = record {
  version = 1;
  nodes = 1;
  ids = 1;
  groups = kept (codes "/" ∷ codes "/a" ∷ []);
  caches = kept (codes "dentry" ∷ []);
  pools = kept [];
  pool = kept (Registered 0 0 0 ∷ []);
  tree = kept ([]);
  workers = kept (record { answers = kept (record { reply = reply.Added (at (place 0 0 1) 0); found = Some (record { id = 0; number = 0; entry = 1 }) } ∷ record { reply = reply.Done (at (place 0 0 1) 1); found = Some (record { id = 0; number = 1; entry = 1 }) } ∷ record { reply = reply.Added (at (place 0 0 1) 2); found = Some (record { id = 0; number = 2; entry = 1 }) } ∷ record { reply = reply.Done (at (place 0 0 1) 3); found = Some (record { id = 0; number = 3; entry = 1 }) } ∷ record { reply = reply.Over 1 28 2; found = None } ∷ []); walks = kept (walk_0 ∷ walk_1 ∷ walk_2 ∷ walk_3 ∷ walk_4 ∷ walk_5 ∷ walk_6 ∷ walk_7 ∷ walk_8 ∷ walk_9 ∷ walk_10 ∷ walk_11 ∷ walk_12 ∷ []); carries = kept ([]); plain = kept []; isolations = kept [] } ∷ []);
  places = kept (list_0 ∷ []);
  units = kept [];
  maps = kept (record { node = 0; group = 1; unit = 0; bits = 1 } ∷ []);
  deferred = kept ([]);
  pool_deferred = kept [];
  uses = kept (use_step 0 0 true 0 0 ∷ use_step 0 1 true 1 2 ∷ use_step 1 0 true 0 0 ∷ use_step 1 1 true 1 2 ∷ use_step 1 2 true 2 4 ∷ use_step 1 3 false 3 4 ∷ use_step 1 4 true 2 4 ∷ use_step 1 5 false 3 4 ∷ use_step 1 6 true 2 4 ∷ use_step 1 7 false 3 4 ∷ use_step 1 8 true 2 4 ∷ use_step 1 9 false 3 4 ∷ use_step 1 10 true 2 4 ∷ use_step 1 11 false 3 4 ∷ use_step 1 12 true 2 4 ∷ use_step 1 13 false 3 4 ∷ use_step 1 14 true 2 4 ∷ use_step 1 15 false 3 4 ∷ use_step 1 16 true 2 4 ∷ use_step 1 17 false 3 4 ∷ use_step 1 18 true 2 4 ∷ use_step 1 19 false 3 4 ∷ use_step 1 20 true 2 4 ∷ use_step 1 21 false 3 4 ∷ use_step 1 22 true 2 4 ∷ use_step 1 23 false 3 4 ∷ use_step 1 24 true 2 4 ∷ use_step 1 25 false 3 4 ∷ use_step 1 26 true 2 4 ∷ use_step 1 27 false 3 4 ∷ use_step 1 28 true 2 4 ∷ use_step 1 29 false 3 4 ∷ []);
  lookups = kept (17 ∷ []);
  added = 2;
  freed = 0;
  listed = 2;
}
