-- SPDX-License-Identifier: GPL-2.0-only
-- A cache is unregistered with three objects, and registered again.
use Rattle.shr_laws.proofs.Common.{ℕ, true, false, [], ◌∷◌, codes, Some, None, Plain, Registered, Unregistered, Idle, CacheDecl, Script, PlaceEnd, Report, Place, serial_of, at}
use Rattle.shr_base.specs.declared.journals.Entry.TheVariants as entry
use Rattle.shr_base.specs.declared.replies.Reply.TheVariants as reply
use Rattle.shr_base.specs.declared.scripts.Command.TheVariants as command
use Rattle.shr_laws.proofs.SecondReport.{kept, use_step, target}

abbrev pub place : ℕ → ℕ → ℕ → Place
place id node group = record { id = id; node = node; group = group }

abbrev pub cache_0 : CacheDecl
cache_0 = record { name = codes "dentry"; policy = Plain; seeks = 2; batch = 0; floor = 0; fs = false; on = true }

-- the script that the report is of
abbrev pub script : Script
script = record { version = 1; nodes = 1; ids = 1; groups = kept (record { path = codes "/a"; parent = 0; limit = None; later = false } ∷ []); caches = kept (cache_0 ∷ []); pools = kept []; workers = kept (record { commands = kept (command.Put (target 1 0 0) (codes "k1") (codes "v1") ∷ command.Put (target 1 0 0) (codes "k2") (codes "v1") ∷ command.Put (target 1 0 0) (codes "k3") (codes "v1") ∷ command.Unregister 0 ∷ command.Put (target 1 0 0) (codes "k4") (codes "v1") ∷ command.Unregister 0 ∷ command.Register 0 ∷ command.Put (target 1 0 0) (codes "k1") (codes "v1") ∷ []) } ∷ []); sweep = None }

abbrev pub list_0 : PlaceEnd
list_0 = record { place = (place 0 0 1); entries = kept (entry.Add (serial_of 0 0) 1 true (codes "k1") (codes "v1") ∷ entry.Add (serial_of 0 1) 1 true (codes "k2") (codes "v1") ∷ entry.Add (serial_of 0 2) 1 true (codes "k3") (codes "v1") ∷ entry.Drained (serial_of 0 3) 3 ∷ entry.Add (serial_of 0 7) 1 true (codes "k1") (codes "v1") ∷ []); items = kept (record { serial = (serial_of 0 7); birth = 1; key = codes "k1"; value = codes "v1"; marked = false; pinned = false } ∷ []) }

-- the whole report
abbrev pub report : Report
report = record {
  version = 1;
  nodes = 1;
  ids = 1;
  groups = kept (codes "/" ∷ codes "/a" ∷ []);
  caches = kept (codes "dentry" ∷ []);
  pools = kept [];
  pool = kept (Registered 0 0 0 ∷ Unregistered 0 0 3 ∷ Idle 0 ∷ Registered 0 0 3 ∷ []);
  tree = kept ([]);
  workers = kept (record { answers = kept (record { reply = reply.Added (at (place 0 0 1) 0); found = Some (record { id = 0; number = 0; entry = 1 }) } ∷ record { reply = reply.Added (at (place 0 0 1) 1); found = Some (record { id = 0; number = 1; entry = 1 }) } ∷ record { reply = reply.Added (at (place 0 0 1) 2); found = Some (record { id = 0; number = 2; entry = 1 }) } ∷ record { reply = reply.Freed 0 1 0 3 3; found = None } ∷ record { reply = reply.NoCache 3; found = None } ∷ record { reply = reply.NoCache 3; found = None } ∷ record { reply = reply.Registered 0 3; found = None } ∷ record { reply = reply.Added (at (place 0 0 1) 4); found = Some (record { id = 0; number = 3; entry = 4 }) } ∷ []); walks = kept ([]); carries = kept ([]); plain = kept []; isolations = kept [] } ∷ []);
  places = kept (list_0 ∷ []);
  units = kept [];
  maps = kept (record { node = 0; group = 1; unit = 0; bits = 1 } ∷ []);
  deferred = kept ([]);
  pool_deferred = kept [];
  uses = kept (use_step 0 0 true 0 0 ∷ use_step 0 1 true 1 1 ∷ use_step 0 2 true 2 2 ∷ use_step 0 3 false 3 3 ∷ use_step 0 4 false 2 3 ∷ use_step 0 5 false 1 3 ∷ use_step 0 6 true 0 4 ∷ use_step 0 7 false 1 4 ∷ use_step 0 8 true 0 7 ∷ use_step 1 0 true 0 0 ∷ use_step 1 1 true 1 1 ∷ use_step 1 2 true 2 2 ∷ use_step 1 3 false 3 3 ∷ use_step 1 4 false 2 3 ∷ use_step 1 5 false 1 3 ∷ use_step 1 6 true 0 4 ∷ use_step 1 7 false 1 4 ∷ use_step 1 8 true 0 7 ∷ []);
  lookups = kept (4 ∷ []);
  added = 4;
  freed = 3;
  listed = 1;
}
