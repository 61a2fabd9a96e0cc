-- SPDX-License-Identifier: GPL-2.0-only
-- A child group goes offline, and its two objects move to its parent.
use Rattle.shr_laws.proofs.Common.{ℕ, true, false, [], ◌∷◌, codes, Some, None, Plain, Registered, Begin, Done, CacheDecl, Script, PlaceEnd, Report, Place, serial_of, at, Get}
use Rattle.shr_base.specs.declared.journals.Entry.TheVariants as entry
use Rattle.shr_base.specs.declared.replies.Reply.TheVariants as reply
use Rattle.shr_base.specs.declared.scripts.Command.TheVariants as command
use Rattle.shr_laws.proofs.SecondReport.{kept, use_step, target}

abbrev pub place : ℕ → ℕ → ℕ → Place
place id node group = record { id = id; node = node; group = group }

abbrev pub cache_0 : CacheDecl
cache_0 = record { name = codes "dentry"; policy = Plain; seeks = 2; batch = 0; floor = 0; fs = false; on = true }

-- the script that the report is of
abbrev pub script : Script
script = record { version = 1; nodes = 1; ids = 1; groups = kept (record { path = codes "/p"; parent = 0; limit = None; later = false } ∷ record { path = codes "/p/c"; parent = 1; limit = None; later = false } ∷ []); caches = kept (cache_0 ∷ []); pools = kept []; workers = kept (record { commands = kept (command.Put (target 1 0 0) (codes "p") (codes "") ∷ command.Put (target 2 0 0) (codes "x") (codes "") ∷ command.Put (target 2 0 0) (codes "y") (codes "") ∷ command.Offline 2 ∷ command.On (target 2 0 0) (codes "x") Get ∷ []) } ∷ []); sweep = None }

abbrev pub list_0 : PlaceEnd
list_0 = record { place = (place 0 0 1); entries = kept (entry.Add (serial_of 0 0) 1 true (codes "p") (codes "") ∷ entry.MovedIn 2 2 ∷ []); items = kept (record { serial = (serial_of 0 1); birth = 2; key = codes "x"; value = codes ""; marked = false; pinned = false } ∷ record { serial = (serial_of 0 2); birth = 2; key = codes "y"; value = codes ""; marked = false; pinned = false } ∷ record { serial = (serial_of 0 0); birth = 1; key = codes "p"; value = codes ""; marked = false; pinned = false } ∷ []) }

abbrev pub list_1 : PlaceEnd
list_1 = record { place = (place 0 0 2); entries = kept (entry.Add (serial_of 0 1) 2 true (codes "x") (codes "") ∷ entry.Add (serial_of 0 2) 2 true (codes "y") (codes "") ∷ entry.Closed ∷ []); items = kept ([]) }

-- the whole report
abbrev pub report : Report
report = record {
  version = 1;
  nodes = 1;
  ids = 1;
  groups = kept (codes "/" ∷ codes "/p" ∷ codes "/p/c" ∷ []);
  caches = kept (codes "dentry" ∷ []);
  pools = kept [];
  pool = kept (Registered 0 0 0 ∷ []);
  tree = kept (Begin 2 ∷ Done 2 ∷ []);
  workers = kept (record { answers = kept (record { reply = reply.Added (at (place 0 0 1) 0); found = Some (record { id = 0; number = 0; entry = 1 }) } ∷ record { reply = reply.Added (at (place 0 0 2) 0); found = Some (record { id = 0; number = 1; entry = 1 }) } ∷ record { reply = reply.Added (at (place 0 0 2) 1); found = Some (record { id = 0; number = 2; entry = 1 }) } ∷ record { reply = reply.OfflineDone 1 2 0; found = None } ∷ record { reply = reply.Offline 0; found = None } ∷ []); walks = kept ([]); carries = kept ([]); plain = kept []; isolations = kept [] } ∷ []);
  places = kept (list_0 ∷ list_1 ∷ []);
  units = kept [];
  maps = kept (record { node = 0; group = 1; unit = 0; bits = 1 } ∷ record { node = 0; group = 2; unit = 0; bits = 1 } ∷ []);
  deferred = kept ([]);
  pool_deferred = kept [];
  uses = kept (use_step 0 0 true 0 0 ∷ use_step 0 1 true 1 1 ∷ use_step 0 2 true 2 2 ∷ use_step 1 0 true 0 0 ∷ use_step 1 1 true 1 1 ∷ use_step 1 2 true 2 2 ∷ use_step 2 0 true 0 1 ∷ use_step 2 1 true 1 2 ∷ []);
  lookups = kept (3 ∷ []);
  added = 3;
  freed = 0;
  listed = 3;
}
