-- SPDX-License-Identifier: GPL-2.0-only
-- A report of two workers: three puts under a limit, a walk that defers, an offlining that moves
-- and carries, an unregistering that drains; the other worker puts in the parent.
use Rattle.shr_laws.proofs.Common.{ℕ, pos, Bool, true, false, List, [], ◌∷◌, codes, Some, None, Place, Serial, Entry, Registered, Unregistered, Idle, Begin, Done, UseStep, Answered, Script, Carry, Through, PassRecord, Walked, WalkRecord, Report, serial_of, at}
use Rattle.shr_base.specs.declared.journals.Entry.TheVariants as entry
use Rattle.shr_base.specs.declared.replies.Reply.TheVariants as reply
use Rattle.shr_base.specs.declared.scripts.Command.TheVariants as command
use Rattle.shr_base.specs.declared.walks.Outcome.TheVariants as outcome
use Rattle.shr_laws.proofs.SecondReport.{kept, dentry, unheld, target}

abbrev pub place_of : ℕ → Place
place_of group = record { id = 0; node = 0; group = group }

-- the script that the report is of
abbrev pub script : Script
script = record {
  version = 1;
  nodes = 1;
  ids = 1;
  groups = kept (record { path = codes "/p"; parent = 0; limit = None; later = false } ∷ record { path = codes "/p/c"; parent = 1; limit = Some 5; later = false } ∷ []);
  caches = kept (dentry ∷ []);
  pools = kept [];
  workers = kept (
      record {
        commands = kept (
            command.Put (target 2 0 0) (codes "x") [] ∷ command.Put (target 2 0 0) (codes "y") [] ∷ command.Put (target 2 0 0) (codes "z") [] ∷ command.Shrink 2 0 1 false ∷ command.Offline 2 ∷ command.Unregister 0 ∷ []
            );
      }
      ∷ record { commands = kept (command.Put (target 1 0 0) (codes "w") [] ∷ []) }
      ∷ []
      );
  sweep = None;
}

abbrev pub pass : PassRecord
pass = record { len = 3; version = 3; nr = 0; asks = 0; closed = 0; scanned = 0; freed = 0; next = 2; ending = Through }

abbrev pub walk : WalkRecord
walk = record { by = serial_of 0 3; group = 2; node = 0; priority = 1; nofs = false; maps = kept (record { unit = 0; bits = 1 } ∷ []); attempts = kept (record { id = 0; outcome = outcome.Ran 3 pass } ∷ []); answer = Walked 0 }

abbrev pub carry : Carry
carry = record { by = serial_of 0 4; place = place_of 2; amount = 2 }

abbrev added : ℕ → ℕ → ℕ → Answered
added group n number = record { reply = reply.Added (at (place_of group) n); found = Some (record { id = 0; number = number; entry = 1 }) }

abbrev pub child_entries : List Entry
child_entries = entry.Add (serial_of 0 0) 2 true (codes "x") [] ∷ entry.Add (serial_of 0 1) 2 true (codes "y") [] ∷ entry.Add (serial_of 0 2) 2 true (codes "z") [] ∷ entry.Closed ∷ []

abbrev pub parent_entries : List Entry
parent_entries = entry.Add (serial_of 1 0) 1 true (codes "w") [] ∷ entry.MovedIn 2 3 ∷ entry.Drained (serial_of 0 5) 4 ∷ []

abbrev op : ℕ → ℕ → Bool → ℕ → Serial → UseStep
op group number up found by = record { group = group; operation = number; up = up; found = pos found; by = by }

-- what the puts charged to the root and to the parent, and what the unregistering took away
abbrev four_of : ℕ → List UseStep → List UseStep
four_of g more =
    op g 0 true 0 (serial_of 0 0) ∷ op g 1 true 1 (serial_of 0 1) ∷ op g 2 true 2 (serial_of 0 2) ∷ op g 3 true 3 (serial_of 1 0)
    ∷ op g 4 false 4 (serial_of 0 5) ∷ op g 5 false 3 (serial_of 0 5) ∷ op g 6 false 2 (serial_of 0 5) ∷ op g 7 false 1 (serial_of 0 5) ∷ more

abbrev pub uses : List UseStep
uses = four_of 0 (four_of 1 (
    op 2 0 true 0 (serial_of 0 0) ∷ op 2 1 true 1 (serial_of 0 1) ∷ op 2 2 true 2 (serial_of 0 2)
    ∷ op 2 3 false 3 (serial_of 0 5) ∷ op 2 4 false 2 (serial_of 0 5) ∷ op 2 5 false 1 (serial_of 0 5) ∷ []
    ))

-- the whole report
abbrev pub report : Report
report = record {
  version = 1;
  nodes = 1;
  ids = 1;
  groups = kept (codes "/" ∷ codes "/p" ∷ codes "/p/c" ∷ []);
  caches = kept (codes "dentry" ∷ []);
  pools = kept [];
  pool = kept (Registered 0 0 0 ∷ Unregistered 0 0 5 ∷ Idle 0 ∷ []);
  tree = kept (Begin 2 ∷ Done 2 ∷ []);
  workers = kept (
      record {
        answers = kept (added 2 0 0 ∷ added 2 1 1 ∷ added 2 2 2 ∷ unheld (reply.Walked 0) ∷ unheld (reply.OfflineDone 1 3 2) ∷ unheld (reply.Freed 0 1 0 5 4) ∷ []);
        walks = kept (walk ∷ []);
        carries = kept (carry ∷ []);
        plain = kept [];
        isolations = kept [];
      }
      ∷ record { answers = kept (added 1 0 4 ∷ []); walks = kept []; carries = kept []; plain = kept []; isolations = kept [] }
      ∷ []
      );
  places = kept (record { place = place_of 1; entries = kept parent_entries; items = kept [] } ∷ record { place = place_of 2; entries = kept child_entries; items = kept [] } ∷ []);
  units = kept [];
  maps = kept (record { node = 0; group = 1; unit = 0; bits = 1 } ∷ record { node = 0; group = 2; unit = 0; bits = 1 } ∷ []);
  deferred = kept (record { place = place_of 1; amount = 2 } ∷ []);
  pool_deferred = kept [];
  uses = kept uses;
  lookups = kept (5 ∷ []);
  added = 4;
  freed = 4;
  listed = 0;
}
