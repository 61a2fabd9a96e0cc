-- SPDX-License-Identifier: GPL-2.0-only
-- A report of two pools of units, one of them flat, as a value with its script.
use Rattle.shr_laws.proofs.Common.{true, false, List, [], ◌∷◌, codes, None, UnitsEnd, WorkerPart, PlainEntry, Place, Answered, Command, Balance, Release, PoolDecl, Script, Through, PassRecord, PlainTry, Empty, Ran, PlainWalk, Report, Grab}
use Rattle.shr_base.specs.declared.journals.PlainEntry.TheVariants as units
use Rattle.shr_base.specs.declared.replies.Reply.TheVariants as reply
use Rattle.shr_base.specs.declared.walks.PlainAnswer.TheVariants.{Walked}
use Rattle.shr_laws.proofs.SecondReport.{kept, by, unheld}

-- pool buf 2 0 0 flat, pool few 2 0 5 nodes
abbrev pub buf : PoolDecl
buf = record { name = codes "buf"; seeks = 2; batch = 0; floor = 0; flat = true }

abbrev pub few : PoolDecl
few = record { name = codes "few"; seeks = 2; batch = 0; floor = 5; flat = false }

-- release 1 buf 10, grab 0 buf, release 0 buf 19995, balance 1 0 fs, grab 1 buf
abbrev pub commands : List Command
commands = Release 1 0 10 ∷ Grab 0 0 ∷ Release 0 0 19995 ∷ Balance 1 0 false ∷ Grab 1 0 ∷ []

abbrev pub script : Script
script = record { version = 2; nodes = 2; ids = 1; groups = kept []; caches = kept []; pools = kept (buf ∷ few ∷ []); workers = kept (record { commands = kept commands } ∷ []); sweep = None }

-- the flat pool is at node 0
abbrev pub place : Place
place = record { id = 0; node = 0; group = 0 }

abbrev pub answers : List Answered
answers = unheld (reply.Released 0 0 0) ∷ unheld (reply.Grabbed 0 0 1) ∷ unheld (reply.Full 0 0 2 9) ∷ unheld (reply.Walked 0) ∷ unheld (reply.Bare 0 0 3) ∷ []

abbrev pub pass : PassRecord
pass = record { len = 9; version = 2; nr = 0; asks = 1; closed = 0; scanned = 18; freed = 9; next = 0; ending = Through }

abbrev pub tries : List PlainTry
tries = Ran pass ∷ Empty 0 ∷ []

abbrev pub walk : PlainWalk
walk = record { by = by 3; node = 1; priority = 0; tries = kept tries; answer = Walked 9 }

abbrev pub entries : List PlainEntry
entries = units.Release (by 0) 10 ∷ units.Grab (by 1) true ∷ units.Reclaim 0 0 18 9 ∷ units.Grab (by 4) false ∷ []

abbrev pub end : UnitsEnd
end = record { pool = 0; node = 0; entries = kept entries; free = 0 }

abbrev pub part : WorkerPart
part = record { answers = kept answers; walks = kept []; carries = kept []; plain = kept (walk ∷ []); isolations = kept [] }

-- the whole report
abbrev pub report : Report
report = record {
  version = 2;
  nodes = 2;
  ids = 1;
  groups = kept (codes "/" ∷ []);
  caches = kept [];
  pools = kept (codes "buf" ∷ codes "few" ∷ []);
  pool = kept [];
  tree = kept [];
  workers = kept (part ∷ []);
  places = kept [];
  units = kept (end ∷ []);
  maps = kept [];
  deferred = kept [];
  pool_deferred = kept [];
  uses = kept [];
  lookups = kept (0 ∷ []);
  added = 0;
  freed = 0;
  listed = 0;
}
