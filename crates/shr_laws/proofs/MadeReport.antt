-- SPDX-License-Identifier: GPL-2.0-only
-- A report of a group that is made during the run: it is asked for before it is there, made, asked to be made again, given an
-- object, and then in the way of its parent's offlining.
use Rattle.shr_laws.proofs.Common.{false, true, List, [], ◌∷◌, codes, None, Place, Entry, Add, Registered, Made, Answered, Command, Put, Offline, MkGroup, Script, fresh, Report, at}
use Rattle.shr_base.specs.declared.replies.Reply.TheVariants as reply
use Rattle.shr_laws.proofs.SecondReport.{kept, by, dentry, held, unheld, use_step, target}

-- the place of a group's objects
abbrev pub place : Place
place = record { id = 0; node = 0; group = 2 }

-- put /p/c 0 dentry x =
abbrev pub put : Command
put = Put (target 2 0 0) (codes "x") []

abbrev pub commands : List Command
commands = put ∷ MkGroup 2 ∷ MkGroup 2 ∷ put ∷ Offline 1 ∷ []

-- group /p max, later /p/c max
abbrev pub script : Script
script = record {
  version = 1;
  nodes = 1;
  ids = 1;
  groups = kept (record { path = codes "/p"; parent = 0; limit = None; later = false } ∷ record { path = codes "/p/c"; parent = 1; limit = None; later = true } ∷ []);
  caches = kept (dentry ∷ []);
  pools = kept [];
  workers = kept (record { commands = kept commands } ∷ []);
  sweep = None;
}

abbrev pub answers : List Answered
answers =
    unheld (reply.NotMade 2)
    ∷ unheld (reply.Made 0)
    ∷ unheld (reply.AlreadyMade 0)
    ∷ held (reply.Added (at place 0)) 0
    ∷ unheld (reply.HasChildren 2 1)
    ∷ []

abbrev pub entries : List Entry
entries = Add (by 3) 2 true (codes "x") [] ∷ []

-- the whole report
abbrev pub report : Report
report = record {
  version = 1;
  nodes = 1;
  ids = 1;
  groups = kept (codes "/" ∷ codes "/p" ∷ codes "/p/c" ∷ []);
  caches = kept (codes "dentry" ∷ []);
  pools = kept [];
  pool = kept (Registered 0 0 0 ∷ []);
  tree = kept (Made 2 ∷ []);
  workers = kept (record { answers = kept answers; walks = kept []; carries = kept []; plain = kept []; isolations = kept [] } ∷ []);
  places = kept (record { place = place; entries = kept entries; items = kept (fresh (by 3) 2 (codes "x") [] ∷ []) } ∷ []);
  units = kept [];
  maps = kept (record { node = 0; group = 1; unit = 0; bits = 0 } ∷ record { node = 0; group = 2; unit = 0; bits = 1 } ∷ []);
  deferred = kept [];
  pool_deferred = kept [];
  uses = kept (use_step 0 0 true 0 3 ∷ use_step 1 0 true 0 3 ∷ use_step 2 0 true 0 3 ∷ []);
  lookups = kept (1 ∷ []);
  added = 1;
  freed = 0;
  listed = 1;
}
