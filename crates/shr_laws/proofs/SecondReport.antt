-- SPDX-License-Identifier: GPL-2.0-only
-- The second whole report, of a put, a del of the same object and two walks, as a value with its
-- script.
use Rattle.shr_laws.proofs.Common.{ℕ, pos, Bool, true, false, List, [], ◌∷◌, codes, Some, None, Serial, Place, Plain, Entry, Add, Drop, Registered, UseStep, Reply, Answered, Command, Put, On, Shrink, Script, CacheDecl, Attempt, Walked, WalkRecord, WorkerPart, Report, Del}
use Rattle.shr_base.specs.Kept.{Kept}
use Rattle.shr_base.specs.declared.journals.DropKind.TheVariants as kind
use Rattle.shr_base.specs.declared.places.Target.{Target}
use Rattle.shr_base.specs.declared.replies.Reply.TheVariants as reply
use Rattle.shr_base.specs.declared.scripts.GroupDecl.{GroupDecl}
use Rattle.shr_base.specs.declared.walks.Outcome.TheVariants as outcome

-- a log without room
abbrev pub kept : {T : Type 0} → List T → Kept T
kept items = record { items = items; spare = 0 }

-- a command of the one worker
abbrev pub by : ℕ → Serial
by command = record { worker = 0; command = command }

abbrev pub place : Place
place = record { id = 0; node = 0; group = 1 }

-- where a command finds its object
abbrev pub target : ℕ → ℕ → ℕ → Target
target group node decl = record { group = group; node = node; decl = decl }

-- put /a 0 dentry k1 =v1
abbrev pub put : Command
put = Put (target 1 0 0) (codes "k1") (codes "v1")

-- del /a 0 dentry k1
abbrev pub del : Command
del = On (target 1 0 0) (codes "k1") Del

-- shrink /a 0 0 fs
abbrev pub shrink : Command
shrink = Shrink 1 0 0 false

abbrev pub commands : List Command
commands = put ∷ del ∷ shrink ∷ shrink ∷ []

abbrev pub group_a : GroupDecl
group_a = record { path = codes "/a"; parent = 0; limit = None; later = false }

abbrev pub dentry : CacheDecl
dentry = record { name = codes "dentry"; policy = Plain; seeks = 2; batch = 0; floor = 0; fs = false; on = true }

abbrev pub script : Script
script = record { version = 1; nodes = 1; ids = 1; groups = kept (group_a ∷ []); caches = kept (dentry ∷ []); pools = kept []; workers = kept (record { commands = kept commands } ∷ []); sweep = None }

-- an answer that stands with the found cache, by the number of its lookup
abbrev pub held : Reply → ℕ → Answered
held x number = record { reply = x; found = Some (record { id = 0; number = number; entry = 1 }) }

-- an answer that stands without a found cache
abbrev pub unheld : Reply → Answered
unheld x = record { reply = x; found = None }

abbrev pub answers : List Answered
answers =
    held (reply.Added (record { place = place; entry = 0 })) 0
    ∷ held (reply.Dropped (record { place = place; entry = 1 })) 1
    ∷ unheld (reply.Walked 0)
    ∷ unheld (reply.Walked 0)
    ∷ []

abbrev pub walk : ℕ → ℕ → List Attempt → WalkRecord
walk command bits attempts = record {
  by = by command;
  group = 1;
  node = 0;
  priority = 0;
  nofs = false;
  maps = kept (record { unit = 0; bits = bits } ∷ []);
  attempts = kept attempts;
  answer = Walked 0;
}

-- the first walk clears the bit that no object backs, and the next doesn't see it
abbrev pub cleared : Attempt
cleared = record { id = 0; outcome = outcome.Cleared 2 2 2 }

abbrev pub first_walk : WalkRecord
first_walk = walk 2 1 (cleared ∷ [])

abbrev pub second_walk : WalkRecord
second_walk = walk 3 0 []

abbrev pub entries : List Entry
entries = Add (by 0) 1 true (codes "k1") (codes "v1") ∷ Drop (by 1) 1 (codes "k1") kind.Dropped ∷ []

abbrev pub use_step : ℕ → ℕ → Bool → ℕ → ℕ → UseStep
use_step group operation up found command = record { group = group; operation = operation; up = up; found = pos found; by = by command }

abbrev pub uses : List UseStep
uses = use_step 0 0 true 0 0 ∷ use_step 0 1 false 1 1 ∷ use_step 1 0 true 0 0 ∷ use_step 1 1 false 1 1 ∷ []

abbrev pub part : WorkerPart
part = record { answers = kept answers; walks = kept (first_walk ∷ second_walk ∷ []); carries = kept []; plain = kept []; isolations = kept [] }

-- the whole report
abbrev pub report : Report
report = record {
  version = 1;
  nodes = 1;
  ids = 1;
  groups = kept (codes "/" ∷ codes "/a" ∷ []);
  caches = kept (codes "dentry" ∷ []);
  pools = kept [];
  pool = kept (Registered 0 0 0 ∷ []);
  tree = kept [];
  workers = kept (part ∷ []);
  places = kept (record { place = place; entries = kept entries; items = kept [] } ∷ []);
  units = kept [];
  maps = kept (record { node = 0; group = 1; unit = 0; bits = 0 } ∷ []);
  deferred = kept [];
  pool_deferred = kept [];
  uses = kept uses;
  lookups = kept (3 ∷ []);
  added = 1;
  freed = 1;
  listed = 0;
}
