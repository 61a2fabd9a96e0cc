-- SPDX-License-Identifier: GPL-2.0-only
-- The first whole report, of one put, as a value with its script.
use Rattle.shr_laws.proofs.Common.{true, [], ◌∷◌, codes, List, None, Entry, Add, Registered, Answered, Script, PlaceEnd, fresh, Report}
use Rattle.shr_base.specs.declared.replies.Reply.TheVariants as reply
use Rattle.shr_laws.proofs.SecondReport.{kept, by, place, put, group_a, dentry, held, use_step}

-- one node, one id, one group below the root, one cache, and one put
abbrev pub script : Script
script = record { version = 1; nodes = 1; ids = 1; groups = kept (group_a ∷ []); caches = kept (dentry ∷ []); pools = kept []; workers = kept (record { commands = kept (put ∷ []) } ∷ []); sweep = None }

abbrev pub answer : Answered
answer = held (reply.Added (record { place = place; entry = 0 })) 0

abbrev pub entries : List Entry
entries = Add (by 0) 1 true (codes "k1") (codes "v1") ∷ []

abbrev pub end : PlaceEnd
end = record { place = place; entries = kept entries; items = kept (fresh (by 0) 1 (codes "k1") (codes "v1") ∷ []) }

-- the whole report
abbrev pub report : Report
report = record {
  version = 1;
  nodes = 1;
  ids = 1;
  groups = kept (codes "/" ∷ codes "/a" ∷ []);
  caches = kept (codes "dentry" ∷ []);
  pools = kept [];
  pool = kept (Registered 0 0 0 ∷ []);
  tree = kept [];
  workers = kept (record { answers = kept (answer ∷ []); walks = kept []; carries = kept []; plain = kept []; isolations = kept [] } ∷ []);
  places = kept (end ∷ []);
  units = kept [];
  maps = kept (record { node = 0; group = 1; unit = 0; bits = 1 } ∷ []);
  deferred = kept [];
  pool_deferred = kept [];
  uses = kept (use_step 0 0 true 0 0 ∷ use_step 1 0 true 0 0 ∷ []);
  lookups = kept (1 ∷ []);
  added = 1;
  freed = 0;
  listed = 1;
}
