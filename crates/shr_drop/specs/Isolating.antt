-- SPDX-License-Identifier: GPL-2.0-only
-- What an isolation did, by its answer.
use Rattle.std.specs.Prelude.{◌≡◌, ℕ, List, [], ◌∷◌, ◌++◌, length, Option, None, Some, slice_get}
use Rattle.shr_base.specs.declared.places.Place.{Place}
use Rattle.shr_base.specs.declared.places.Serial.{Serial}
use Rattle.shr_base.specs.declared.replies.Found.{Found}
use Rattle.shr_base.specs.declared.replies.Reply.{Reply}
use Rattle.shr_base.specs.declared.replies.Reply.TheVariants as reply
use Rattle.shr_base.specs.declared.scripts.CacheDecl.{CacheDecl}
use Rattle.shr_charge.specs.declared.answers.GroupState.TheVariants.{Online}
use Rattle.shr_core.specs.Steps.{with_put}
use Rattle.shr_walk.specs.State.{WorkerState}
use Rattle.shr_walk.specs.declared.seats.Shared.{Shared}
use Rattle.shr_cache.specs.Opening.{LoadsWord, HoldsCache, RefusedAs}
use Rattle.shr_base.specs.declared.replies.Answered.{Answered}
use Rattle.shr_base.specs.declared.walks.Isolation.{Isolation}
use Rattle.shr_base.specs.declared.replies.IsolateEnd.{IsolateEnd}
use Rattle.shr_model.specs.Isolations.{isolation_walk}
use Rattle.shr_drop.specs.Visiting.{Visitor, AreIsolated}

-- the list of a group on a node, of the cache that was found
abbrev pub found_place : Found → ℕ → ℕ → Place
found_place f node group = record { id = f.id; node = node; group = group }

-- the visits of the isolation with this number among the worker's, by the cache's declaration
abbrev pub visitor_of : Serial → ℕ → Place → CacheDecl → Visitor
visitor_of by number place d = record { by = by; walk = isolation_walk number; place = place; policy = d.policy }

-- The group was online, the cache was found, its list was visited, and the reference was given back. Nothing was noted
-- but the record, which stands at the end.
pub record Isolates (x : Shared) (by : Serial) (group node decl budget : ℕ) (f : Found) (visits freed : ℕ) (e : IsolateEnd) (s t : WorkerState) (before after : List Isolation) : Type 0 where
  pub loaded : WorkerState
  pub held : WorkerState
  pub visited : WorkerState
  pub online : LoadsWord x group Online s loaded
  pub holds : HoldsCache x decl f loaded held
  pub d : CacheDecl
  pub declared : slice_get x.script.caches.items decl ≡ Some d
  pub visiting : AreIsolated x (visitor_of by (length before) (found_place f node group) d) budget visits freed e held visited
  pub back : t ≡ record visited { core = with_put visited.core }
  pub recorded : after ≡ before ++ record { by = by; place = found_place f node group; budget = budget; visits = visits; freed = freed; ending = e } ∷ []

-- nothing was done, for want of memory for the record
pub record IsolateLacksMemory (s t : WorkerState) (before after : List Isolation) : Type 0 where
  pub rest : t ≡ s
  pub records : after ≡ before

-- the command was refused before a visit, and nothing was recorded
pub record IsIsolateRefused (x : Shared) (group decl : ℕ) (r : Reply) (s t : WorkerState) (before after : List Isolation) : Type 0 where
  pub refused : RefusedAs x group decl r s t
  pub records : after ≡ before

-- if no cache was found, by the reply
abbrev pub RefusedBy : Shared → ℕ → ℕ → Reply → WorkerState → WorkerState → List Isolation → List Isolation → Type 0
RefusedBy x group decl reply.Memory s t before after = IsolateLacksMemory s t before after
RefusedBy x group decl r s t before after = IsIsolateRefused x group decl r s t before after

-- if the cache was found, by the reply
abbrev pub IsolatedFrom : Shared → Serial → ℕ → ℕ → ℕ → ℕ → Found → Reply → WorkerState → WorkerState → List Isolation → List Isolation → Type 0
IsolatedFrom x by group node decl budget f (reply.Isolated visits freed e) s t before after = Isolates x by group node decl budget f visits freed e s t before after
IsolatedFrom x by group node decl budget f r s t before after = ⊥

-- by whether the cache was found
abbrev pub IsolatedAs : Shared → Serial → ℕ → ℕ → ℕ → ℕ → Option Found → Reply → WorkerState → WorkerState → List Isolation → List Isolation → Type 0
IsolatedAs x by group node decl budget None r s t before after = RefusedBy x group decl r s t before after
IsolatedAs x by group node decl budget (Some f) r s t before after = IsolatedFrom x by group node decl budget f r s t before after

-- What an isolation did, from the worker's state and isolations before it to those after it. The cache is told exactly if it
-- was found.
abbrev pub IsolateGives : Shared → Serial → ℕ → ℕ → ℕ → ℕ → Answered → WorkerState → WorkerState → List Isolation → List Isolation → Type 0
IsolateGives x by group node decl budget a s t before after = IsolatedAs x by group node decl budget a.found a.reply s t before after
