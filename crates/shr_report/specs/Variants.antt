-- SPDX-License-Identifier: GPL-2.0-only
-- Families of variants that one function prints.
use Rattle.shr_base.specs.declared.journals.Entry.{Entry}
use Rattle.shr_base.specs.declared.journals.Entry.TheVariants as entry
use Rattle.shr_base.specs.declared.replies.Reply.{Reply}
use Rattle.shr_base.specs.declared.replies.Reply.TheVariants as reply
use Rattle.shr_base.specs.declared.walks.Outcome.{Outcome}
use Rattle.shr_base.specs.declared.walks.Outcome.TheVariants as outcome

-- an entry that a tenant's call made
abbrev pub IsTenants : Entry → Type 0
IsTenants (entry.Add by birth added key value) = Unit {0}
IsTenants (entry.Look by birth key hit) = Unit {0}
IsTenants (entry.Drop by birth key kind) = Unit {0}
IsTenants (entry.Pin by birth key pinned hit) = Unit {0}
IsTenants e = ⊥

-- an answer that a group is offline, or over its limit
abbrev pub IsOfGroup : Reply → Type 0
IsOfGroup (reply.Offline entry) = Unit {0}
IsOfGroup (reply.Over group operation usage) = Unit {0}
IsOfGroup r = ⊥

-- an answer to an offlining
abbrev pub IsOfOffline : Reply → Type 0
IsOfOffline (reply.OfflineDone entry moved deferred) = Unit {0}
IsOfOffline (reply.AlreadyDone entry) = Unit {0}
IsOfOffline (reply.HasChildren child entry) = Unit {0}
IsOfOffline r = ⊥

-- an answer to the making of a group, or that a group isn't made
abbrev pub IsOfMaking : Reply → Type 0
IsOfMaking (reply.Made entry) = Unit {0}
IsOfMaking (reply.AlreadyMade entry) = Unit {0}
IsOfMaking (reply.NotMade group) = Unit {0}
IsOfMaking r = ⊥

-- an answer about a registration
abbrev pub IsOfCache : Reply → Type 0
IsOfCache (reply.NoCache entry) = Unit {0}
IsOfCache (reply.Registered id entry) = Unit {0}
IsOfCache (reply.AlreadyRegistered entry) = Unit {0}
IsOfCache (reply.NoId entry) = Unit {0}
IsOfCache r = ⊥

-- an answer of an unregistering that was done
abbrev pub IsFreedAnswer : Reply → Type 0
IsFreedAnswer (reply.Freed id entry from to objects) = Unit {0}
IsFreedAnswer r = ⊥

-- an answer of an unregistering that stopped half way
abbrev pub IsHalfAnswer : Reply → Type 0
IsHalfAnswer (reply.Half id entry from to objects why) = Unit {0}
IsHalfAnswer r = ⊥

-- an answer to an isolation that visited
abbrev pub IsIsolated : Reply → Type 0
IsIsolated (reply.Isolated visits freed ending) = Unit {0}
IsIsolated r = ⊥

-- an answer of a pool of units
abbrev pub IsPoolAnswer : Reply → Type 0
IsPoolAnswer (reply.Released pool node entry) = Unit {0}
IsPoolAnswer (reply.Full pool node entries free) = Unit {0}
IsPoolAnswer (reply.Grabbed pool node entry) = Unit {0}
IsPoolAnswer (reply.Bare pool node entry) = Unit {0}
IsPoolAnswer r = ⊥

-- an attempt that ran a pass
abbrev pub IsPassed : Outcome → Type 0
IsPassed (outcome.Ran number pass) = Unit {0}
IsPassed (outcome.RestoredRan number first pass) = Unit {0}
IsPassed o = ⊥

-- an attempt that cleared a bit, and ran no pass
abbrev pub IsClearing : Outcome → Type 0
IsClearing (outcome.Cleared number first second) = Unit {0}
IsClearing (outcome.RestoredSkip number first len version) = Unit {0}
IsClearing o = ⊥

-- an answer that isn't of a place's entry
abbrev pub IsUnplaced : Reply → Type 0
IsUnplaced (reply.Added at) = ⊥
IsUnplaced (reply.Exists at) = ⊥
IsUnplaced (reply.Hit at value) = ⊥
IsUnplaced (reply.Miss at) = ⊥
IsUnplaced (reply.Dropped at) = ⊥
IsUnplaced (reply.Pinned at) = ⊥
IsUnplaced (reply.Done at) = ⊥
IsUnplaced r = Unit {0}

-- an entry that no tenant's call made
abbrev pub IsOfNoTenant : Entry → Type 0
IsOfNoTenant (entry.Add by birth added key value) = ⊥
IsOfNoTenant (entry.Look by birth key hit) = ⊥
IsOfNoTenant (entry.Drop by birth key kind) = ⊥
IsOfNoTenant (entry.Pin by birth key pinned hit) = ⊥
IsOfNoTenant e = Unit {0}
