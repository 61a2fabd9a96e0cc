-- SPDX-License-Identifier: GPL-2.0-only
-- What a command names, and the walks that it makes.
use Rattle.std.specs.Prelude.{ℕ, ◌-◌, Bool, true, false, ◌&&◌, ◌==◌, List, [], ◌∷◌, ◌++◌, map, flat_map, Option, Some, None}
use Rattle.std.specs.List.{range_with_len}
use Rattle.shr_base.specs.declared.places.Serial.{Serial}
use Rattle.shr_base.specs.declared.scripts.Command.{Command}
use Rattle.shr_base.specs.declared.scripts.Command.TheVariants.{Put, On, Shrink, Balance, Offline, MkGroup, Register, Unregister, Isolate, Release, Grab}
use Rattle.shr_model.specs.Groups.{preorder_of}
use Rattle.shr_model.specs.Walks.{Job, job}

-- the two are one command
abbrev pub is_serial : Serial → Serial → Bool
is_serial x y = (x.worker == y.worker) && (x.command == y.command)

-- the group that a command names
abbrev pub group_named : Command → Option ℕ
group_named (Put at key value) = Some at.group
group_named (On at key act) = Some at.group
group_named (Shrink group node priority nofs) = Some group
group_named (Balance node priority nofs) = None
group_named (Offline group) = Some group
group_named (MkGroup group) = Some group
group_named (Register decl) = None
group_named (Unregister decl) = None
group_named (Isolate at budget) = Some at.group
group_named (Release node pool units) = None
group_named (Grab node pool) = None

-- the declaration that a command names
abbrev pub decl_named : Command → Option ℕ
decl_named (Put at key value) = Some at.decl
decl_named (On at key act) = Some at.decl
decl_named (Shrink group node priority nofs) = None
decl_named (Balance node priority nofs) = None
decl_named (Offline group) = None
decl_named (MkGroup group) = None
decl_named (Register decl) = Some decl
decl_named (Unregister decl) = Some decl
decl_named (Isolate at budget) = Some at.decl
decl_named (Release node pool units) = None
decl_named (Grab node pool) = None

-- the command is a put
abbrev pub is_put : Command → Bool
is_put (Put at key value) = true
is_put c = false

-- the group at which a command asks first whether it is online
abbrev pub asks_online : Command → Option ℕ
asks_online (Offline group) = None
asks_online (MkGroup group) = None
asks_online (Isolate at budget) = None
asks_online c = group_named c

-- the walks of a round over a group: on each node in rising order, its subtree in preorder
abbrev pub round_of : List ℕ → ℕ → ℕ → ℕ → List Job
round_of parents nodes priority group =
    flat_map (λ node. map (λ g. job g node priority false) (preorder_of parents group)) (range_with_len 0 nodes)

-- the walks of rounds over these groups, the first of this priority and each next of the one below
unfoldable pub rounds_from : List ℕ → ℕ → ℕ → List ℕ → List Job
rounds_from parents nodes priority [] = []
rounds_from parents nodes priority (g ∷ gs) = round_of parents nodes priority g ++ rounds_from parents nodes (priority - 1) gs

-- the walks of a command, in order, where a put has rounds over these groups
abbrev pub jobs_of : List ℕ → ℕ → List ℕ → Command → List Job
jobs_of parents nodes rounds (Put at key value) = rounds_from parents nodes 12 rounds
jobs_of parents nodes rounds (Shrink group node priority nofs) = job group node priority nofs ∷ []
jobs_of parents nodes rounds (Balance node priority nofs) = map (λ g. job g node priority nofs) (preorder_of parents 0)
jobs_of parents nodes rounds c = []
