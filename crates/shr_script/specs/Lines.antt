-- SPDX-License-Identifier: GPL-2.0-only
-- The lines of a script: which may stand where, the classes of their words, and their own rules.
use Rattle.std.specs.Prelude.{ℕ, ◌+◌, Bool, true, false, ◌&&◌, ◌||◌, ◌==◌, not, nat_le, nat_lt, if◌then◌else◌, List, [], ◌∷◌, ◌++◌, length, bytes_eq, codes, Option, Some, None, Result, Ok, Err}
use Rattle.std.specs.Option.{is_some}
use Rattle.shr_base.specs.declared.scripts.Act.TheVariants.{Get, Del, SetPin}
use Rattle.shr_base.specs.declared.scripts.Code.{Code}
use Rattle.shr_base.specs.declared.scripts.Code.TheVariants as codes_of
use Rattle.shr_model.specs.Paths.{root_path, parent_path}
use Rattle.shr_model.specs.Groups.{is_later}
use Rattle.shr_words.specs.Classes.{◌>>=◌, Word, Class, Number, Limit, Plain, Valued, Listed, Marked, Chosen, PathTest, NameTest, KeyTest, Policies, Kinds, Starts, Walks, PoolKinds, Item, number_said, word_said, first, second, seventh, place_of}
use Rattle.shr_script.specs.declared.kind.Kind.{Kind}
use Rattle.shr_script.specs.declared.kind.Kind.TheVariants.{Header, Size, Group, Cache, Pool, Worker, Work, Sweep, End}
use Rattle.shr_script.specs.declared.kind.Verb.{Verb}
use Rattle.shr_script.specs.declared.kind.Verb.TheVariants.{Put, On, Shrink, Balance, Offline, MkGroup, Register, Unregister, Isolate, Release, Grab}
use Rattle.shr_script.specs.declared.kind.Phase.{Phase}
use Rattle.shr_script.specs.declared.kind.Phase.TheVariants.{Start, Sizes, Groups, Caches, Pools, Workers, Swept, Done}

-- ---- which line a first word begins

-- the word with which a command begins
abbrev pub verb_word : Verb → Word
verb_word Put = codes "put"
verb_word (On Get) = codes "get"
verb_word (On Del) = codes "del"
verb_word (On (SetPin true)) = codes "pin"
verb_word (On (SetPin false)) = codes "unpin"
verb_word Shrink = codes "shrink"
verb_word Balance = codes "balance"
verb_word Offline = codes "offline"
verb_word MkGroup = codes "mkgroup"
verb_word Register = codes "register"
verb_word Unregister = codes "unregister"
verb_word Isolate = codes "isolate"
verb_word Release = codes "release"
verb_word Grab = codes "grab"

-- the word with which the line of a group begins
abbrev pub group_word : Bool → Word
group_word true = codes "later"
group_word false = codes "group"

-- the word with which a line of this kind begins
abbrev pub first_word : Kind → Word
first_word Header = codes "shrinkers"
first_word Size = codes "size"
first_word (Group late) = group_word late
first_word Cache = codes "cache"
first_word Pool = codes "pool"
first_word Worker = codes "worker"
first_word (Work verb) = verb_word verb
first_word Sweep = codes "sweep"
first_word End = codes "end"

-- Between the size and the first worker stand caches, behind the groups, and pools, behind the
-- caches; a command or a sweep has no worker yet.
abbrev pub before_workers : Kind → Option Code
before_workers Header = Some codes_of.UnknownWord
before_workers Size = Some codes_of.UnknownWord
before_workers (Group late) = Some codes_of.UnknownWord
before_workers Cache = None
before_workers Pool = None
before_workers Worker = None
before_workers End = None
before_workers (Work verb) = Some codes_of.NoWorker
before_workers Sweep = Some codes_of.NoWorker

-- Behind the first worker nothing is declared any more.
abbrev pub among_workers : Kind → Option Code
among_workers Header = Some codes_of.UnknownWord
among_workers Size = Some codes_of.UnknownWord
among_workers (Group late) = Some codes_of.UnknownWord
among_workers Cache = Some codes_of.UnknownWord
among_workers Pool = Some codes_of.UnknownWord
among_workers k = None

-- why a line of a kind may not stand here
abbrev pub misplaced : Phase → Kind → Option Code
misplaced Start Header = None
misplaced Start k = Some codes_of.BadHeader
misplaced Sizes Size = None
misplaced Sizes k = Some codes_of.BadHeader
misplaced Groups (Group late) = None
misplaced Groups k = before_workers k
misplaced Caches k = before_workers k
misplaced Pools Cache = Some codes_of.UnknownWord
misplaced Pools k = before_workers k
misplaced Workers k = among_workers k
misplaced Swept End = None
misplaced Swept k = Some codes_of.UnknownWord
misplaced Done k = Some codes_of.Trailing

-- where the first word names no kind
abbrev pub unknown : Phase → Code
unknown Start = codes_of.BadHeader
unknown Sizes = codes_of.BadHeader
unknown Done = codes_of.Trailing
unknown p = codes_of.UnknownWord

-- a value, unless there is a code against it
abbrev pub unless : {A : Type 0} → Option Code → A → Result A Code
unless None x = Ok x
unless (Some code) x = Err code

-- Version 2 has three parts more than version 1, and each is served or not: pools of units,
abbrev pub serves_pools : Bool
serves_pools = true

-- isolations,
abbrev pub serves_isolation : Bool
serves_isolation = true

-- and a sweep.
abbrev pub serves_sweep : Bool
serves_sweep = true

-- the lines of this kind are taken in a script of this version; a word that begins another names
-- nothing
abbrev pub is_served : ℕ → Kind → Bool
is_served version Pool = serves_pools && version == 2
is_served version (Work Release) = serves_pools && version == 2
is_served version (Work Grab) = serves_pools && version == 2
is_served version (Work Isolate) = serves_isolation && version == 2
is_served version Sweep = serves_sweep && version == 2
is_served version k = true

-- a kind that was named, where it may stand in a script of this version
abbrev pub allowed : ℕ → Phase → Option Kind → Result Kind Code
allowed version p None = Err (unknown p)
allowed version p (Some k) = if is_served version k then unless (misplaced p k) k else Err (unknown p)

-- ---- what the lines so far have said

-- what the lines so far have said, as far as later lines are judged by it
pub record State : Type 0 where
  pub phase : Phase
  pub version : ℕ
  pub nodes : ℕ
  pub ids : ℕ
  -- the root, and the paths that were declared
  pub groups : List Word
  -- which of these groups are later
  pub later : List Bool
  -- the names of the caches
  pub caches : List Word
  -- the names of the pools
  pub pools : List Word
  -- how many caches are on
  pub on : ℕ
  pub workers : ℕ
  -- how many commands there are in all
  pub commands : ℕ

-- before the first line
abbrev pub start : State
start = record { phase = Start; version = 0; nodes = 0; ids = 0; groups = root_path ∷ []; later = false ∷ []; caches = []; pools = []; on = 0; workers = 0; commands = 0 }

-- ---- the classes of a line's words behind the first

-- a group of a command: a path that was declared, or the root's
abbrev pub group_class : State → Class
group_class st = Listed PathTest codes_of.UnknownGroup st.groups

-- a group that a command makes: a path that was declared by a later line
abbrev pub later_class : State → Class
later_class st = Marked PathTest codes_of.UnknownGroup st.groups st.later

-- a cache of a command: a name that was declared
abbrev pub cache_class : State → Class
cache_class st = Listed NameTest codes_of.UnknownCache st.caches

-- a pool of a command: a name that was declared
abbrev pub pool_class : State → Class
pool_class st = Listed NameTest codes_of.UnknownCache st.pools

-- a node of a command: a number below the size's
abbrev pub node_class : State → Class
node_class st = Number 0 st.nodes

-- group, node, cache and key
abbrev pub key_classes : State → List Class
key_classes st = group_class st ∷ node_class st ∷ cache_class st ∷ Plain KeyTest ∷ []

-- the classes of a command's words
abbrev pub verb_classes : State → Verb → List Class
verb_classes st Put = group_class st ∷ node_class st ∷ cache_class st ∷ Plain KeyTest ∷ Valued ∷ []
verb_classes st (On act) = key_classes st
verb_classes st Shrink = group_class st ∷ node_class st ∷ Number 0 13 ∷ Chosen Walks ∷ []
verb_classes st Balance = node_class st ∷ Number 0 13 ∷ Chosen Walks ∷ []
verb_classes st Offline = group_class st ∷ []
verb_classes st MkGroup = later_class st ∷ []
verb_classes st Register = cache_class st ∷ []
verb_classes st Unregister = cache_class st ∷ []
verb_classes st Isolate = group_class st ∷ node_class st ∷ cache_class st ∷ Number 0 20001 ∷ []
verb_classes st Release = node_class st ∷ pool_class st ∷ Number 1 20001 ∷ []
verb_classes st Grab = node_class st ∷ pool_class st ∷ []

-- the most ids that a script of a version may have
abbrev pub most_ids : ℕ → ℕ
most_ids version = if version == 2 then 256 else 64

-- the most groups of it, the root counted
abbrev pub most_groups : ℕ → ℕ
most_groups version = if version == 2 then 256 else 64

-- the classes of the words behind the first, for a line of this kind here
abbrev pub classes : State → Kind → List Class
classes st Header = Number 1 3 ∷ []
classes st Size = Number 1 5 ∷ Number 1 (most_ids st.version + 1) ∷ []
classes st (Group late) = Plain PathTest ∷ Limit ∷ []
classes st Cache = Plain NameTest ∷ Chosen Policies ∷ Number 0 1001 ∷ Number 0 20001 ∷ Number 0 20001 ∷ Chosen Kinds ∷ Chosen Starts ∷ []
classes st Pool = Plain NameTest ∷ Number 0 1001 ∷ Number 0 20001 ∷ Number 0 20001 ∷ Chosen PoolKinds ∷ []
classes st Worker = []
classes st (Work verb) = verb_classes st verb
classes st Sweep = Number 0 13 ∷ Chosen Walks ∷ []
classes st End = []

-- ---- a line's own rule

-- the word is among these
abbrev pub has : List Word → Word → Bool
has ws w = is_some (place_of w ws)

-- the code, where this is so
abbrev pub refused_if : Bool → Code → Result (Unit {0}) Code
refused_if b code = if b then Err code else Ok tt

-- a group that may be there is the parent of one that is later or not: only a later one stands below
-- a later one
abbrev pub may_hold_group : List Bool → Bool → Option ℕ → Bool
may_hold_group later late None = false
may_hold_group later late (Some g) = late || not (is_later later g)

-- a group's parent is there and may hold it, the group isn't there, and there are fewer groups than
-- the version allows
unfoldable pub group_rule : State → Bool → Word → Result (Unit {0}) Code
group_rule st late path =
    refused_if (not (bytes_eq path root_path) && not (may_hold_group st.later late (place_of (parent_path path) st.groups))) codes_of.NoParent >>= λ _.
    refused_if (has st.groups path) codes_of.Exists >>= λ _.
    refused_if (nat_le (most_groups st.version) (length st.groups)) codes_of.TooMany

-- a cache is new, there are fewer than 250, and no more are on than there are ids
unfoldable pub cache_rule : State → Word → ℕ → Result (Unit {0}) Code
cache_rule st name on =
    refused_if (has st.caches name) codes_of.Exists >>= λ _.
    refused_if (nat_le 250 (length st.caches)) codes_of.TooMany >>= λ _.
    refused_if (nat_lt st.ids (st.on + on)) codes_of.TooMany

-- a pool is new among the pools, and there are fewer than 64
unfoldable pub pool_rule : State → Word → Result (Unit {0}) Code
pool_rule st name =
    refused_if (has st.pools name) codes_of.Exists >>= λ _.
    refused_if (nat_le 64 (length st.pools)) codes_of.TooMany

-- a line's own rule on its items, after what was said: nothing against them, or a code
abbrev pub own : State → Kind → List Item → Result (Unit {0}) Code
own st Header xs = Ok tt
own st Size xs = Ok tt
own st (Group late) xs = group_rule st late (word_said (first xs))
own st Cache xs = cache_rule st (word_said (first xs)) (number_said (seventh xs))
own st Pool xs = pool_rule st (word_said (first xs))
own st Worker xs = refused_if (nat_le 64 st.workers) codes_of.TooMany
own st Sweep xs = Ok tt
own st End xs = Ok tt
own st (Work verb) xs = refused_if (nat_le 20000 st.commands) codes_of.TooMany

-- ---- what a line changes

-- what has been said once a line of this kind with these items was taken
abbrev pub after : State → Kind → List Item → State
after st Header xs = record st { phase = Sizes; version = number_said (first xs) }
after st Size xs = record st { phase = Groups; nodes = number_said (first xs); ids = number_said (second xs) }
after st (Group late) xs = record st { groups = st.groups ++ word_said (first xs) ∷ []; later = st.later ++ late ∷ [] }
after st Cache xs = record st { phase = Caches; caches = st.caches ++ word_said (first xs) ∷ []; on = st.on + number_said (seventh xs) }
after st Pool xs = record st { phase = Pools; pools = st.pools ++ word_said (first xs) ∷ [] }
after st Worker xs = record st { phase = Workers; workers = st.workers + 1 }
after st Sweep xs = record st { phase = Swept }
after st End xs = record st { phase = Done }
after st (Work verb) xs = record st { commands = st.commands + 1 }

-- ---- the verdict on a line: its kind, its words in order, and then its own rule

-- a line is of a kind, and its words say these items
abbrev pub Line : Type 0
Line = Kind × List Item
