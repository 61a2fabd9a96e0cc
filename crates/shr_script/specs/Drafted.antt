-- SPDX-License-Identifier: GPL-2.0-only
-- What the lines make of a script, line by line. No public clause cites this module.
use Rattle.std.specs.Prelude.{◌≡◌, ℕ, nat_le, ◌==◌, ◌+◌, if◌then◌else◌, Bool, true, false, ◌&&◌, bytes_eq, List, [], ◌∷◌, ◌++◌, map, Option, Some, None, Result, Ok, Err}
use Rattle.shr_model.specs.Paths.{parent_path}
use Rattle.shr_model.specs.Pieces.{pieces}
use Rattle.shr_base.specs.declared.places.Target.{Target}
use Rattle.shr_base.specs.declared.scripts.Code.{Code}
use Rattle.shr_base.specs.declared.scripts.Code.TheVariants as codes_of
use Rattle.shr_base.specs.declared.scripts.GroupDecl.{GroupDecl}
use Rattle.shr_base.specs.declared.scripts.CacheDecl.{CacheDecl}
use Rattle.shr_base.specs.declared.scripts.PoolDecl.{PoolDecl}
use Rattle.shr_base.specs.declared.scripts.Sweep.{Sweep}
use Rattle.shr_base.specs.declared.scripts.Command.{Command}
use Rattle.shr_base.specs.declared.scripts.Command.TheVariants as commands
use Rattle.shr_words.specs.Classes.{◌>>=◌, Word, Item, number_said, word_said, first, second, third, fourth, fifth, sixth, seventh, place_of}
use Rattle.shr_words.specs.WordReading.{limit_said, policy_at, taken, items_said}
use Rattle.shr_script.specs.declared.kind.Kind.{Kind}
use Rattle.shr_script.specs.declared.kind.Kind.TheVariants.{Header, Size, Group, Cache, Pool, Worker, Work, End}
use Rattle.shr_script.specs.declared.kind.Kind.TheVariants as kinds
use Rattle.shr_script.specs.declared.kind.Verb.{Verb}
use Rattle.shr_script.specs.declared.kind.Verb.TheVariants.{Put, On, Shrink, Balance, Offline, MkGroup, Register, Unregister, Isolate, Release, Grab}
use Rattle.shr_script.specs.declared.kind.Phase.{Phase}
use Rattle.shr_script.specs.declared.kind.Phase.TheVariants.{Start, Workers}
use Rattle.shr_script.specs.declared.draft.Draft.{Draft}
use Rattle.shr_script.specs.declared.stopped.Stopped.{Stopped}
use Rattle.shr_script.specs.declared.stopped.Stopped.TheVariants as stops
use Rattle.shr_script.specs.Lines.{State, Line, classes, verb_classes, refused_if, own, after}
use Rattle.shr_script.specs.LineReading.{kind_at}
use Rattle.shr_script.specs.Script.{is_end_read}
use Rattle.shr_script.specs.Faults.{is_last, Fault, at_line, ◌>>>◌}
use Rattle.shr_script.specs.Content.{Content, or_root}

-- the declarations, the commands of the workers that are complete, those of the last worker, and the
-- sweep
pub record Drafted : Type 0 where
  pub groups : List GroupDecl
  pub caches : List CacheDecl
  pub pools : List PoolDecl
  pub complete : List (List Command)
  pub commands : List Command
  pub sweep : Option Sweep

-- what was drafted so far, without the spare of its logs
abbrev pub drafted : Draft → Drafted
drafted d = record {
  groups = d.groups.items;
  caches = d.caches.items;
  pools = d.pools.items;
  complete = map (λ w. w.commands.items) d.complete.items;
  commands = d.commands.items;
  sweep = d.sweep;
}

-- before the first line
abbrev pub empty : Drafted
empty = record { groups = []; caches = []; pools = []; complete = []; commands = []; sweep = None }

-- the script once all workers are complete
abbrev pub content_by : State → Drafted → Content
content_by st d = record { version = st.version; nodes = st.nodes; ids = st.ids; groups = d.groups; caches = d.caches; pools = d.pools; workers = d.complete; sweep = d.sweep }

-- the group that a line's items declare, below the group of its parent path
abbrev pub group_decl : State → Bool → List Item → GroupDecl
group_decl st late xs = record { path = word_said (first xs); parent = or_root (place_of (parent_path (word_said (first xs))) st.groups); limit = limit_said (second xs); later = late }

-- the cache that a line's items declare
abbrev pub cache_decl : List Item → CacheDecl
cache_decl xs = record {
  name = word_said (first xs);
  policy = policy_at (number_said (second xs));
  seeks = number_said (third xs);
  batch = number_said (fourth xs);
  floor = number_said (fifth xs);
  fs = number_said (sixth xs) == 1;
  on = number_said (seventh xs) == 1;
}

-- the pool that a line's items declare
abbrev pub pool_decl : List Item → PoolDecl
pool_decl xs = record { name = word_said (first xs); seeks = number_said (second xs); batch = number_said (third xs); floor = number_said (fourth xs); flat = number_said (fifth xs) == 1 }

-- the sweep that a line's items say
abbrev pub sweep_by : List Item → Sweep
sweep_by xs = record { priority = number_said (first xs); nofs = number_said (second xs) == 1 }

-- behind a worker line the last worker's commands begin anew, and they are complete where there was
-- a worker
abbrev pub completed : Phase → Drafted → Drafted
completed Workers d = record d { complete = d.complete ++ d.commands ∷ []; commands = [] }
completed p d = record d { commands = [] }

-- what was drafted, with one command more of the last worker
abbrev pub with_command : Drafted → Command → Drafted
with_command d c = record d { commands = d.commands ++ c ∷ [] }

-- where a line's items say that a command finds its object
abbrev pub target_said : List Item → Target
target_said xs = record { group = number_said (first xs); node = number_said (second xs); decl = number_said (third xs) }

-- the command that a line's items say
abbrev pub command_by : Verb → List Item → Command
command_by Put xs = commands.Put (target_said xs) (word_said (fourth xs)) (word_said (fifth xs))
command_by (On act) xs = commands.On (target_said xs) (word_said (fourth xs)) act
command_by Shrink xs = commands.Shrink (number_said (first xs)) (number_said (second xs)) (number_said (third xs)) (number_said (fourth xs) == 1)
command_by Balance xs = commands.Balance (number_said (first xs)) (number_said (second xs)) (number_said (third xs) == 1)
command_by Offline xs = commands.Offline (number_said (first xs))
command_by MkGroup xs = commands.MkGroup (number_said (first xs))
command_by Register xs = commands.Register (number_said (first xs))
command_by Unregister xs = commands.Unregister (number_said (first xs))
command_by Isolate xs = commands.Isolate (target_said xs) (number_said (fourth xs))
command_by Release xs = commands.Release (number_said (first xs)) (number_said (second xs)) (number_said (third xs))
command_by Grab xs = commands.Grab (number_said (first xs)) (number_said (second xs))

-- what a line adds
abbrev pub added : State → Drafted → Kind → List Item → Drafted
added st d Header xs = d
added st d Size xs = d
added st d (Group late) xs = record d { groups = d.groups ++ group_decl st late xs ∷ [] }
added st d Cache xs = record d { caches = d.caches ++ cache_decl xs ∷ [] }
added st d Pool xs = record d { pools = d.pools ++ pool_decl xs ∷ [] }
added st d Worker xs = completed st.phase d
added st d kinds.Sweep xs = record (completed st.phase d) { sweep = Some (sweep_by xs) }
added st d End xs = completed st.phase d
added st d (Work verb) xs = with_command d (command_by verb xs)

-- the command that a line's words say
unfoldable pub command_said : State → Verb → List Word → Result Command Code
command_said st verb ws = items_said (verb_classes st verb) ws >>= λ xs. Ok (command_by verb xs)

-- what was said and drafted, once this command was taken
abbrev pub one_more : State → Drafted → Command → State × Drafted
one_more st d c = (record st { commands = st.commands + 1 }, with_command d c)

-- a command more, where there is room for it
abbrev pub command_kept : State → Drafted → Command → Result (State × Drafted) Code
command_kept st d c = refused_if (nat_le 20000 st.commands) codes_of.TooMany >>= λ _. Ok (one_more st d c)

-- a command's line behind its verb: its words, and then that there is room for a command more
unfoldable pub command_step : State → Drafted → Verb → List Word → Result (State × Drafted) Code
command_step st d verb ws = command_said st verb ws >>= λ c. command_kept st d c

-- a line behind its first word: what was said and drafted, with it
unfoldable pub kind_step : State → Drafted → Kind → List Word → Result (State × Drafted) Code
kind_step st d (Work verb) ws = command_step st d verb ws
kind_step st d k ws = items_said (classes st k) ws >>= λ xs. own st k xs >>= λ _. Ok (after st k xs, added st d k xs)

-- a line, and the first is BadHeader whatever it lacks
unfoldable pub plain_step : State → Drafted → List Word → Result (State × Drafted) Code
plain_step st d ws = taken ws >>= λ w. kind_at st.version st.phase w.0 >>= λ k. kind_step st d k w.1

-- a fault of the first line is BadHeader, whatever it was
abbrev pub headed : Phase → Result (State × Drafted) Code → Result (State × Drafted) Code
headed Start (Err e) = Err codes_of.BadHeader
headed p r = r

-- a whole line: what was said and drafted with it, or its code
unfoldable pub line_step : State → Drafted → List Word → Result (State × Drafted) Code
line_step st d ws = headed st.phase (plain_step st d ws)

-- A part between line feeds: whether the script is complete, and what was said and drafted. The
-- last part has no line feed.
abbrev pub part_by : Bool → State → Drafted → Word → Bool → Result (Bool × (State × Drafted)) Code
part_by true st d part last = if last && bytes_eq part [] then Ok (true, (st, d)) else Err codes_of.Trailing
part_by false st d part last = if last then Err codes_of.NoEnd else (line_step st d (pieces 32 part) >>= λ x. Ok (false, x))

-- the same, by whether the lines before it have ended the script
unfoldable pub part_step : State → Drafted → Word → Bool → Result (Bool × (State × Drafted)) Code
part_step st d part last = part_by (is_end_read st.phase) st d part last

-- what was said and drafted by all parts, the first of which has this line number, or the first
-- fault
unfoldable pub run_from : State → Drafted → ℕ → List Word → Result (State × Drafted) Fault
run_from st d n [] = Err (n, codes_of.NoEnd)
run_from st d n (p ∷ ps) = at_line n (part_step st d p (is_last ps)) >>> λ x. if x.0 then Ok x.1 else run_from x.1.0 x.1.1 (n + 1) ps

-- what lines make of a script
unfoldable pub made_by : State → Drafted → List Line → Drafted
made_by st d [] = d
made_by st d (l ∷ ls) = made_by (after st l.0 l.1) (added st d l.0 l.1) ls

-- What a function did is what reading gives, unless memory ran out.
abbrev pub DoesAsRead : {Y : Type 0} → Y → Result (Unit {0}) Stopped → Result Y Code → Type 0
DoesAsRead made (Ok x) read = read ≡ Ok made
DoesAsRead made (Err (stops.Bad code)) read = read ≡ Err code
DoesAsRead made (Err stops.Memory) read = Unit {0}

-- the same of a function that reads, and does nothing
abbrev pub AnswersAsRead : {Y : Type 0} → Result Y Stopped → Result Y Code → Type 0
AnswersAsRead (Ok y) read = read ≡ Ok y
AnswersAsRead (Err (stops.Bad code)) read = read ≡ Err code
AnswersAsRead (Err stops.Memory) read = Unit {0}

-- the same for a part, with whether the script is complete
abbrev pub Ends : {Y : Type 0} → Y → Result Bool Stopped → Result (Bool × Y) Code → Type 0
Ends made (Ok complete) read = read ≡ Ok (complete, made)
Ends made (Err (stops.Bad code)) read = read ≡ Err code
Ends made (Err stops.Memory) read = Unit {0}
