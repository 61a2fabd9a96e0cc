-- SPDX-License-Identifier: GPL-2.0-only
-- A line by its words: its kind, and what it says.
use Rattle.std.specs.Prelude.{ℕ, true, false, if◌then◌else◌, List, bytes_eq, codes, Option, Some, None, option_map, Result, Ok, Err}
use Rattle.shr_base.specs.declared.scripts.Act.TheVariants.{Get, Del, SetPin}
use Rattle.shr_base.specs.declared.scripts.Code.{Code}
use Rattle.shr_base.specs.declared.scripts.Code.TheVariants as codes_of
use Rattle.shr_words.specs.Classes.{◌>>=◌, Word}
use Rattle.shr_words.specs.WordReading.{taken, items_said}
use Rattle.shr_script.specs.declared.kind.Kind.{Kind}
use Rattle.shr_script.specs.declared.kind.Kind.TheVariants.{Header, Size, Group, Cache, Pool, Worker, Work, Sweep, End}
use Rattle.shr_script.specs.declared.kind.Verb.{Verb}
use Rattle.shr_script.specs.declared.kind.Verb.TheVariants.{Put, On, Shrink, Balance, Offline, MkGroup, Register, Unregister, Isolate, Release, Grab}
use Rattle.shr_script.specs.declared.kind.Phase.{Phase}
use Rattle.shr_script.specs.declared.kind.Phase.TheVariants.{Start}
use Rattle.shr_script.specs.Lines.{allowed, State, classes, own, Line}

-- ---- which line a first word begins

-- the command that a word names
unfoldable pub verb_of : Word → Option Verb
verb_of w =
    if bytes_eq w (codes "put") then Some Put else
    (if bytes_eq w (codes "get") then Some (On Get) else
    (if bytes_eq w (codes "del") then Some (On Del) else
    (if bytes_eq w (codes "pin") then Some (On (SetPin true)) else
    (if bytes_eq w (codes "unpin") then Some (On (SetPin false)) else
    (if bytes_eq w (codes "shrink") then Some Shrink else
    (if bytes_eq w (codes "balance") then Some Balance else
    (if bytes_eq w (codes "offline") then Some Offline else
    (if bytes_eq w (codes "mkgroup") then Some MkGroup else
    (if bytes_eq w (codes "register") then Some Register else
    (if bytes_eq w (codes "unregister") then Some Unregister else
    (if bytes_eq w (codes "isolate") then Some Isolate else
    (if bytes_eq w (codes "release") then Some Release else
    (if bytes_eq w (codes "grab") then Some Grab else None)))))))))))))

-- the kind of line that a word names
unfoldable pub kind_of : Word → Option Kind
kind_of w =
    if bytes_eq w (codes "shrinkers") then Some Header else
    (if bytes_eq w (codes "size") then Some Size else
    (if bytes_eq w (codes "group") then Some (Group false) else
    (if bytes_eq w (codes "later") then Some (Group true) else
    (if bytes_eq w (codes "cache") then Some Cache else
    (if bytes_eq w (codes "pool") then Some Pool else
    (if bytes_eq w (codes "worker") then Some Worker else
    (if bytes_eq w (codes "sweep") then Some Sweep else
    (if bytes_eq w (codes "end") then Some End else option_map Work (verb_of w)))))))))

-- the kind that a first word names, where it may stand
unfoldable pub kind_at : ℕ → Phase → Word → Result Kind Code
kind_at version p w = allowed version p (kind_of w)

-- ---- the verdict on a line: its kind, its words in order, and then its own rule

-- the kind and the items of a line, or the code of what is first wrong with it
unfoldable pub plain_line : State → List Word → Result Line Code
plain_line st ws = taken ws >>= λ w. kind_at st.version st.phase w.0 >>= λ k. items_said (classes st k) w.1 >>= λ xs. own st k xs >>= λ _. Ok (k, xs)

-- the first line is BadHeader whatever it lacks
abbrev pub as_header : Phase → Result Line Code → Result Line Code
as_header Start (Err e) = Err codes_of.BadHeader
as_header p r = r

-- the same, but that anything wrong with the first line is BadHeader
unfoldable pub line_of : State → List Word → Result Line Code
line_of st ws = as_header st.phase (plain_line st ws)
