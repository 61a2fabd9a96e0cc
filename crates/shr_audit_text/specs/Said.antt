-- SPDX-License-Identifier: GPL-2.0-only
-- What a line of a report says: its kind by its first word, and the value by the words behind that.
use Rattle.std.specs.Prelude.{◌≡◌, ℕ, ◌<◌, ◌^◌, Bool, ◌||◌, bytes_eq, codes, if◌then◌else◌, List, Option, Some, None, option_map, []}
use Rattle.shr_model.specs.PieceParts.{left}
use Rattle.shr_report.specs.ReadWords.{first_of, later, is_none, n0, n1, n2}
use Rattle.shr_report.specs.ReadLines.{WalkHead, read_reply, read_found, read_group, read_cache, read_pool, read_tree, read_attempt, read_map, read_walk, read_amount, read_list, read_bit, read_use, read_lookups, read_entry, read_item, read_pass_line, read_plain, read_isolation, read_units_name, read_plain_entry, read_units, read_pool_amount}
use Rattle.shr_laws.specs.WellFormed.{IsNumbered, IsBitWord, IsPoolNumbered, IsTreeNumbered}
use Rattle.shr_laws.specs.Numbers.{IsShort, IsCountNumber, IsReplyNumbered, IsFindNumbered, IsAttemptNumbered, IsSeenNumbered, IsWalkedNumbered, IsEntryNumbered, IsObjectNumbered, IsMapNumbered, IsAmountNumbered, IsUseNumbered, IsIsolateEndNumbered, IsTryNumbered, IsPlainAnswerNumbered, IsPlainEntryNumbered}
use Rattle.shr_audit_text.specs.declared.kinds.Kind.{Kind}
use Rattle.shr_audit_text.specs.declared.kinds.Kind.TheVariants as kind
use Rattle.shr_audit_text.specs.declared.kinds.PlainKind.{PlainKind}
use Rattle.shr_audit_text.specs.declared.kinds.PlainKind.TheVariants as plain
use Rattle.shr_audit_text.specs.declared.walks.Head.{Head}
use Rattle.shr_audit_text.specs.declared.pools.PlainHead.{PlainHead}
use Rattle.shr_audit_text.specs.declared.pools.IsolationHead.{IsolationHead}
use Rattle.shr_audit_text.specs.declared.pools.UnitsHead.{UnitsHead}
use Rattle.shr_report.specs.ReadLines as read
use Rattle.shr_audit_text.specs.declared.said.Said.{Said}
use Rattle.shr_audit_text.specs.declared.said.Said.TheVariants as said

-- the kind of a line whose value takes no memory
unfoldable pub plain_kind_of : List ℕ → Option PlainKind
plain_kind_of w =
    if bytes_eq w (codes "report") then Some plain.Version else
    if bytes_eq w (codes "size") then Some plain.Sizes else
    if bytes_eq w (codes "tree") then Some plain.Tree else
    if bytes_eq w (codes "find") then Some plain.Found else
    if bytes_eq w (codes "isolation") then Some plain.Isolation else
    if bytes_eq w (codes "walk") then Some plain.Walk else
    if bytes_eq w (codes "map") then Some plain.Map else
    if bytes_eq w (codes "try") then Some plain.Try else
    if bytes_eq w (codes "carry") then Some plain.Carry else
    if bytes_eq w (codes "plain") then Some plain.Plain else
    if bytes_eq w (codes "pass") then Some plain.Pass else
    if bytes_eq w (codes "list") then Some plain.List else
    if bytes_eq w (codes "units") then Some plain.Units else
    if bytes_eq w (codes "bit") then Some plain.Bit else
    if bytes_eq w (codes "deferred") then Some plain.Deferred else
    if bytes_eq w (codes "pooldeferred") then Some plain.PoolDeferred else
    if bytes_eq w (codes "use") then Some plain.Use else
    if bytes_eq w (codes "lookups") then Some plain.Lookups else
    if bytes_eq w (codes "total") then Some plain.Totals else
    if bytes_eq w (codes "end") then Some plain.End else None

-- an entry of a list's journal
unfoldable pub is_entry : List ℕ → Bool
is_entry w = bytes_eq w (codes "add") || bytes_eq w (codes "look") || bytes_eq w (codes "drop") || bytes_eq w (codes "pin") || bytes_eq w (codes "unpin")
    || bytes_eq w (codes "scan") || bytes_eq w (codes "moved") || bytes_eq w (codes "closed") || bytes_eq w (codes "drained")

-- an entry of a pool's journal
unfoldable pub is_unit : List ℕ → Bool
is_unit w = bytes_eq w (codes "release") || bytes_eq w (codes "grab") || bytes_eq w (codes "reclaim")

-- the kind of another line
unfoldable pub within_kind_of : List ℕ → Option Kind
within_kind_of w =
    if is_entry w then Some kind.Entry else
    if bytes_eq w (codes "item") then Some kind.Item else
    if bytes_eq w (codes "reply") then Some kind.Reply else
    if bytes_eq w (codes "group") then Some kind.Group else
    if bytes_eq w (codes "cache") then Some kind.Cache else
    if bytes_eq w (codes "pool") then Some kind.Pool else
    if is_unit w then Some kind.Unit else None

abbrev either_kind : Option PlainKind → Option Kind → Option Kind
either_kind (Some k) other = Some (kind.Plain k)
either_kind None other = other

-- the kind of a line that begins with this word, if one does
abbrev pub line_kind : List ℕ → Option Kind
line_kind w = either_kind (plain_kind_of w) (within_kind_of w)

-- the head of a walk in the code's words
abbrev pub head_of : WalkHead → Head
head_of w = record { group = w.group; node = w.node; priority = w.priority; nofs = w.nofs; answer = w.answer }

-- the same of a walk of the pools, of an isolation, and of a pool on a node
abbrev pub plain_head_of : read.PlainHead → PlainHead
plain_head_of w = record { node = w.node; priority = w.priority; answer = w.answer }

-- what was read of an isolation, in the words of the draft
abbrev pub isolation_head_of : read.IsolationHead → IsolationHead
isolation_head_of i = record { place = i.place; budget = i.budget; visits = i.visits; freed = i.freed; ending = i.ending }

-- the same of a pool's journal
abbrev pub units_head_of : read.UnitsHead → UnitsHead
units_head_of u = record { pool = u.pool; node = u.node; free = u.free }

-- what a line of such a kind says, in a report of a version, by the words behind its first
abbrev pub plain_said : PlainKind → ℕ → List (List ℕ) → Said
plain_said plain.Version version ws = said.Version (n0 ws)
plain_said plain.Sizes version ws = said.Sizes (n0 ws) (n1 ws)
plain_said plain.Tree version ws = said.Tree (read_tree [] ws)
plain_said plain.Found version ws = said.Found (read_found [] ws)
plain_said plain.Isolation version ws = said.Isolation (isolation_head_of (read_isolation [] ws))
plain_said plain.Walk version ws = said.Walk (head_of (read_walk [] ws))
plain_said plain.Map version ws = said.Map (read_map [] ws)
plain_said plain.Try version ws = said.Try (read_attempt [] ws)
plain_said plain.Carry version ws = said.Carry (read_amount [] ws)
plain_said plain.Plain version ws = said.Plain (plain_head_of (read_plain [] ws))
plain_said plain.Pass version ws = said.Pass (read_pass_line [] ws)
plain_said plain.List version ws = said.List (read_list [] ws)
plain_said plain.Units version ws = said.Units (units_head_of (read_units [] ws))
plain_said plain.Bit version ws = said.Bit (read_bit version [] ws)
plain_said plain.Deferred version ws = said.Deferred (read_amount [] ws)
plain_said plain.PoolDeferred version ws = said.PoolDeferred (read_pool_amount [] ws)
plain_said plain.Use version ws = said.Use (read_use [] ws)
plain_said plain.Lookups version ws = said.Lookups (read_lookups [] ws)
plain_said plain.Totals version ws = said.Totals (n0 ws) (n1 ws) (n2 ws)
plain_said plain.End version ws = said.End

-- a line that begins with `pool` says the name of a pool of units where two words stand behind that, and else a registration
abbrev pub pool_said : List (List ℕ) → Said
pool_said ws = if is_none (later (later ws)) then said.PoolName (read_units_name [] ws) else said.Pool (read_pool [] ws)

-- what a line of a kind says, by its first word too
abbrev pub said_of : Kind → ℕ → List ℕ → List (List ℕ) → Said
said_of kind.Group version first ws = said.Group (read_group [] ws)
said_of kind.Cache version first ws = said.Cache (read_cache [] ws)
said_of kind.Pool version first ws = pool_said ws
said_of kind.Reply version first ws = said.Reply (n0 ws) (read_reply (later (later ws)))
said_of kind.Entry version first ws = said.Entry (read_entry first ws)
said_of kind.Item version first ws = said.Item (read_item [] ws)
said_of kind.Unit version first ws = said.Unit (read_plain_entry first ws)
said_of (kind.Plain k) version first ws = plain_said k version ws

-- what a line says in a report of a version, if it is of a kind
abbrev pub read_line : ℕ → List ℕ → Option Said
read_line version line = option_map (λ k. said_of k version (first_of (left 32 (Some line))) (later (left 32 (Some line)))) (line_kind (first_of (left 32 (Some line))))

-- the numbers of a walk's head have the ranges of their types
pub record IsHeadNumbered (h : Head) : Type 0 where
  pub group : IsShort h.group
  pub node : h.node < 2 ^ 8
  pub priority : h.priority < 2 ^ 8
  pub answer : IsWalkedNumbered h.answer

-- those of a walk of the pools
pub record IsPlainHeadNumbered (w : PlainHead) : Type 0 where
  pub node : w.node < 2 ^ 8
  pub priority : w.priority < 2 ^ 8
  pub answer : IsPlainAnswerNumbered w.answer

-- those of an isolation
pub record IsIsolationHeadNumbered (i : IsolationHead) : Type 0 where
  pub place : IsNumbered i.place
  pub budget : IsCountNumber i.budget
  pub visits : IsCountNumber i.visits
  pub freed : IsCountNumber i.freed
  pub ending : IsIsolateEndNumbered i.ending

-- those of a pool on a node
pub record AreUnitsHeadNumbered (u : UnitsHead) : Type 0 where
  pub pool : u.pool < 2 ^ 8
  pub node : u.node < 2 ^ 8
  pub free : IsCountNumber u.free

-- the numbers of what a line says have the ranges of their types
abbrev pub IsSaidNumbered : Said → Type 0
IsSaidNumbered (said.Version version) = version < 2 ^ 8
IsSaidNumbered (said.Sizes nodes ids) = (nodes < 2 ^ 8) × IsShort ids
IsSaidNumbered (said.Group path) = Unit {0}
IsSaidNumbered (said.Cache name) = Unit {0}
IsSaidNumbered (said.PoolName name) = Unit {0}
IsSaidNumbered (said.Pool entry) = IsPoolNumbered entry
IsSaidNumbered (said.Tree entry) = IsTreeNumbered entry
IsSaidNumbered (said.Reply worker reply) = IsShort worker × IsReplyNumbered reply
IsSaidNumbered (said.Found found) = IsFindNumbered (Some found)
IsSaidNumbered (said.Isolation head) = IsIsolationHeadNumbered head
IsSaidNumbered (said.Walk head) = IsHeadNumbered head
IsSaidNumbered (said.Map map) = IsSeenNumbered map
IsSaidNumbered (said.Try attempt) = IsAttemptNumbered attempt
IsSaidNumbered (said.Carry amount) = IsAmountNumbered amount
IsSaidNumbered (said.Plain head) = IsPlainHeadNumbered head
IsSaidNumbered (said.Pass came) = IsTryNumbered came
IsSaidNumbered (said.List place) = IsNumbered place
IsSaidNumbered (said.Entry entry) = IsEntryNumbered entry
IsSaidNumbered (said.Item item) = IsObjectNumbered item
IsSaidNumbered (said.Units head) = AreUnitsHeadNumbered head
IsSaidNumbered (said.Unit entry) = IsPlainEntryNumbered entry
IsSaidNumbered (said.Bit map) = IsMapNumbered map
IsSaidNumbered (said.Deferred amount) = IsAmountNumbered amount
IsSaidNumbered (said.PoolDeferred amount) = IsAmountNumbered amount
IsSaidNumbered (said.Use step) = IsUseNumbered step
IsSaidNumbered (said.Lookups lookups) = IsCountNumber lookups
IsSaidNumbered (said.Totals added freed listed) = IsBitWord added × IsBitWord freed × IsBitWord listed
IsSaidNumbered said.End = Unit {0}

-- what was found is what a line says; nothing was found only where it says nothing, or numbers that don't have the ranges of their types
abbrev pub IsReadOf : Option Said → Option Said → Type 0
IsReadOf (Some x) y = Some x ≡ y
IsReadOf None None = Unit {0}
IsReadOf None (Some y) = IsSaidNumbered y → ⊥
