-- SPDX-License-Identifier: GPL-2.0-only
-- The lines of pools of units and of isolations read back.
use Rattle.shr_report.proofs.Common.{◌≡◌, ℕ, ◌+◌, true, false, List, [], ◌∷◌, refl, sym, ap, codes, list_all, is_name, PlainEntry, PoolEntry, Isolation, PlainTry, PlainAnswer, PlaceAmount, line, numeral, isolate_end_words, pass_line, isolation_line, units_name_line, pool_entry_line, plain_entry_line, pool_deferred_line, read_pass_line, PlainHead, read_plain, IsolationHead, read_isolation, read_units_name, UnitsHead, read_units, read_pool_amount, plain_walked_words, plain_try_words}
use Rattle.shr_base.specs.declared.journals.PlainEntry.TheVariants as units
use Rattle.shr_base.specs.declared.journals.PoolEntry.TheVariants as pool
use Rattle.shr_base.specs.declared.walks.PlainTry.TheVariants as tried
use Rattle.shr_base.specs.declared.walks.PlainAnswer.TheVariants as plain
use Rattle.shr_report.specs.ReadLines.{read_try, read_plain_answer, read_plain_entry}
use Rattle.shr_report.proofs.Peel.{is_plain_word}
use Rattle.shr_report.proofs.Reading.{value, plain_numeral, plain_name}
use Rattle.shr_report.proofs.Printed.{Printed, printed, again_pass, plain_pass, again_isolate_end, plain_isolate_end}

again_try : (x : PlainTry) → read_try (plain_try_words x) ≡ x
unfolding read_try
again_try (tried.Empty version) = rw (value version) refl
again_try (tried.Skip len version) = rw (value len, value version) refl
again_try (tried.Ran p) = rw (again_pass p) refl

plain_try : (x : PlainTry) → list_all is_plain_word (plain_try_words x) ≡ true
unfolding is_plain_word
plain_try (tried.Empty version) = simp plain_numeral
plain_try (tried.Skip len version) = simp plain_numeral
plain_try (tried.Ran p) = plain_pass p

-- the line of what a walk of the pools came to at one pool reads back as it
pub printed_pass : (n : ℕ) (x : PlainTry) → Printed PlainTry read_pass_line x (pass_line n x)
unfolding is_plain_word
printed_pass n x = printed read_pass_line x (codes "pass") (numeral n ∷ plain_try_words x) (simp (plain_numeral, plain_try)) (again_try x)

again_answer : (a : PlainAnswer) → read_plain_answer (plain_walked_words a) ≡ a
unfolding read_plain_answer
again_answer (plain.Walked freed) = rw (value freed) refl
again_answer (plain.Memory freed) = rw (value freed) refl

plain_answer : (a : PlainAnswer) → list_all is_plain_word (plain_walked_words a) ≡ true
unfolding is_plain_word
plain_answer (plain.Walked freed) = simp plain_numeral
plain_answer (plain.Memory freed) = simp plain_numeral

-- what the first line of a walk of the pools says
abbrev pub plain_head_of : ℕ → ℕ → PlainAnswer → PlainHead
plain_head_of node priority a = record { node = node; priority = priority; answer = a }

-- the first line of a walk of the pools
abbrev pub plain_line : ℕ → ℕ → ℕ → PlainAnswer → List ℕ
plain_line n node priority a = line (codes "plain") (numeral n ∷ numeral node ∷ numeral priority ∷ plain_walked_words a)

-- it reads back as what it says
pub printed_plain : (n node priority : ℕ) (a : PlainAnswer) → Printed PlainHead read_plain (plain_head_of node priority a) (plain_line n node priority a)
unfolding is_plain_word
printed_plain n node priority a = printed read_plain (plain_head_of node priority a) (codes "plain") (numeral n ∷ numeral node ∷ numeral priority ∷ plain_walked_words a) (simp (plain_numeral, plain_answer)) (rw (value node, value priority, again_answer a) refl)

-- what the line of an isolation says
abbrev pub isolation_head_of : Isolation → IsolationHead
isolation_head_of i = record { place = i.place; budget = i.budget; visits = i.visits; freed = i.freed; ending = i.ending }

-- it reads back as that
pub printed_isolation : (i : Isolation) → Printed IsolationHead read_isolation (isolation_head_of i) (isolation_line i)
unfolding is_plain_word
printed_isolation i = printed read_isolation (isolation_head_of i) (codes "isolation") (numeral i.place.id ∷ numeral i.place.node ∷ numeral i.place.group ∷ numeral i.budget ∷ numeral i.visits ∷ numeral i.freed ∷ isolate_end_words i.ending) (simp (plain_numeral, plain_isolate_end))
    (rw (value i.place.id, value i.place.node, value i.place.group, value i.budget, value i.visits, value i.freed, again_isolate_end i.ending) refl)

-- the line of a pool of units reads back as its name
pub printed_units_name : (n : ℕ) (w : List ℕ) → is_name w ≡ true → Printed (List ℕ) read_units_name w (units_name_line n w)
unfolding is_plain_word
printed_units_name n w h = printed read_units_name w (codes "pool") (numeral n ∷ w ∷ []) (simp (plain_numeral, plain_name w h)) refl

-- the line of an entry of a pool's journal reads back as it
pub printed_plain_entry : (e : PlainEntry) → Printed PlainEntry read_plain_entry e (plain_entry_line e)
unfolding is_plain_word read_plain_entry
printed_plain_entry (units.Release by n) = printed read_plain_entry (units.Release by n) (codes "release") (numeral by.worker ∷ numeral by.command ∷ numeral n ∷ []) (simp plain_numeral) (simp value)
printed_plain_entry (units.Grab by true) = printed read_plain_entry (units.Grab by true) (codes "grab") (numeral by.worker ∷ numeral by.command ∷ codes "got" ∷ []) (simp plain_numeral) (simp value)
printed_plain_entry (units.Grab by false) = printed read_plain_entry (units.Grab by false) (codes "grab") (numeral by.worker ∷ numeral by.command ∷ codes "bare" ∷ []) (simp plain_numeral) (simp value)
printed_plain_entry (units.Reclaim worker walk asked freed) = printed read_plain_entry (units.Reclaim worker walk asked freed) (codes "reclaim") (numeral worker ∷ numeral walk ∷ numeral asked ∷ numeral freed ∷ []) (simp plain_numeral) (simp value)

-- what the first line of a pool on a node says
abbrev pub units_head_of : ℕ → ℕ → ℕ → UnitsHead
units_head_of pool node free = record { pool = pool; node = node; free = free }

-- the first line of a pool on a node
abbrev pub units_line : ℕ → ℕ → ℕ → List ℕ
units_line pool node free = line (codes "units") (numeral pool ∷ numeral node ∷ numeral free ∷ [])

-- it reads back as what it says
pub printed_units : (pool node free : ℕ) → Printed UnitsHead read_units (units_head_of pool node free) (units_line pool node free)
unfolding is_plain_word
printed_units pool node free = printed read_units (units_head_of pool node free) (codes "units") (numeral pool ∷ numeral node ∷ numeral free ∷ []) (simp plain_numeral) (simp value)

-- a place without its group
abbrev ungrouped : PlaceAmount → PlaceAmount
ungrouped d = record { place = record { id = d.place.id; node = d.place.node; group = 0 }; amount = d.amount }

abbrev with_group : PlaceAmount → ℕ → PlaceAmount
with_group d group = record { place = record { id = d.place.id; node = d.place.node; group = group }; amount = d.amount }

-- the line of a pool's deferred word reads back as it, since it has no group
pub printed_pool_deferred : (d : PlaceAmount) → d.place.group ≡ 0 → Printed PlaceAmount read_pool_amount d (pool_deferred_line d)
unfolding is_plain_word
printed_pool_deferred d none = printed read_pool_amount d (codes "pooldeferred") (numeral d.place.id ∷ numeral d.place.node ∷ numeral d.amount ∷ []) (simp plain_numeral)
    (rw (value d.place.id, value d.place.node, value d.amount) (ap (with_group d) (sym none)))

-- how many words a line has behind its first
abbrev pub count_words : List ℕ → List (List ℕ) → ℕ
count_words f [] = 0
count_words f (w ∷ ws) = 1 + count_words f ws

-- the line of a pool of units has two
pub counted_name : (n : ℕ) (w : List ℕ) → is_name w ≡ true → Printed ℕ count_words 2 (units_name_line n w)
unfolding is_plain_word
counted_name n w h = printed count_words 2 (codes "pool") (numeral n ∷ w ∷ []) (simp (plain_numeral, plain_name w h)) refl

-- that of an entry of the journal of registrations has more
pub words_of : PoolEntry → ℕ
words_of (pool.Registered decl id from) = 5
words_of (pool.Unregistered decl id to) = 5
words_of (pool.Idle id) = 3

pub counted_pool : (n : ℕ) (e : PoolEntry) → Printed ℕ count_words (words_of e) (pool_entry_line n e)
unfolding is_plain_word words_of
counted_pool n (pool.Registered decl id from) = printed count_words 5 (codes "pool") (numeral n ∷ codes "registered" ∷ numeral decl ∷ numeral id ∷ numeral from ∷ []) (simp plain_numeral) refl
counted_pool n (pool.Unregistered decl id to) = printed count_words 5 (codes "pool") (numeral n ∷ codes "unregistered" ∷ numeral decl ∷ numeral id ∷ numeral to ∷ []) (simp plain_numeral) refl
counted_pool n (pool.Idle id) = printed count_words 3 (codes "pool") (numeral n ∷ codes "idle" ∷ numeral id ∷ []) (simp plain_numeral) refl

pub not_two : (e : PoolEntry) → words_of e ≡ 2 → ⊥
unfolding words_of
not_two (pool.Registered decl id from) h = cc
not_two (pool.Unregistered decl id to) h = cc
not_two (pool.Idle id) h = cc
