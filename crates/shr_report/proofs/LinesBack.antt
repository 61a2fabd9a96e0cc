-- SPDX-License-Identifier: GPL-2.0-only
-- The lines of a report read back.
use Rattle.shr_report.proofs.Common.{◌≡◌, ℕ, Bool, true, false, List, [], ◌∷◌, ◌⊎◌, inl, inr, refl, sym, ap, subst, codes, ℤ, list_all, is_key, is_value, is_name, is_path, Place, Serial, Object, Plain, Clock, Entry, PoolEntry, TreeEntry, UseStep, Found, Reply, Attempt, MapSeen, WalkAnswer, Carry, PlaceAmount, MapEnd, line, hex, numeral, signed_numeral, spent_words, why_words, isolate_end_words, reply_line, place_words, pass_words, attempt_line, map_line, carry_line, numbered_group_line, numbered_cache_line, pool_entry_line, tree_line, entry_line, item_line, bit_line, deferred_line, use_line, lookups_line, HasWords, LendsWord, IsSpelled, IsBitWord, read_reply_line, read_found, read_group, read_cache, read_pool, read_tree, read_attempt, read_map, WalkHead, read_walk, read_amount, read_list, read_bit, read_use, read_lookups, Totals, totals, read_total, read_version, read_size, read_item, Halt, choice, value_word, walked_words}
use Rattle.shr_base.specs.declared.journals.DropKind.TheVariants as kind
use Rattle.shr_base.specs.declared.journals.Entry.TheVariants as entry
use Rattle.shr_base.specs.declared.journals.PoolEntry.TheVariants as pool
use Rattle.shr_base.specs.declared.journals.TreeEntry.TheVariants as tree
use Rattle.shr_base.specs.declared.replies.Reply.TheVariants as reply
use Rattle.shr_base.specs.declared.walks.GoneThen.TheVariants as gone
use Rattle.shr_base.specs.declared.walks.Outcome.{Outcome}
use Rattle.shr_base.specs.declared.walks.Outcome.TheVariants as outcome
use Rattle.shr_base.specs.declared.walks.WalkAnswer.TheVariants as answer
use Rattle.shr_report.proofs.Peel.{is_plain_word}
use Rattle.shr_report.proofs.Reading.{value, hex_value, signed_value, plain_numeral, plain_key, plain_value, plain_name, plain_path, plain_hex, plain_signed}
use Rattle.shr_report.proofs.Printed.{again_spent, plain_spent, again_why, plain_why, again_isolate_end, plain_isolate_end, again_pass, plain_ending, Printed, printed}
use Rattle.shr_report.specs.ReadLines.{read_reply, read_outcome, read_walked, bits_of, read_kind, read_policy, read_entry, object_of}

-- the line of a reply reads back as that reply
pub printed_reply : (worker command : ℕ) (r : Reply) → LendsWord r → Printed (ℕ × Reply) read_reply_line (worker, r) (reply_line worker command r)
unfolding is_plain_word read_reply
printed_reply worker command (reply.Added at) k = printed read_reply_line (worker, (reply.Added at)) (codes "reply") (numeral worker ∷ numeral command ∷ codes "added" ∷ numeral at.place.id ∷ numeral at.place.node ∷ numeral at.place.group ∷ numeral at.entry ∷ []) (simp plain_numeral) (simp value)
printed_reply worker command (reply.Exists at) k = printed read_reply_line (worker, (reply.Exists at)) (codes "reply") (numeral worker ∷ numeral command ∷ codes "exists" ∷ numeral at.place.id ∷ numeral at.place.node ∷ numeral at.place.group ∷ numeral at.entry ∷ []) (simp plain_numeral) (simp value)
printed_reply worker command (reply.Miss at) k = printed read_reply_line (worker, (reply.Miss at)) (codes "reply") (numeral worker ∷ numeral command ∷ codes "miss" ∷ numeral at.place.id ∷ numeral at.place.node ∷ numeral at.place.group ∷ numeral at.entry ∷ []) (simp plain_numeral) (simp value)
printed_reply worker command (reply.Dropped at) k = printed read_reply_line (worker, (reply.Dropped at)) (codes "reply") (numeral worker ∷ numeral command ∷ codes "dropped" ∷ numeral at.place.id ∷ numeral at.place.node ∷ numeral at.place.group ∷ numeral at.entry ∷ []) (simp plain_numeral) (simp value)
printed_reply worker command (reply.Pinned at) k = printed read_reply_line (worker, (reply.Pinned at)) (codes "reply") (numeral worker ∷ numeral command ∷ codes "pinned" ∷ numeral at.place.id ∷ numeral at.place.node ∷ numeral at.place.group ∷ numeral at.entry ∷ []) (simp plain_numeral) (simp value)
printed_reply worker command (reply.Done at) k = printed read_reply_line (worker, (reply.Done at)) (codes "reply") (numeral worker ∷ numeral command ∷ codes "done" ∷ numeral at.place.id ∷ numeral at.place.node ∷ numeral at.place.group ∷ numeral at.entry ∷ []) (simp plain_numeral) (simp value)
printed_reply worker command (reply.Hit at bytes) k = printed read_reply_line (worker, (reply.Hit at bytes)) (codes "reply") (numeral worker ∷ numeral command ∷ codes "hit" ∷ numeral at.place.id ∷ numeral at.place.node ∷ numeral at.place.group ∷ numeral at.entry ∷ value_word bytes ∷ []) (simp (plain_numeral, plain_value bytes k)) (simp value)
printed_reply worker command (reply.Offline entry) k = printed read_reply_line (worker, (reply.Offline entry)) (codes "reply") (numeral worker ∷ numeral command ∷ codes "offline" ∷ numeral entry ∷ []) (simp plain_numeral) (simp value)
printed_reply worker command (reply.Over group operation usage) k = printed read_reply_line (worker, (reply.Over group operation usage)) (codes "reply") (numeral worker ∷ numeral command ∷ codes "over" ∷ numeral group ∷ numeral operation ∷ numeral usage ∷ []) (simp plain_numeral) (simp value)
printed_reply worker command (reply.NoCache entry) k = printed read_reply_line (worker, (reply.NoCache entry)) (codes "reply") (numeral worker ∷ numeral command ∷ codes "nocache" ∷ numeral entry ∷ []) (simp plain_numeral) (simp value)
printed_reply worker command (reply.Worn s) k = printed read_reply_line (worker, (reply.Worn s)) (codes "reply") (numeral worker ∷ numeral command ∷ codes "worn" ∷ spent_words s) (simp (plain_numeral, plain_spent)) (rw (value worker, again_spent s) refl)
printed_reply worker command reply.Memory k = printed read_reply_line (worker, reply.Memory) (codes "reply") (numeral worker ∷ numeral command ∷ codes "memory" ∷ []) (simp plain_numeral) (simp value)
printed_reply worker command (reply.Walked freed) k = printed read_reply_line (worker, (reply.Walked freed)) (codes "reply") (numeral worker ∷ numeral command ∷ codes "walked" ∷ numeral freed ∷ []) (simp plain_numeral) (simp value)
printed_reply worker command (reply.WalkMemory freed) k = printed read_reply_line (worker, (reply.WalkMemory freed)) (codes "reply") (numeral worker ∷ numeral command ∷ codes "memory" ∷ numeral freed ∷ []) (simp plain_numeral) (simp value)
printed_reply worker command (reply.OfflineDone entry moved deferred) k = printed read_reply_line (worker, (reply.OfflineDone entry moved deferred)) (codes "reply") (numeral worker ∷ numeral command ∷ codes "done" ∷ numeral entry ∷ numeral moved ∷ numeral deferred ∷ []) (simp plain_numeral) (simp value)
printed_reply worker command (reply.AlreadyDone entry) k = printed read_reply_line (worker, (reply.AlreadyDone entry)) (codes "reply") (numeral worker ∷ numeral command ∷ codes "alreadydone" ∷ numeral entry ∷ []) (simp plain_numeral) (simp value)
printed_reply worker command reply.Root k = printed read_reply_line (worker, reply.Root) (codes "reply") (numeral worker ∷ numeral command ∷ codes "root" ∷ []) (simp plain_numeral) (simp value)
printed_reply worker command (reply.HasChildren child entry) k = printed read_reply_line (worker, (reply.HasChildren child entry)) (codes "reply") (numeral worker ∷ numeral command ∷ codes "haschildren" ∷ numeral child ∷ numeral entry ∷ []) (simp plain_numeral) (simp value)
printed_reply worker command (reply.Registered id entry) k = printed read_reply_line (worker, (reply.Registered id entry)) (codes "reply") (numeral worker ∷ numeral command ∷ codes "registered" ∷ numeral id ∷ numeral entry ∷ []) (simp plain_numeral) (simp value)
printed_reply worker command (reply.AlreadyRegistered entry) k = printed read_reply_line (worker, (reply.AlreadyRegistered entry)) (codes "reply") (numeral worker ∷ numeral command ∷ codes "alreadyregistered" ∷ numeral entry ∷ []) (simp plain_numeral) (simp value)
printed_reply worker command (reply.NoId entry) k = printed read_reply_line (worker, (reply.NoId entry)) (codes "reply") (numeral worker ∷ numeral command ∷ codes "noid" ∷ numeral entry ∷ []) (simp plain_numeral) (simp value)
printed_reply worker command (reply.Freed id entry from to objects) k = printed read_reply_line (worker, (reply.Freed id entry from to objects)) (codes "reply") (numeral worker ∷ numeral command ∷ codes "freed" ∷ numeral id ∷ numeral entry ∷ numeral from ∷ numeral to ∷ numeral objects ∷ []) (simp plain_numeral) (simp value)
printed_reply worker command (reply.Half id entry from to objects w) k = printed read_reply_line (worker, (reply.Half id entry from to objects w)) (codes "reply") (numeral worker ∷ numeral command ∷ codes "half" ∷ numeral id ∷ numeral entry ∷ numeral from ∷ numeral to ∷ numeral objects ∷ why_words w) (simp (plain_numeral, plain_why)) (rw (value worker, value id, value entry, value from, value to, value objects, again_why w) refl)
printed_reply worker command (reply.Made entry) k = printed read_reply_line (worker, (reply.Made entry)) (codes "reply") (numeral worker ∷ numeral command ∷ codes "made" ∷ numeral entry ∷ []) (simp plain_numeral) (simp value)
printed_reply worker command (reply.AlreadyMade entry) k = printed read_reply_line (worker, (reply.AlreadyMade entry)) (codes "reply") (numeral worker ∷ numeral command ∷ codes "alreadymade" ∷ numeral entry ∷ []) (simp plain_numeral) (simp value)
printed_reply worker command (reply.NotMade group) k = printed read_reply_line (worker, (reply.NotMade group)) (codes "reply") (numeral worker ∷ numeral command ∷ codes "notmade" ∷ numeral group ∷ []) (simp plain_numeral) (simp value)
printed_reply worker command (reply.Isolated visits freed e) k = printed read_reply_line (worker, (reply.Isolated visits freed e)) (codes "reply") (numeral worker ∷ numeral command ∷ codes "isolated" ∷ numeral visits ∷ numeral freed ∷ isolate_end_words e) (simp (plain_numeral, plain_isolate_end)) (rw (value worker, value visits, value freed, again_isolate_end e) refl)
printed_reply worker command (reply.Released pool node entry) k = printed read_reply_line (worker, (reply.Released pool node entry)) (codes "reply") (numeral worker ∷ numeral command ∷ codes "released" ∷ numeral pool ∷ numeral node ∷ numeral entry ∷ []) (simp plain_numeral) (simp value)
printed_reply worker command (reply.Full pool node entries free) k = printed read_reply_line (worker, (reply.Full pool node entries free)) (codes "reply") (numeral worker ∷ numeral command ∷ codes "full" ∷ numeral pool ∷ numeral node ∷ numeral entries ∷ numeral free ∷ []) (simp plain_numeral) (simp value)
printed_reply worker command (reply.Grabbed pool node entry) k = printed read_reply_line (worker, (reply.Grabbed pool node entry)) (codes "reply") (numeral worker ∷ numeral command ∷ codes "grabbed" ∷ numeral pool ∷ numeral node ∷ numeral entry ∷ []) (simp plain_numeral) (simp value)
printed_reply worker command (reply.Bare pool node entry) k = printed read_reply_line (worker, (reply.Bare pool node entry)) (codes "reply") (numeral worker ∷ numeral command ∷ codes "bare" ∷ numeral pool ∷ numeral node ∷ numeral entry ∷ []) (simp plain_numeral) (simp value)
printed_reply worker command (reply.Swept jobs freed) k = printed read_reply_line (worker, (reply.Swept jobs freed)) (codes "reply") (numeral worker ∷ numeral command ∷ codes "swept" ∷ numeral jobs ∷ numeral freed ∷ []) (simp plain_numeral) (simp value)

-- the line of a found cache reads back as it
pub printed_found : (f : Found) → Printed Found read_found f (line (codes "find") (numeral f.id ∷ numeral f.number ∷ numeral f.entry ∷ []))
unfolding is_plain_word
printed_found f = printed read_found f (codes "find") (numeral f.id ∷ numeral f.number ∷ numeral f.entry ∷ []) (simp plain_numeral) (simp value)

-- the line of a group reads back as its path
pub printed_group : (n : ℕ) (w : List ℕ) → is_path w ≡ true → Printed (List ℕ) read_group w (numbered_group_line n w)
unfolding is_plain_word
printed_group n w h = printed read_group w (codes "group") (numeral n ∷ w ∷ []) (simp (plain_numeral, plain_path w h)) refl

-- the line of a cache reads back as its name
pub printed_cache : (n : ℕ) (w : List ℕ) → is_name w ≡ true → Printed (List ℕ) read_cache w (numbered_cache_line n w)
unfolding is_plain_word
printed_cache n w h = printed read_cache w (codes "cache") (numeral n ∷ w ∷ []) (simp (plain_numeral, plain_name w h)) refl

-- the line of such an entry reads back as it
pub printed_pool : (n : ℕ) (e : PoolEntry) → Printed PoolEntry read_pool e (pool_entry_line n e)
unfolding is_plain_word
printed_pool n (pool.Registered decl id from) = printed read_pool (pool.Registered decl id from) (codes "pool") (numeral n ∷ codes "registered" ∷ numeral decl ∷ numeral id ∷ numeral from ∷ []) (simp plain_numeral) (simp value)
printed_pool n (pool.Unregistered decl id to) = printed read_pool (pool.Unregistered decl id to) (codes "pool") (numeral n ∷ codes "unregistered" ∷ numeral decl ∷ numeral id ∷ numeral to ∷ []) (simp plain_numeral) (simp value)
printed_pool n (pool.Idle id) = printed read_pool (pool.Idle id) (codes "pool") (numeral n ∷ codes "idle" ∷ numeral id ∷ []) (simp plain_numeral) (simp value)

-- the line of such an entry reads back as it
pub printed_tree : (n : ℕ) (e : TreeEntry) → Printed TreeEntry read_tree e (tree_line n e)
unfolding is_plain_word
printed_tree n (tree.Begin group) = printed read_tree (tree.Begin group) (codes "tree") (numeral n ∷ codes "begin" ∷ numeral group ∷ []) (simp plain_numeral) (simp value)
printed_tree n (tree.Done group) = printed read_tree (tree.Done group) (codes "tree") (numeral n ∷ codes "done" ∷ numeral group ∷ []) (simp plain_numeral) (simp value)
printed_tree n (tree.Made group) = printed read_tree (tree.Made group) (codes "tree") (numeral n ∷ codes "made" ∷ numeral group ∷ []) (simp plain_numeral) (simp value)

abbrev attempt_of : ℕ → Outcome → Attempt
attempt_of id o = record { id = id; outcome = o }

printed_outcome : (id : ℕ) (o : Outcome) → Printed Attempt read_attempt (attempt_of id o) (attempt_line (attempt_of id o))
unfolding is_plain_word read_outcome
printed_outcome id (outcome.Worn seen) = printed read_attempt (attempt_of id (outcome.Worn seen)) (codes "try") (numeral id ∷ codes "worn" ∷ numeral seen ∷ []) (simp plain_numeral) (simp value)
printed_outcome id (outcome.Skip number len version) = printed read_attempt (attempt_of id (outcome.Skip number len version)) (codes "try") (numeral id ∷ numeral number ∷ codes "held" ∷ codes "skip" ∷ numeral len ∷ numeral version ∷ []) (simp plain_numeral) (simp value)
printed_outcome id (outcome.Ran number p) = printed read_attempt (attempt_of id (outcome.Ran number p)) (codes "try") (numeral id ∷ numeral number ∷ codes "held" ∷ codes "ran" ∷ pass_words p) (simp (plain_numeral, plain_ending)) (rw (value id, value number, again_pass p) refl)
printed_outcome id (outcome.Empty number version) = printed read_attempt (attempt_of id (outcome.Empty number version)) (codes "try") (numeral id ∷ numeral number ∷ codes "held" ∷ codes "empty" ∷ numeral version ∷ []) (simp plain_numeral) (simp value)
printed_outcome id (outcome.Cleared number first second) = printed read_attempt (attempt_of id (outcome.Cleared number first second)) (codes "try") (numeral id ∷ numeral number ∷ codes "held" ∷ codes "cleared" ∷ numeral first ∷ numeral second ∷ []) (simp plain_numeral) (simp value)
printed_outcome id (outcome.RestoredSkip number first len version) = printed read_attempt (attempt_of id (outcome.RestoredSkip number first len version)) (codes "try") (numeral id ∷ numeral number ∷ codes "held" ∷ codes "restored" ∷ numeral first ∷ codes "skip" ∷ numeral len ∷ numeral version ∷ []) (simp plain_numeral) (simp value)
printed_outcome id (outcome.RestoredRan number first p) = printed read_attempt (attempt_of id (outcome.RestoredRan number first p)) (codes "try") (numeral id ∷ numeral number ∷ codes "held" ∷ codes "restored" ∷ numeral first ∷ codes "ran" ∷ pass_words p) (simp (plain_numeral, plain_ending)) (rw (value id, value number, value first, again_pass p) refl)
printed_outcome id (outcome.Gone number gone.Set) = printed read_attempt (attempt_of id (outcome.Gone number gone.Set)) (codes "try") (numeral id ∷ numeral number ∷ codes "gone" ∷ codes "set" ∷ []) (simp plain_numeral) (simp value)
printed_outcome id (outcome.Gone number gone.Clear) = printed read_attempt (attempt_of id (outcome.Gone number gone.Clear)) (codes "try") (numeral id ∷ numeral number ∷ codes "gone" ∷ codes "clear" ∷ []) (simp plain_numeral) (simp value)
printed_outcome id (outcome.Gone number gone.Root) = printed read_attempt (attempt_of id (outcome.Gone number gone.Root)) (codes "try") (numeral id ∷ numeral number ∷ codes "gone" ∷ codes "root" ∷ []) (simp plain_numeral) (simp value)

-- the line of an attempt reads back as it
pub printed_attempt : (a : Attempt) → Printed Attempt read_attempt a (attempt_line a)
printed_attempt a = printed_outcome a.id a.outcome

-- the line of a map reads back as it
pub printed_map : (m : MapSeen) → IsBitWord m.bits → Printed MapSeen read_map m (map_line m)
unfolding is_plain_word
printed_map m h = printed read_map m (codes "map") (numeral m.unit ∷ hex m.bits ∷ []) (simp (plain_numeral, plain_hex)) (rw (value m.unit, hex_value m.bits h) refl)

again_walked : (a : WalkAnswer) → read_walked (walked_words a) ≡ a
unfolding read_walked
again_walked (answer.Walked freed) = rw (value freed) refl
again_walked (answer.Offline entry) = rw (value entry) refl
again_walked (answer.Memory freed) = rw (value freed) refl

plain_walked : (a : WalkAnswer) → list_all is_plain_word (walked_words a) ≡ true
unfolding is_plain_word
plain_walked (answer.Walked freed) = simp plain_numeral
plain_walked (answer.Offline entry) = simp plain_numeral
plain_walked (answer.Memory freed) = simp plain_numeral

-- what the first line of a walk says
abbrev pub head_of : ℕ → ℕ → ℕ → Bool → WalkAnswer → WalkHead
head_of group node priority nofs a = record { group = group; node = node; priority = priority; nofs = nofs; answer = a }

-- the first line of a walk
abbrev pub walk_line : ℕ → ℕ → ℕ → ℕ → Bool → WalkAnswer → List ℕ
walk_line n group node priority nofs a = line (codes "walk") (numeral n ∷ numeral group ∷ numeral node ∷ numeral priority ∷ choice nofs (codes "nofs") (codes "fs") ∷ walked_words a)

-- the first line of a walk reads back as what it says
pub printed_walk : (n group node priority : ℕ) (nofs : Bool) (a : WalkAnswer)
    → Printed WalkHead read_walk (head_of group node priority nofs a) (walk_line n group node priority nofs a)
unfolding is_plain_word
printed_walk n group node priority true a = printed read_walk (head_of group node priority true a) (codes "walk") (numeral n ∷ numeral group ∷ numeral node ∷ numeral priority ∷ codes "nofs" ∷ walked_words a) (simp (plain_numeral, plain_walked)) (rw (value group, value node, value priority, again_walked a) refl)
printed_walk n group node priority false a = printed read_walk (head_of group node priority false a) (codes "walk") (numeral n ∷ numeral group ∷ numeral node ∷ numeral priority ∷ codes "fs" ∷ walked_words a) (simp (plain_numeral, plain_walked)) (rw (value group, value node, value priority, again_walked a) refl)

-- the amount of a carry, at its place
abbrev pub amount_of : Carry → PlaceAmount
amount_of c = record { place = c.place; amount = c.amount }

-- the line of a carry reads back as its amount
pub printed_carry : (c : Carry) → Printed PlaceAmount read_amount (amount_of c) (carry_line c)
unfolding is_plain_word
printed_carry c = printed read_amount (amount_of c) (codes "carry") (numeral c.place.id ∷ numeral c.place.node ∷ numeral c.place.group ∷ numeral c.amount ∷ []) (simp plain_numeral) (simp value)

-- the line of a deferred word reads back as it
pub printed_deferred : (c : PlaceAmount) → Printed PlaceAmount read_amount c (deferred_line c)
unfolding is_plain_word
printed_deferred c = printed read_amount c (codes "deferred") (numeral c.place.id ∷ numeral c.place.node ∷ numeral c.place.group ∷ numeral c.amount ∷ []) (simp plain_numeral) (simp value)

-- the first line of a list reads back as its place
pub printed_list : (p : Place) → Printed Place read_list p (line (codes "list") (place_words p))
unfolding is_plain_word
printed_list p = printed read_list p (codes "list") (numeral p.id ∷ numeral p.node ∷ numeral p.group ∷ []) (simp plain_numeral) (simp value)

-- what a bit word is, for its line to say it in a version
pub record IsPrintable (version : ℕ) (m : MapEnd) : Type 0 where
  pub bits : IsBitWord m.bits
  pub unit : version ≡ 1 → m.unit ≡ 0

-- the line of a bit word reads back as it; version 1 doesn't print its unit, which is 0
pub printed_bit : (version : ℕ) (m : MapEnd) → (version ≡ 1) ⊎ (version ≡ 2) → IsPrintable version m → Printed MapEnd (read_bit version) m (bit_line version m)
unfolding is_plain_word
printed_bit version m (inl e) h = subst (λ v. Printed MapEnd (read_bit v) m (bit_line v m)) (sym e)
    (printed (read_bit 1) m (codes "bit") (numeral m.node ∷ numeral m.group ∷ hex m.bits ∷ []) (simp (plain_numeral, plain_hex)) (rw (value m.node, value m.group, hex_value m.bits h.bits) (ap (λ (u : ℕ). bits_of m.node m.group u m.bits) (sym (h.unit e)))))
printed_bit version m (inr e) h = subst (λ v. Printed MapEnd (read_bit v) m (bit_line v m)) (sym e)
    (printed (read_bit 2) m (codes "bit") (numeral m.node ∷ numeral m.group ∷ numeral m.unit ∷ hex m.bits ∷ []) (simp (plain_numeral, plain_hex)) (rw (value m.node, value m.group, value m.unit, hex_value m.bits h.bits) refl))

abbrev step_of : ℕ → ℕ → Bool → ℤ → Serial → UseStep
step_of group operation up found by = record { group = group; operation = operation; up = up; found = found; by = by }

printed_step : (group operation : ℕ) (up : Bool) (found : ℤ) (by : Serial) → Printed UseStep read_use (step_of group operation up found by) (use_line (step_of group operation up found by))
unfolding is_plain_word
printed_step group operation true found by = printed read_use (step_of group operation true found by) (codes "use") (numeral group ∷ numeral operation ∷ codes "+" ∷ signed_numeral found ∷ numeral by.worker ∷ numeral by.command ∷ []) (simp (plain_numeral, plain_signed)) (rw (value group, value operation, signed_value found, value by.worker, value by.command) refl)
printed_step group operation false found by = printed read_use (step_of group operation false found by) (codes "use") (numeral group ∷ numeral operation ∷ codes "-" ∷ signed_numeral found ∷ numeral by.worker ∷ numeral by.command ∷ []) (simp (plain_numeral, plain_signed)) (rw (value group, value operation, signed_value found, value by.worker, value by.command) refl)

-- the line of a charge or uncharge reads back as it
pub printed_use : (u : UseStep) → Printed UseStep read_use u (use_line u)
printed_use u = printed_step u.group u.operation u.up u.found u.by

-- the line of an id's lookups reads back as their number
pub printed_lookups : (id n : ℕ) → Printed ℕ read_lookups n (lookups_line id n)
unfolding is_plain_word
printed_lookups id n = printed read_lookups n (codes "lookups") (numeral id ∷ numeral n ∷ []) (simp plain_numeral) (simp value)

-- the line of totals reads back as them
pub printed_total : (added freed listed replies walks : ℕ)
    → Printed Totals read_total (totals added freed listed) (line (codes "total") (numeral added ∷ numeral freed ∷ numeral listed ∷ numeral replies ∷ numeral walks ∷ []))
unfolding is_plain_word
printed_total added freed listed replies walks = printed read_total (totals added freed listed) (codes "total") (numeral added ∷ numeral freed ∷ numeral listed ∷ numeral replies ∷ numeral walks ∷ []) (simp plain_numeral) (simp value)

-- the first line of a report reads back as its version
pub printed_version : (version : ℕ) → Printed ℕ read_version version (line (codes "report") (numeral version ∷ []))
unfolding is_plain_word
printed_version version = printed read_version version (codes "report") (numeral version ∷ []) (simp plain_numeral) (simp value)

-- the line of the size reads back as its two numbers
pub printed_size : (nodes ids : ℕ) → Printed Totals read_size (totals nodes ids 0) (line (codes "size") (numeral nodes ∷ numeral ids ∷ []))
unfolding is_plain_word
printed_size nodes ids = printed read_size (totals nodes ids 0) (codes "size") (numeral nodes ∷ numeral ids ∷ []) (simp plain_numeral) (simp value)

-- the line of an entry reads back as it
pub printed_entry : (e : Entry) → HasWords e → Printed Entry read_entry e (entry_line e)
unfolding is_plain_word read_entry read_kind read_policy
printed_entry (entry.Add by birth true key bytes) k = printed read_entry (entry.Add by birth true key bytes) (codes "add") (numeral by.worker ∷ numeral by.command ∷ numeral birth ∷ key ∷ value_word bytes ∷ codes "added" ∷ []) (simp (plain_numeral, plain_key key k.0, plain_value bytes k.1)) (simp value)
printed_entry (entry.Add by birth false key bytes) k = printed read_entry (entry.Add by birth false key bytes) (codes "add") (numeral by.worker ∷ numeral by.command ∷ numeral birth ∷ key ∷ value_word bytes ∷ codes "exists" ∷ []) (simp (plain_numeral, plain_key key k.0, plain_value bytes k.1)) (simp value)
printed_entry (entry.Look by birth key true) k = printed read_entry (entry.Look by birth key true) (codes "look") (numeral by.worker ∷ numeral by.command ∷ numeral birth ∷ key ∷ codes "hit" ∷ []) (simp (plain_numeral, plain_key key k)) (simp value)
printed_entry (entry.Look by birth key false) k = printed read_entry (entry.Look by birth key false) (codes "look") (numeral by.worker ∷ numeral by.command ∷ numeral birth ∷ key ∷ codes "miss" ∷ []) (simp (plain_numeral, plain_key key k)) (simp value)
printed_entry (entry.Drop by birth key kind.Dropped) k = printed read_entry (entry.Drop by birth key kind.Dropped) (codes "drop") (numeral by.worker ∷ numeral by.command ∷ numeral birth ∷ key ∷ codes "dropped" ∷ []) (simp (plain_numeral, plain_key key k)) (simp value)
printed_entry (entry.Drop by birth key kind.Pinned) k = printed read_entry (entry.Drop by birth key kind.Pinned) (codes "drop") (numeral by.worker ∷ numeral by.command ∷ numeral birth ∷ key ∷ codes "pinned" ∷ []) (simp (plain_numeral, plain_key key k)) (simp value)
printed_entry (entry.Drop by birth key kind.Miss) k = printed read_entry (entry.Drop by birth key kind.Miss) (codes "drop") (numeral by.worker ∷ numeral by.command ∷ numeral birth ∷ key ∷ codes "miss" ∷ []) (simp (plain_numeral, plain_key key k)) (simp value)
printed_entry (entry.Pin by birth key true true) k = printed read_entry (entry.Pin by birth key true true) (codes "pin") (numeral by.worker ∷ numeral by.command ∷ numeral birth ∷ key ∷ codes "done" ∷ []) (simp (plain_numeral, plain_key key k)) (simp value)
printed_entry (entry.Pin by birth key true false) k = printed read_entry (entry.Pin by birth key true false) (codes "pin") (numeral by.worker ∷ numeral by.command ∷ numeral birth ∷ key ∷ codes "miss" ∷ []) (simp (plain_numeral, plain_key key k)) (simp value)
printed_entry (entry.Pin by birth key false true) k = printed read_entry (entry.Pin by birth key false true) (codes "unpin") (numeral by.worker ∷ numeral by.command ∷ numeral birth ∷ key ∷ codes "done" ∷ []) (simp (plain_numeral, plain_key key k)) (simp value)
printed_entry (entry.Pin by birth key false false) k = printed read_entry (entry.Pin by birth key false false) (codes "unpin") (numeral by.worker ∷ numeral by.command ∷ numeral birth ∷ key ∷ codes "miss" ∷ []) (simp (plain_numeral, plain_key key k)) (simp value)
printed_entry (entry.Scan worker walk asked Plain visits freed true) k = printed read_entry (entry.Scan worker walk asked Plain visits freed true) (codes "scan") (numeral worker ∷ numeral walk ∷ numeral asked ∷ codes "plain" ∷ numeral visits ∷ numeral freed ∷ codes "stopped" ∷ []) (simp plain_numeral) (simp value)
printed_entry (entry.Scan worker walk asked Plain visits freed false) k = printed read_entry (entry.Scan worker walk asked Plain visits freed false) (codes "scan") (numeral worker ∷ numeral walk ∷ numeral asked ∷ codes "plain" ∷ numeral visits ∷ numeral freed ∷ codes "whole" ∷ []) (simp plain_numeral) (simp value)
printed_entry (entry.Scan worker walk asked Clock visits freed true) k = printed read_entry (entry.Scan worker walk asked Clock visits freed true) (codes "scan") (numeral worker ∷ numeral walk ∷ numeral asked ∷ codes "clock" ∷ numeral visits ∷ numeral freed ∷ codes "stopped" ∷ []) (simp plain_numeral) (simp value)
printed_entry (entry.Scan worker walk asked Clock visits freed false) k = printed read_entry (entry.Scan worker walk asked Clock visits freed false) (codes "scan") (numeral worker ∷ numeral walk ∷ numeral asked ∷ codes "clock" ∷ numeral visits ∷ numeral freed ∷ codes "whole" ∷ []) (simp plain_numeral) (simp value)
printed_entry (entry.Scan worker walk asked Halt visits freed true) k = printed read_entry (entry.Scan worker walk asked Halt visits freed true) (codes "scan") (numeral worker ∷ numeral walk ∷ numeral asked ∷ codes "halt" ∷ numeral visits ∷ numeral freed ∷ codes "stopped" ∷ []) (simp plain_numeral) (simp value)
printed_entry (entry.Scan worker walk asked Halt visits freed false) k = printed read_entry (entry.Scan worker walk asked Halt visits freed false) (codes "scan") (numeral worker ∷ numeral walk ∷ numeral asked ∷ codes "halt" ∷ numeral visits ∷ numeral freed ∷ codes "whole" ∷ []) (simp plain_numeral) (simp value)
printed_entry (entry.MovedIn child objects) k = printed read_entry (entry.MovedIn child objects) (codes "moved") (numeral child ∷ numeral objects ∷ []) (simp plain_numeral) (simp value)
printed_entry entry.Closed k = printed read_entry entry.Closed (codes "closed") ([]) (refl) (refl)
printed_entry (entry.Drained by objects) k = printed read_entry (entry.Drained by objects) (codes "drained") (numeral by.worker ∷ numeral by.command ∷ numeral objects ∷ []) (simp plain_numeral) (simp value)

printed_object : (by : Serial) (birth : ℕ) (key value : List ℕ) (marked pinned : Bool) → is_key key ≡ true → is_value value ≡ true
    → Printed Object read_item (object_of by birth key value marked pinned) (item_line (object_of by birth key value marked pinned))
unfolding is_plain_word
printed_object by birth key value_bytes true true k v = printed read_item (object_of by birth key value_bytes true true) (codes "item") (numeral by.worker ∷ numeral by.command ∷ numeral birth ∷ key ∷ value_word value_bytes ∷ codes "marked" ∷ codes "pinned" ∷ []) (simp (plain_numeral, plain_key key k, plain_value value_bytes v)) (simp value)
printed_object by birth key value_bytes true false k v = printed read_item (object_of by birth key value_bytes true false) (codes "item") (numeral by.worker ∷ numeral by.command ∷ numeral birth ∷ key ∷ value_word value_bytes ∷ codes "marked" ∷ codes "loose" ∷ []) (simp (plain_numeral, plain_key key k, plain_value value_bytes v)) (simp value)
printed_object by birth key value_bytes false true k v = printed read_item (object_of by birth key value_bytes false true) (codes "item") (numeral by.worker ∷ numeral by.command ∷ numeral birth ∷ key ∷ value_word value_bytes ∷ codes "clean" ∷ codes "pinned" ∷ []) (simp (plain_numeral, plain_key key k, plain_value value_bytes v)) (simp value)
printed_object by birth key value_bytes false false k v = printed read_item (object_of by birth key value_bytes false false) (codes "item") (numeral by.worker ∷ numeral by.command ∷ numeral birth ∷ key ∷ value_word value_bytes ∷ codes "clean" ∷ codes "loose" ∷ []) (simp (plain_numeral, plain_key key k, plain_value value_bytes v)) (simp value)

-- the line of an object reads back as it
pub printed_item : (o : Object) → IsSpelled o → Printed Object read_item o (item_line o)
printed_item o k = printed_object o.serial o.birth o.key o.value o.marked o.pinned k.key k.value
