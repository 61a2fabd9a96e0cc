-- SPDX-License-Identifier: GPL-2.0-only
-- The words, records and joins of the table at known values.
use Rattle.shr_charge.proofs.Common.{◌≡◌, ℕ, true, false, List, [], ◌∷◌, length, map, replicate, set, refl, ap, arith, Option, Some, None, pos, get_or-replicate, All-head, none-some, UseStep, TreeEntry, Hierarchy, Online, Offline, NotMade, Shows, state_in, AreFirstGroupWords, AreRising, IsPrefix, IsTreeSeen, IsNamed, state_at, state_word, opens, AreMarkedGroups, is_like, entry_number, joined_tree, usage_word, op_of, ups_at, downs_at, times_at, TreeView, no_tree, own_uses, spent_by}
use Rattle.shr_base.specs.declared.journals.TreeEntry.TheVariants.{Begin, Done, Made as MadeEntry}
use Rattle.shr_base.specs.declared.replies.Spent.TheVariants.{Charges}
use Rattle.shr_charge.specs.Answers.{HasBegun, WasNotMade, LacksParent, IsBelowOffline, IsMadeNow}

-- the third operation of a group, after a charge and an uncharge
abbrev third_up : UseStep
third_up = op_of 0 (record { worker = 0; command = 2 }) true 4294967297

third_operation : third_up.operation ≡ 2
third_operation = refl

third_found : third_up.found ≡ pos 0
third_found = refl

-- a charge, an uncharge and a charge
abbrev first_up : UseStep
first_up = op_of 0 (record { worker = 0; command = 0 }) true 0

abbrev first_down : UseStep
first_down = op_of 0 (record { worker = 0; command = 1 }) false 4294967296

abbrev three_operations : List UseStep
three_operations = first_up ∷ first_down ∷ third_up ∷ []

usage_after_three : usage_word three_operations ≡ 8589934593
usage_after_three = refl

ups_of_three : ups_at 0 three_operations ≡ 2
ups_of_three = refl

downs_of_three : downs_at 0 three_operations ≡ 1
downs_of_three = refl

no_operation_elsewhere : times_at 1 2 three_operations ≡ 0
no_operation_elsewhere = refl

-- a group's operations never fall along a seat
falling_not_rising : AreRising (third_up ∷ first_up ∷ []) → ⊥
falling_not_rising rising = absurd (omega (arith, rising 0 1 first_up (omega arith) (omega arith) refl))

-- three groups, of which the last is later
abbrev groups : Hierarchy
groups = record { parents = 0 ∷ 0 ∷ 1 ∷ []; later = false ∷ false ∷ true ∷ [] }

-- a group word is one more than the number of its Begin, and 0 while there is none
word_of_begin : state_word (state_at groups (MadeEntry 2 ∷ Begin 2 ∷ Begin 1 ∷ []) 1) ≡ 3
word_of_begin = refl

word_online : state_word (state_at groups (Begin 2 ∷ []) 1) ≡ 0
word_online = refl

-- that of a later group is 2^63 until it is made
word_not_made : state_word (state_at groups (Begin 1 ∷ []) 2) ≡ 9223372036854775808
word_not_made = refl

word_made : state_word (state_at groups (MadeEntry 2 ∷ []) 2) ≡ 0
word_made = refl

-- and the words are told apart
told : map state_in (0 ∷ 1 ∷ 9223372036854775808 ∷ []) ≡ Online ∷ Offline 0 ∷ NotMade ∷ []
told = refl

-- a group that began and isn't done is open
one_open : opens 3 (Begin 1 ∷ Begin 2 ∷ Done 2 ∷ []) ≡ 1
one_open = refl

-- a seat is worn out at its 1,048,576th charge, and not before
spent_at : spent_by (record own_uses { charges = 1048576 }) ≡ Some (Charges 1048576 0)
spent_at = refl

not_spent : spent_by (record own_uses { charges = 1048575; uncharges = 4194303 }) ≡ None
not_spent = refl

spent_by_uncharges : spent_by (record own_uses { uncharges = 4194304 }) ≡ Some (Charges 0 4194304)
spent_by_uncharges = refl

-- what a joined seat knew is heard by the first, whichever of the two knew more
abbrev knew_more : TreeView
knew_more = record no_tree { known = Begin 2 ∷ []; heard = (Begin 2 ∷ Done 2 ∷ []) ∷ [] }

heard_of_join : (joined_tree no_tree knew_more).heard ≡ (Begin 2 ∷ []) ∷ (Begin 2 ∷ Done 2 ∷ []) ∷ []
heard_of_join = refl

known_of_join : (joined_tree no_tree knew_more).known ≡ []
known_of_join = refl

abbrev head_of : List TreeEntry → Option TreeEntry
head_of [] = None
head_of (e ∷ es) = Some e

abbrev group_in : TreeEntry → ℕ
group_in (Begin g) = g
group_in (Done g) = g
group_in (MadeEntry g) = g

abbrev some_group : Option TreeEntry → ℕ
some_group None = 0
some_group (Some e) = group_in e

-- it is so of the journal, so a journal with another first entry is not the one that it knew
heard_refuses : IsTreeSeen groups (Begin 1 ∷ []) (joined_tree no_tree knew_more) → ⊥
heard_refuses seen = let begins = All-head (λ (es : List TreeEntry). IsPrefix es (Begin 1 ∷ [])) (Begin 2 ∷ []) ((Begin 2 ∷ Done 2 ∷ []) ∷ []) seen.heard in
    absurd (omega (arith, ap {B = ℕ} (λ (l : List TreeEntry). some_group (head_of l)) begins.1))

-- a seat that loaded a group word past its Begin can't make that Begin, nor its Done before it
abbrev saw_begin : TreeView
saw_begin = record no_tree { loaded = (record { group = 1; state = Offline 0 }) ∷ [] }

named_none : ◌≡◌ {A = Option ℕ} None (Some 0) → ⊥
named_none e = cc

begun_before : (before : List TreeEntry) → 0 ≡ length before → IsTreeSeen groups before saw_begin → ⊥
begun_before [] number seen = named_none (All-head (IsNamed groups []) (record { group = 1; state = Offline 0 }) [] seen.loaded).1
begun_before (e ∷ es) number seen = absurd (omega (arith, number))

begun_after_seen : HasBegun groups 1 0 saw_begin (Begin 1 ∷ []) → ⊥
begun_after_seen h = begun_before h.before h.gains.number_is h.seen

-- ---- groups that are made during the run

-- two later groups in a line below a group
abbrev line : Hierarchy
line = record { parents = 0 ∷ 0 ∷ 1 ∷ 2 ∷ []; later = false ∷ false ∷ true ∷ true ∷ [] }

-- one whose parent isn't made lacks it, and no more once it is made
lacks_parent : LacksParent line 3 2 (Begin 1 ∷ [])
lacks_parent = record { fresh = refl; parent = refl; not_made = refl }

has_parent : LacksParent line 3 2 (MadeEntry 2 ∷ []) → ⊥
has_parent lacks = let made : true ≡ false = lacks.not_made in cc

-- one whose parent is made is below an offline group, if that began
below_offline : IsBelowOffline line 3 1 (MadeEntry 2 ∷ Begin 2 ∷ [])
below_offline = record { fresh = refl; parent = refl; begun = refl }

not_below_offline : IsBelowOffline line 3 0 (MadeEntry 2 ∷ []) → ⊥
not_below_offline below = named_none below.begun

-- a later group isn't made before its Made
was_not_made : WasNotMade line 2 2 (Begin 1 ∷ [])
was_not_made = record { below_root = omega arith; undone = refl; fresh = refl; same = refl; not_made = refl }

was_made : WasNotMade line 2 2 (MadeEntry 2 ∷ []) → ⊥
was_made was = let made : true ≡ false = was.not_made in cc

-- a group that was met as online is made, and one that wasn't made may be made or not
met_online : IsNamed line (MadeEntry 2 ∷ []) (record { group = 2; state = Online })
met_online = refl

met_too_early : IsNamed line [] (record { group = 2; state = Online }) → ⊥
met_too_early named = let made : false ≡ true = named in cc

met_not_made : IsNamed line (MadeEntry 2 ∷ []) (record { group = 2; state = NotMade })
met_not_made = tt

-- a seat that met a group as online isn't shown that it isn't made, and none is shown that of a
-- group that isn't later
abbrev saw_online : TreeView
saw_online = record no_tree { loaded = (record { group = 2; state = Online }) ∷ [] }

shown_again : Shows line saw_online 2 NotMade → ⊥
shown_again shows = let there : false ≡ true = shows.met Online refl (0, omega arith, refl) in cc

shown_of_others : Shows line no_tree 1 NotMade → ⊥
shown_of_others shows = let late : false ≡ true = shows.late refl in cc

shown_later : Shows line no_tree 2 NotMade
shown_later = record { known = λ e is. absurd (none-some e is); loaded = λ e c. absurd (omega (arith, c.1)); made = λ t. absurd (let made : false ≡ true = t in cc); met = λ before there c. absurd (omega (arith, c.1)); late = λ _. refl }

-- nor can it make that group
made_before : (before : List TreeEntry) → 0 ≡ length before → IsTreeSeen line before saw_online → ⊥
made_before [] number seen = let made : false ≡ true = (All-head (IsNamed line []) (record { group = 2; state = Online }) [] seen.loaded) in cc
made_before (e ∷ es) number seen = absurd (omega (arith, number))

made_after_seen : IsMadeNow line 2 0 saw_online (MadeEntry 2 ∷ []) → ⊥
made_after_seen made = made_before made.before made.gains.number_is made.seen

-- the word of a later group isn't 0 at the start
first_not_zero : AreFirstGroupWords (true ∷ []) (0 ∷ 0 ∷ 0 ∷ 0 ∷ 0 ∷ 0 ∷ 0 ∷ 0 ∷ 0 ∷ []) → ⊥
first_not_zero first = absurd (omega (arith, first.groups 0 (omega arith)))

-- group 1 is made, and begins, after group 2 began and was done
abbrev searched : List TreeEntry
searched = Begin 2 ∷ Done 2 ∷ MadeEntry 1 ∷ Begin 1 ∷ []

begin_found : entry_number (Begin 1) searched ≡ Some 3
begin_found = refl

done_not_found : entry_number (Done 1) searched ≡ None
done_not_found = refl

another_group : is_like (MadeEntry 1) (MadeEntry 2) ≡ false
another_group = refl

another_kind : is_like (MadeEntry 1) (Begin 1) ≡ false
another_kind = refl

-- nothing is marked where the journal is empty
none_marked : AreMarkedGroups [] (record { made = replicate 256 false; done = replicate 256 false })
none_marked = record { made = λ g low. get_or-replicate 256 g false false low; done = λ g low. get_or-replicate 256 g false false low }

-- where group 1 is made its mark is wanted
made_without_mark : AreMarkedGroups (MadeEntry 1 ∷ []) (record { made = replicate 256 false; done = replicate 256 false }) → ⊥
made_without_mark h = let m = h.made 1 (omega arith) in cc

-- and a mark of a group that isn't done is one too many
mark_without_done : AreMarkedGroups [] (record { made = replicate 256 false; done = set (replicate 256 false) 1 true }) → ⊥
mark_without_done h = let m = h.done 1 (omega arith) in cc
