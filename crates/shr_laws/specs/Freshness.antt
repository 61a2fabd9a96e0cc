-- SPDX-License-Identifier: GPL-2.0-only
-- Freshness: what an answer knew isn't older than what its worker had known before.
use Rattle.std.specs.Prelude.{◌≡◌, ℕ, ◌<◌, ◌≤◌, Bool, true, false, cond, ◌||◌, List, [], ◌∷◌, ◌++◌, length, flat_map, slice_get, Option, Some, None, option_map, option_and_then, option_to_list, ⊤}
use Rattle.std.specs.List.{AllByRecursion, list_any}
use Rattle.std.specs.Option.{IsSomeAnd}
use Rattle.shr_base.specs.declared.places.Serial.{Serial}
use Rattle.shr_base.specs.declared.replies.Found.{Found}
use Rattle.shr_base.specs.declared.replies.Answered.{Answered}
use Rattle.shr_base.specs.declared.replies.Reply.{Reply}
use Rattle.shr_base.specs.declared.replies.Reply.TheVariants as reply
use Rattle.shr_base.specs.declared.scripts.Command.{Command}
use Rattle.shr_base.specs.declared.scripts.Command.TheVariants.{Put, On, Offline, MkGroup}
use Rattle.shr_base.specs.declared.scripts.Script.{Script}
use Rattle.shr_base.specs.declared.walks.WalkAnswer.{WalkAnswer}
use Rattle.shr_base.specs.declared.walks.WalkAnswer.TheVariants as walk
use Rattle.shr_base.specs.Walks.{WalkRecord}
use Rattle.shr_model.specs.Commands.{asks_online}
use Rattle.shr_model.specs.TreeJournal.{is_begin, is_done}
use Rattle.shr_laws.specs.declared.report.Report.{Report}
use Rattle.shr_laws.specs.Parts.{decls_on, serial_of, command_at, answers_of, answer_at, reply_at, walks_by, EachAnswer}
use Rattle.shr_laws.specs.Causes.{MayHaveBegun, IsOffline}
use Rattle.shr_laws.specs.WellFormed.{AreNotFalling}

-- how many entries of the journal of registrations a reply, and an answer with its found cache,
-- speaks of
abbrev pub pool_told : Reply → List ℕ
pool_told (reply.NoCache entry) = entry ∷ []
pool_told (reply.AlreadyRegistered entry) = entry ∷ []
pool_told (reply.NoId entry) = entry ∷ []
pool_told x = []

-- the same for an answer, with the cache that it found
abbrev pub pool_seen : Answered → List ℕ
pool_seen a = option_to_list (option_map (λ (f : Found). f.entry) a.found) ++ pool_told a.reply

-- the entry of the journal of registrations that a reply made
abbrev pub pool_made : Reply → List ℕ
pool_made (reply.Registered id entry) = entry ∷ []
pool_made (reply.Freed id entry from to objects) = entry ∷ []
pool_made (reply.Half id entry from to objects why) = entry ∷ []
pool_made x = []

-- how many entries of the journal of the tree an answer speaks of
abbrev pub tree_told : Reply → List ℕ
tree_told (reply.HasChildren child entry) = entry ∷ []
tree_told x = []

-- the same for an answer, by its reply
abbrev pub tree_seen : Answered → List ℕ
tree_seen a = tree_told a.reply

-- the entry of the journal of the tree that a reply, and a walk, cites
abbrev pub tree_cited : Reply → List ℕ
tree_cited (reply.Offline entry) = entry ∷ []
tree_cited (reply.AlreadyDone entry) = entry ∷ []
tree_cited (reply.OfflineDone entry moved deferred) = entry ∷ []
tree_cited (reply.Made entry) = entry ∷ []
tree_cited (reply.AlreadyMade entry) = entry ∷ []
tree_cited x = []

-- the same for the answer of a walk
abbrev pub walk_cited : WalkAnswer → List ℕ
walk_cited (walk.Offline entry) = entry ∷ []
walk_cited a = []

-- what the answer to a command gives
abbrev pub of_answer : Report → Serial → (Answered → List ℕ) → List ℕ
of_answer r by f = flat_map f (option_to_list (answer_at r by))

-- the entry of the journal of registrations that the answer to a command made
abbrev pub pool_made_by : Report → ℕ → ℕ → List ℕ
pool_made_by r worker k = of_answer r (serial_of worker k) (λ (a : Answered). pool_made a.reply)

-- the entries of the journal of the tree that the answer to a command and its walks cite
abbrev pub shown_by : Report → Serial → List ℕ
shown_by r by = of_answer r by (λ (a : Answered). tree_cited a.reply) ++ flat_map (λ (w : WalkRecord). walk_cited w.answer) (walks_by r by)

-- an entry with this number is a Begin of a group, or a Done of it
abbrev pub is_begin_at : Report → ℕ → ℕ → Bool
is_begin_at r group n = list_any (is_begin group) (option_to_list (slice_get r.tree.items n))

-- the same for a Done
abbrev pub is_done_at : Report → ℕ → ℕ → Bool
is_done_at r group n = list_any (is_done group) (option_to_list (slice_get r.tree.items n))

-- the answer to a command, or one of its walks, shows Begin of a group; or Begin or Done
abbrev pub shows_begin : Report → Serial → ℕ → Bool
shows_begin r by group = list_any (is_begin_at r group) (shown_by r by)

-- the same for a Begin or a Done
abbrev pub shows_offline : Report → Serial → ℕ → Bool
shows_offline r by group = shows_begin r by group || list_any (is_done_at r group) (shown_by r by)

-- each number of the first list is below each of the second
abbrev pub AreBelow : List ℕ → List ℕ → Type 0
AreBelow ns ms = AllByRecursion (λ n. AllByRecursion (λ m. n < m) ms) ns

-- a command at a group that is known to be offline may be answered so
abbrev pub MayBeOffline : Reply → Type 0
MayBeOffline (reply.Offline entry) = ⊤
MayBeOffline (reply.Worn x) = ⊤
MayBeOffline reply.Memory = ⊤
MayBeOffline (reply.WalkMemory freed) = ⊤
MayBeOffline x = ⊥

-- the group at which a command asks first whether it is made
abbrev pub asks_made : Command → Option ℕ
asks_made (Put at key value) = Some at.group
asks_made (On at key act) = Some at.group
asks_made (Offline group) = Some group
asks_made c = None

-- an answer that came after the command's group was seen to be made
abbrev pub is_past_group : Reply → Bool
is_past_group (reply.NotMade group) = false
is_past_group (reply.Worn spent) = false
is_past_group reply.Memory = false
is_past_group x = true

-- the group that the answer to a command shows to be made
abbrev pub made_shown : Command → Reply → Option ℕ
made_shown (MkGroup group) (reply.Made entry) = Some group
made_shown (MkGroup group) (reply.AlreadyMade entry) = Some group
made_shown (MkGroup group) x = None
made_shown c x = cond (is_past_group x) (asks_made c) None

-- the same of the command with this serial
abbrev pub shows_made : Script → Report → Serial → Option ℕ
shows_made s r by = option_and_then (λ c. option_and_then (made_shown c) (reply_at r by)) (command_at s by)

-- no answer and no walk knew less than its worker had known before
pub record IsFresh (s : Script) (r : Report) : Type 0 where
  -- Along a worker's answers the numbers of entries of the journal of registrations never fall,
  pub pool : (worker : ℕ) → AreNotFalling (flat_map pool_seen (answers_of r worker))
  -- they are above the entries that the worker itself made before,
  pub pool_own : (worker k later : ℕ) → k < later
      → AreBelow (of_answer r (serial_of worker k) (λ (a : Answered). pool_made a.reply)) (of_answer r (serial_of worker later) pool_seen)
  -- and not below the number of caches that are `on`.
  pub pool_on : EachAnswer s r (λ by c a. AllByRecursion (λ n. length (decls_on s) ≤ n) (pool_seen a))
  -- The numbers of entries of the journal of the tree never fall either,
  pub tree : (worker : ℕ) → AreNotFalling (flat_map tree_seen (answers_of r worker))
  -- and are above every entry that an earlier answer or walk of the worker cites.
  pub tree_shown : (worker k later : ℕ) → k < later → AreBelow (shown_by r (serial_of worker k)) (of_answer r (serial_of worker later) tree_seen)
  -- Once a worker was shown Begin or Done of a group, its later commands there find it offline.
  pub refused : (worker k later group : ℕ) → k < later → shows_offline r (serial_of worker k) group ≡ true
      → option_and_then asks_online (command_at s (serial_of worker later)) ≡ Some group → IsSomeAnd (reply_at r (serial_of worker later)) MayBeOffline
  -- A worker isn't shown Begin of a group while each `offline` that may have begun it is a later
  -- one of its own.
  pub first : (worker k group : ℕ) → ((by : Serial) → IsOffline s r by group MayHaveBegun → (by.worker ≡ worker) × (k < by.command))
      → shows_begin r (serial_of worker k) group ≡ false
  -- No later answer of a worker says that a group isn't made which an earlier one showed to be made.
  pub made : (worker k later group : ℕ) → k < later → shows_made s r (serial_of worker k) ≡ Some group
      → reply_at r (serial_of worker later) ≡ Some (reply.NotMade group) → ⊥
