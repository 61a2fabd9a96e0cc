-- SPDX-License-Identifier: GPL-2.0-only
-- The words of the entries, the objects and the replies of a run are those of its script's commands.
use Rattle.shr_assemble.proofs.Common.{◌≡◌, ℕ, Bool, true, false, cond, List, [], ◌∷◌, length, map, sym, refl, ap, subst, ◌∙◌, slice_get, Option, Some, None, find, option_map, AllByRecursion, same_Some, none-some, Entry, Add, Look, Drop, Pin, Object, At, Place, Serial, Reply, Command, Put, On, Get, Del, SetPin, Script, WorkerScript, named_in, is_named, marked_object, unmarked_object, pinned_object, by_of, items_at, lists_moved_at, items_from, place_at, Made, IsWithin, IsCommandWithin, content_of, Report, parents_of, commands_in, commands_of, journals_of, id_found, items_left, at, IsReply, HasWords, LendsWord, IsSpelled, Step, steps_of, MayMakeEntry, IsReplyTo, IsRun, by_slices, is_value, all_slice_by}
use Rattle.std.proofs.Math.Seq.{take-length}
use Rattle.shr_base.specs.declared.replies.Reply.TheVariants as reply
use Rattle.shr_lawful.proofs.FamilyObjects.{AddIs, items_at_kept}
use Rattle.shr_lawful.proofs.Gathering.{each_among, maker, made_stands}
use Rattle.shr_lawful.proofs.ReplyEntries.{IsEntryFor, entry_asked}
use Rattle.shr_lawful.proofs.RepliesLaw.{told_of}

-- a fact of each command of each worker, at one
command_fact : (P : Command → Type 0) (ws : List WorkerScript) (worker k : ℕ) (c : Command) → AllByRecursion (AllByRecursion P) (map (λ (w : WorkerScript). w.commands.items) ws) → slice_get (commands_in (slice_get ws worker)) k ≡ Some c → P c
command_fact P ws worker k c h e = by (slice_get ws worker) refl e where
  unmapped : (us : List WorkerScript) → AllByRecursion (AllByRecursion P) (map (λ (w : WorkerScript). w.commands.items) us) → AllByRecursion (λ (w : WorkerScript). AllByRecursion P w.commands.items) us
  unmapped [] h = tt
  unmapped (u ∷ us) h = (h.0, unmapped us h.1)

  by : (o : Option WorkerScript) → slice_get ws worker ≡ o → slice_get (commands_in o) k ≡ Some c → P c
  by None there e = absurd (none-some c e)
  by (Some w) there e = all_slice_by P w.commands.items k c (all_slice_by (λ (u : WorkerScript). AllByRecursion P u.commands.items) ws worker w (unmapped ws h) there) e

-- an object stays spelled where it is marked or pinned
marks : (o : Object) → IsSpelled o → IsSpelled (marked_object o)
marks o h = record { key = h.key; value = h.value }

unmarks : (o : Object) → IsSpelled o → IsSpelled (unmarked_object o)
unmarks o h = record { key = h.key; value = h.value }

pins : (pinned : Bool) (o : Object) → IsSpelled o → IsSpelled (pinned_object pinned o)
pins pinned o h = record { key = h.key; value = h.value }

abbrev SpellsAdd : Entry → Type 0
SpellsAdd e = AddIs IsSpelled marks unmarks pins e

-- an entry has the words of the command that makes it
record AreWords (e : Entry) : Type 0 where
  words : HasWords e
  adds : SpellsAdd e

words_for : (s : Script) (by : Serial) (c : Command) (e : Entry) → IsCommandWithin (content_of s) c → IsEntryFor by c e → AreWords e
words_for s by (Put to key value) e within (added, is) = subst AreWords (sym is) (record { words = (within.0.is_word, within.1); adds = record { key = within.0.is_word; value = within.1 } })
words_for s by (On to key Get) e within (hit, is) = subst AreWords (sym is) (record { words = within.is_word; adds = tt })
words_for s by (On to key Del) e within (kind, is) = subst AreWords (sym is) (record { words = within.is_word; adds = tt })
words_for s by (On to key (SetPin pinned)) e within (hit, is) = subst AreWords (sym is) (record { words = within.is_word; adds = tt })
words_for s by c e within is = absurd is

-- the object that is found is one of these
found_in : (P : Object → Type 0) (birth : ℕ) (key : List ℕ) (items : List Object) (o : Object) → AllByRecursion P items → named_in birth key items ≡ Some o → P o
found_in P birth key [] o h e = absurd (none-some o e)
found_in P birth key (x ∷ xs) o h e = (elim (is_named birth key x) as (λ (b : Bool). cond b (Some x) (find (is_named birth key) xs) ≡ Some o → (find (is_named birth key) xs ≡ Some o → P o) → P o) [ true ↦ λ e later. subst P (same_Some x o e) h.0 | false ↦ λ e later. later e ]) e (λ f. found_in P birth key xs o h.1 f)

-- and so is its value
lent : (birth : ℕ) (key value : List ℕ) (items : List Object) → AllByRecursion IsSpelled items → option_map (λ (o : Object). o.value) (named_in birth key items) ≡ Some value → is_value value ≡ true
lent birth key value items h e = by (named_in birth key items) refl e where
  by : (o : Option Object) → named_in birth key items ≡ o → option_map (λ (p : Object). p.value) o ≡ Some value → is_value value ≡ true
  by None there e = absurd (none-some value e)
  by (Some o) there e = subst (λ v. is_value v ≡ true) (same_Some o.value value e) (found_in IsSpelled birth key items o h there).value

module _ (s : Script) (r : Report) (workers : List (List Step)) (run : IsRun s r workers) (within : IsWithin (content_of s)) where
  pub command_within : (worker k : ℕ) (c : Command) → slice_get (commands_of s worker) k ≡ Some c → IsCommandWithin (content_of s) c
  command_within worker k c e = command_fact (IsCommandWithin (content_of s)) s.workers.items worker k c within.each e

  tenant : (place : Place) (n : ℕ) (e : Entry) (by : Serial) → slice_get (journals_of r place) n ≡ Some e → by_of e ≡ Some by → AreWords e
  tenant place n e by stands of =
      let m = maker s r workers run place n e stands in
      let is = run.steps.each m.worker m.k m.step m.at in
      let told = told_of s m.step m.made m.made.entry by (ap by_of m.entry ∙ of) (each_among (λ (z : Made). MayMakeEntry s m.step z z.entry) m.step.work.core.made m.made is.did.entries.each m.among) in
      let own = is.did.entries.reply (journals_of r) (λ j z q. (made_stands s r workers run m.worker m.k m.step m.at j z q).1) in
      let here : slice_get (journals_of r (at ((place_at m.made.place)) m.made.number).place) m.made.number ≡ Some e = ap (λ p. slice_get (journals_of r p) m.made.number) m.place_is ∙ (ap (slice_get (journals_of r place)) m.number ∙ stands) in
      let entry = entry_asked (parents_of s) (journals_of r) m.step.by m.step.answered.reply m.step.command (id_found m.step.answered) (at (place_at m.made.place) m.made.number) e own told.cited here in
      words_for s m.step.by entry.0 e (command_within m.worker m.k entry.0 (is.command ∙ entry.1)) entry.2

  words_at : (place : Place) (n : ℕ) (e : Entry) → slice_get (journals_of r place) n ≡ Some e → AreWords e
  words_at place n (Add by birth added key value) stands = tenant place n (Add by birth added key value) by stands refl
  words_at place n (Look by birth key hit) stands = tenant place n (Look by birth key hit) by stands refl
  words_at place n (Drop by birth key kind) stands = tenant place n (Drop by birth key kind) by stands refl
  words_at place n (Pin by birth key pinned hit) stands = tenant place n (Pin by birth key pinned hit) by stands refl
  words_at place n e stands = record { words = tt; adds = tt }

  pub entries_spelled : (place : Place) → AllByRecursion HasWords (journals_of r place)
  entries_spelled place = by_slices HasWords (journals_of r place) (λ n e stands. (words_at place n e stands).words)

  adds_spelled : (place : Place) → AllByRecursion SpellsAdd (journals_of r place)
  adds_spelled place = by_slices SpellsAdd (journals_of r place) (λ n e stands. (words_at place n e stands).adds)

  pub objects_spelled : (place : Place) (n : ℕ) → AllByRecursion IsSpelled (items_at (parents_of s) (journals_of r) place n)
  objects_spelled place n = items_at_kept IsSpelled marks unmarks pins (parents_of s) (journals_of r) adds_spelled place n

  pub left_spelled : (place : Place) → AllByRecursion IsSpelled (items_left s r place)
  left_spelled place = subst (λ es. AllByRecursion IsSpelled (items_from (lists_moved_at (parents_of s) (journals_of r) place) [] es)) (take-length (journals_of r place)) (objects_spelled place (length (journals_of r place)))

  hit_lends : (by : Serial) (c : Command) (found : Option ℕ) (at : At) (value : List ℕ) → IsReply (parents_of s) (journals_of r) by c found (reply.Hit at value) → is_value value ≡ true
  hit_lends by (On to key Get) (Some id) at value h = lent to.group key value (items_at (parents_of s) (journals_of r) at.place at.entry) (objects_spelled at.place at.entry) h.1
  hit_lends by (On to key Get) None at value h = absurd h
  hit_lends by c None at value h = absurd h
  hit_lends by c (Some id) at value h = absurd h

  lends : (by : Serial) (o : Option Command) (found : Option ℕ) (x : Reply) → IsReplyTo (parents_of s) (journals_of r) by o found x → LendsWord x
  lends by (Some c) found (reply.Hit at value) h = hit_lends by c found at value h
  lends by None found (reply.Hit at value) h = absurd h.1
  lends by o found y h = tt

  -- the answers of a worker lend words
  pub answers_lend : (worker k : ℕ) (x : Step) → slice_get (steps_of workers worker) k ≡ Some x → LendsWord x.answered.reply
  answers_lend worker k x e = let is = run.steps.each worker k x e in
      lends x.by x.command (id_found x.answered) x.answered.reply (is.did.entries.reply (journals_of r) (λ j z q. (made_stands s r workers run worker k x e j z q).1))
