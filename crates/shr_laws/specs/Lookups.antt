-- SPDX-License-Identifier: GPL-2.0-only
-- Registrations and lookups: each number of an id was drawn once, and what it met is what the
-- pool's journal says.
use Rattle.std.specs.Prelude.{◌≡◌, ℕ, ◌%◌, ◌≤◌, true, ◌==◌, nat_lt, if◌then◌else◌, List, [], ◌++◌, length, take, drop, filter, filter_map, flat_map, count_by, slice_get, Option, Some, None, option_and_then, is_some}
use Rattle.shr_base.specs.declared.places.Place.{Place}
use Rattle.shr_base.specs.declared.journals.PoolEntry.TheVariants.{Registered}
use Rattle.shr_base.specs.declared.replies.Found.{Found}
use Rattle.shr_base.specs.declared.replies.Answered.{Answered}
use Rattle.shr_base.specs.Walks.{Attempt, WalkRecord}
use Rattle.shr_base.specs.declared.ends.WorkerPart.{WorkerPart}
use Rattle.shr_base.specs.declared.scripts.Script.{Script}
use Rattle.shr_model.specs.Attempts.{number_of, is_held}
use Rattle.shr_model.specs.Commands.{decl_named}
use Rattle.shr_model.specs.Pool.{phase_of, decl_of, last_number, from_of, end_of, is_live, is_before, attempt_at, IsPoolJournal}
use Rattle.shr_laws.specs.declared.report.Report.{Report}
use Rattle.shr_laws.specs.Parts.{decls_on, all_walks, items_left, lookups_at, EachAnswer, EachWalk, EachAttempt}

-- the number of a lookup that found a cache, where it was of this id
abbrev pub found_number : ℕ → Answered → Option ℕ
found_number id a = option_and_then (λ (f : Found). if f.id == id then Some f.number else None) a.found

-- the numbers that the found caches, and the attempts of walks, have of an id
abbrev pub found_numbers : Report → ℕ → List ℕ
found_numbers r id = flat_map (λ (part : WorkerPart). filter_map (found_number id) part.answers.items) r.workers.items

-- the numbers of the lookups that walks made of an id
abbrev pub tried_numbers : Report → ℕ → List ℕ
tried_numbers r id = flat_map (λ (w : WalkRecord). filter_map (λ (a : Attempt). number_of a.outcome) (filter (λ (a : Attempt). a.id == id) w.attempts.items)) (all_walks r)

-- A found cache is right: after so many entries the declaration was live with the id, by the
-- registration in which the lookup's number lies.
pub record IsFoundRight (r : Report) (decl : ℕ) (f : Found) : Type 0 where
  pub there : f.entry ≤ length r.pool.items
  pub live : is_live f.id (take f.entry r.pool.items) ≡ true
  pub decl_is : decl_of f.id (take f.entry r.pool.items) ≡ decl
  pub from : from_of f.id (take f.entry r.pool.items) ≤ f.number
  pub to : is_before f.number (end_of f.id (drop f.entry r.pool.items)) ≡ true

-- registrations follow each other as they may, and each lookup met what its number says
pub record AreLookupsLawful (s : Script) (r : Report) : Type 0 where
  pub pool : IsPoolJournal s.ids (length s.caches.items) r.pool.items
  -- it begins with the caches that are `on`, in order, whose ids are 0, 1 and so on
  pub opened : (n decl : ℕ) → slice_get (decls_on s) n ≡ Some decl → slice_get r.pool.items n ≡ Some (Registered decl n 0)
  -- each id's lookups are printed, and the registration that it is in began at or below them
  pub printed : length r.lookups.items ≡ s.ids
  pub last : (id : ℕ) → is_live id r.pool.items ≡ true → last_number id r.pool.items ≤ lookups_at r id
  -- the numbers of an id are those from 0 up to its lookups, each once
  pub numbers : (id number : ℕ) → count_by (λ n. n == number) (found_numbers r id ++ tried_numbers r id) ≡ (if nat_lt number (lookups_at r id) then 1 else 0)
  -- an attempt was held if and only if its number lies in a registration of the id
  pub met : EachWalk r (λ worker n w. EachAttempt w (λ a. (number : ℕ) → number_of a.outcome ≡ Some number
      → is_held a.outcome ≡ is_some (attempt_at a.id number (lookups_at r a.id) r.pool.items)))
  pub found : EachAnswer s r (λ by c a. (decl : ℕ) (f : Found) → decl_named c ≡ Some decl → a.found ≡ Some f → IsFoundRight r decl f)
  -- an id that is idle at the end has empty lists
  pub idle : (place : Place) → phase_of place.id r.pool.items % 3 ≡ 0 → items_left s r place ≡ []
