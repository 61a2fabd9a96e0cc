-- SPDX-License-Identifier: GPL-2.0-only
-- Deferred words: each is what passes and carries gave less what they took.
use Rattle.std.specs.Prelude.{◌≡◌, ℕ, ◌<◌, find, slice_get, Option, Some, None, ⊤}
use Rattle.std.specs.List.{AllByRecursion}
use Rattle.std.specs.Option.{IsSomeAnd}
use Rattle.shr_base.specs.declared.places.Place.{Place}
use Rattle.shr_base.specs.declared.replies.Reply.{Reply}
use Rattle.shr_base.specs.declared.replies.Reply.TheVariants as reply
use Rattle.shr_base.specs.declared.scripts.Command.TheVariants.{Offline}
use Rattle.shr_base.specs.declared.scripts.Script.{Script}
use Rattle.shr_base.specs.declared.walks.Carry.{Carry}
use Rattle.shr_base.specs.declared.ends.PlaceAmount.{PlaceAmount}
use Rattle.shr_model.specs.Places.{is_place}
use Rattle.shr_model.specs.Deferred.{deferred_word}
use Rattle.shr_model.specs.Moves.{given_at, taken_at}
use Rattle.shr_laws.specs.declared.report.Report.{Report}
use Rattle.shr_laws.specs.Parts.{parents_of, command_at, reply_at, carries_of, all_walks, all_carries, IsThere}

-- the printed word, or 0
abbrev pub amount_in : Option PlaceAmount → ℕ
amount_in None = 0
amount_in (Some x) = x.amount

-- the deferred word that the report prints for a place, or 0
abbrev pub printed_at : Report → Place → ℕ
printed_at r place = amount_in (find (λ (x : PlaceAmount). is_place x.place place) r.deferred.items)

-- an `offline` that was answered so has carried the deferred words of its group
abbrev pub HasCarried : Reply → Type 0
HasCarried (reply.OfflineDone entry moved deferred) = ⊤
HasCarried (reply.AlreadyDone entry) = ⊤
HasCarried x = ⊥

-- a carry is of an `offline` that was answered so, at a place of its group
pub record IsCarryRight (s : Script) (r : Report) (c : Carry) : Type 0 where
  pub there : IsThere s c.place
  pub command : command_at s c.by ≡ Some (Offline c.place.group)
  pub answer : IsSomeAnd (reply_at r c.by) HasCarried

-- each deferred word is what passes and carries gave less what they took
pub record IsDeferredLawful (s : Script) (r : Report) : Type 0 where
  pub words : (place : Place) → printed_at r place ≡ deferred_word (given_at (parents_of s) (all_walks r) (all_carries r) place) (taken_at (all_walks r) (all_carries r) place)
  pub shown : AllByRecursion (λ (x : PlaceAmount). 0 < x.amount) r.deferred.items
  pub carries : AllByRecursion (IsCarryRight s r) (all_carries r)
  -- at most one per place and command
  pub once : (worker n m : ℕ) (c d : Carry) → slice_get (carries_of r worker) n ≡ Some c → slice_get (carries_of r worker) m ≡ Some d
      → c.by ≡ d.by → c.place ≡ d.place → n ≡ m
