-- SPDX-License-Identifier: GPL-2.0-only
-- The deferred work in one order: each take of a deferred word took what was given since the take before.
use Rattle.std.specs.Prelude.{◌≡◌, ◌⊎◌, ℕ, ◌+◌, ◌*◌, ◌/◌, ◌%◌, ◌^◌, ◌==◌, cond, List, [], ◌∷◌, ◌++◌, length, map, flat_map, slice_get, Option, Some, None}
use Rattle.std.specs.List.{range_with_len}
use Rattle.shr_base.specs.declared.ends.PlaceAmount.{PlaceAmount}
use Rattle.shr_base.specs.declared.places.Place.{Place}
use Rattle.shr_base.specs.declared.places.Serial.{Serial}
use Rattle.shr_base.specs.declared.replies.Answered.{Answered}
use Rattle.shr_base.specs.declared.replies.Reply.{Reply}
use Rattle.shr_base.specs.declared.replies.Reply.TheVariants as reply
use Rattle.shr_base.specs.declared.scripts.Command.{Command}
use Rattle.shr_base.specs.declared.scripts.Command.TheVariants.{Offline}
use Rattle.shr_base.specs.declared.scripts.Script.{Script}
use Rattle.shr_base.specs.Walks.{Attempt, WalkRecord}
use Rattle.shr_base.specs.declared.walks.Carry.{Carry}
use Rattle.shr_base.specs.declared.walks.PassRecord.{PassRecord}
use Rattle.shr_model.specs.Attempts.{pass_of}
use Rattle.shr_model.specs.Deferred.{amount_of}
use Rattle.shr_model.specs.Groups.{parent_of}
use Rattle.shr_model.specs.Places.{is_place}
use Rattle.shr_model.specs.Walks.{place_in}
use Rattle.shr_laws.specs.declared.report.Report.{Report}
use Rattle.shr_laws.specs.Deferred.{printed_at}
use Rattle.shr_laws.specs.Parts.{parents_of, serial_of, command_at, answers_of, walks_by, carries_by, IsThere}

-- one step on a deferred word: all that there was at its place was taken, or some was given
pub data WordStep : Type 0 where
  took : PlaceAmount → WordStep
  gave : PlaceAmount → WordStep

-- ---- what a report tells
-- a pass takes over what was deferred at its place, and then defers again
abbrev pub steps_passed : Place → Option PassRecord → List WordStep
steps_passed place None = []
steps_passed place (Some p) = took (amount_of place p.nr) ∷ gave (amount_of place p.next) ∷ []

-- those of a walk, pass by pass
abbrev pub steps_walked : WalkRecord → List WordStep
steps_walked w = flat_map (λ (a : Attempt). steps_passed (place_in w a.id) (pass_of a.outcome)) w.attempts.items

-- the place of the parent group
abbrev pub place_of_parent : Script → Place → Place
place_of_parent s place = record place { group = parent_of (parents_of s) place.group }

-- what was taken at a place to hand it over was given to the place of the parent group, where there was any
abbrev pub steps_handed : Script → PlaceAmount → List WordStep
steps_handed s a = took a ∷ cond (a.amount == 0) [] (gave (amount_of (place_of_parent s a.place) a.amount) ∷ [])

-- the steps of a command which took these amounts to hand them over
abbrev pub steps_by : Script → Report → Serial → List PlaceAmount → List WordStep
steps_by s r by amounts = flat_map steps_walked (walks_by r by) ++ flat_map (steps_handed s) amounts

-- the places of the group that a command takes offline, by id and node
abbrev pub places_offlined : Script → Option Command → List Place
places_offlined s (Some (Offline group)) = map (λ n. record { id = n / s.nodes; node = n % s.nodes; group = group }) (range_with_len 0 (s.ids * s.nodes))
places_offlined s c = []

-- A command that took its group offline took once at each of its places. One that found this done did so or took nothing, by
-- when it was done. Any other took nothing to hand it over.
abbrev pub TakesAt : Reply → List Place → List Place → Type 0
TakesAt (reply.OfflineDone entry moved deferred) all places = places ≡ all
TakesAt (reply.AlreadyDone entry) all places = (places ≡ []) ⊎ (places ≡ all)
TakesAt x all places = places ≡ []

-- the carry of an amount, where there was any
abbrev pub carry_of : Serial → PlaceAmount → List Carry
carry_of by a = cond (a.amount == 0) [] (record { by = by; place = a.place; amount = a.amount } ∷ [])

-- a command with this reply took these amounts to hand them over
pub record IsHanded (s : Script) (r : Report) (by : Serial) (x : Reply) (amounts : List PlaceAmount) : Type 0 where
  pub places : TakesAt x (places_offlined s (command_at s by)) (map (λ (a : PlaceAmount). a.place) amounts)
  pub carried : carries_by r by ≡ flat_map (carry_of by) amounts

-- ---- the order
-- a step, and the worker that made it
pub record Taking : Type 0 where
  pub worker : ℕ
  pub step : WordStep

-- the steps of one worker
abbrev pub steps_by_worker : ℕ → List Taking → List WordStep
steps_by_worker worker [] = []
steps_by_worker worker (t ∷ ts) = cond (t.worker == worker) (t.step ∷ steps_by_worker worker ts) (steps_by_worker worker ts)

-- what is deferred at each place
abbrev pub DeferredAmounts : Type 0
DeferredAmounts = Place → ℕ

-- nothing is deferred at any place
abbrev pub none_deferred : DeferredAmounts
none_deferred place = 0

-- after a step: a take leaves nothing, a give adds modulo 2^64
abbrev pub after_step : DeferredAmounts → WordStep → DeferredAmounts
after_step w (took x) place = cond (is_place place x.place) 0 (w place)
after_step w (gave x) place = cond (is_place place x.place) ((w place + x.amount) % 2 ^ 64) (w place)

-- after all of them
abbrev pub after_all : DeferredAmounts → List Taking → DeferredAmounts
after_all w [] = w
after_all w (t ∷ ts) = after_all (after_step w t.step) ts

-- a take took just what there was
abbrev pub TakesWhole : DeferredAmounts → WordStep → Type 0
TakesWhole w (took x) = x.amount ≡ w x.place
TakesWhole w (gave x) = Unit {0}

-- so did each of them
abbrev pub AreWholeTakes : DeferredAmounts → List Taking → Type 0
AreWholeTakes w [] = Unit {0}
AreWholeTakes w (t ∷ ts) = TakesWhole w t.step × AreWholeTakes (after_step w t.step) ts

-- There is one order of all takes and gives of which the report tells, each worker's in the order of its commands, in which
-- each take took just what was given at its place since the take before. The printed words are what is left.
pub record AreTakesInOrder (s : Script) (r : Report) : Type 0 where
  -- what each command took to hand it over, by its worker and its own number
  pub handed : ℕ → ℕ → List PlaceAmount
  pub hands : (worker k : ℕ) (a : Answered) → slice_get (answers_of r worker) k ≡ Some a → IsHanded s r (serial_of worker k) a.reply (handed worker k)
  pub line : List Taking
  pub parts : (worker : ℕ) → steps_by_worker worker line ≡ flat_map (λ k. steps_by s r (serial_of worker k) (handed worker k)) (range_with_len 0 (length (answers_of r worker)))
  pub taken : AreWholeTakes none_deferred line
  pub left : (place : Place) → IsThere s place → printed_at r place ≡ after_all none_deferred line place
