-- SPDX-License-Identifier: GPL-2.0-only
-- What a command took from the deferred words, and gave to them.
use Rattle.std.specs.Prelude.{◌≡◌, ◌⊎◌, ℕ, ◌<◌, List, [], ◌++◌, map, flat_map, slice_get, Some, AllPairs, All}
use Rattle.shr_base.specs.declared.ends.PlaceAmount.{PlaceAmount}
use Rattle.shr_base.specs.declared.journals.TreeEntry.TheVariants.{Done}
use Rattle.shr_base.specs.declared.places.Place.{Place}
use Rattle.shr_base.specs.declared.scripts.Command.TheVariants.{Offline}
use Rattle.shr_base.specs.declared.scripts.Script.{Script}
use Rattle.shr_base.specs.declared.walks.Carry.{Carry}
use Rattle.shr_model.specs.Amounts.{sum_at}
use Rattle.shr_model.specs.Moves.{given_at, taken_at}
use Rattle.shr_deferred.specs.Moves.{Move, takes_of, gives_of}
use Rattle.shr_deferred.specs.Moves as moves
use Rattle.shr_laws.specs.Parts.{parents_of, IsThere}
use Rattle.shr_laws.specs.Deferred.{HasCarried}
use Rattle.shr_laws.specs.Takes.{WordStep, took, gave, steps_walked, steps_handed, places_offlined, carry_of}
use Rattle.shr_laws.specs.WellFormed.{IsBefore}
use Rattle.shr_lawful.specs.Steps.{Step}

-- A carry is of the command, an `offline` of its group that was answered so. The worker didn't know before it that the group
-- was done.
pub record DidCarry (s : Script) (x : Step) (c : Carry) : Type 0 where
  pub by : c.by ≡ x.by
  pub there : IsThere s c.place
  pub command : x.command ≡ Some (Offline c.place.group)
  pub answer : HasCarried x.answered.reply
  pub some : 0 < c.amount
  pub undone : (n : ℕ) → slice_get x.before.tree.known n ≡ Some (Done c.place.group) → ⊥

-- a move, as a report tells it
abbrev pub told_step : Move → WordStep
told_step (moves.took x) = took x
told_step (moves.gave x) = gave x

-- what a command took of the deferred words and gave to them
pub record DidMoves (s : Script) (x : Step) : Type 0 where
  -- the takes and the gives are those of the passes and the carries
  pub taken : (p : Place) → sum_at p (takes_of x.work.moves) ≡ taken_at x.work.walks x.work.carries p
  pub given : (p : Place) → sum_at p (gives_of x.work.moves) ≡ given_at (parents_of s) x.work.walks x.work.carries p
  pub carries : All (DidCarry s x) x.work.carries
  -- by id and node, each once
  pub rise : AllPairs (λ (c d : Carry). IsBefore c.place.id c.place.node d.place.id d.place.node) x.work.carries
  -- what it took to hand it over: nothing, or what there was at each place of its group
  pub handed : List PlaceAmount
  pub places : (handed ≡ []) ⊎ ((map (λ (a : PlaceAmount). a.place) handed ≡ places_offlined s x.command) × HasCarried x.answered.reply)
  pub noted : x.work.carries ≡ flat_map (carry_of x.by) handed
  -- its moves are those of its walks, and then these, each in order
  pub steps : map told_step x.work.moves ≡ flat_map steps_walked x.work.walks ++ flat_map (steps_handed s) handed
