-- SPDX-License-Identifier: GPL-2.0-only
-- What ending a registration makes, step by step and as a whole.
use Rattle.std.specs.Prelude.{◌≡◌, ℕ, ◌+◌, ◌<◌, List, [], ◌∷◌, ◌++◌, length, AllPairs, Option, Some, None}
use mathlib.Core.Option.{some}
use lib.ListN.{get_elem?}
use Rattle.shr_base.specs.declared.objects.Object.{Object}
use Rattle.shr_base.specs.declared.places.Serial.{Serial}
use Rattle.shr_base.specs.declared.journals.PoolEntry.{PoolEntry}
use Rattle.shr_base.specs.declared.journals.PoolEntry.TheVariants.{Unregistered, Idle}
use Rattle.shr_base.specs.declared.replies.HalfWhy.{HalfWhy}
use Rattle.shr_base.specs.declared.replies.HalfWhy.TheVariants as why
use Rattle.shr_model.specs.Pool.{phase_of, from_of}
use Rattle.shr_list.specs.Listed.{Listed}
use Rattle.shr_list.specs.Answers.{HasRoom, drain_entry}
use Rattle.shr_seats.specs.Views.{Each}
use Rattle.shr_seats.specs.Weights.{Begins}
use Rattle.shr_core.specs.declared.view.View.{View}
use Rattle.shr_seats.specs.declared.shape.Shape.{Shape}
use Rattle.shr_core.specs.Gained.{nothing}
use Rattle.shr_core.specs.Parts.{Made, Turn}
use Rattle.shr_core.specs.Rule.{HasLastEnd, mark_of}
use Rattle.shr_core.specs.Steps.{undrained}
use Rattle.shr_node.specs.Gains.{Gains}
use Rattle.shr_node.specs.Draining.{Draw, IsDraw, made_by_draws, drawn, IsFilled, DrainWorn}
use Rattle.shr_registry.specs.declared.retiring.Retired.{Retired}
use Rattle.shr_registry.specs.declared.retiring.Retired.TheVariants as retired
use Rattle.shr_registry.specs.declared.answers.UnregisterAnswer.{UnregisterAnswer}
use Rattle.shr_registry.specs.declared.answers.UnregisterAnswer.TheVariants as unregister
use Rattle.shr_registry.specs.Adding.{Brings, IsLiveAs, IsFree}
use Rattle.shr_registry.specs.Answers.{Misses}

-- the seat owns an id that it has not begun to drain, and holds none
pub record OwnsAll (shape : Shape) (w : View) (id : ℕ) : Type 0 where
  pub held : w.claims.held ≡ None
  pub owner : w.claims.owner ≡ Some id
  pub drained : w.claims.drained ≡ undrained shape

-- a registration of the id as this declaration ends after this journal; it began with this number
pub record IsLast (shape : Shape) (before : List PoolEntry) (decl id entry from : ℕ) : Type 0 where
  pub live : IsLiveAs shape before id decl
  pub number : entry ≡ length before
  pub began : from ≡ from_of id before

-- the Unregistered is made at the end of this journal
abbrev pub ended_turn : List PoolEntry → ℕ → ℕ → ℕ → Turn
ended_turn before decl id to = record { number = length before; entry = Unregistered decl id to }

-- the declaration is live, and there was no memory for the entries
pub record EndsLacking (shape : Shape) (v : View) (decl : ℕ) (pool : List PoolEntry) (gives : ℕ) (w : View) : Type 0 where
  pub id : ℕ
  pub live : IsLiveAs shape pool id decl
  pub free : IsFree w
  pub gains : Brings v w (record nothing { gives = gives })

-- the id is dying and the seat owns it
pub record Dies (shape : Shape) (v : View) (decl : ℕ) (pool : List PoolEntry) (gives id entry from to : ℕ) (w : View) : Type 0 where
  pub before : List PoolEntry
  pub ended : IsLast shape before decl id entry from
  pub grown : pool ≡ before ++ Unregistered decl id to ∷ []
  -- all that the seat knew and made stood before
  pub seen : Begins v.turns.known before
  pub later : Each (λ (x : Turn). x.number < length before) v.turns.made
  pub owns : OwnsAll shape w id
  pub gains : Brings v w (record nothing { turns = ended_turn before decl id to ∷ []; gives = gives })

-- what the step to dying answers
abbrev pub RetireGives : Shape → View → ℕ → List PoolEntry → ℕ → Retired → View → Type 0
RetireGives shape v decl pool gives (retired.NoCache entry) w = Misses shape v decl pool gives entry w
RetireGives shape v decl pool gives retired.Memory w = EndsLacking shape v decl pool gives w
RetireGives shape v decl pool gives (retired.Dying id entry from to) w = Dies shape v decl pool gives id entry from to w

-- the entries that the draws of one node after another made, from this node on
abbrev pub made_from : ℕ → ℕ → Serial → List (List Draw) → List Made
made_from id node by [] = []
made_from id node by (ds ∷ more) = made_by_draws id node by ds ++ made_from id (node + 1) by more

-- the objects of the draws of one node after another
abbrev pub drawn_from : List (List Draw) → List Object
drawn_from [] = []
drawn_from (ds ∷ more) = drawn ds ++ drawn_from more

-- lists of the id on a node that held objects were emptied, from the highest group down
pub record AreNodeDraws (shape : Shape) (v : View) (id node : ℕ) (ds : List Draw) : Type 0 where
  pub each : Each (IsDraw shape v id node) ds
  pub falling : AllPairs (λ (a b : Draw). b.group < a.group) ds

-- the lists of one node after another, from node 0 on, and their objects stand at the end of what
-- was drained before
pub record AreDrained (shape : Shape) (v w : View) (id : ℕ) (by : Serial) (before after : List Object) (draws : List (List Draw)) : Type 0 where
  pub each : (node : ℕ) (ds : List Draw) → get_elem? draws node ≡ some ds → AreNodeDraws shape v id node ds
  pub objects : after ≡ before ++ drawn_from draws
  pub gains : Gains v w (made_from id 0 by draws) []

-- a list that held objects and had room for its Drained stands in the way: there was no memory
pub record LacksAt (shape : Shape) (v w : View) (id node group : ℕ) (by : Serial) : Type 0 where
  pub old : Listed
  pub filled : IsFilled shape v w id node group old
  pub room : HasRoom old [] (drain_entry old by)

-- why a drain stopped at this list: there was no memory, or the list had no room for its Drained
abbrev pub StoppedBy : Shape → View → View → ℕ → ℕ → ℕ → Serial → HalfWhy → Type 0
StoppedBy shape v w id node group by why.Memory = LacksAt shape v w id node group by
StoppedBy shape v w id node group by (why.Worn s) = DrainWorn shape v w id node group by s

-- it stopped at this list: of its node those of higher groups were emptied, and no node after it
-- was touched
pub record StopsIn (shape : Shape) (v w : View) (id : ℕ) (by : Serial) (why : HalfWhy) (draws : List (List Draw)) : Type 0 where
  pub node : ℕ
  pub group : ℕ
  pub last : length draws ≡ node + 1
  pub near : node < shape.nodes
  pub above : (ds : List Draw) → get_elem? draws node ≡ some ds → Each (λ d. group < d.group) ds
  pub stopped : StoppedBy shape v w id node group by why

-- each list of the id on this many nodes is empty
pub record Emptied (shape : Shape) (v w : View) (id nodes : ℕ) (by : Serial) (before after : List Object) : Type 0 where
  pub draws : List (List Draw)
  pub all : length draws ≡ nodes
  pub drained : AreDrained shape v w id by before after draws
  pub down : (n : ℕ) → n < nodes → mark_of w.claims n ≡ 0

-- some were emptied
pub record EmptyStops (shape : Shape) (v w : View) (id : ℕ) (by : Serial) (before after : List Object) (why : HalfWhy) : Type 0 where
  pub draws : List (List Draw)
  pub drained : AreDrained shape v w id by before after draws
  pub stops : StopsIn shape v w id by why draws

-- what draining all nodes answers
abbrev pub EmptyGives : Shape → View → ℕ → Serial → List Object → Option HalfWhy → List Object → View → Type 0
EmptyGives shape v id by before None after w = Emptied shape v w id shape.nodes by before after
EmptyGives shape v id by before (Some why) after w = EmptyStops shape v w id by before after why

-- the id became idle at the end of this journal, in which no entry of the id follows the seat's own
-- Unregistered
pub record Rests (v w : View) (id : ℕ) (then : List PoolEntry) (gives : ℕ) : Type 0 where
  pub owner : w.claims.owner ≡ None
  pub held : w.claims.held ≡ v.claims.held
  pub end : HasLastEnd id then v.turns.made
  pub gains : Brings v w (record nothing { turns = record { number = length then; entry = Idle id } ∷ []; gives = gives })

-- The lists of the id were emptied and it became idle: its Unregistered and its Idle stand in the
-- pool's journal that the seat knows, and no entry of the id between them.
pub record Frees (shape : Shape) (v : View) (decl : ℕ) (by : Serial) (id entry from to : ℕ) (objects : List Object) (w : View) : Type 0 where
  pub before : List PoolEntry
  pub then : List PoolEntry
  pub draws : List (List Draw)
  pub ended : IsLast shape before decl id entry from
  pub seen : Begins v.turns.known before
  pub begins : Begins (before ++ Unregistered decl id to ∷ []) then
  pub between : phase_of id then ≡ phase_of id before + 1
  pub known : w.turns.known ≡ then ++ Idle id ∷ []
  pub nodes : length draws ≡ shape.nodes
  pub each : (node : ℕ) (ds : List Draw) → get_elem? draws node ≡ some ds → AreNodeDraws shape v id node ds
  pub drained : objects ≡ drawn_from draws
  pub free : IsFree w
  pub gains : Brings v w (record nothing { made = made_from id 0 by draws; turns = ended_turn before decl id to ∷ record { number = length then; entry = Idle id } ∷ []; gives = 2 })

-- A drain stopped: the Unregistered is the last entry of the pool's journal that the seat knows,
-- and the id stays dying.
pub record Halves (shape : Shape) (v : View) (decl : ℕ) (by : Serial) (id entry from to : ℕ) (objects : List Object) (why : HalfWhy) (w : View) : Type 0 where
  pub before : List PoolEntry
  pub draws : List (List Draw)
  pub ended : IsLast shape before decl id entry from
  pub seen : Begins v.turns.known before
  pub known : w.turns.known ≡ before ++ Unregistered decl id to ∷ []
  pub each : (node : ℕ) (ds : List Draw) → get_elem? draws node ≡ some ds → AreNodeDraws shape v id node ds
  pub drained : objects ≡ drawn_from draws
  pub stops : StopsIn shape v w id by why draws
  pub free : IsFree w
  pub gains : Brings v w (record nothing { made = made_from id 0 by draws; turns = ended_turn before decl id to ∷ []; gives = 1 })

-- what `unregister` answers
abbrev pub UnregisterGives : Shape → View → ℕ → Serial → UnregisterAnswer → View → Type 0
UnregisterGives shape v decl by (unregister.NoCache entry) w = Misses shape v decl w.turns.known 1 entry w
UnregisterGives shape v decl by unregister.Memory w = EndsLacking shape v decl w.turns.known 1 w
UnregisterGives shape v decl by (unregister.Freed id entry from to objects) w = Frees shape v decl by id entry from to objects.items w
UnregisterGives shape v decl by (unregister.Half id entry from to objects why) w = Halves shape v decl by id entry from to objects.items why w
