-- SPDX-License-Identifier: GPL-2.0-only
-- What splicing a group's lists of all ids on all nodes makes.
use Rattle.std.specs.Prelude.{◌≡◌, ℕ, ◌+◌, ◌*◌, ◌/◌, ◌%◌, ◌<◌, List, [], ◌∷◌, map}
use Rattle.std.specs.List.{range_with_len}
use Rattle.shr_base.specs.declared.places.Place.{Place}
use Rattle.shr_core.specs.declared.view.View.{View}
use Rattle.shr_seats.specs.declared.shape.Shape.{Shape}
use Rattle.shr_node.specs.declared.answers.SpliceAnswer.{SpliceAnswer}
use Rattle.shr_node.specs.declared.answers.SpliceAnswer.TheVariants as splice
use Rattle.shr_node.specs.Splicing.{group_place, IsSpliced, SpliceIsWorn, SpliceLacks}

-- the place of a group at the id and node of a number: the nodes of id 0 come first, then those of
-- id 1, and so on
abbrev pub place_by_number : Shape → ℕ → ℕ → Place
place_by_number shape group n = group_place (n / shape.nodes) (n % shape.nodes) group

-- how many ids and nodes there are
abbrev pub count_of_places : Shape → ℕ
count_of_places shape = shape.ids * shape.nodes

-- The group was spliced at each of these places, in this order, each from where the one before
-- ended. Its own lists gave `moved` objects together.
abbrev pub AreSpliced : Shape → List Place → ℕ → View → View → Type 0
AreSpliced shape [] moved v w = (moved ≡ 0) × (v ≡ w)
AreSpliced shape (p ∷ ps) moved v w = (u : View) × (first : ℕ) × (rest : ℕ) × (moved ≡ first + rest) × IsSpliced shape v u p.id p.node p.group first × AreSpliced shape ps rest u w

-- the places of the first ids and nodes
abbrev pub first_places : Shape → ℕ → ℕ → List Place
first_places shape group n = map (place_by_number shape group) (range_with_len 0 n)

-- all places of the group
abbrev pub all_places : Shape → ℕ → List Place
all_places shape group = first_places shape group (count_of_places shape)

-- Some places were spliced, and at the next one the splice stopped so.
pub record SpliceStopsIn (shape : Shape) (group : ℕ) (stops : View → View → Place → Type 0) (v w : View) : Type 0 where
  pub reached : ℕ
  pub within : reached < count_of_places shape
  pub moved : ℕ
  pub between : View
  pub spliced : AreSpliced shape (first_places shape group reached) moved v between
  pub stopped : stops between w (place_by_number shape group reached)

-- what splicing all places answers
abbrev pub AllGives : Shape → ℕ → SpliceAnswer → View → View → Type 0
AllGives shape group (splice.Spliced moved) v w = AreSpliced shape (all_places shape group) moved v w
AllGives shape group (splice.Worn s) v w = SpliceStopsIn shape group (λ u t p. SpliceIsWorn shape u t p.id p.node p.group s) v w
AllGives shape group splice.Memory v w = SpliceStopsIn shape group (λ u t p. SpliceLacks shape u t p.id p.node p.group) v w
