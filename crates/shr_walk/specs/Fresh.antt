-- SPDX-License-Identifier: GPL-2.0-only
-- Counts that are not older than what a seat had seen and made before.
use Rattle.std.specs.Prelude.{◌≡◌, ◌<◌, ◌≤◌, List, [], ◌∷◌}
use Rattle.shr_seats.specs.Views.{Each}
use Rattle.shr_core.specs.declared.view.View.{View}
use Rattle.shr_core.specs.Parts.{Made, Counted}

-- a count is not older than any count of its place before, and later than each entry made there
-- before
pub record IsFreshAt (v : View) (x : Counted) : Type 0 where
  pub seen : Each (λ (y : Counted). y.place ≡ x.place → y.version ≤ x.version) v.traces.seen
  pub made : Each (λ (m : Made). m.place ≡ x.place → m.number < x.version) v.traces.made

-- no count is older than one of its place before it in the list
abbrev pub Rising : List Counted → Type 0
Rising [] = Unit {0}
Rising (x ∷ l) = Each (λ (y : Counted). y.place ≡ x.place → x.version ≤ y.version) l × Rising l

-- each of these counts is fresh at its place, and none is older than one of its place before it
pub record AreFresh (v : View) (l : List Counted) : Type 0 where
  pub each : Each (IsFreshAt v) l
  pub rising : Rising l
