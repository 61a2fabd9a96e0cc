-- SPDX-License-Identifier: GPL-2.0-only
-- What a call adds to its seat's view, and what it leaves as it was.
use Rattle.std.specs.Prelude.{◌≡◌, ℕ, List, [], ◌∷◌, length, cond, ◌==◌, ◌&&◌, nat_lt, Bool, true, Contains, None}
use Rattle.shr_base.specs.declared.objects.Object.{Object}
use Rattle.shr_base.specs.declared.journals.Entry.{Entry}
use Rattle.shr_base.specs.declared.places.Place.{Place}
use Rattle.shr_model.specs.Groups.{IsAtOrAbove}
use Rattle.shr_model.specs.Items.{is_closed}
use Rattle.shr_model.specs.PlaceNumbers.{place_number}
use Rattle.shr_model.specs.Places.{at_group}
use Rattle.shr_core.specs.declared.view.View.{View}
use Rattle.shr_core.specs.Parts.{Made}
use Rattle.shr_core.specs.Gained.{nothing, Adds, OwesNoMore}
use Rattle.shr_core.specs.Layout.{group_of}
use Rattle.shr_core.specs.Steps.{in_hand, with_stored, with_set, with_given}

-- The view gained these entries made and these places whose bit it set, and no more. No place is
-- owed that was not owed before. All else stays, but for the drain marks of a seat that owns an id.
pub record Gains (v w : View) (more : List Made) (bits : List ℕ) : Type 0 where
  pub adds : Adds v w (record nothing { made = more; sets = bits })
  pub owed : OwesNoMore v w
  pub holding : w.holding ≡ v.holding
  pub claims : w.claims ≡ record v.claims { drained = w.claims.drained }
  pub marks : v.claims.owner ≡ None → w.claims ≡ v.claims
  pub turns : w.turns ≡ v.turns

-- the seat knows this beginning of the journal of a place
abbrev pub Knows : View → ℕ → List Entry → Type 0
Knows v k entries = Contains v.traces.known (record { place = k; entries = entries })

-- the seat knows that the list of a place is closed
abbrev pub KnowsClosed : View → ℕ → Type 0
KnowsClosed v k = (entries : List Entry) × Knows v k entries × (is_closed entries ≡ true)

-- The seat knows that the list of a place is closed, or that of a group above its own on the same id
-- and node. Either way it is closed, since each list below a closed one is (`closed_below` of
-- proofs/BelowClosed.antt).
abbrev pub IsKnownClosed : List ℕ → View → Place → Type 0
IsKnownClosed parents v place = (above : ℕ) × IsAtOrAbove parents above place.group × KnowsClosed v (place_number (at_group place above))

-- a list below the root had no item and has one now
abbrev pub is_raised : ℕ → List Object → List Object → Bool
is_raised k old new = (length old == 0) && nat_lt 0 (length new) && nat_lt 0 (group_of k)

-- the place whose bit is set after its items were these and are those now
abbrev pub bits_for : ℕ → List Object → List Object → List ℕ
bits_for k old new = cond (is_raised k old new) (k ∷ []) []

-- the bit of a place was set if its list was filled
abbrev pub with_raised : View → ℕ → List Object → List Object → View
with_raised v k old new = cond (is_raised k old new) (with_set v k) v

-- one entry more was stored in a place, its bit was set if its list was filled, and its room was
-- given back
abbrev pub with_kept : View → ℕ → Entry → List Object → View
with_kept v k e items = with_given (with_raised (with_stored v k e items) k (in_hand v k).items items) k
