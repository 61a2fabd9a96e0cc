-- SPDX-License-Identifier: GPL-2.0-only
-- The law on walks, from its fields.
use Rattle.std.proofs.Common.{◌≡◌, ◌<◌, ℕ, Bool, true, false, Some, slice_get}
use Rattle.std.specs.Prelude.{flat_map}
use Rattle.std.specs.Bool.{Decides}
use Rattle.std.specs.List.{AllByRecursion}
use Rattle.shr_base.specs.declared.places.Place.{Place}
use Rattle.shr_base.specs.declared.scripts.Script.{Script}
use Rattle.shr_base.specs.declared.walks.MapSeen.{MapSeen}
use Rattle.shr_model.specs.Bits.{is_set}
use Rattle.shr_model.specs.Places.{bit_of}
use Rattle.shr_model.specs.Walks.{versions_at}
use Rattle.shr_laws.specs.declared.report.Report.{Report}
use Rattle.shr_laws.specs.LawfulWalk.{IsLawfulWalk}
use Rattle.shr_laws.specs.Parts.{EachAnswer, EachEntry, EachWalk, at, cited_at, serial_of, walks_by, walks_of}
use Rattle.shr_laws.specs.WalksLawful.{AreWalksLawful, AreWalksOf, Covers, FillsPlace, IsOfPass, IsToldBy, was_cleared}
use Rattle.shr_laws.specs.WellFormed.{AreNotFalling}

-- each walk is lawful
abbrev pub Lawful : Script → Report → Type 0
Lawful s r = EachWalk r (IsLawfulWalk s r)

-- there is no Scan entry but those of passes
abbrev pub NoOthers : Report → Type 0
NoOthers r = EachEntry r (λ place n e. IsOfPass r place e)

-- each command has its walks
abbrev pub Made : Script → Report → Type 0
Made s r = EachAnswer s r (λ by c a. AreWalksOf s r by c a.reply)

-- and is told what they say
abbrev pub Told : Script → Report → Type 0
Told s r = EachAnswer s r (λ by c a. IsToldBy s (walks_by r by) c a.reply)

-- the versions of a worker's counts never fall
abbrev pub Rising : Report → Type 0
Rising r = (worker : ℕ) (place : Place) → AreNotFalling (flat_map (versions_at place) (walks_of r worker))

-- and are above what its earlier replies cite
abbrev pub Later : Report → Type 0
Later r = EachWalk r (λ worker n w. (k entry : ℕ) (place : Place) → k < w.by.command → cited_at r (serial_of worker k) ≡ Some (at place entry)
    → AllByRecursion (λ version. entry < version) (versions_at place w))

-- its maps have the bits of what it filled
abbrev pub Seen : Script → Report → Type 0
Seen s r = EachWalk r (λ worker n w. (i k : ℕ) (m : MapSeen) (place : Place) → slice_get w.maps.items i ≡ Some m → Covers w m place
    → k < w.by.command → FillsPlace s r (serial_of worker k) place → was_cleared r place ≡ false → is_set m.bits (bit_of place.id) ≡ true)

pub all_lawful : (s : Script) (r : Report) (b : Bool) → Lawful s r → NoOthers r → Made s r → Told s r → Rising r → Later r → Decides b (Seen s r) → Decides b (AreWalksLawful s r)
all_lawful s r b each others made told rising later d = (
  λ t. record {
    each = each;
    no_others = others;
    walks = made;
    told = told;
    versions = rising;
    later = later;
    bits = d.0 t;
  },
  λ h. d.1 h.bits,
)
