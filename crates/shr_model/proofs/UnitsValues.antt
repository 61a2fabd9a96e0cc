-- SPDX-License-Identifier: GPL-2.0-only
-- Journals of pools and their free units, at known values.
use Rattle.shr_model.proofs.Common.{◌≡◌, true, false, List, [], ◌∷◌, refl, arith, Serial, lit≤}
use Rattle.shr_base.specs.declared.journals.PlainEntry.{PlainEntry}
use Rattle.shr_base.specs.declared.journals.PlainEntry.TheVariants.{Release, Grab, Reclaim}
use Rattle.shr_model.specs.Units.{free_after, free_of, IsPlainEntry, IsPlainJournal}

abbrev first : Serial
first = record { worker = 0; command = 0 }

-- five units are released, one is grabbed, three are reclaimed, the last is asked for by two walks,
-- and then none is left for a grab
abbrev used_up : List PlainEntry
used_up = Release first 5 ∷ Grab first true ∷ Reclaim 0 0 3 3 ∷ Reclaim 1 0 3 1 ∷ Reclaim 0 1 3 0 ∷ Grab first false ∷ []

used_up_journal : IsPlainJournal used_up
used_up_journal = (lit≤ tt, (refl, (refl, (refl, (refl, (refl, tt))))))

used_up_free : free_of used_up ≡ 0
used_up_free = refl

-- each entry moves the free units by what it did
released_free : free_after 4 (Release first 3) ≡ 7
released_free = refl

grabbed_free : free_after 4 (Grab first true) ≡ 3
grabbed_free = refl

bare_free : free_after 4 (Grab first false) ≡ 4
bare_free = refl

-- a reclaim takes what it freed, and not what it asked
reclaimed_free : free_after 4 (Reclaim 0 0 128 1) ≡ 3
reclaimed_free = refl

-- 20,000 free units are allowed, and one more isn't
full_pool : IsPlainJournal (Release first 20000 ∷ [])
full_pool = (lit≤ tt, tt)

not_past_full : IsPlainJournal (Release first 20000 ∷ Release first 1 ∷ []) → ⊥
not_past_full h = let e = h.1.0 in omega (arith, e)

-- a grab gets one where one is free, and only there
not_bare : IsPlainEntry (Release first 1 ∷ []) (Grab first false) → ⊥
not_bare h = let e : false ≡ true = h in cc

not_grabbed : IsPlainEntry [] (Grab first true) → ⊥
not_grabbed h = let e : true ≡ false = h in cc

-- a reclaim frees all that it asks where that is free, and never more than is free
not_less : IsPlainEntry (Release first 5 ∷ []) (Reclaim 0 0 3 2) → ⊥
not_less h = omega (arith, h)

not_more : IsPlainEntry (Release first 5 ∷ []) (Reclaim 0 0 8 8) → ⊥
not_more h = omega (arith, h)
