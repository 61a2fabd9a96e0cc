-- SPDX-License-Identifier: GPL-2.0-only
-- What draining makes, at known values.
use Rattle.shr_registry.proofs.Common.{◌≡◌, ℕ, [], ◌∷◌, refl, sym, Some, Serial, Draw, IsFree, IsHeldBy, made_from, drawn_from, no_claims, opener}
use Rattle.std.proofs.lemmas.Option.{none-some}
use Rattle.shr_base.specs.declared.journals.Entry.TheVariants.{Drained}

by : Serial
by = record { worker = 1; command = 4 }

-- a draw of a list with no object, which stands for its place alone
place_only : ℕ → Draw
place_only group = record { group = group; number = 3; items = [] }

-- of id 2: group 5 and then the root on node 0, nothing on node 1, the root on node 2
node_after_node : made_from 2 0 by ((place_only 5 ∷ place_only 0 ∷ []) ∷ [] ∷ (place_only 0 ∷ []) ∷ [])
    ≡ record { place = 2053; number = 3; entry = Drained by 0; items = [] } ∷ record { place = 2048; number = 3; entry = Drained by 0; items = [] } ∷ record { place = 2560; number = 3; entry = Drained by 0; items = [] } ∷ []
unfolding place_only by
node_after_node = refl

nothing_drawn : drawn_from ((place_only 5 ∷ []) ∷ [] ∷ []) ≡ []
unfolding place_only
nothing_drawn = refl

-- a seat that holds id 4 by number 9 as declaration 2, and one that owns an id
holds_four : IsHeldBy (record opener { claims = record no_claims { held = Some 4; number = 9; decl = 2 } }) 4 9 2
holds_four = record { held = refl; drawn = refl; named = refl; owner = refl }

new_seat_free : IsFree opener
new_seat_free = record { held = refl; owner = refl }

owner_not_free : IsFree (record opener { claims = record no_claims { owner = Some 0 } }) → ⊥
owner_not_free f = none-some 0 (sym f.owner)
