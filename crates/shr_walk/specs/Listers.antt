-- SPDX-License-Identifier: GPL-2.0-only
-- What contracts see of a lister.
use Rattle.std.specs.Prelude.{ℕ, Bool, ◌&&◌}
use Rattle.shr_base.specs.declared.objects.Policy.{Policy}
use Rattle.shr_base.specs.declared.places.Place.{Place}
use Rattle.shr_base.specs.declared.places.Serial.{Serial}
use Rattle.shr_base.specs.declared.scripts.CacheDecl.{CacheDecl}
use Rattle.shr_walk.specs.declared.lister.Lister.{Lister}
use Rattle.shr_walk.specs.declared.seats.Shared.{Shared}

-- the list that is counted and scanned, how its cache was declared, and the walk that does it
pub record Listing : Type 0 where
  pub shared : Shared
  pub place : Place
  pub policy : Policy
  -- a count up to this many objects is skipped
  pub floor : ℕ
  -- each scan answers Stop
  pub stops : Bool
  pub by : Serial
  -- the walk's number among those of its worker
  pub walk : ℕ

-- those of a lister
abbrev pub listing_of : {R : Type 0} → Lister R → Listing
listing_of l = record { shared = l.shared.now; place = l.place; policy = l.policy; floor = l.floor; stops = l.stops; by = l.by; walk = l.walk }

-- By a declaration, for a walk. Its scans stop where the cache enters a filesystem, and the walk may not.
abbrev pub listing_by : Shared → Place → CacheDecl → Bool → Serial → ℕ → Listing
listing_by x place d nofs by walk = record { shared = x; place = place; policy = d.policy; floor = d.floor; stops = d.fs && nofs; by = by; walk = walk }
