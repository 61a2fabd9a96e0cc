-- SPDX-License-Identifier: GPL-2.0-only
-- What the first seat has done once the caches that are on were registered.
use Rattle.std.specs.Prelude.{◌≡◌, ℕ, zero, suc, Bool, true, false, List, [], ◌∷◌, ◌++◌, length, slice_get, Option, Some, None}
use Rattle.shr_base.specs.declared.journals.PoolEntry.{PoolEntry}
use Rattle.shr_base.specs.declared.journals.PoolEntry.TheVariants.{Registered}
use Rattle.shr_base.specs.declared.scripts.CacheDecl.{CacheDecl}
use Rattle.shr_seats.specs.Standing.{at_first}
use Rattle.shr_seats.specs.Weights.{Begins}
use Rattle.shr_core.specs.declared.view.View.{View}
use Rattle.shr_core.specs.Gained.{nothing, IsIdle}
use Rattle.shr_core.specs.Rule.{opener}
use Rattle.shr_core.specs.Seats.{first_view}
use Rattle.shr_charge.specs.Seat.{first_uses, first_tree, first_standing}
use Rattle.shr_charge.specs.Views.{own_uses, no_tree}
use Rattle.shr_deferred.specs.Seat.{first_deferred}
use Rattle.shr_deferred.specs.Rule.{first_view as beginner}
use Rattle.shr_plain.specs.declared.table.FirstPlainSeat.{FirstPlainSeat}
use Rattle.shr_plain.specs.declared.table.Pools.{Pools}
use Rattle.shr_plain.specs.Seat.{IsFirstPlainOf, first_plain, first_plain_standing, no_state}
use Rattle.shr_registry.specs.Adding.{Brings}
use Rattle.shr_walk.specs.declared.seats.FirstSeats.{FirstSeats}
use Rattle.shr_walk.specs.declared.seats.Shared.{Shared}
use Rattle.shr_walk.specs.Sharing.{AreFirstOf}

-- A declaration was registered: one entry more of the pool's journal, after all that the seat knew, by which the
-- registration begins with the first lookup of its id. Nothing else was gained.
pub record Enters (decl : ℕ) (v w : View) : Type 0 where
  pub id : ℕ
  pub before : List PoolEntry
  pub seen : Begins v.turns.known before
  pub known : w.turns.known ≡ before ++ Registered decl id 0 ∷ []
  pub gains : Brings v w (record nothing { turns = record { number = length before; entry = Registered decl id 0 } ∷ []; gives = 1 })

-- the cache is on
abbrev pub is_on : Option CacheDecl → Bool
is_on None = false
is_on (Some c) = c.on

-- the seat registered the declaration where it is on, and did nothing where it is off
abbrev pub EntersIf : Bool → ℕ → View → View → Type 0
EntersIf true decl v w = Enters decl v w
EntersIf false decl v w = w ≡ v

-- those of the first declarations that are on were registered, one after another
abbrev pub AreEntered : List CacheDecl → ℕ → View → View → Type 0
AreEntered caches zero v w = w ≡ v
AreEntered caches (suc n) v w = (u : View) × AreEntered caches n v u × EntersIf (is_on (slice_get caches n)) n u w

-- The first seats of tables whose caches that are on are registered. They hold and owe nothing, and have done nothing else.
pub record AreReady (x : Shared) (f : FirstSeats) : Type 0 where
  pub first : AreFirstOf x.core x.charge x.deferred f
  pub idle : IsIdle (first_view f.core)
  pub owed : (first_view f.core).marks.owed ≡ []
  pub entered : AreEntered x.script.caches.items (length x.script.caches.items) opener (first_view f.core)
  pub uses : first_uses f.charge ≡ own_uses
  pub tree : first_tree f.charge ≡ no_tree
  pub charged : first_standing f.charge ≡ at_first
  pub deferred : first_deferred f.deferred ≡ beginner

-- the first seat of new pools, which has done and seen nothing
pub record IsPlainReady (p : Pools) (f : FirstPlainSeat) : Type 0 where
  pub first : IsFirstPlainOf p f
  pub state : first_plain f ≡ no_state
  pub standing : first_plain_standing f ≡ (at_first, at_first)
