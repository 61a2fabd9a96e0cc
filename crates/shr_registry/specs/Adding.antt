-- SPDX-License-Identifier: GPL-2.0-only
-- What a call of the registry gains, and what it leaves as it was.
use Rattle.shr_seats.specs.Lines.{by_seat}
use Rattle.std.specs.Prelude.{◌≡◌, ℕ, ◌<◌, List, [], ◌∷◌, true, None, Some, ◌++◌, map}
use Rattle.shr_base.specs.declared.journals.PoolEntry.{PoolEntry}
use Rattle.shr_model.specs.Pool.{is_live, decl_of}
use Rattle.shr_core.specs.declared.view.View.{View}
use Rattle.shr_seats.specs.declared.shape.Shape.{Shape}
use Rattle.shr_core.specs.Gained.{Gained, Adds, OwesNoMore}
use Rattle.shr_core.specs.Parts.{Holding, Loaded, loaded as loaded_event}
use Rattle.shr_core.specs.Layout.{places_in}
use Rattle.shr_core.specs.Rule.{pool_content}

-- The call gained this, and besides it loaded words of ids. No place is owed that was not owed
-- before.
pub record Brings (v w : View) (g : Gained) : Type 0 where
  pub words : List Loaded
  pub adds : Adds v w (record g { loaded = words })
  pub owed : OwesNoMore v w

-- lookup words were loaded
pub record Loads (v w : View) : Type 0 where
  pub holding : w.holding ≡ v.holding
  pub traces : w.traces ≡ v.traces
  pub marks : w.marks ≡ record v.marks { owed = w.marks.owed }
  pub owed : OwesNoMore v w
  pub claims : w.claims ≡ record v.claims { loaded = w.claims.loaded; quiet = w.claims.quiet }
  -- these words, each noted
  pub loaded : (more : List Loaded) × (w.claims.loaded ≡ v.claims.loaded ++ more) × (w.did ≡ v.did ++ by_seat v.seat (map (λ x. loaded_event x) more))
  pub seat : w.seat ≡ v.seat
  pub turns : w.turns ≡ v.turns
  pub standing : w.standing ≡ v.standing

-- the pool alone is in hand, with this journal
abbrev pub only_pool : Shape → List PoolEntry → Holding
only_pool shape pool = record { hands = record { room = places_in shape.ids; content = pool_content pool } ∷ []; half = None }

-- an id is live with a declaration
pub record IsLiveAs (shape : Shape) (pool : List PoolEntry) (id decl : ℕ) : Type 0 where
  pub near : id < shape.ids
  pub live : is_live id pool ≡ true
  pub named : decl_of id pool ≡ decl

-- the seat holds no id and owns none
pub record IsFree (v : View) : Type 0 where
  pub held : v.claims.held ≡ None
  pub owner : v.claims.owner ≡ None

-- the seat holds an id by the lookup with this number, as this declaration
pub record IsHeldBy (v : View) (id number decl : ℕ) : Type 0 where
  pub held : v.claims.held ≡ Some id
  pub drawn : v.claims.number ≡ number
  pub named : v.claims.decl ≡ decl
  pub owner : v.claims.owner ≡ None

-- the seat holds and owns nothing, owes nothing that it did not owe before, and stands as it did
pub record StaysFree (v w : View) : Type 0 where
  pub held : w.claims.held ≡ None
  pub owner : w.claims.owner ≡ None
  pub owed : OwesNoMore v w
  pub standing : w.standing ≡ v.standing
