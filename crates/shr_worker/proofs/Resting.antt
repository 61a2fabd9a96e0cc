-- SPDX-License-Identifier: GPL-2.0-only
-- A worker is at rest after a call on registrations: its seat holds nothing, and owes nothing that it didn't owe before.
use Rattle.shr_worker.proofs.Common.{◌≡◌, ◌∙◌, ℕ, List, subst, Serial, View, view_of, shape_of, Shared, IsFit}
use Rattle.shr_base.specs.declared.journals.PoolEntry.{PoolEntry}
use Rattle.shr_core.specs.declared.table.Core.{Core}
use Rattle.shr_core.specs.declared.setting.Setting.{Setting}
use Rattle.shr_core.specs.Gained.{OwesNoMore}
use Rattle.shr_core.specs.Parts.{no_rooms}
use Rattle.shr_core.specs.Seats.{Seated}
use Rattle.shr_core.proofs.Owing.{still_none}
use Rattle.shr_registry.specs.Adding.{IsFree}
use Rattle.shr_registry.specs.Answers.{RegisterGives}
use Rattle.shr_registry.specs.Ending.{UnregisterGives}
use Rattle.shr_registry.specs.declared.answers.RegisterAnswer.{RegisterAnswer}
use Rattle.shr_registry.specs.declared.answers.RegisterAnswer.TheVariants as register
use Rattle.shr_registry.specs.declared.answers.UnregisterAnswer.{UnregisterAnswer}
use Rattle.shr_walk.specs.State.{IsRested}
use Rattle.shr_walk.specs.declared.seats.Seats.{Seats}

-- the seats with another seat of the core
abbrev pub with_core : Seats → Seated → Seats
with_core s k = record { cache = record { core = k; charge = s.cache.charge; uses = s.cache.uses }; deferred = s.deferred; walks = s.walks; carries = s.carries }

-- whatever a registration is answered, the seat is free after it
pub register_free : (key : Setting) (v : View) (decl : ℕ) (pool : List PoolEntry) (gives : ℕ) (r : RegisterAnswer) (w : View) → RegisterGives key v decl pool gives r w → IsFree w × OwesNoMore v w
register_free key v decl pool gives (register.AlreadyRegistered entry) w h = (h.free, h.gains.owed)
register_free key v decl pool gives (register.NoId entry) w h = (h.misses.free, h.misses.gains.owed)
register_free key v decl pool gives register.Memory w h = (h.free, h.gains.owed)
register_free key v decl pool gives (register.Registered id entry) w h = (h.free, h.gains.owed)

-- a worker is at rest where its core seat alone is another now
pub fit_with : (x : Shared) (s : Seats) (k : Seated) → IsFit x s → k.core ≡ s.cache.core.core → (view_of k).holding ≡ no_rooms → IsFree (view_of k) → OwesNoMore (view_of s.cache.core) (view_of k) → IsFit x (with_core s k)
fit_with x s k fit same rooms free owed = let r = fit.rested in record {
  shared = fit.shared;
  rested = record {
    core = same ∙ r.core;
    idle = record { rooms = rooms; held = free.held; owner = free.owner };
    owed = still_none (view_of s.cache.core) (view_of k) r.owed owed;
    charge = r.charge;
    deferred = r.deferred;
  };
}

-- what an unregistering gave by the seat's core it gave by the one that is shared
pub ended_at : (x : Shared) (s : Seats) (decl : ℕ) (by : Serial) (a : UnregisterAnswer) (w : View) → IsRested x s → UnregisterGives (shape_of s.cache.core.core) (view_of s.cache.core) decl by a w → UnregisterGives (shape_of x.core) (view_of s.cache.core) decl by a w
ended_at x s decl by a w r h = subst (λ (k : Core). UnregisterGives (shape_of k) (view_of s.cache.core) decl by a w) r.core h
