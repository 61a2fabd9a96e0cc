-- SPDX-License-Identifier: GPL-2.0-only
-- The journal of registrations, by what it says of each id.
use Rattle.std.specs.Prelude.{◌≡◌, ℕ, ◌+◌, ◌%◌, ◌<◌, ◌≤◌, List, length, slice_get, slice_index, slice_set, Option, Some, None}
use Rattle.shr_base.specs.declared.journals.PoolEntry.{PoolEntry}
use Rattle.shr_base.specs.declared.journals.PoolEntry.TheVariants.{Registered, Unregistered, Idle}
use Rattle.shr_model.specs.Pool.{id_of, phase_of, decl_of, from_of, last_number}
use Rattle.shr_audit_tables.specs.declared.registrations.IdState.{IdState}

-- what a journal says of an id
abbrev pub state_of_id : ℕ → List PoolEntry → IdState
state_of_id id es = record { phase = phase_of id es; decl = decl_of id es; from = from_of id es; last = last_number id es }

-- these are the states of the first ids after a journal
abbrev pub AreStates : List PoolEntry → List IdState → Type 0
AreStates es states = (id : ℕ) (x : IdState) → slice_get states id ≡ Some x → x ≡ state_of_id id es

-- the state of an id after one entry more that is of it
abbrev pub state_with : IdState → PoolEntry → IdState
state_with x (Registered decl id from) = record { phase = x.phase + 1; decl = decl; from = from; last = from }
state_with x (Unregistered decl id to) = record { phase = x.phase + 1; decl = x.decl; from = x.from; last = to }
state_with x (Idle id) = record { phase = x.phase + 1; decl = x.decl; from = x.from; last = x.last }

-- the states with the one of this id changed, if there is one
abbrev pub put_state : List IdState → ℕ → PoolEntry → Option IdState → List IdState
put_state states id e None = states
put_state states id e (Some x) = slice_set states id (state_with x e)

-- the states after one entry more
abbrev pub with_pool_entry : List IdState → PoolEntry → List IdState
with_pool_entry states e = put_state states (id_of e) e (slice_get states (id_of e))

-- the id is live with this declaration
abbrev pub IsStateLiveAs : ℕ → IdState → Type 0
IsStateLiveAs decl x = (x.phase % 3 ≡ 1) × (x.decl ≡ decl)

-- an id of these is live with this declaration
abbrev pub HasLive : ℕ → List IdState → Type 0
HasLive decl states = (id : ℕ) × ((x : IdState) × ((slice_get states id ≡ Some x) × IsStateLiveAs decl x))

-- the id can be registered
abbrev pub IsFreeNow : IdState → Type 0
IsFreeNow x = (x.phase % 3 ≡ 0) × (x.phase < 65533)

-- none of the first so many ids can be
abbrev pub NoneFree : ℕ → List IdState → Type 0
NoneFree n states = (id : ℕ) (x : IdState) → id < n → slice_get states id ≡ Some x → IsFreeNow x → ⊥

-- this is the lowest one that can be
abbrev pub IsLowestFree : List IdState → ℕ → Type 0
IsLowestFree states id = NoneFree id states × ((x : IdState) × ((slice_get states id ≡ Some x) × IsFreeNow x))

-- the state of this id is so
abbrev pub StateIs : List IdState → ℕ → (IdState → Type 0) → Type 0
StateIs states id P = (x : IdState) × ((slice_get states id ≡ Some x) × P x)

-- what an entry needs of the states before it
abbrev pub MayRegister : ℕ → List IdState → PoolEntry → Type 0
MayRegister decls states (Registered decl id from) = (decl < decls) × ((HasLive decl states → ⊥) × (IsLowestFree states id × StateIs states id (λ x. x.last ≤ from)))
MayRegister decls states (Unregistered decl id to) = StateIs states id (λ x. (x.phase % 3 ≡ 1) × ((decl ≡ x.decl) × (x.last ≤ to)))
MayRegister decls states (Idle id) = StateIs states id (λ x. x.phase % 3 ≡ 2)

-- so many ids of which nothing is said
pub record AreBlankStates (ids : ℕ) (states : List IdState) : Type 0 where
  pub count : length states ≡ ids
  pub blank : (id : ℕ) (x : IdState) → slice_get states id ≡ Some x → x ≡ record { phase = 0; decl = 0; from = 0; last = 0 }

-- the states of so many ids after a journal
pub record AreStatesOf (ids : ℕ) (es : List PoolEntry) (states : List IdState) : Type 0 where
  pub count : length states ≡ ids
  pub each : AreStates es states

-- each live id's last number is reached by its lookups
abbrev pub AreLastReached : List IdState → List ℕ → Type 0
AreLastReached states lookups = (id : ℕ) (x : IdState) → slice_get states id ≡ Some x → x.phase % 3 ≡ 1 → x.last ≤ slice_index lookups id
