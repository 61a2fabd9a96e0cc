-- SPDX-License-Identifier: GPL-2.0-only
-- What the calls answer by the pool's journal, and what their seat's view gains.
use Rattle.std.specs.Prelude.{◌≡◌, ℕ, ◌<◌, ◌≤◌, List, [], ◌∷◌, ◌++◌, length, true, false, Some, None, Contains}
use Rattle.shr_base.specs.declared.ends.LookupWord.{LookupWord}
use Rattle.shr_base.specs.declared.journals.PoolEntry.{PoolEntry}
use Rattle.shr_base.specs.declared.journals.PoolEntry.TheVariants.{Registered}
use Rattle.shr_base.specs.declared.replies.Spent.{Spent}
use Rattle.shr_base.specs.declared.replies.Spent.TheVariants as spent
use Rattle.shr_model.specs.Pool.{is_live_decl, lowest_idle, from_of, registrations, decl_at}
use Rattle.shr_seats.specs.Standing.{IsWhole}
use Rattle.shr_seats.specs.Weights.{Begins}
use Rattle.shr_core.specs.declared.view.View.{View}
use Rattle.shr_seats.specs.declared.shape.Shape.{Shape}
use Rattle.shr_core.specs.declared.setting.Setting.{Setting}
use Rattle.shr_core.specs.Lookup.{last_lookups}
use Rattle.shr_core.specs.Gained.{nothing}
use Rattle.shr_core.specs.Parts.{Loaded}
use Rattle.shr_registry.specs.declared.answers.FindAnswer.{FindAnswer}
use Rattle.shr_registry.specs.declared.answers.FindAnswer.TheVariants as find
use Rattle.shr_registry.specs.declared.answers.RegisterAnswer.{RegisterAnswer}
use Rattle.shr_registry.specs.declared.answers.RegisterAnswer.TheVariants as register
use Rattle.shr_registry.specs.Adding.{Brings, IsLiveAs, IsFree, IsHeldBy}

-- a load showed this word of an id
abbrev pub ShowsWord : View → ℕ → LookupWord → Type 0
ShowsWord w id word = Contains w.claims.loaded (record { id = id; word = word })

-- The declaration is not live, by the whole journal that was seen. That journal was met `gives`
-- times.
pub record Misses (shape : Shape) (v : View) (decl : ℕ) (pool : List PoolEntry) (gives entry : ℕ) (w : View) : Type 0 where
  pub missing : is_live_decl shape.ids decl pool ≡ false
  pub after : entry ≡ length pool
  pub free : IsFree w
  pub gains : Brings v w (record nothing { gives = gives })

-- the id is live and held, and the number lies in the registration that is live
pub record FindsCache (shape : Shape) (v : View) (decl : ℕ) (pool : List PoolEntry) (gives id number entry : ℕ) (w : View) : Type 0 where
  pub live : IsLiveAs shape pool id decl
  pub after : entry ≡ length pool
  pub registered : decl_at number (registrations id pool) ≡ Some decl
  pub began : from_of id pool ≤ number
  -- a load showed before that a number was left
  pub first : LookupWord
  pub left : first.lookups < last_lookups
  pub shows : ShowsWord w id first
  pub holds : IsHeldBy w id number decl
  pub gains : Brings v w (record nothing { attempts = record { id = id; number = number; held = Some decl } ∷ []; gives = gives })

-- a load of this call showed this word of an id
pub record HasLoaded (v w : View) (id : ℕ) (word : LookupWord) : Type 0 where
  pub words : List Loaded
  pub since : w.claims.loaded ≡ v.claims.loaded ++ words
  pub shown : Contains words (record { id = id; word = word })

-- the lookups of the live id are used up
pub record AreLookupsUsedUp (shape : Shape) (v : View) (decl : ℕ) (pool : List PoolEntry) (id seen : ℕ) (w : View) : Type 0 where
  pub live : IsLiveAs shape pool id decl
  pub most : last_lookups ≤ seen
  pub first : LookupWord
  pub shown : first.lookups ≡ seen
  pub loads : HasLoaded v w id first

-- the counter that is used up is that of the live id's lookups
abbrev pub FindWorn : Shape → View → ℕ → List PoolEntry → Spent → View → Type 0
FindWorn shape v decl pool (spent.Lookups id seen) w = AreLookupsUsedUp shape v decl pool id seen w
FindWorn shape v decl pool (spent.List place entries items) w = ⊥
FindWorn shape v decl pool (spent.Charges charges uncharges) w = ⊥

-- the declaration is live, and no lookup number of its id is left
pub record FindsNoNumber (shape : Shape) (v : View) (decl : ℕ) (pool : List PoolEntry) (gives : ℕ) (s : Spent) (w : View) : Type 0 where
  pub worn : FindWorn shape v decl pool s w
  pub free : IsFree w
  pub gains : Brings v w (record nothing { gives = gives })

-- what `find` answers
abbrev pub FindGives : Shape → View → ℕ → List PoolEntry → ℕ → FindAnswer → View → Type 0
FindGives shape v decl pool gives (find.Held id number entry) w = FindsCache shape v decl pool gives id number entry w
FindGives shape v decl pool gives (find.NoCache entry) w = Misses shape v decl pool gives entry w
FindGives shape v decl pool gives (find.Worn s) w = FindsNoNumber shape v decl pool gives s w

-- an id that was found was dated over the journal that the answer is by
abbrev pub IsDatedBy : FindAnswer → View → Type 0
IsDatedBy (find.Held id number entry) w = Contains w.turns.dated (record { id = id; number = number; entries = entry })
IsDatedBy (find.NoCache entry) w = Unit {0}
IsDatedBy (find.Worn s) w = Unit {0}

-- the declaration is live
pub record FindsLive (shape : Shape) (v : View) (decl : ℕ) (pool : List PoolEntry) (gives entry : ℕ) (w : View) : Type 0 where
  pub live : is_live_decl shape.ids decl pool ≡ true
  pub after : entry ≡ length pool
  pub free : IsFree w
  pub gains : Brings v w (record nothing { gives = gives })

-- it is not, and no id can be registered
pub record FindsNoId (shape : Shape) (v : View) (decl : ℕ) (pool : List PoolEntry) (gives entry : ℕ) (w : View) : Type 0 where
  pub misses : Misses shape v decl pool gives entry w
  pub none : lowest_idle shape.ids pool ≡ None

-- there is an id, and no memory for the entry
pub record RegisterLacksMemory (shape : Shape) (v : View) (decl : ℕ) (pool : List PoolEntry) (gives : ℕ) (w : View) : Type 0 where
  pub id : ℕ
  pub missing : is_live_decl shape.ids decl pool ≡ false
  pub lowest : lowest_idle shape.ids pool ≡ Some id
  pub free : IsFree w
  pub gains : Brings v w (record nothing { gives = gives })

-- The lowest id is live with the declaration now, by one entry more. The registration of a seat
-- that is alone and has looked nothing up begins with the first number.
pub record Registers (key : Setting) (v : View) (decl : ℕ) (pool : List PoolEntry) (gives id entry : ℕ) (w : View) : Type 0 where
  pub before : List PoolEntry
  pub from : ℕ
  pub missing : is_live_decl key.shape.ids decl before ≡ false
  pub lowest : lowest_idle key.shape.ids before ≡ Some id
  pub after : entry ≡ length before
  pub grown : pool ≡ before ++ Registered decl id from ∷ []
  -- all that the seat knew stood before
  pub seen : Begins v.turns.known before
  pub first : v.standing.first ≡ true → IsWhole v.standing → v.claims.attempts ≡ [] → from ≡ key.first_lookup
  pub free : IsFree w
  pub gains : Brings v w (record nothing { turns = record { number = entry; entry = Registered decl id from } ∷ []; gives = gives })

-- what `register` answers: each refusal only if those before it do not hold
abbrev pub RegisterGives : Setting → View → ℕ → List PoolEntry → ℕ → RegisterAnswer → View → Type 0
RegisterGives key v decl pool gives (register.AlreadyRegistered entry) w = FindsLive key.shape v decl pool gives entry w
RegisterGives key v decl pool gives (register.NoId entry) w = FindsNoId key.shape v decl pool gives entry w
RegisterGives key v decl pool gives register.Memory w = RegisterLacksMemory key.shape v decl pool gives w
RegisterGives key v decl pool gives (register.Registered id entry) w = Registers key v decl pool gives id entry w
