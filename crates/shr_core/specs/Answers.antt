-- SPDX-License-Identifier: GPL-2.0-only
-- What a lookup answers, by what its seat's view gains.
use Rattle.std.specs.Prelude.{◌≡◌, ◌≢◌, ℕ, ◌%◌, ◌<◌, ◌≤◌, List, true, false, Some, None}
use Rattle.shr_base.specs.declared.ends.LookupWord.{LookupWord}
use Rattle.shr_base.specs.declared.journals.PoolEntry.{PoolEntry}
use Rattle.shr_model.specs.Pool.{decl_of, from_of, is_live, registrations, decl_at}
use Rattle.shr_core.specs.declared.view.View.{View}
use Rattle.shr_seats.specs.declared.shape.Shape.{Shape}
use Rattle.shr_core.specs.declared.lookups.Lookup.{Lookup}
use Rattle.shr_core.specs.declared.lookups.Lookup.TheVariants.{Worn, Held, Gone}
use Rattle.shr_core.specs.Lookup.{last_lookups}
use Rattle.shr_core.specs.Steps.{with_leave, with_lookup, with_put}
use Rattle.shr_core.specs.Tells.{HasPool, pool_of}

-- the first load showed that no number is left
pub record FindsWorn (v : View) (id : ℕ) (w : View) (seen : ℕ) : Type 0 where
  pub first : LookupWord
  pub shown : first.lookups ≡ seen
  pub used_up : last_lookups ≤ seen
  pub step : w ≡ with_leave v id first

-- a number was taken, and the word that was found is live
pub record FindsHeld (v : View) (id : ℕ) (w : View) (number decl : ℕ) : Type 0 where
  pub first : LookupWord
  pub found : LookupWord
  pub left : first.lookups < last_lookups
  pub live : found.phase % 3 ≡ 1
  pub drawn : found.lookups ≡ number
  pub named : found.decl ≡ decl
  pub step : w ≡ with_lookup (with_leave v id first) id found

-- a number was taken, and the word that was found is not live
pub record FindsGone (v : View) (id : ℕ) (w : View) (number : ℕ) : Type 0 where
  pub first : LookupWord
  pub found : LookupWord
  pub left : first.lookups < last_lookups
  pub gone : found.phase % 3 ≢ 1
  pub drawn : found.lookups ≡ number
  pub step : w ≡ with_put (with_lookup (with_leave v id first) id found)

-- One load decides whether a number is left. Where it is, one addition takes the number: the id is
-- held where the word that it found is live, with that word's declaration, and else the count is
-- given back.
abbrev pub Finds : View → ℕ → View → Lookup → Type 0
Finds v id w (Worn seen) = FindsWorn v id w seen
Finds v id w (Held number decl) = FindsHeld v id w number decl
Finds v id w (Gone number) = FindsGone v id w number

-- the declaration by which an id is held is one of the shape's
abbrev pub IsDeclared : ℕ → Lookup → Type 0
IsDeclared decls (Worn seen) = Unit {0}
IsDeclared decls (Held number decl) = decl < decls
IsDeclared decls (Gone number) = Unit {0}

-- the id is live with this declaration, and the number lies in the registration that is live
pub record MetLive (pool : List PoolEntry) (id number decl : ℕ) : Type 0 where
  pub live : is_live id pool ≡ true
  pub named : decl ≡ decl_of id pool
  pub registered : decl_at number (registrations id pool) ≡ Some decl
  pub began : from_of id pool ≤ number

-- the id is not live, and the number lies in no registration
pub record MetGone (pool : List PoolEntry) (id number : ℕ) : Type 0 where
  pub gone : is_live id pool ≡ false
  pub unregistered : decl_at number (registrations id pool) ≡ None

-- what a lookup met by the pool's journal
abbrev pub MetIn : List PoolEntry → ℕ → Lookup → Type 0
MetIn pool id (Worn seen) = Unit {0}
MetIn pool id (Held number decl) = MetLive pool id number decl
MetIn pool id (Gone number) = MetGone pool id number

-- while the pool is in hand, its journal says what a lookup met
abbrev pub MetBy : Shape → View → ℕ → Lookup → Type 0
MetBy shape v id found = HasPool shape v → MetIn (pool_of shape v) id found
