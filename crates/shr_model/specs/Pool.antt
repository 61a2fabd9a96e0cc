-- SPDX-License-Identifier: GPL-2.0-only
-- What the journal of registrations says of ids and declarations.
use Rattle.std.specs.Prelude.{◌≡◌, ℕ, zero, suc, ◌+◌, ◌%◌, ◌<◌, ◌≤◌, Bool, true, false, ◌&&◌, ◌||◌, ◌==◌, nat_le, nat_lt, if◌then◌else◌, List, [], ◌∷◌, take, Option, Some, None}
use mathlib.Core.Option.{some}
use lib.ListN.{get_elem?}
use Rattle.shr_base.specs.declared.journals.PoolEntry.{PoolEntry}
use Rattle.shr_base.specs.declared.journals.PoolEntry.TheVariants.{Registered, Unregistered, Idle}

-- the id that an entry speaks of
abbrev pub id_of : PoolEntry → ℕ
id_of (Registered decl id from) = id
id_of (Unregistered decl id to) = id
id_of (Idle id) = id

-- An id's phase after a journal: the number of its entries. Modulo 3 it is 0 for idle, 1 for live,
-- 2 for dying.
unfoldable pub phase_of : ℕ → List PoolEntry → ℕ
phase_of id [] = 0
phase_of id (e ∷ es) = (if id_of e == id then 1 else 0) + phase_of id es

-- the declaration after an entry of this id
abbrev pub decl_after : ℕ → ℕ → PoolEntry → ℕ
decl_after id decl (Registered d i from) = if i == id then d else decl
decl_after id decl (Unregistered d i to) = decl
decl_after id decl (Idle i) = decl

-- the id's declaration after these entries, where it was `decl` before them
unfoldable pub decl_from : ℕ → ℕ → List PoolEntry → ℕ
decl_from id decl [] = decl
decl_from id decl (e ∷ es) = decl_from id (decl_after id decl e) es

-- the declaration of the id's last Registered, or 0 where there is none
abbrev pub decl_of : ℕ → List PoolEntry → ℕ
decl_of id es = decl_from id 0 es

-- the number that an entry of this id carries, or the one before
abbrev pub number_after : ℕ → ℕ → PoolEntry → ℕ
number_after id n (Registered d i from) = if i == id then from else n
number_after id n (Unregistered d i to) = if i == id then to else n
number_after id n (Idle i) = n

-- the last number that these entries carry for the id, or `n` where there is none
unfoldable pub number_from : ℕ → ℕ → List PoolEntry → ℕ
number_from id n [] = n
number_from id n (e ∷ es) = number_from id (number_after id n e) es

-- the last number that an entry of the id carries, or 0
abbrev pub last_number : ℕ → List PoolEntry → ℕ
last_number id es = number_from id 0 es

-- the number where the id's last registration begins
abbrev pub from_after : ℕ → ℕ → PoolEntry → ℕ
from_after id n (Registered d i from) = if i == id then from else n
from_after id n (Unregistered d i to) = n
from_after id n (Idle i) = n

-- the number where the id's last registration in these entries begins, or `n` where there is none
unfoldable pub from_from : ℕ → ℕ → List PoolEntry → ℕ
from_from id n [] = n
from_from id n (e ∷ es) = from_from id (from_after id n e) es

-- the number of the id's last Registered, or 0
abbrev pub from_of : ℕ → List PoolEntry → ℕ
from_of id es = from_from id 0 es

-- the id is registered after this journal
abbrev pub is_live : ℕ → List PoolEntry → Bool
is_live id es = phase_of id es % 3 == 1

-- the id is unregistered after this journal, and not idle yet
abbrev pub is_dying : ℕ → List PoolEntry → Bool
is_dying id es = phase_of id es % 3 == 2

-- an id below this bound is live with this declaration
unfoldable pub is_live_below : ℕ → ℕ → List PoolEntry → Bool
is_live_below decl zero es = false
is_live_below decl (suc id) es = (is_live id es && (decl_of id es == decl)) || is_live_below decl id es

-- a declaration is live where an id of it is
abbrev pub is_live_decl : ℕ → ℕ → List PoolEntry → Bool
is_live_decl ids decl es = is_live_below decl ids es

-- an id that can be registered: idle, with two phases left
abbrev pub is_free : ℕ → List PoolEntry → Bool
is_free id es = (phase_of id es % 3 == 0) && nat_lt (phase_of id es) 65533

-- the lowest of so many ids, from this one up, that can be registered
unfoldable pub lowest_free : ℕ → ℕ → List PoolEntry → Option ℕ
lowest_free zero id es = None
lowest_free (suc more) id es = if is_free id es then Some id else lowest_free more (suc id) es

-- the lowest id that can be registered
abbrev pub lowest_idle : ℕ → List PoolEntry → Option ℕ
lowest_idle ids es = lowest_free ids 0 es

-- one use of an id: the lookups with numbers from `from` on, up to but not including `to` where it
-- has ended
pub record Registration : Type 0 where
  pub decl : ℕ
  pub from : ℕ
  pub to : Option ℕ

-- the number of the next Unregistered of the id
unfoldable pub end_of : ℕ → List PoolEntry → Option ℕ
end_of id [] = None
end_of id (Registered d i from ∷ es) = end_of id es
end_of id (Unregistered d i to ∷ es) = if i == id then Some to else end_of id es
end_of id (Idle i ∷ es) = end_of id es

-- an id's registrations: each Registered with the next Unregistered of that id
unfoldable pub registrations : ℕ → List PoolEntry → List Registration
registrations id [] = []
registrations id (Registered d i from ∷ es) =
    if i == id then (record { decl = d; from = from; to = end_of id es } ∷ registrations id es) else registrations id es
registrations id (Unregistered d i to ∷ es) = registrations id es
registrations id (Idle i ∷ es) = registrations id es

-- the number is before the end, where there is one
abbrev pub is_before : ℕ → Option ℕ → Bool
is_before n None = true
is_before n (Some to) = nat_lt n to

-- the number lies in the registration
abbrev pub lies_in : ℕ → Registration → Bool
lies_in n r = nat_le r.from n && is_before n r.to

-- the declaration of the first of these registrations in which the number lies
unfoldable pub decl_at : ℕ → List Registration → Option ℕ
decl_at n [] = None
decl_at n (r ∷ rs) = if lies_in n r then Some r.decl else decl_at n rs

-- What the lookup of an id with this number met: the declaration where the number lies in a
-- registration. A registration without an end reaches to the lookups now.
abbrev pub attempt_at : ℕ → ℕ → ℕ → List PoolEntry → Option ℕ
attempt_at id number lookups es = if nat_lt number lookups then decl_at number (registrations id es) else None

-- what an entry needs of the journal before it, for so many ids and declarations
abbrev pub IsNextPool : ℕ → ℕ → List PoolEntry → PoolEntry → Type 0
IsNextPool ids decls es (Registered decl id from) =
    (decl < decls) × (is_live_decl ids decl es ≡ false) × (lowest_idle ids es ≡ Some id) × (last_number id es ≤ from)
IsNextPool ids decls es (Unregistered decl id to) = (phase_of id es % 3 ≡ 1) × (decl ≡ decl_of id es) × (last_number id es ≤ to)
IsNextPool ids decls es (Idle id) = phase_of id es % 3 ≡ 2

-- Each entry meets what it needs: an id's entries are Registered, Unregistered, Idle and so on, an
-- Unregistered names its Registered's declaration, a Registered takes the lowest free id for a
-- declaration that is not live, and along an id's entries the numbers never fall.
abbrev pub IsPoolJournal : ℕ → ℕ → List PoolEntry → Type 0
IsPoolJournal ids decls es = (n : ℕ) (e : PoolEntry) → get_elem? es n ≡ some e → IsNextPool ids decls (take n es) e
