-- SPDX-License-Identifier: GPL-2.0-only
-- The law on lookups, in the form in which its fields are tested.
use Rattle.std.specs.Prelude.{◌≡◌, ℕ, ◌+◌, ◌≤◌, true, cond, List, [], ◌∷◌, length, slice_get, Some}
use Rattle.shr_base.specs.declared.journals.PoolEntry.{PoolEntry}
use Rattle.shr_base.specs.declared.journals.PoolEntry.TheVariants.{Registered}
use Rattle.shr_base.specs.declared.scripts.CacheDecl.{CacheDecl}
use Rattle.shr_base.specs.declared.scripts.Script.{Script}
use Rattle.shr_model.specs.Pool.{is_live, last_number, IsPoolJournal}
use Rattle.shr_laws.specs.declared.report.Report.{Report}
use Rattle.shr_laws.specs.Parts.{decls_on, lookups_at}

-- the declarations of these that are `on`, where the first has this number
abbrev pub on_from : ℕ → List CacheDecl → List ℕ
on_from n [] = []
on_from n (c ∷ cs) = cond c.on (n ∷ on_from (n + 1) cs) (on_from (n + 1) cs)

-- a journal begins with the registrations of these declarations, whose ids are 0, 1 and so on
abbrev pub OpensWith : List ℕ → List PoolEntry → Type 0
OpensWith on es = (n decl : ℕ) → slice_get on n ≡ Some decl → slice_get es n ≡ Some (Registered decl n 0)

-- the journal of registrations is one, begins with the caches that are `on`, and its last registrations
-- were reached
pub record IsPoolLawful (s : Script) (r : Report) : Type 0 where
  pub pool : IsPoolJournal s.ids (length s.caches.items) r.pool.items
  pub opened : OpensWith (decls_on s) r.pool.items
  pub printed : length r.lookups.items ≡ s.ids
  pub last : (id : ℕ) → is_live id r.pool.items ≡ true → last_number id r.pool.items ≤ lookups_at r id
