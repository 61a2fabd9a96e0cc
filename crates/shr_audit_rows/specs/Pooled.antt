-- SPDX-License-Identifier: GPL-2.0-only
-- Each id after entries of the journal of registrations. No clause of the law cites this.
use Rattle.std.specs.Prelude.{◌≡◌, ℕ, ◌<◌, ◌%◌, ◌&&◌, ◌==◌, nat_lt, Bool, List, length, get_or}
use Rattle.shr_base.specs.declared.journals.PoolEntry.{PoolEntry}
use Rattle.shr_model.specs.Pool.{decl_of, phase_of}

-- there is room for each id
pub record AreSized (phases decls : List ℕ) : Type 0 where
  pub phase_count : length phases ≡ 65536
  pub decl_count : length decls ≡ 65536

-- these are the phases and the declarations of all ids after these entries
pub record Stands (es : List PoolEntry) (phases decls : List ℕ) : Type 0 where
  pub sized : AreSized phases decls
  pub phase : (id : ℕ) → id < 65536 → get_or phases id 0 ≡ phase_of id es
  pub decl : (id : ℕ) → id < 65536 → get_or decls id 0 ≡ decl_of id es

-- nothing is known of so many ids
pub record IsBlankFor (count : ℕ) (phases decls : List ℕ) : Type 0 where
  pub phase_count : length phases ≡ count
  pub decl_count : length decls ≡ count
  pub phase : (id : ℕ) → id < count → get_or phases id 0 ≡ 0
  pub decl : (id : ℕ) → id < count → get_or decls id 0 ≡ 0

-- an id is live with a declaration
abbrev pub is_live_in : List ℕ → List ℕ → ℕ → ℕ → Bool
is_live_in phases decls decl id = (get_or phases id 0 % 3 == 1) && (get_or decls id 0 == decl)

-- an id can be registered
abbrev pub is_free_in : List ℕ → ℕ → Bool
is_free_in phases id = (get_or phases id 0 % 3 == 0) && nat_lt (get_or phases id 0) 65533
