-- SPDX-License-Identifier: GPL-2.0-only
-- Which declaration the lookup of an id with a number meets.
use Rattle.std.specs.Prelude.{◌≡◌, ℕ, ◌+◌, ◌*◌, ◌<◌, ◌^◌, List, Option, Some, None, option_map}
use Rattle.std.specs.Ordering.{nat_cmp}
use Rattle.std.specs.BTreeMap.{BTreeMap, get}
use Rattle.shr_base.specs.declared.journals.PoolEntry.{PoolEntry}
use Rattle.shr_model.specs.Pool.{decl_at, end_of, registrations}
use Rattle.shr_audit_case.specs.declared.steps.Registration.{Registration}
use Rattle.shr_audit_case.specs.declared.steps.Span.{Span}
use Rattle.shr_audit_case.specs.declared.met.Met.{Met}
use Rattle.shr_audit_case.specs.Steps.{AreStepsRising, last_in, step_at}

-- a lookup of an id by one number; its own number has 32 bits
abbrev pub lookup_key : ℕ → ℕ → ℕ
lookup_key id number = 4294967296 * id + number

-- the key at which the lookups of a registration of an id end
abbrev pub stop_key : ℕ → Option ℕ → ℕ
stop_key id None = 4294967296 * (id + 1)
stop_key id (Some to) = lookup_key id to

-- the declaration of a registration that was found
abbrev pub decl_found : Option Registration → Option ℕ
decl_found o = option_map (λ (x : Registration). x.decl) o

-- the last span that has the key of a lookup is that of the first registration in which its number lies
abbrev pub AreSpansOf : List PoolEntry → List Span → Type 0
AreSpansOf es spans = (id number : ℕ) → number < 2 ^ 32 → decl_found (last_in spans (lookup_key id number)) ≡ decl_at number (registrations id es)

-- so it is, and the first end of each id is known
pub record AreNoted (es : List PoolEntry) (spans : List Span) (ends : BTreeMap ℕ ℕ) : Type 0 where
  pub ended : (id : ℕ) → get nat_cmp ends id ≡ end_of id es
  pub met : AreSpansOf es spans

-- it is known of each lookup what it met by a journal: the first registration in which its number lies
pub record IsMetIn (es : List PoolEntry) (m : Met) : Type 0 where
  pub rising : AreStepsRising m.steps.items
  pub each : (id number : ℕ) → number < 2 ^ 32 → decl_found (step_at m.steps.items (lookup_key id number)) ≡ decl_at number (registrations id es)
