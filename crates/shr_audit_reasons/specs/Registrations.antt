-- SPDX-License-Identifier: GPL-2.0-only
-- The later entries of the journal of registrations, and the answers that made them.
use Rattle.std.specs.Prelude.{◌≡◌, ℕ, ◌-◌, ◌<◌, ◌≤◌, true, List, length, get_or, slice_get, Some}
use Rattle.std.specs.Option.{IsSomeAnd}
use Rattle.shr_base.specs.declared.places.Serial.{Serial}
use Rattle.shr_base.specs.declared.journals.PoolEntry.{PoolEntry}
use Rattle.shr_base.specs.declared.journals.PoolEntry.TheVariants.{Registered, Unregistered, Idle}
use Rattle.shr_base.specs.declared.scripts.Script.{Script}
use Rattle.shr_laws.specs.declared.report.Report.{Report}
use Rattle.shr_laws.specs.Causes.{IsMadeBy}
use Rattle.shr_laws.specs.Parts.{decls_on, reply_at}
use Rattle.shr_audit_reasons.specs.declared.cites.Cited.{Cited}
use Rattle.shr_audit_reasons.specs.declared.cites.What.TheVariants as what
use Rattle.shr_audit_reasons.specs.declared.registrations.Made.{Made}
use Rattle.shr_audit_reasons.specs.Behind.{HasBehinds}
use Rattle.shr_audit_reasons.specs.Cites.{AreCited, cited_in}
use Rattle.shr_audit_reasons.specs.Trees.{is_cited}

-- each later entry of the journal of registrations was made by an answer
abbrev pub AreRegistrationsCaused : Script → Report → Type 0
AreRegistrationsCaused s r = (n : ℕ) (e : PoolEntry) → length (decls_on s) ≤ n → slice_get r.pool.items n ≡ Some e → (by : Serial) × IsSomeAnd (reply_at r by) (IsMadeBy r e n)

-- an answer freed an id by the entry behind which this number is
pub record IsFreedBehind (freed : List Cited) (behind : ℕ) : Type 0 where
  pub some : 0 < behind
  pub cited : is_cited (cited_in freed (behind - 1)) ≡ true

-- an answer was noted that made an entry, by its kind
abbrev pub IsEntryCited : Made → ℕ → PoolEntry → Type 0
IsEntryCited made n (Registered decl id from) = is_cited (cited_in made.registered.items n) ≡ true
IsEntryCited made n (Unregistered decl id to) = is_cited (cited_in made.unregistered.items n) ≡ true
IsEntryCited made n (Idle id) = IsFreedBehind made.freed.items (get_or made.behinds.items n 0)

-- what is noted is of this report
pub record AreMade (s : Script) (r : Report) (made : Made) : Type 0 where
  pub registered : AreCited s r what.Registered (length r.pool.items) made.registered.items
  pub unregistered : AreCited s r what.Unregistered (length r.pool.items) made.unregistered.items
  pub freed : AreCited s r what.Freed (length r.pool.items) made.freed.items
  pub behinds : HasBehinds r.pool.items (length r.pool.items) made.behinds.items
