-- SPDX-License-Identifier: GPL-2.0-only
-- Which registration an id is in after so many entries of the journal.
use Rattle.std.specs.Prelude.{◌≡◌, ℕ, ◌+◌, ◌*◌, ◌<◌, ◌≤◌, ◌^◌, Bool, true, ◌&&◌, ◌==◌, nat_lt, cond, List, [], ◌∷◌, length, take, drop, Option, Some, None, option_map}
use Rattle.std.specs.Ordering.{nat_cmp}
use Rattle.std.specs.BTreeMap.{BTreeMap, get}
use Rattle.shr_base.specs.declared.journals.PoolEntry.{PoolEntry}
use Rattle.shr_base.specs.declared.journals.PoolEntry.TheVariants.{Registered, Unregistered, Idle}
use Rattle.shr_model.specs.Pool.{decl_of, end_of, from_of, is_live}
use Rattle.shr_audit_case.specs.declared.steps.Registration.{Registration}
use Rattle.shr_audit_case.specs.declared.steps.Span.{Span}
use Rattle.shr_audit_case.specs.Met.{lookup_key}
use Rattle.shr_audit_case.specs.Steps.{AreStepsRising, last_in, step_at}
use Rattle.shr_audit_case.specs.declared.live.End.{End}
use Rattle.shr_audit_case.specs.declared.live.Lives.{Lives}

-- the registration that an id is in after so many entries, with the number where it ends in those behind them
abbrev pub live_now : ℕ → List PoolEntry → ℕ → Option Registration
live_now id es entry = cond (is_live id (take entry es)) (Some (record { decl = decl_of id (take entry es); from = from_of id (take entry es); to = end_of id (drop entry es) })) None

-- it is known of each id and each number of entries
pub record AreLives (es : List PoolEntry) (l : Lives) : Type 0 where
  pub rising : AreStepsRising l.steps.items
  pub each : (id entry : ℕ) → entry < 2 ^ 32 → entry ≤ length es → step_at l.steps.items (lookup_key id entry) ≡ live_now id es entry

-- the next end of an id in these entries, the first of which has this number
unfoldable pub next_end : ℕ → ℕ → List PoolEntry → Option End
next_end id at [] = None
next_end id at (Registered decl i from ∷ es) = next_end id (at + 1) es
next_end id at (Unregistered decl i to ∷ es) = cond (i == id) (Some (record { to = to; behind = at + 1 })) (next_end id (at + 1) es)
next_end id at (Idle i ∷ es) = next_end id (at + 1) es

-- the number of a registration's end
abbrev pub to_of : Option End → Option ℕ
to_of end = option_map (λ (x : End). x.to) end

-- so many entries don't reach behind the end
abbrev pub is_within : ℕ → Option End → Bool
is_within entry None = true
is_within entry (Some x) = nat_lt entry x.behind

-- of the registrations in these entries, the first that lasts from before this entry up to the next end
unfoldable pub live_in : ℕ → ℕ → List PoolEntry → ℕ → Option Registration
live_in id at [] entry = None
live_in id at (Registered decl i from ∷ es) entry =
    cond ((i == id) && (nat_lt at entry && is_within entry (next_end id (at + 1) es))) (Some (record { decl = decl; from = from; to = to_of (next_end id (at + 1) es) })) (live_in id (at + 1) es entry)
live_in id at (Unregistered decl i to ∷ es) entry = live_in id (at + 1) es entry
live_in id at (Idle i ∷ es) entry = live_in id (at + 1) es entry

-- the spans of these registrations, the last one first, and the next end of each id
pub record AreLivesNoted (at : ℕ) (es : List PoolEntry) (spans : List Span) (ends : BTreeMap ℕ End) : Type 0 where
  pub ended : (id : ℕ) → get nat_cmp ends id ≡ next_end id at es
  pub lives : (id entry : ℕ) → entry < 2 ^ 32 → last_in spans (lookup_key id entry) ≡ live_in id at es entry

-- a number of 33 bits at most
abbrev pub capped_key : ℕ → ℕ
capped_key at = cond (nat_lt at 4294967296) at 4294967296

-- so many entries, for an id, by one number
abbrev pub entry_key : ℕ → ℕ → ℕ
entry_key id at = 4294967296 * id + capped_key at

-- where the entries end in which an id is in a registration
abbrev pub end_key : ℕ → Option End → ℕ
end_key id None = 4294967296 * (id + 1)
end_key id (Some x) = entry_key id x.behind
