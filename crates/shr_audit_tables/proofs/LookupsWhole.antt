-- SPDX-License-Identifier: GPL-2.0-only
-- The law on lookups, from its fields.
use Rattle.shr_audit_tables.proofs.LookupsCommon.{◌≡◌, ℕ, ◌≤◌, Bool, List, length, subst, ◌∙◌, Decides, Script, Report, IsDrawn, AreFoundRight, AreMetRight, parents_of}
use Rattle.shr_laws.specs.Lookups.{AreLookupsLawful}
use Rattle.shr_audit_tables.specs.Idle.{AreIdleEmpty, NonePast}
use Rattle.shr_audit_tables.specs.Lookups.{IsPoolLawful}
use Rattle.shr_audit_tables.specs.Registrations.{AreStatesOf}
use Rattle.shr_audit_tables.specs.declared.registrations.IdState.{IdState}
use Rattle.shr_model.proofs.PoolLaws.{past_none}

-- the journal speaks of no id past the last
pub none_past : (s : Script) (r : Report) (states : List IdState) (n : ℕ) → n ≡ length states → IsPoolLawful s r → AreStatesOf s.ids r.pool.items states → NonePast n r.pool.items
none_past s r states n e h of id le = past_none s.ids (length s.caches.items) id r.pool.items h.pool (subst (λ (k : ℕ). k ≤ id) (e ∙ of.count) le)

pub pool_lawful : (s : Script) (r : Report) → AreLookupsLawful s r → IsPoolLawful s r
pool_lawful s r h = record { pool = h.pool; opened = h.opened; printed = h.printed; last = h.last }

pub all_lawful : (s : Script) (r : Report) (parents : List ℕ) (b : Bool) → parents ≡ parents_of s → IsPoolLawful s r → IsDrawn r → AreMetRight r → AreFoundRight s r → Decides b (AreIdleEmpty parents r) → Decides b (AreLookupsLawful s r)
all_lawful s r parents b e pool drawn met found d =
    let d' : Decides b (AreIdleEmpty (parents_of s) r) = subst (λ (ps : List ℕ). Decides b (AreIdleEmpty ps r)) e d in (
      λ t. record {
        pool = pool.pool;
        opened = pool.opened;
        printed = pool.printed;
        last = pool.last;
        numbers = drawn;
        met = met;
        found = found;
        idle = d'.0 t;
      },
      λ h. d'.1 h.idle,
    )
