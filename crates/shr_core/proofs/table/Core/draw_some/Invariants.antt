-- SPDX-License-Identifier: GPL-2.0-only
use Rattle.shr_core.proofs.Common.{◌≡◌, ◌⊎◌, ◌<◌, lookups_of, last_lookups}
use Rattle.shr_core.proofs.table.Core.draw_some.Given as goal

abbrev pub invariant-loop : goal.invariant-loop
invariant-loop l = (l.token.table_id ≡ l.initial.token.table_id) × (l.token.id ≡ l.initial.token.id) × (l.token.me ≡ l.initial.token.me)
    × ((l.wanted ≡ l.first) ⊎ (lookups_of l.first < last_lookups))
