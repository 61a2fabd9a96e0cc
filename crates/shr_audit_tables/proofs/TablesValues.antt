-- SPDX-License-Identifier: GPL-2.0-only
-- What the laws on tables are tested by, at known values.
use Rattle.shr_audit_tables.proofs.Common.{◌≡◌, ℕ, zero, suc, ◌%◌, false, List, [], ◌∷◌, true, Option, Some, None, refl, sym, ap, arith, flat_map, Place, WorkerPart, PoolEntry, Registered, Unregistered, Idle, number_of, parents_of, IdState, given_by_worker, taken_by, AreWordsRight, state_of_id, state_with, with_pool_entry, IsStateLiveAs, HasLive, IsFreeNow, NoneFree, IsLowestFree, MayRegister, AreLastReached, AreBlankStates, on_from, OpensWith, IsPoolLawful, AreDrawnOnce, IsDrawn, found_draws, answer_draws, tried_draws, attempt_draws, draw_key, drawn_move, part_draws, walk_draws, wanted_move, wanted_from, AreIdleEmpty, IsIdleIn, NonePast}
use Rattle.shr_base.specs.declared.walks.Outcome.TheVariants as outcome
use Rattle.shr_model.specs.Families.{lists_moved, items_within}
use Rattle.shr_model.specs.Groups.{path_within}
use Rattle.shr_model.specs.Items.{items_from}
use Rattle.shr_model.specs.Pool.{phase_of, decl_from, from_from, number_from}
use Rattle.shr_laws.proofs.SecondReport.{kept, dentry, by}
use Rattle.shr_laws.proofs.FirstReport.{script, report, answer}
use Rattle.shr_laws.proofs.ThirdReport as third

abbrev place : ℕ → Place
place group = record { id = 0; node = 0; group = group }

-- a worker that carried 4 from group 2 to its parent, group 1
abbrev carrier : WorkerPart
carrier = record { answers = kept []; walks = kept []; carries = kept (record { by = by 0; place = place 2; amount = 4 } ∷ []); plain = kept []; isolations = kept [] }

gave_the_parent : given_by_worker (0 ∷ 0 ∷ 1 ∷ []) carrier (place 1) ≡ 4
gave_the_parent = refl

gave_no_other : given_by_worker (0 ∷ 0 ∷ 1 ∷ []) carrier (place 0) ≡ 0
gave_no_other = refl

took_from_its_own : taken_by carrier (place 2) ≡ 4
took_from_its_own = refl

took_no_other : taken_by carrier (place 1) ≡ 0
took_no_other = refl

-- a carried word that isn't printed
word_missing : AreWordsRight (parents_of third.script) (record third.report { deferred = kept [] }) → ⊥
word_missing h = let e : 0 ≡ 2 = h (third.place_of 1) in absurd (omega (arith, e))

-- id 0 was registered twice, the second time from the fifth lookup on
abbrev entries : List PoolEntry
entries = Registered 0 0 0 ∷ Unregistered 0 0 3 ∷ Idle 0 ∷ Registered 1 0 5 ∷ []

abbrev live : IdState
live = record { phase = 4; decl = 1; from = 5; last = 5 }

live_again : state_of_id 0 entries ≡ live
unfolding phase_of decl_from from_from number_from
live_again = refl

ended : state_with live (Unregistered 1 0 7) ≡ record { phase = 5; decl = 1; from = 5; last = 7 }
ended = refl

one_noted : with_pool_entry (live ∷ live ∷ []) (Unregistered 1 1 7) ≡ live ∷ record { phase = 5; decl = 1; from = 5; last = 7 } ∷ []
one_noted = refl

-- an id past the last is none of these
none_noted : with_pool_entry (live ∷ []) (Idle 1) ≡ live ∷ []
none_noted = refl

abbrev idle : IdState
idle = record { phase = 3; decl = 1; from = 5; last = 7 }

is_live : HasLive 1 (idle ∷ live ∷ [])
is_live = (1, (live, (refl, (refl, refl))))

of_no_other : IsStateLiveAs 0 live → ⊥
of_no_other h = absurd (let e = h.1 in omega (arith, e))

is_free : IsFreeNow idle
is_free = (refl, omega arith)

used_up : IsFreeNow (record { phase = 65533; decl = 0; from = 0; last = 0 }) → ⊥
used_up h = absurd (let few = h.1 in omega (arith, few))

second_is_lowest : IsLowestFree (live ∷ idle ∷ []) 1
second_is_lowest = (none_before, (idle, (refl, is_free)))
  where
    none_before : NoneFree 1 (live ∷ idle ∷ [])
    none_before id x lt at free = let first : id ≡ 0 = omega arith in not_live x (rw first at at) free
      where
        not_live : (x : IdState) → ◌≡◌ {A = Option IdState} (Some live) (Some x) → IsFreeNow x → ⊥
        not_live x e free = let same : live ≡ x = cc in let phase : 4 ≡ x.phase = cc in let zero = free.0 in absurd (let four : x.phase ≡ 4 = cc in let bad = rw four at zero in omega (arith, bad))

-- an idle id isn't unregistered
not_from_idle : MayRegister 2 (idle ∷ []) (Unregistered 1 0 9) → ⊥
not_from_idle h = let same : idle ≡ h.0 = cc in absurd (let p = h.1.1.0 in let three : h.0.phase ≡ 3 = cc in let bad = rw three at p in omega (arith, bad))

from_live : MayRegister 2 (live ∷ []) (Unregistered 1 0 9)
from_live = (live, (refl, (refl, (refl, omega arith))))

not_reached : AreLastReached (live ∷ []) (4 ∷ []) → ⊥
not_reached h = absurd (let le = h 0 live refl refl in omega (arith, le))

not_blank : AreBlankStates 1 (live ∷ []) → ⊥
not_blank h = absurd (let e = h.blank 0 live refl in let phase = ap (λ (x : IdState). x.phase) e in omega (arith, phase))

-- the second of two caches is `on`
one_on : on_from 0 (record dentry { on = false } ∷ dentry ∷ []) ≡ 1 ∷ []
one_on = refl

opens_so : OpensWith (0 ∷ []) (Registered 0 0 0 ∷ [])
opens_so zero decl e = let same : 0 ≡ decl = cc in ap (λ (d : ℕ). Some (Registered d 0 0)) same
opens_so (suc n) decl e = absurd cc

opens_late : OpensWith (0 ∷ []) (Registered 0 0 1 ∷ []) → ⊥
opens_late h = absurd (let e = h 0 0 refl in cc)

opened_later : IsPoolLawful script (record report { pool = kept (Registered 0 0 1 ∷ []) }) → ⊥
opened_later h = absurd (let e = h.opened 0 0 refl in cc)

not_printed : IsPoolLawful script (record report { lookups = kept [] }) → ⊥
not_printed h = absurd (let e : 0 ≡ 1 = h.printed in omega (arith, e))

-- ---- lookups as they were drawn

key_of : draw_key 1 2 ≡ 4294967298
key_of = refl

found_drawn : answer_draws answer ≡ draw_key 0 0 ∷ []
found_drawn = refl

none_found : found_draws None ≡ []
none_found = refl

tried_drawn : attempt_draws (record { id = 3; outcome = outcome.Empty 5 1 }) ≡ draw_key 3 5 ∷ []
tried_drawn = refl

worn_drawn : tried_draws 3 (number_of (outcome.Worn 9)) ≡ []
worn_drawn = refl

none_walked : flat_map walk_draws [] ≡ []
none_walked = refl

of_the_part : part_draws (record carrier { answers = kept (answer ∷ answer ∷ []) }) ≡ draw_key 0 0 ∷ draw_key 0 0 ∷ []
of_the_part = refl

up_by_one : drawn_move 7 ≡ record { key = 7; up = 1; down = 0 }
up_by_one = refl

three_wanted : wanted_from 0 (1 ∷ 2 ∷ []) ≡ wanted_move (draw_key 0 0) ∷ wanted_move (draw_key 1 0) ∷ wanted_move (draw_key 1 1) ∷ []
three_wanted = refl

drawn_twice : AreDrawnOnce (draw_key 0 0 ∷ draw_key 0 0 ∷ []) (1 ∷ []) → ⊥
drawn_twice h = absurd (let e : 2 ≡ 1 = h 0 0 (omega arith) in omega (arith, e))

-- a lookup that nobody made
lookups_off : IsDrawn (record report { lookups = kept (2 ∷ []) }) → ⊥
lookups_off h = absurd (let e : 0 ≡ 1 = h 0 1 in omega (arith, e))

-- ---- idle ids

spoken_of : NonePast 0 entries → ⊥
unfolding phase_of
spoken_of h = absurd (let e : 4 ≡ 0 = h 0 (omega arith) in omega (arith, e))

idle_so : IsIdleIn (idle ∷ []) 0
idle_so x at = let same : idle ≡ x = cc in ap (λ (v : IdState). v.phase % 3) (sym same)

live_so : IsIdleIn (live ∷ []) 0 → ⊥
live_so h = absurd (let e : 1 ≡ 0 = h live refl in omega (arith, e))

left_by_idle : AreIdleEmpty (parents_of script) (record report { pool = kept [] }) → ⊥
unfolding phase_of items_from lists_moved items_within path_within
left_by_idle h = absurd (let e = h (place 1) refl in cc)
