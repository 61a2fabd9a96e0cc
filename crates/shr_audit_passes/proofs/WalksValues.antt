-- SPDX-License-Identifier: GPL-2.0-only
-- What is asked of walks, at known values.
use Rattle.shr_audit_passes.proofs.Common.{◌≡◌, ℕ, ◌≤◌, false, List, [], ◌∷◌, ◌++◌, length, None, refl, arith, flat_map, Attempt, MapSeen, PassRecord, WalkRecord, ids_in, parents_of, serial_of, IsCountIn, IsKindAt, IsStopAt, ScanSeen, AreTried, IsRoomAt, pass_freed, attempt_freed, made_of_scan, freed_of_scan, IsScanAfter, StandByCommand, IsAnswerTold, walks_with, as_count, IsBareOffline, IsWalkWhole, IsWalkMapped, IsOfRoot, AreFirstTries, IsRoomLast}
use Rattle.shr_base.specs.declared.objects.Policy.TheVariants.{Plain, Halt}
use Rattle.shr_base.specs.declared.walks.Ending.{Ending}
use Rattle.shr_base.specs.declared.walks.Ending.TheVariants.{Through, NoRoom}
use Rattle.shr_base.specs.declared.walks.GoneThen.TheVariants as gone
use Rattle.shr_base.specs.declared.walks.Outcome.TheVariants as outcome
use Rattle.shr_base.specs.declared.walks.WalkAnswer.{WalkAnswer}
use Rattle.shr_base.specs.declared.walks.WalkAnswer.TheVariants.{Walked, Offline, Memory}
use Rattle.shr_model.specs.Items.{items_from}
use Rattle.shr_laws.proofs.ThirdReport.{place_of, script, report}
use Rattle.shr_laws.proofs.SecondReport.{kept}
use Rattle.shr_audit_passes.specs.Seen.{ids_set_below}
use Rattle.shr_base.specs.declared.replies.Reply.TheVariants as reply
use Rattle.shr_base.specs.declared.replies.Reply.TheVariants.{Root}
use Rattle.shr_base.specs.declared.scripts.Command.TheVariants.{Shrink}

abbrev word : ℕ → MapSeen
word bits = record { unit = 0; bits = bits }

abbrev gone_at : ℕ → Attempt
gone_at id = record { id = id; outcome = outcome.Gone 7 gone.Clear }

abbrev pass : Ending → PassRecord
pass ending = record { len = 3; version = 3; nr = 0; asks = 0; closed = 0; scanned = 0; freed = 5; next = 2; ending = ending }

abbrev ran : Ending → Attempt
ran ending = record { id = 0; outcome = outcome.Ran 3 (pass ending) }

abbrev walk : ℕ → List MapSeen → List Attempt → WalkAnswer → WalkRecord
walk group maps attempts answer = record { by = serial_of 0 3; group = group; node = 0; priority = 1; nofs = false; maps = kept maps; attempts = kept attempts; answer = answer }

-- ---- maps and attempts

first_two_bits : ids_set_below 1 7 2 ≡ 64 ∷ 65 ∷ []
unfolding ids_set_below
first_two_bits = refl

bare : IsBareOffline (walk 1 [] [] (Offline 4))
bare entry e = (refl, refl)

not_bare : IsBareOffline (walk 1 (word 0 ∷ []) [] (Offline 4)) → ⊥
not_bare h = let none : ◌≡◌ {A = List MapSeen} (word 0 ∷ []) [] = (h 4 refl).0 in cc

whole : IsWalkWhole 3 (walk 1 (word 5 ∷ []) (gone_at 0 ∷ gone_at 2 ∷ []) (Walked 0))
whole = (refl, refl)

bit_left_out : IsWalkMapped 3 (walk 1 (word 5 ∷ []) (gone_at 0 ∷ []) (Walked 0)) → ⊥
bit_left_out h = let ids : ◌≡◌ {A = List ℕ} (0 ∷ []) (0 ∷ 2 ∷ []) = (h 0 refl (λ e. absurd (omega arith))).1 in cc

mapped_if_cut : IsWalkMapped 3 (walk 1 [] [] (Memory 0))
mapped_if_cut freed e below = absurd (cc)

of_root : IsOfRoot 2 (walk 0 [] (gone_at 0 ∷ gone_at 1 ∷ []) (Walked 0))
of_root e = (refl, λ c. refl)

id_left_out : IsOfRoot 2 (walk 0 [] (gone_at 0 ∷ []) (Walked 0)) → ⊥
id_left_out h = let ids : ◌≡◌ {A = List ℕ} (0 ∷ []) (0 ∷ 1 ∷ []) = (h refl).1 refl in cc

-- ---- walks that were cut

tried : AreTried (word 5 ∷ []) 0
tried before last e = few before last e
  where
    few : (before : List MapSeen) (last : MapSeen) → word 5 ∷ [] ≡ before ++ last ∷ [] → length (flat_map (λ (m : MapSeen). ids_in m.unit m.bits) before) ≤ 0
    few [] last e = omega arith
    few (m ∷ []) last e = absurd (cc)
    few (m ∷ n ∷ more) last e = absurd (cc)

not_tried : AreTried (word 5 ∷ word 1 ∷ []) 1 → ⊥
not_tried h = let few : 2 ≤ 1 = h (word 5 ∷ []) (word 1) refl in absurd (omega arith)

first_tries : AreFirstTries 3 (walk 1 (word 5 ∷ []) (gone_at 0 ∷ []) (Memory 0))
first_tries = (λ below. refl, λ e. absurd (omega arith))

second_try : AreFirstTries 3 (walk 1 (word 5 ∷ []) (gone_at 2 ∷ []) (Memory 0)) → ⊥
second_try h = let ids : ◌≡◌ {A = List ℕ} (0 ∷ []) (2 ∷ []) = h.0 (λ e. absurd (omega arith)) in cc

no_room_last : IsRoomAt (walk 1 (word 1 ∷ []) (ran NoRoom ∷ []) (Memory 5)) 0 (ran NoRoom)
no_room_last p e f = record { cut = refl; last = refl }

no_room_before : IsRoomLast (walk 1 (word 5 ∷ []) (ran NoRoom ∷ gone_at 2 ∷ []) (Memory 5)) → ⊥
no_room_before h = let last : ◌≡◌ {A = ℕ} 2 1 = (h 0 (ran NoRoom) refl (pass NoRoom) refl refl).last in absurd (omega arith)

freed_by_none : pass_freed None ≡ 0
freed_by_none = refl

freed_in_pass : attempt_freed (ran Through) ≡ 5
freed_in_pass = refl

-- ---- lookups, scans, counts and commands

abbrev scan : ScanSeen
scan = record { worker = 0; walk = 2; place = record { id = 0; node = 0; group = 1 }; number = 4; asked = 128; policy = Plain; freed = 6 }

made : (made_of_scan scan).number ≡ 4
made = refl

freed_six : freed_of_scan scan ≡ 6
freed_six = refl

scan_of : IsScanAfter 128 Plain 4 scan
scan_of = (refl, (refl, omega arith))

scan_before : IsScanAfter 128 Plain 5 scan → ⊥
scan_before h = let le : 5 ≤ 4 = h.1.1 in absurd (omega arith)

scan_of_other : IsScanAfter 128 Halt 4 scan → ⊥
scan_of_other h = let policies = h.1.0 in cc

abbrev by_command : ℕ → WalkRecord
by_command command = record (walk 0 [] [] (Walked 0)) { by = serial_of 0 command }

falls : StandByCommand (by_command 3 ∷ by_command 2 ∷ []) → ⊥
falls h = let le : 3 ≤ 2 = h 0 (by_command 3) (by_command 2) refl refl in absurd (omega arith)

-- ---- counts, kinds and stops, in a report of three objects

count_of_none : IsCountIn (parents_of script) report (place_of 2) (as_count 0 0)
unfolding items_from
count_of_none = record { there = omega arith; len = refl }

count_past : IsCountIn (parents_of script) report (place_of 2) (as_count 0 9) → ⊥
count_past h = let le : 9 ≤ 4 = h.there in absurd (omega arith)

gone_of_none : IsKindAt script report 1 (gone_at 0)
gone_of_none e = absurd (cc)

skip_of_none : IsKindAt script report 1 (record { id = 0; outcome = outcome.Skip 99 1 1 }) → ⊥
skip_of_none h = h refl

gone_stops_none : IsStopAt script report (walk 1 [] [] (Walked 0)) (gone_at 0)
gone_stops_none d p e f = absurd (cc)

-- the walk of a command among those of others
of_command : walks_with (by_command 2 ∷ by_command 3 ∷ []) 3 ≡ by_command 3 ∷ []
of_command = refl

not_asked : IsAnswerTold script 0 [] 99 (record { reply = Root; found = None })
not_asked c e = absurd (cc)

told_otherwise : IsAnswerTold script 0 [] 3 (record { reply = Root; found = None }) → ⊥
told_otherwise h = let told : Root ≡ reply.WalkMemory 0 = h (Shrink 2 0 1 false) refl in cc
