-- SPDX-License-Identifier: GPL-2.0-only
-- The first whole report has its numbers; for each kind of data a value that has them, and one that doesn't.
use Rattle.shr_laws.proofs.Common.{ℕ, pos, negsuc, ◌-◌, ◌<◌, ◌^◌, true, false, List, [], ◌∷◌, length, codes, Some, arith, refl, none-some, Serial, Place, At, Clock, WorkerPart, Attempt, Carry, Ending, PassRecord, Isolation, PlainAnswer, PlainTry, PlainWalk, WalkRecord, fresh, IsAnsweredNumbered, IsAttemptNumbered, IsSeenNumbered, IsWalkNumbered, IsCarryNumbered, IsPartNumbered, IsEntryNumbered, IsObjectNumbered, IsListNumbered, IsMapNumbered, IsAmountNumbered, IsUseNumbered, HasNumbers, ArePartsWell, IsTryNumbered, IsPlainNumbered, IsIsolationNumbered, IsPlainEntryNumbered, AreUnitsNumbered, IsNumbered, IsSerialNumbered, IsAtNumbered, IsSpentNumbered, IsWhyNumbered, IsReplyNumbered, IsFindNumbered, IsEndingNumbered, IsPassNumbered, IsOutcomeNumbered, IsWalkedNumbered, IsPlainAnswerNumbered}
use Rattle.std.proofs.lemmas.Int.{ints}
use Rattle.shr_base.specs.declared.journals.Entry.TheVariants as entry
use Rattle.shr_base.specs.declared.journals.PlainEntry.TheVariants as units
use Rattle.shr_base.specs.declared.replies.Spent.TheVariants as spent
use Rattle.shr_base.specs.declared.replies.HalfWhy.TheVariants as why
use Rattle.shr_base.specs.declared.replies.IsolateEnd.TheVariants as isolate
use Rattle.shr_base.specs.declared.replies.Reply.TheVariants as reply
use Rattle.shr_base.specs.declared.walks.Ending.TheVariants as ending
use Rattle.shr_base.specs.declared.walks.Outcome.TheVariants as outcome
use Rattle.shr_base.specs.declared.walks.PlainAnswer.TheVariants as plain
use Rattle.shr_base.specs.declared.walks.PlainTry.TheVariants as tried
use Rattle.shr_base.specs.declared.walks.WalkAnswer.TheVariants as answer
use Rattle.shr_laws.proofs.SecondReport as second
use Rattle.shr_laws.proofs.FirstReport as first

-- ---- the greatest numbers of each kind

abbrev last_by : Serial
last_by = record { worker = 65535; command = 4294967295 }

by_numbered : IsSerialNumbered last_by
by_numbered = record { worker = omega arith; command = omega arith }

abbrev last_place : Place
last_place = record { id = 65535; node = 255; group = 65535 }

place_numbered : IsNumbered last_place
place_numbered = record { id = omega arith; node = omega arith; group = omega arith }

abbrev last_at : At
last_at = record { place = last_place; entry = 4294967295 }

at_numbered : IsAtNumbered last_at
at_numbered = record { place = place_numbered; entry = omega arith }

reply_numbered : IsReplyNumbered (reply.Added last_at)
reply_numbered = at_numbered

over_numbered : IsReplyNumbered (reply.Over 65535 (2 ^ 64 - 1) 4294967295)
over_numbered = (omega arith, omega arith, omega arith)

half_numbered : IsReplyNumbered (reply.Half 0 1 2 3 4 (why.Worn (spent.List last_place 4294967295 0)))
half_numbered = (omega arith, omega arith, omega arith, omega arith, omega arith, (place_numbered, omega arith, omega arith))

isolated_numbered : IsReplyNumbered (reply.Isolated 4294967295 4294967295 (isolate.Worn (spent.Lookups 65535 4294967295)))
isolated_numbered = (omega arith, omega arith, (omega arith, omega arith))

made_numbered : IsReplyNumbered (reply.NotMade 65535)
made_numbered = omega arith

full_numbered : IsReplyNumbered (reply.Full 255 255 4294967295 4294967295)
full_numbered = (omega arith, omega arith, omega arith, omega arith)

swept_numbered : IsReplyNumbered (reply.Swept 4294967295 (2 ^ 64 - 1))
swept_numbered = (omega arith, omega arith)

spent_numbered : IsSpentNumbered (spent.Charges 4294967295 0)
spent_numbered = (omega arith, omega arith)

abbrev last_pass : Ending → PassRecord
last_pass end = record { len = 4294967295; version = 0; nr = 2 ^ 64 - 1; asks = 0; closed = 0; scanned = 0; freed = 0; next = 0; ending = end }

pass_numbered : IsPassNumbered (last_pass (ending.Worn (spent.Lookups 0 0)))
pass_numbered = record { len = omega arith; version = omega arith; nr = omega arith; asks = omega arith; closed = omega arith; scanned = omega arith; freed = omega arith; next = omega arith; ending = (omega arith, omega arith) }

attempt_numbered : IsAttemptNumbered (record { id = 65535; outcome = outcome.Ran 4294967295 (last_pass ending.Stop) })
attempt_numbered = record { id = omega arith; outcome = (omega arith, record { len = omega arith; version = omega arith; nr = omega arith; asks = omega arith; closed = omega arith; scanned = omega arith; freed = omega arith; next = omega arith; ending = tt }) }

abbrev walk_of : Serial → ℕ → List Attempt → WalkRecord
walk_of by priority attempts = record { by = by; group = 1; node = 0; priority = priority; nofs = false; maps = second.kept (record { unit = 255; bits = 2 ^ 64 - 1 } ∷ []); attempts = second.kept attempts; answer = answer.Walked 0 }

walk_numbered : IsWalkNumbered (walk_of last_by 255 (second.cleared ∷ []))
walk_numbered = record {
  by = by_numbered;
  group = omega arith;
  node = omega arith;
  priority = omega arith;
  maps = (record { unit = omega arith; bits = omega arith }, tt);
  attempts = (record { id = omega arith; outcome = (omega arith, omega arith, omega arith) }, tt);
  answer = omega arith;
}

abbrev carry_of : Serial → Carry
carry_of by = record { by = by; place = last_place; amount = 2 ^ 64 - 1 }

carry_numbered : IsCarryNumbered (carry_of last_by)
carry_numbered = record { by = by_numbered; place = place_numbered; amount = omega arith }

entry_numbered : IsEntryNumbered (entry.Scan 65535 (2 ^ 64 - 1) 4294967295 Clock 0 0 true)
entry_numbered = (omega arith, omega arith, omega arith, omega arith, omega arith)

object_numbered : IsObjectNumbered (fresh last_by 65535 (codes "k1") (codes "v1"))
object_numbered = record { serial = by_numbered; birth = omega arith }

map_numbered : IsMapNumbered (record { node = 255; group = 65535; unit = 255; bits = 2 ^ 64 - 1 })
map_numbered = record { node = omega arith; group = omega arith; unit = omega arith; bits = omega arith }

amount_numbered : IsAmountNumbered (record { place = last_place; amount = 2 ^ 64 - 1 })
amount_numbered = record { place = place_numbered; amount = omega arith }

-- a usage may be negative for a moment
use_numbered : IsUseNumbered (record { group = 65535; operation = 2 ^ 32 - 1; up = true; found = negsuc 9223372036854775807; by = last_by })
use_numbered = record { group = omega arith; operation = omega arith; found = (omega (arith, ints), omega (arith, ints)); by = by_numbered }

-- ---- one more than the greatest

far_worker : IsSerialNumbered (record { worker = 65536; command = 0 }) → ⊥
far_worker h = absurd (let low = h.worker in omega (arith, low))

far_command : IsSerialNumbered (second.by (2 ^ 32)) → ⊥
far_command h = absurd (let low = h.command in omega (arith, low))

far_entry : IsReplyNumbered (reply.Added (record { place = second.place; entry = 2 ^ 32 })) → ⊥
far_entry h = absurd (let low = h.entry in omega (arith, low))

far_node : IsReplyNumbered (reply.Miss (record { place = record { id = 0; node = 256; group = 0 }; entry = 0 })) → ⊥
far_node h = absurd (let low = h.place.node in omega (arith, low))

far_operation : IsReplyNumbered (reply.Over 0 (2 ^ 64) 0) → ⊥
far_operation h = absurd (let low = h.1 in omega (arith, low))

far_freed : IsReplyNumbered (reply.Walked (2 ^ 64)) → ⊥
far_freed h = absurd (let low = h in omega (arith, low))

far_why : IsWhyNumbered (why.Worn (spent.Lookups 65536 0)) → ⊥
far_why h = absurd (let low = h.0 in omega (arith, low))

far_find : IsFindNumbered (Some (record { id = 0; number = 2 ^ 32; entry = 0 })) → ⊥
far_find h = absurd (let low = h.1 in omega (arith, low))

far_answered : IsAnsweredNumbered (second.held (reply.Offline (2 ^ 32)) 0) → ⊥
far_answered h = absurd (let low = h.reply in omega (arith, low))

far_ending : IsEndingNumbered (ending.Worn (spent.Charges 0 (2 ^ 32))) → ⊥
far_ending h = absurd (let low = h.1 in omega (arith, low))

far_pass : IsPassNumbered (record (last_pass ending.Stop) { next = 2 ^ 64 }) → ⊥
far_pass h = absurd (let low = h.next in omega (arith, low))

far_outcome : IsOutcomeNumbered (outcome.Cleared 0 0 (2 ^ 32)) → ⊥
far_outcome h = absurd (let low = h.2 in omega (arith, low))

far_attempt : IsAttemptNumbered (record { id = 65536; outcome = outcome.Worn 0 }) → ⊥
far_attempt h = absurd (let low = h.id in omega (arith, low))

far_unit : IsSeenNumbered (record { unit = 256; bits = 0 }) → ⊥
far_unit h = absurd (let low = h.unit in omega (arith, low))

far_walked : IsWalkedNumbered (answer.Memory (2 ^ 64)) → ⊥
far_walked h = absurd (let low = h in omega (arith, low))

far_priority : IsWalkNumbered (walk_of (second.by 0) 256 []) → ⊥
far_priority h = absurd (let low = h.priority in omega (arith, low))

far_walk : IsWalkNumbered (walk_of (second.by (2 ^ 32)) 0 []) → ⊥
far_walk h = absurd (far_command h.by)

far_carry : IsCarryNumbered (carry_of (second.by (2 ^ 32))) → ⊥
far_carry h = absurd (far_command h.by)

far_part : IsPartNumbered (record { answers = second.kept []; walks = second.kept []; carries = second.kept (carry_of (second.by (2 ^ 32)) ∷ []); plain = second.kept []; isolations = second.kept [] }) → ⊥
far_part h = absurd (far_carry h.carries.0)

far_birth : IsEntryNumbered (entry.Look (second.by 0) 65536 (codes "k1") true) → ⊥
far_birth h = absurd (let low = h.1 in omega (arith, low))

far_object : IsObjectNumbered (fresh (second.by (2 ^ 32)) 1 (codes "k1") (codes "v1")) → ⊥
far_object h = absurd (far_command h.serial)

far_list : IsListNumbered (record first.end { entries = second.kept (entry.MovedIn 65536 0 ∷ []) }) → ⊥
far_list h = absurd (let low = h.entries.0.0 in omega (arith, low))

far_map : IsMapNumbered (record { node = 0; group = 65536; unit = 0; bits = 0 }) → ⊥
far_map h = absurd (let low = h.group in omega (arith, low))

far_amount : IsAmountNumbered (record { place = second.place; amount = 2 ^ 64 }) → ⊥
far_amount h = absurd (let low = h.amount in omega (arith, low))

not_short : IsReplyNumbered (reply.NotMade 65536) → ⊥
not_short h = absurd (omega (arith, h))

far_isolated : IsReplyNumbered (reply.Isolated 0 0 (isolate.Worn (spent.Lookups 65536 0))) → ⊥
far_isolated h = absurd (let low = h.2.0 in omega (arith, low))

far_pool : IsReplyNumbered (reply.Grabbed 256 0 0) → ⊥
far_pool h = absurd (let low = h.0 in omega (arith, low))

far_jobs : IsReplyNumbered (reply.Swept 4294967296 0) → ⊥
far_jobs h = absurd (let low = h.0 in omega (arith, low))

far_use : IsUseNumbered (record { group = 0; operation = 2 ^ 32; up = true; found = pos 0; by = second.by 0 }) → ⊥
far_use h = absurd (let low = h.operation in omega (arith, low))

far_found : IsUseNumbered (record { group = 0; operation = 0; up = true; found = pos (2 ^ 63); by = second.by 0 }) → ⊥
far_found h = absurd (let low = h.found.1 in omega (arith, ints, low))

-- ---- the first whole report

numbered : HasNumbers first.report
numbered = record {
  version = omega arith;
  nodes = omega arith;
  ids = omega arith;
  pool = ((omega arith, omega arith, omega arith), tt);
  tree = tt;
  few_parts = omega arith;
  workers = (record { answers = (record { reply = record { place = record { id = omega arith; node = omega arith; group = omega arith }; entry = omega arith }; found = (omega arith, omega arith, omega arith) }, tt); walks = tt; carries = tt; plain = tt; isolations = tt }, tt);
  places = (
    record {
      place = record { id = omega arith; node = omega arith; group = omega arith };
      entries = ((record { worker = omega arith; command = omega arith }, omega arith), tt);
      items = (record { serial = record { worker = omega arith; command = omega arith }; birth = omega arith }, tt);
    },
    tt,
  );
  units = tt;
  maps = (record { node = omega arith; group = omega arith; unit = omega arith; bits = omega arith }, tt);
  deferred = tt;
  pool_deferred = tt;
  uses = (
    record { group = omega arith; operation = omega arith; found = (omega (arith, ints), omega (arith, ints)); by = record { worker = omega arith; command = omega arith } },
    (record { group = omega arith; operation = omega arith; found = (omega (arith, ints), omega (arith, ints)); by = record { worker = omega arith; command = omega arith } }, tt),
  );
  lookups = (omega arith, tt);
  totals = (omega arith, omega arith, omega arith);
}

-- its changes in one place
too_many_parts : (parts : List WorkerPart) → 2 ^ 16 < length parts → HasNumbers (record first.report { workers = second.kept parts }) → ⊥
too_many_parts parts many h = let few = h.few_parts in absurd (omega (arith, many, few))

far_reply : HasNumbers (record first.report { workers = second.kept (record { answers = second.kept (second.held (reply.Added (record { place = second.place; entry = 2 ^ 32 })) 0 ∷ []); walks = second.kept []; carries = second.kept []; plain = second.kept []; isolations = second.kept [] } ∷ []) }) → ⊥
far_reply h = absurd (far_entry h.workers.0.answers.0.reply)

far_lookups : HasNumbers (record first.report { lookups = second.kept (2 ^ 32 ∷ []) }) → ⊥
far_lookups h = absurd (let low = h.lookups.0 in omega (arith, low))

far_total : HasNumbers (record first.report { listed = 2 ^ 64 }) → ⊥
far_total h = absurd (let low = h.totals.2 in omega (arith, low))

-- ---- what is asked of parts, so that all of them is printed

-- a walk of another worker is in no part that is well formed
abbrev elsewhere : WorkerPart
elsewhere = record { answers = second.kept (first.answer ∷ []); walks = second.kept (walk_of (record { worker = 1; command = 0 }) 0 [] ∷ []); carries = second.kept []; plain = second.kept []; isolations = second.kept [] }

walk_elsewhere : ArePartsWell (elsewhere ∷ []) → ⊥
walk_elsewhere h = absurd (let there = (h 0 _ refl).walkers.0.0 in cc)

no_part : ArePartsWell []
no_part worker part e = absurd (none-some part e)

-- ---- pools of units and isolations

abbrev plain_walk : ℕ → List PlainTry → PlainAnswer → PlainWalk
plain_walk node tries answer = record { by = second.by 0; node = node; priority = 12; tries = second.kept tries; answer = answer }

some_plain : IsPlainNumbered (plain_walk 0 (tried.Empty 1 ∷ tried.Skip 1 1 ∷ []) (plain.Walked 3))
some_plain = record { by = record { worker = omega arith; command = omega arith }; node = omega arith; priority = omega arith; tries = (omega arith, ((omega arith, omega arith), tt)); answer = omega arith }

far_plain_node : IsPlainNumbered (plain_walk 256 [] (plain.Memory 0)) → ⊥
far_plain_node h = absurd (let low = h.node in omega (arith, low))

far_version : IsTryNumbered (tried.Empty (2 ^ 32)) → ⊥
far_version h = absurd (let low : 2 ^ 32 < 2 ^ 32 = h in omega (arith, low))

far_plain_freed : IsPlainAnswerNumbered (plain.Memory (2 ^ 64)) → ⊥
far_plain_freed h = absurd (let low : 2 ^ 64 < 2 ^ 64 = h in omega (arith, low))

abbrev isolation : ℕ → Isolation
isolation budget = record { by = second.by 0; place = second.place; budget = budget; visits = 1; freed = 1; ending = isolate.Bare }

some_isolation : IsIsolationNumbered (isolation 20000)
some_isolation = record {
  by = record { worker = omega arith; command = omega arith };
  place = record { id = omega arith; node = omega arith; group = omega arith };
  budget = omega arith;
  visits = omega arith;
  freed = omega arith;
  ending = tt;
}

far_budget : IsIsolationNumbered (isolation (2 ^ 32)) → ⊥
far_budget h = absurd (let low = h.budget in omega (arith, low))

some_units : AreUnitsNumbered (record { pool = 0; node = 0; entries = second.kept (units.Release (second.by 0) 10 ∷ units.Grab (second.by 1) true ∷ units.Reclaim 0 0 9 9 ∷ []); free = 0 })
some_units = record {
  pool = omega arith;
  node = omega arith;
  entries = ((record { worker = omega arith; command = omega arith }, omega arith), (record { worker = omega arith; command = omega arith }, ((omega arith, omega arith, omega arith, omega arith), tt)));
  free = omega arith;
}

far_units : AreUnitsNumbered (record { pool = 256; node = 0; entries = second.kept []; free = 0 }) → ⊥
far_units h = absurd (let low = h.pool in omega (arith, low))

far_reclaim : IsPlainEntryNumbered (units.Reclaim 0 (2 ^ 32) 0 0) → ⊥
far_reclaim h = absurd (let low : 2 ^ 32 < 2 ^ 32 = h.1 in omega (arith, low))
