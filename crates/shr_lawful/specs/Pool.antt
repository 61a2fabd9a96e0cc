-- SPDX-License-Identifier: GPL-2.0-only
-- What a command made and knew of the journal of registrations.
use Rattle.std.specs.Prelude.{◌≡◌, ℕ, ◌+◌, ◌<◌, ◌≤◌, List, take, length}
use Rattle.std.specs.List.{AllByRecursion}
use Rattle.shr_base.specs.declared.journals.PoolEntry.{PoolEntry}
use Rattle.shr_base.specs.declared.journals.PoolEntry.TheVariants.{Registered, Unregistered, Idle}
use Rattle.shr_base.specs.declared.replies.Reply.{Reply}
use Rattle.shr_base.specs.declared.replies.Reply.TheVariants as reply
use Rattle.shr_base.specs.declared.scripts.Script.{Script}
use Rattle.shr_model.specs.Pool.{phase_of}
use Rattle.shr_seats.specs.Views.{Each}
use Rattle.shr_core.specs.Parts.{Turn}
use Rattle.shr_laws.specs.Freshness.{pool_seen, pool_made}
use Rattle.shr_laws.specs.WellFormed.{AreNotFalling}
use Rattle.shr_lawful.specs.Steps.{Step}

-- an entry that was made is the one that the answer tells of; the Idle of a Freed is the id's next entry
abbrev pub IsTurnOf : List PoolEntry → PoolEntry → ℕ → Reply → Type 0
IsTurnOf known (Registered decl id from) n (reply.Registered i entry) = n ≡ entry
IsTurnOf known (Unregistered decl id to) n (reply.Freed i entry x y objects) = n ≡ entry
IsTurnOf known (Unregistered decl id to) n (reply.Half i entry x y objects why) = n ≡ entry
IsTurnOf known (Idle id) n (reply.Freed i entry x y objects) = (i ≡ id) × (entry < n) × (n < length known) × (phase_of id (take n known) ≡ phase_of id (take entry known) + 1)
IsTurnOf known e n x = ⊥

-- what a command entered in the journal of registrations, and what it knew of it
pub record DidPool (s : Script) (x : Step) : Type 0 where
  pub turns : Each (λ (t : Turn). IsTurnOf x.after.core.turns.known t.entry t.number x.answered.reply) x.work.core.turns
  -- what it made comes after all that its worker knew before
  pub later : Each (λ (t : Turn). length x.before.core.turns.known ≤ t.number) x.work.core.turns
  -- what it speaks of was known at its end and not before its beginning; what it made is known at its end
  pub seen : AllByRecursion (λ n. (length x.before.core.turns.known ≤ n) × (n ≤ length x.after.core.turns.known)) (pool_seen x.answered)
  pub rise : AreNotFalling (pool_seen x.answered)
  pub made : AllByRecursion (λ n. n < length x.after.core.turns.known) (pool_made x.answered.reply)
