-- SPDX-License-Identifier: GPL-2.0-only
-- What a step on one word needs of the seat that makes it. No public clause cites this module.
use Rattle.std.specs.Prelude.{◌≡◌, ℕ, ◌<◌, false}
use Rattle.atomic_table.specs.Table.{Allows}
use Rattle.atomic_table.specs.declared.shared.Seat.{Seat}
use Rattle.shr_core.specs.declared.table.Core.{Core}
use Rattle.shr_core.specs.declared.view.View.{View}
use Rattle.shr_core.specs.Slots.{Slot}
use Rattle.shr_core.specs.Rule.{Sound}
use Rattle.shr_core.specs.Steps.{Sat}

-- a seat of the table of words and slots
abbrev pub Token : Type 0
Token = Seat Slot View

-- a seat of this core may change the word by f: the rule is kept, and the number found and the seat after it are as told
pub record MayStep (core : Core) (token : Token) (word : ℕ) (f : ℕ → ℕ) (tells : ℕ → Sat → Type 0) : Type 0 where
  pub table : token.table_id ≡ core.table.shared.table_id
  pub inside : word < core.table.shared.table_id.words
  pub step : Allows (Sound core.table.shared.key) core.table.shared.table_id.slots token.id token.me word f tells

-- a seat of this core that was not joined away
pub record IsHere (core : Core) (token : Token) : Type 0 where
  pub table : token.table_id ≡ core.table.shared.table_id
  pub present : token.me.0.standing.gone ≡ false

-- it is the same seat of the same table
abbrev pub IsSameSeat : Token → Token → Type 0
IsSameSeat old new = (new.table_id ≡ old.table_id) × (new.id ≡ old.id)

-- it is the same seat, and this is told of it as it is after the step
pub record IsTold (old new : Token) (tells : Sat → Type 0) : Type 0 where
  pub same : IsSameSeat old new
  pub told : tells new.me
