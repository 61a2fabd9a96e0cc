-- SPDX-License-Identifier: GPL-2.0-only
-- What a set_pin does, by its answer.
use Rattle.std.specs.Prelude.{ℕ, Bool, List}
use Rattle.shr_base.specs.declared.places.Serial.{Serial}
use Rattle.shr_base.specs.declared.replies.Answered.{Answered}
use Rattle.shr_core.specs.Seats.{shape_of}
use Rattle.shr_node.specs.Answers.{PinGives}
use Rattle.shr_walk.specs.declared.seats.Shared.{Shared}
use Rattle.shr_walk.specs.State.{WorkerState}
use Rattle.shr_cache.specs.Replies.{AsksList, pin_says}

-- What a set_pin did: the pin was set or taken away in the cache that was found.
abbrev pub SetPinGives : Shared → Serial → ℕ → ℕ → ℕ → List ℕ → Bool → Answered → WorkerState
    → WorkerState → Type 0
SetPinGives x by group node decl key pinned a s t =
    AsksList x group decl pin_says
    (λ id v answer w. PinGives (shape_of x.core) v id node by group key pinned answer w) a.found a.reply s t
