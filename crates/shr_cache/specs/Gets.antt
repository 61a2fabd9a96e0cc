-- SPDX-License-Identifier: GPL-2.0-only
-- What a get does, by its answer.
use Rattle.std.specs.Prelude.{ℕ, List}
use Rattle.shr_base.specs.declared.places.Serial.{Serial}
use Rattle.shr_base.specs.declared.replies.Answered.{Answered}
use Rattle.shr_core.specs.Seats.{shape_of}
use Rattle.shr_node.specs.Answers.{LookGives}
use Rattle.shr_walk.specs.declared.seats.Shared.{Shared}
use Rattle.shr_walk.specs.State.{WorkerState}
use Rattle.shr_cache.specs.Replies.{AsksList, look_says}

-- What a get did: the key was looked up in the cache that was found.
abbrev pub GetGives : Shared → Serial → ℕ → ℕ → ℕ → List ℕ → Answered → WorkerState → WorkerState
    → Type 0
GetGives x by group node decl key a s t =
    AsksList x group decl look_says
    (λ id v answer w. LookGives (shape_of x.core) v id node by group key answer w) a.found a.reply s t
