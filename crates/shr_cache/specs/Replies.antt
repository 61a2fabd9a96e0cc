-- SPDX-License-Identifier: GPL-2.0-only
-- What the answers of a list are as replies, and what a command did that asks a list.
use Rattle.std.specs.Prelude.{◌≡◌, ℕ, Bool, true, false, List, Option, None, Some}
use Rattle.shr_base.specs.declared.journals.DropKind.{DropKind}
use Rattle.shr_base.specs.declared.journals.DropKind.TheVariants as kind
use Rattle.shr_base.specs.declared.places.At.{At}
use Rattle.shr_base.specs.declared.places.Serial.{Serial}
use Rattle.shr_base.specs.declared.replies.Found.{Found}
use Rattle.shr_base.specs.declared.replies.Reply.{Reply}
use Rattle.shr_base.specs.declared.replies.Reply.TheVariants as reply
use Rattle.shr_core.specs.declared.view.View.{View}
use Rattle.shr_node.specs.declared.answers.NodeAnswer.{NodeAnswer}
use Rattle.shr_node.specs.declared.answers.NodeAnswer.TheVariants as answer
use Rattle.shr_walk.specs.declared.seats.Shared.{Shared}
use Rattle.shr_walk.specs.State.{WorkerState}
use Rattle.shr_cache.specs.Opening.{OnCache, RefusedAs, Uncharges}

-- an answer of a list, by what is said of what it told
abbrev pub answer_reply : {A : Type 0} → (At → A → Reply) → NodeAnswer A → Reply
answer_reply says (answer.Told at told) = says at told
answer_reply says (answer.Worn spent) = reply.Worn spent
answer_reply says answer.Memory = reply.Memory

-- where an object was offered: whether it was added
abbrev pub add_says : At → Bool → Reply
add_says at true = reply.Added at
add_says at false = reply.Exists at

-- where a key was looked up: the value, or none
abbrev pub look_says : At → Option (List ℕ) → Reply
look_says at (Some value) = reply.Hit at value
look_says at None = reply.Miss at

-- where an object was asked for, to be dropped: what the drop did
abbrev pub drop_says : At → DropKind → Reply
drop_says at kind.Dropped = reply.Dropped at
drop_says at kind.Pinned = reply.Pinned at
drop_says at kind.Miss = reply.Miss at

-- where a pin was set or taken away: whether the object is there
abbrev pub pin_says : At → Bool → Reply
pin_says at true = reply.Done at
pin_says at false = reply.Miss at

-- a list gave an answer, of which this is so, and the reply is that answer
pub record ListReplies {A : Type 0} (says : At → A → Reply) (so : NodeAnswer A → Type 0)
    (r : Reply) : Type 0 where
  pub answer : NodeAnswer A
  pub told : r ≡ answer_reply says answer
  pub did : so answer

-- What a command did that finds its cache and asks a list there, by whether the cache was found. It is
-- told where it was found, and nowhere else.
abbrev pub AsksList : {A : Type 0} → Shared → ℕ → ℕ → (At → A → Reply)
    → (ℕ → View → NodeAnswer A → View → Type 0) → Option Found → Reply → WorkerState → WorkerState
    → Type 0
AsksList x group decl says gives None r s t = RefusedAs x group decl r s t
AsksList x group decl says gives (Some f) r s t =
    ListReplies says (λ answer. OnCache x group decl f (λ v w. gives f.id v answer w) s t) r

-- the group was uncharged if that is due, and else nothing was done
abbrev pub UnchargesIf : Shared → Serial → ℕ → Bool → WorkerState → WorkerState → Type 0
UnchargesIf x by group true s t = Uncharges x by group s t
UnchargesIf x by group false s t = t ≡ s

-- the reply says that the object was dropped
abbrev pub has_dropped : Reply → Bool
has_dropped (reply.Dropped at) = true
has_dropped r = false

-- the reply says that the object was added
abbrev pub has_added : Reply → Bool
has_added (reply.Added at) = true
has_added r = false
