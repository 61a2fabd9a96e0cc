-- SPDX-License-Identifier: GPL-2.0-only
-- The words and the line of an answer.
use Rattle.std.specs.Prelude.{ℕ, Bool, if◌then◌else◌, List, [], ◌∷◌, codes, Option, Some, None}
use Rattle.shr_base.specs.declared.places.Place.{Place}
use Rattle.shr_base.specs.declared.places.At.{At}
use Rattle.shr_base.specs.declared.replies.Spent.{Spent}
use Rattle.shr_base.specs.declared.replies.Spent.TheVariants as spent
use Rattle.shr_base.specs.declared.replies.HalfWhy.{HalfWhy}
use Rattle.shr_base.specs.declared.replies.HalfWhy.TheVariants as why
use Rattle.shr_base.specs.declared.replies.IsolateEnd.{IsolateEnd}
use Rattle.shr_base.specs.declared.replies.IsolateEnd.TheVariants as isolate
use Rattle.shr_base.specs.declared.replies.Found.{Found}
use Rattle.shr_base.specs.declared.replies.Reply.{Reply}
use Rattle.shr_base.specs.declared.replies.Reply.TheVariants as reply
use Rattle.shr_laws.specs.Lines.{line, numeral}

-- one word where the test is true, the other where it is false
abbrev pub choice : Bool → List ℕ → List ℕ → List ℕ
choice b x y = if b then x else y

-- a place, by its id, node and group
abbrev pub place_words : Place → List (List ℕ)
place_words p = numeral p.id ∷ numeral p.node ∷ numeral p.group ∷ []

-- an entry of a place's journal, by its number
abbrev pub at_words : At → List (List ℕ)
at_words at = numeral at.place.id ∷ numeral at.place.node ∷ numeral at.place.group ∷ numeral at.entry ∷ []

-- which counter is used up
abbrev pub spent_words : Spent → List (List ℕ)
spent_words (spent.Lookups id seen) = codes "lookups" ∷ numeral id ∷ numeral seen ∷ []
spent_words (spent.List place entries items) = codes "list" ∷ numeral place.id ∷ numeral place.node ∷ numeral place.group ∷ numeral entries ∷ numeral items ∷ []
spent_words (spent.Charges charges uncharges) = codes "charges" ∷ numeral charges ∷ numeral uncharges ∷ []

-- why an unregistering stopped half way
abbrev pub why_words : HalfWhy → List (List ℕ)
why_words why.Memory = codes "memory" ∷ []
why_words (why.Worn s) = codes "worn" ∷ spent_words s

-- how an isolation ended
abbrev pub isolate_end_words : IsolateEnd → List (List ℕ)
isolate_end_words isolate.Spent = codes "spent" ∷ []
isolate_end_words isolate.Bare = codes "bare" ∷ []
isolate_end_words isolate.Stop = codes "stop" ∷ []
isolate_end_words isolate.Closed = codes "closed" ∷ []
isolate_end_words (isolate.Worn s) = codes "worn" ∷ spent_words s
isolate_end_words isolate.NoRoom = codes "noroom" ∷ []

-- a value behind its =
abbrev pub value_word : List ℕ → List ℕ
value_word value = 61 ∷ value

-- an answer
abbrev pub answer_words : Reply → List (List ℕ)
answer_words (reply.Added at) = codes "added" ∷ at_words at
answer_words (reply.Exists at) = codes "exists" ∷ at_words at
answer_words (reply.Hit at value) = codes "hit" ∷ numeral at.place.id ∷ numeral at.place.node ∷ numeral at.place.group ∷ numeral at.entry ∷ value_word value ∷ []
answer_words (reply.Miss at) = codes "miss" ∷ at_words at
answer_words (reply.Dropped at) = codes "dropped" ∷ at_words at
answer_words (reply.Pinned at) = codes "pinned" ∷ at_words at
answer_words (reply.Done at) = codes "done" ∷ at_words at
answer_words (reply.Offline entry) = codes "offline" ∷ numeral entry ∷ []
answer_words (reply.Over group operation usage) = codes "over" ∷ numeral group ∷ numeral operation ∷ numeral usage ∷ []
answer_words (reply.NoCache entry) = codes "nocache" ∷ numeral entry ∷ []
answer_words (reply.Worn s) = codes "worn" ∷ spent_words s
answer_words reply.Memory = codes "memory" ∷ []
answer_words (reply.Walked freed) = codes "walked" ∷ numeral freed ∷ []
answer_words (reply.WalkMemory freed) = codes "memory" ∷ numeral freed ∷ []
answer_words (reply.OfflineDone entry moved deferred) = codes "done" ∷ numeral entry ∷ numeral moved ∷ numeral deferred ∷ []
answer_words (reply.AlreadyDone entry) = codes "alreadydone" ∷ numeral entry ∷ []
answer_words reply.Root = codes "root" ∷ []
answer_words (reply.HasChildren child entry) = codes "haschildren" ∷ numeral child ∷ numeral entry ∷ []
answer_words (reply.Made entry) = codes "made" ∷ numeral entry ∷ []
answer_words (reply.AlreadyMade entry) = codes "alreadymade" ∷ numeral entry ∷ []
answer_words (reply.NotMade group) = codes "notmade" ∷ numeral group ∷ []
answer_words (reply.Registered id entry) = codes "registered" ∷ numeral id ∷ numeral entry ∷ []
answer_words (reply.AlreadyRegistered entry) = codes "alreadyregistered" ∷ numeral entry ∷ []
answer_words (reply.NoId entry) = codes "noid" ∷ numeral entry ∷ []
answer_words (reply.Freed id entry from to objects) = codes "freed" ∷ numeral id ∷ numeral entry ∷ numeral from ∷ numeral to ∷ numeral objects ∷ []
answer_words (reply.Half id entry from to objects why) = codes "half" ∷ numeral id ∷ numeral entry ∷ numeral from ∷ numeral to ∷ numeral objects ∷ why_words why
answer_words (reply.Isolated visits freed ending) = codes "isolated" ∷ numeral visits ∷ numeral freed ∷ isolate_end_words ending
answer_words (reply.Released pool node entry) = codes "released" ∷ numeral pool ∷ numeral node ∷ numeral entry ∷ []
answer_words (reply.Full pool node entries free) = codes "full" ∷ numeral pool ∷ numeral node ∷ numeral entries ∷ numeral free ∷ []
answer_words (reply.Grabbed pool node entry) = codes "grabbed" ∷ numeral pool ∷ numeral node ∷ numeral entry ∷ []
answer_words (reply.Bare pool node entry) = codes "bare" ∷ numeral pool ∷ numeral node ∷ numeral entry ∷ []
answer_words (reply.Swept jobs freed) = codes "swept" ∷ numeral jobs ∷ numeral freed ∷ []

-- the reply to a command, by the numbers of its worker and its own
abbrev pub reply_line : ℕ → ℕ → Reply → List ℕ
reply_line worker command r = line (codes "reply") (numeral worker ∷ numeral command ∷ answer_words r)

-- the line of the id that the cache was held with, where it was
abbrev pub found_lines : Option Found → List ℕ
found_lines None = []
found_lines (Some f) = line (codes "find") (numeral f.id ∷ numeral f.number ∷ numeral f.entry ∷ [])
