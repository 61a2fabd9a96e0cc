-- SPDX-License-Identifier: GPL-2.0-only
-- Where nothing fails, a valid script is run and any other is refused.
use Rattle.shr_tool.proofs.Common.{◌≡◌, ℕ, ◌≤◌, inl, inr, List, ◌++◌, length, Option, Some, None, refl, sym, ap, ◌∙◌, length-append, arith, append-nil, Consumes, Code, content_of, spell, IsFault, SourceSeen, SinkSeen, RunGives, Status, Done, Usage, ReadFault, WriteFault, Refused, Memory, TooLong, Unlawful, IsAtEnd, Content, IsValid, IsComplete, IsRefusing}
use Rattle.shr_script.proofs.ReadLaws.{faultless}

-- the bytes that were taken up to the end are all that the source gives
pub all_taken : (left after : Option (List ℕ)) (bytes xs : List ℕ) → left ≡ Some xs → Consumes left after bytes → IsAtEnd after → xs ≡ bytes
all_taken None after bytes xs e c h = absurd cc
all_taken (Some ys) None bytes xs e c h = absurd c
all_taken (Some ys) (Some zs) bytes xs e c h = let same : ys ≡ xs = cc in sym same ∙ c ∙ ap (λ (t : List ℕ). bytes ++ t) h ∙ append-nil bytes

-- no more are taken than it gives
pub not_too_many : (left after : Option (List ℕ)) (bytes xs : List ℕ) → left ≡ Some xs → Consumes left after bytes → length bytes ≤ length xs
not_too_many None after bytes xs e c = absurd cc
not_too_many (Some ys) None bytes xs e c = absurd c
not_too_many (Some ys) (Some zs) bytes xs e c = let same : xs ≡ bytes ++ zs = (let other : ys ≡ xs = cc in sym other ∙ c) in omega (arith, ap length same, length-append bytes zs)

-- the spelling of a valid script has no bad line
valid_not_refused : (t : Content) (bytes : List ℕ) (line : ℕ) (code : Code) → IsValid t → bytes ≡ spell t → IsFault bytes line code → ⊥
valid_not_refused t bytes line code valid spelled fault = faultless bytes t line code (record { valid = valid; spelled = spelled }) fault

pub is_complete : (source : SourceSeen) (sink : SinkSeen) (status : Status) → RunGives source sink status → IsComplete source sink status
is_complete source sink Done h t valid told short whole = inl refl
is_complete source sink Usage h t valid told short whole = absurd h
is_complete source sink ReadFault h t valid told short whole = absurd (whole.source_whole h.0.rose)
is_complete source sink WriteFault h t valid told short whole = absurd (whole.sink_whole h.rose)
is_complete source sink Refused h t valid told short whole = absurd (valid_not_refused t h.bytes h.line h.code valid (sym (all_taken source.left source.left_after h.bytes _ told h.read.taken h.read.end)) h.refused)
is_complete source sink Memory h t valid told short whole = inr refl
is_complete source sink Unlawful h t valid told short whole = absurd h
is_complete source sink TooLong h t valid told short whole = absurd (omega (arith, short, h.0.above, not_too_many source.left source.left_after h.0.bytes _ told h.0.taken))

pub is_refusing : (source : SourceSeen) (sink : SinkSeen) (status : Status) → RunGives source sink status → IsRefusing source sink status
is_refusing source sink Done h bytes line code refused told short whole =
    absurd (valid_not_refused (content_of h.script) bytes line code h.valid (all_taken source.left source.left_after _ bytes told h.read.taken h.read.end) refused)
is_refusing source sink Usage h bytes line code refused told short whole = absurd h
is_refusing source sink ReadFault h bytes line code refused told short whole = absurd (whole.source_whole h.0.rose)
is_refusing source sink WriteFault h bytes line code refused told short whole = absurd (whole.sink_whole h.rose)
is_refusing source sink Refused h bytes line code refused told short whole = inl refl
is_refusing source sink Memory h bytes line code refused told short whole = inr refl
is_refusing source sink Unlawful h bytes line code refused told short whole = absurd h
is_refusing source sink TooLong h bytes line code refused told short whole = absurd (omega (arith, short, h.0.above, not_too_many source.left source.left_after h.0.bytes bytes told h.0.taken))
