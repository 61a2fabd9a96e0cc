-- SPDX-License-Identifier: GPL-2.0-only
-- What is told of an input is its verdict, where nothing fails.
use Rattle.shr_tool.proofs.Common.{◌≡◌, ◌∙◌, ℕ, ◌⊎◌, inl, inr, List, refl, sym, ap, subst, arith, SourceSeen, SinkSeen, Status, IsVerdictOf, status_of, IsBad, JudgeGives, IsJudged, AuditGives, HasVerdict, IsInputWhole, IsJudging}
use Rattle.shr_outside.specs.Outside.{Rose}
use Rattle.shr_audit.specs.declared.verdict.Verdict.{Verdict}
use Rattle.shr_audit.specs.declared.verdict.Verdict.TheVariants.{Lawful, BadScript, BadReport, Unlawful}
use Rattle.shr_audit.specs.Verdict.{HoldsOf}
use Rattle.shr_audit.proofs.OneVerdict.{one_verdict}
use Rattle.shr_tool.specs.declared.status.Status.TheVariants as status
use Rattle.shr_tool.proofs.Complete.{all_taken, not_too_many}
use Rattle.shr_tool.proofs.OneSplit.{one_split}

-- one verdict holds of an input
pub one_verdict_of : (bytes : List ℕ) (v w : Verdict) → IsVerdictOf bytes v → IsVerdictOf bytes w → v ≡ w
one_verdict_of bytes v w h k =
    let same = one_split bytes k.script k.report h.script h.report k.split h.split in
    one_verdict h.script h.report v w h.holds (subst (λ (s : List ℕ). HoldsOf s h.report w) same.0 (subst (λ (r : List ℕ). HoldsOf k.script r w) same.1 k.holds))

-- a bad verdict is a refusal
bad_refused : (v : Verdict) → IsBad v → status.Refused ≡ status_of v
bad_refused Lawful h = absurd h
bad_refused (BadScript line code) h = refl
bad_refused BadReport h = refl
bad_refused (Unlawful law) h = absurd h

-- the verdict that was told
has_verdict : (bytes : List ℕ) (sink : SinkSeen) (s : Status) → JudgeGives bytes sink s → (Rose sink.faults sink.faults_after → ⊥) → HasVerdict bytes s ⊎ (s ≡ status.Memory)
has_verdict bytes sink status.Done h whole = inl (record { verdict = Lawful; holds = h.holds; ends = refl })
has_verdict bytes sink status.Unlawful h whole = inl (record { verdict = Unlawful h.0; holds = h.1.holds; ends = refl })
has_verdict bytes sink status.Refused h whole = inl (record { verdict = h.0; holds = h.1.1.holds; ends = bad_refused h.0 h.1.0 })
has_verdict bytes sink status.WriteFault h whole = absurd (whole h.rose)
has_verdict bytes sink status.Memory h whole = inr refl
has_verdict bytes sink status.Usage h whole = absurd h
has_verdict bytes sink status.ReadFault h whole = absurd h
has_verdict bytes sink status.TooLong h whole = absurd h

-- of the bytes that were read, which are those that the source gives
of_read : (source : SourceSeen) (sink : SinkSeen) (s : Status) (bytes : List ℕ) → IsInputWhole source sink bytes → IsJudged source sink s → HasVerdict bytes s ⊎ (s ≡ status.Memory)
of_read source sink s bytes whole h =
    let same : bytes ≡ h.bytes = all_taken source.left source.left_after h.bytes bytes whole.left h.read.taken h.read.end in
    subst (λ (b : List ℕ). HasVerdict b s ⊎ (s ≡ status.Memory)) (sym same) (has_verdict h.bytes sink s h.judged whole.failed.sink_whole)

some_verdict : (source : SourceSeen) (sink : SinkSeen) (s : Status) (bytes : List ℕ) → AuditGives source sink s → IsInputWhole source sink bytes → HasVerdict bytes s ⊎ (s ≡ status.Memory)
some_verdict source sink status.Done bytes h whole = of_read source sink status.Done bytes whole h
some_verdict source sink status.Unlawful bytes h whole = of_read source sink status.Unlawful bytes whole h
some_verdict source sink status.Refused bytes h whole = of_read source sink status.Refused bytes whole h
some_verdict source sink status.WriteFault bytes h whole = of_read source sink status.WriteFault bytes whole h
some_verdict source sink status.Memory bytes h whole = inr refl
some_verdict source sink status.ReadFault bytes h whole = absurd (whole.failed.source_whole h.0.rose)
some_verdict source sink status.TooLong bytes h whole = absurd (omega (arith, whole.within, h.0.above, not_too_many source.left source.left_after h.0.bytes bytes whole.left h.0.taken))
some_verdict source sink status.Usage bytes h whole = absurd h

pub is_judging : (source : SourceSeen) (sink : SinkSeen) (s : Status) → AuditGives source sink s → IsJudging source sink s
is_judging source sink s h = record { some = some; only = only }
  where
    some : (bytes : List ℕ) → IsInputWhole source sink bytes → HasVerdict bytes s ⊎ (s ≡ status.Memory)
    some bytes whole = some_verdict source sink s bytes h whole

    only : (bytes : List ℕ) (v : Verdict) → IsInputWhole source sink bytes → IsVerdictOf bytes v → (s ≡ status_of v) ⊎ (s ≡ status.Memory)
    only bytes v whole holds = by_verdict (some bytes whole)
      where
        by_verdict : HasVerdict bytes s ⊎ (s ≡ status.Memory) → (s ≡ status_of v) ⊎ (s ≡ status.Memory)
        by_verdict (inl k) = inl (k.ends ∙ ap status_of (one_verdict_of bytes k.verdict v k.holds holds))
        by_verdict (inr memory) = inr memory
