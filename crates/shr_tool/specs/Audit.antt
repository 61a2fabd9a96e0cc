-- SPDX-License-Identifier: GPL-2.0-only
-- What the word `audit` gives: a report is judged by the script that stands before it.
use Rattle.std.specs.Prelude.{◌≡◌, ◌≢◌, ◌⊎◌, ℕ, ◌≤◌, true, List, ◌++◌, codes, decimal, length, flat_map, Some}
use Rattle.std.specs.List.{AllByRecursion}
use Rattle.std.specs.Io.KnownBytes.{Appends}
use Rattle.shr_model.specs.PieceParts.{is_part_of}
use Rattle.shr_outside.specs.Outside.{Rose}
use Rattle.shr_outside.specs.Writing.{WrotePart}
use Rattle.shr_audit.specs.declared.verdict.Law.{Law}
use Rattle.shr_audit.specs.declared.verdict.Verdict.{Verdict}
use Rattle.shr_audit.specs.declared.verdict.Verdict.TheVariants.{Lawful, BadScript, BadReport, Unlawful}
use Rattle.shr_audit.specs.Verdict.{law_number, HoldsOf}
use Rattle.shr_tool.specs.Done.{ReadAll, SourceSeen, SinkSeen}
use Rattle.shr_tool.specs.Reading.{TookFew, TookTooMany, IsReadFault, audit_limit}
use Rattle.shr_tool.specs.Top.{NoneFailed, WritesNothing, refusal}
use Rattle.shr_tool.specs.declared.status.Status.{Status}
use Rattle.shr_tool.specs.declared.status.Status.TheVariants as status

-- ---- where the script ends

-- a line that isn't `end`, without the line feed that ends it
pub record IsOtherLine (line : List ℕ) : Type 0 where
  pub one : is_part_of 10 line ≡ true
  pub other : line ≢ codes "end"

-- lines, each with its line feed
abbrev pub with_feeds : List (List ℕ) → List ℕ
with_feeds lines = flat_map (λ line. line ++ codes "\n") lines

-- these bytes are lines none of which is `end`
pub record AreOtherLines (bytes : List ℕ) : Type 0 where
  pub lines : List (List ℕ)
  pub others : AllByRecursion IsOtherLine lines
  pub are : bytes ≡ with_feeds lines

-- other lines, and then the line `end`
pub record HasEndLine (script : List ℕ) : Type 0 where
  pub before : List ℕ
  pub others : AreOtherLines before
  pub is : script ≡ before ++ codes "end\n"

-- other lines, and then a part without a line feed, which is no line whatever it says
pub record HasNoEnd (script : List ℕ) : Type 0 where
  pub before : List ℕ
  pub last : List ℕ
  pub others : AreOtherLines before
  pub one : is_part_of 10 last ≡ true
  pub is : script ≡ before ++ last

-- The script ends with the first line that is `end`, and the report is what stands behind it. Where no line is, all is script.
pub record IsSplit (bytes script report : List ℕ) : Type 0 where
  pub whole : script ++ report ≡ bytes
  pub ending : HasEndLine script ⊎ (HasNoEnd script × (report ≡ codes ""))

-- ---- what is told of it

-- a verdict holds of the script and the report that the bytes are
pub record IsVerdictOf (bytes : List ℕ) (verdict : Verdict) : Type 0 where
  pub script : List ℕ
  pub report : List ℕ
  pub split : IsSplit bytes script report
  pub holds : HoldsOf script report verdict

-- the line that tells a verdict
abbrev pub verdict_text : Verdict → List ℕ
verdict_text Lawful = codes "lawful\n"
verdict_text (BadScript line code) = refusal line code
verdict_text BadReport = codes "refused report\n"
verdict_text (Unlawful law) = codes "unlawful L" ++ decimal (law_number law) ++ codes "\n"

-- how a call ends that told a verdict
abbrev pub status_of : Verdict → Status
status_of Lawful = status.Done
status_of (BadScript line code) = status.Refused
status_of BadReport = status.Refused
status_of (Unlawful law) = status.Unlawful

-- the script is bad, or there is no such report
abbrev pub IsBad : Verdict → Type 0
IsBad (BadScript line code) = Unit {0}
IsBad BadReport = Unit {0}
IsBad verdict = ⊥

-- this verdict holds of the bytes, and its line was written
pub record IsVerdictTold (bytes : List ℕ) (sink : SinkSeen) (verdict : Verdict) : Type 0 where
  pub holds : IsVerdictOf bytes verdict
  pub written : Appends sink.written sink.written_after (verdict_text verdict)

-- the sink failed in this call, and a prefix of the line was written of a verdict that holds
pub record IsToldInPart (bytes : List ℕ) (sink : SinkSeen) : Type 0 where
  pub rose : Rose sink.faults sink.faults_after
  pub verdict : Verdict
  pub holds : IsVerdictOf bytes verdict
  pub part : WrotePart sink.written sink.written_after (verdict_text verdict)

-- an input that was read to its end is judged so
abbrev pub JudgeGives : List ℕ → SinkSeen → Status → Type 0
JudgeGives bytes sink status.Done = IsVerdictTold bytes sink Lawful
JudgeGives bytes sink status.Unlawful = (law : Law) × IsVerdictTold bytes sink (Unlawful law)
JudgeGives bytes sink status.Refused = (verdict : Verdict) × (IsBad verdict × IsVerdictTold bytes sink verdict)
JudgeGives bytes sink status.WriteFault = IsToldInPart bytes sink
JudgeGives bytes sink status.Memory = WritesNothing sink
JudgeGives bytes sink s = ⊥

-- the source was read to its end within the limit, and what it gave was judged
pub record IsJudged (source : SourceSeen) (sink : SinkSeen) (s : Status) : Type 0 where
  pub bytes : List ℕ
  pub read : ReadAll audit_limit source.left source.left_after bytes
  pub judged : JudgeGives bytes sink s

-- with the word `audit`
abbrev pub AuditGives : SourceSeen → SinkSeen → Status → Type 0
AuditGives source sink status.Done = IsJudged source sink status.Done
AuditGives source sink status.Unlawful = IsJudged source sink status.Unlawful
AuditGives source sink status.Refused = IsJudged source sink status.Refused
AuditGives source sink status.WriteFault = IsJudged source sink status.WriteFault
AuditGives source sink status.ReadFault = IsReadFault audit_limit source.left source.left_after source.faults source.faults_after × WritesNothing sink
AuditGives source sink status.Memory = TookFew audit_limit source.left source.left_after × WritesNothing sink
AuditGives source sink status.TooLong = TookTooMany audit_limit source.left source.left_after × WritesNothing sink
AuditGives source sink status.Usage = ⊥

-- a verdict holds of the bytes, and a call that told it ends so
pub record HasVerdict (bytes : List ℕ) (s : Status) : Type 0 where
  pub verdict : Verdict
  pub holds : IsVerdictOf bytes verdict
  pub ends : s ≡ status_of verdict

-- the source gives these bytes, they are within the limit, and neither end fails
pub record IsInputWhole (source : SourceSeen) (sink : SinkSeen) (bytes : List ℕ) : Type 0 where
  pub left : source.left ≡ Some bytes
  pub within : length bytes ≤ audit_limit
  pub failed : NoneFailed source sink

-- Where the source's bytes are within the limit and neither end fails, the status is that of a verdict that holds of them, and
-- of no other, or there was no memory.
pub record IsJudging (source : SourceSeen) (sink : SinkSeen) (s : Status) : Type 0 where
  pub some : (bytes : List ℕ) → IsInputWhole source sink bytes → HasVerdict bytes s ⊎ (s ≡ status.Memory)
  pub only : (bytes : List ℕ) (verdict : Verdict) → IsInputWhole source sink bytes → IsVerdictOf bytes verdict → (s ≡ status_of verdict) ⊎ (s ≡ status.Memory)

-- bytes are one script and one report
abbrev pub IsOneSplit : Type 0
IsOneSplit = (bytes script report other another : List ℕ) → IsSplit bytes script report → IsSplit bytes other another → (script ≡ other) × (report ≡ another)
