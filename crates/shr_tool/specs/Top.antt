-- SPDX-License-Identifier: GPL-2.0-only
-- What each status says, and its cause.
use Rattle.std.specs.Prelude.{◌≡◌, ℕ, ◌≤◌, ◌⊎◌, List, ◌++◌, codes, length, decimal, Option, Some}
use Rattle.std.specs.Io.KnownBytes.{Appends}
use Rattle.shr_outside.specs.Outside.{Rose}
use Rattle.shr_base.specs.declared.scripts.Script.{Script}
use Rattle.shr_base.specs.declared.scripts.Code.{Code}
use Rattle.shr_base.specs.declared.scripts.Code.TheVariants.{BadHeader, UnknownWord, BadNumber, BadText, BadPath, NoParent, Exists, UnknownGroup, UnknownCache, NoWorker, TooMany, Missing, Trailing, NoEnd}
use Rattle.shr_script.specs.Content.{Content, content_of, IsValid, spell}
use Rattle.shr_script.specs.Faults.{IsFault}
use Rattle.shr_laws.specs.declared.report.Report.{Report}
use Rattle.shr_laws.specs.Text.{text}
use Rattle.shr_laws.specs.Lawful.{IsLawful}
use Rattle.shr_laws.specs.Numbers.{HasNumbers}
use Rattle.shr_laws.specs.WellFormed.{IsWellFormed}
use Rattle.shr_tool.specs.Done.{ReadAll, script_limit, SourceSeen, SinkSeen, IsDone}
use Rattle.shr_tool.specs.Reading.{TookFew, TookTooMany, IsReadFault}
use Rattle.shr_outside.specs.Writing.{WrotePart}
use Rattle.shr_tool.specs.declared.status.Status.{Status}
use Rattle.shr_tool.specs.declared.status.Status.TheVariants.{Done, Usage, ReadFault, WriteFault, Refused, Memory, TooLong, Unlawful}

-- of a source before and after, by what it tells to be left and how it counts its faults
abbrev pub source_seen : {S : Type 0} → (S → Option (List ℕ)) → (S → ℕ) → S → S → SourceSeen
source_seen left faults old new = record { left = left old; left_after = left new; faults = faults old; faults_after = faults new }

-- of a sink before and after, by what it tells to be written and how it counts its faults
abbrev pub sink_seen : {K : Type 0} → (K → Option (List ℕ)) → (K → ℕ) → K → K → SinkSeen
sink_seen written faults old new = record { written = written old; written_after = written new; faults = faults old; faults_after = faults new }

-- the name of a code
abbrev pub code_name : Code → List ℕ
code_name BadHeader = codes "BadHeader"
code_name UnknownWord = codes "UnknownWord"
code_name BadNumber = codes "BadNumber"
code_name BadText = codes "BadText"
code_name BadPath = codes "BadPath"
code_name NoParent = codes "NoParent"
code_name Exists = codes "Exists"
code_name UnknownGroup = codes "UnknownGroup"
code_name UnknownCache = codes "UnknownCache"
code_name NoWorker = codes "NoWorker"
code_name TooMany = codes "TooMany"
code_name Missing = codes "Missing"
code_name Trailing = codes "Trailing"
code_name NoEnd = codes "NoEnd"

-- the text of a refusal
abbrev pub refusal : ℕ → Code → List ℕ
refusal line code = codes "refused " ++ decimal line ++ codes " " ++ code_name code ++ codes "\n"

-- The text that bytes are answered by: a lawful and well formed report of the valid script that
-- they spell, or the refusal of the first bad line.
pub data IsTextOf : List ℕ → List ℕ → Type 0 where
  report_text : (s : Script) (r : Report) → IsValid (content_of s) → IsLawful s r → IsWellFormed r → HasNumbers r → IsTextOf (spell (content_of s)) (text r)
  refusal_text : (bytes : List ℕ) (line : ℕ) (code : Code) → IsFault bytes line code → IsTextOf bytes (refusal line code)

-- the source was read to its end, its bytes are refused at this line, and the refusal was written
pub record IsRefused (source : SourceSeen) (sink : SinkSeen) : Type 0 where
  pub bytes : List ℕ
  pub line : ℕ
  pub code : Code
  pub read : ReadAll script_limit source.left source.left_after bytes
  pub refused : IsFault bytes line code
  pub written : Appends sink.written sink.written_after (refusal line code)

-- the sink failed in this call, and what was written is a prefix of the text
pub record IsWriteFault (source : SourceSeen) (sink : SinkSeen) : Type 0 where
  pub rose : Rose sink.faults sink.faults_after
  pub bytes : List ℕ
  pub answer : List ℕ
  pub read : ReadAll script_limit source.left source.left_after bytes
  pub text_of : IsTextOf bytes answer
  pub part : WrotePart sink.written sink.written_after answer

-- nothing was written, and the sink didn't fail
pub record WritesNothing (sink : SinkSeen) : Type 0 where
  pub kept : sink.written_after ≡ sink.written
  pub faults : sink.faults_after ≡ sink.faults

-- nothing was read, and the source didn't fail
pub record ReadsNothing (source : SourceSeen) : Type 0 where
  pub kept : source.left_after ≡ source.left
  pub faults : source.faults_after ≡ source.faults

-- a refusal is answered so
abbrev pub RefusalGives : ℕ → Code → SinkSeen → Status → Type 0
RefusalGives line code sink Refused = Appends sink.written sink.written_after (refusal line code)
RefusalGives line code sink WriteFault = Rose sink.faults sink.faults_after × WrotePart sink.written sink.written_after (refusal line code)
RefusalGives line code sink Memory = WritesNothing sink
RefusalGives line code sink status = ⊥

-- with the word `run`
abbrev pub RunGives : SourceSeen → SinkSeen → Status → Type 0
RunGives source sink Done = IsDone source sink
RunGives source sink Usage = ⊥
RunGives source sink ReadFault = IsReadFault script_limit source.left source.left_after source.faults source.faults_after × WritesNothing sink
RunGives source sink WriteFault = IsWriteFault source sink
RunGives source sink Refused = IsRefused source sink
RunGives source sink Memory = TookFew script_limit source.left source.left_after × WritesNothing sink
RunGives source sink TooLong = TookTooMany script_limit source.left source.left_after × WritesNothing sink
RunGives source sink Unlawful = ⊥

-- Bytes that were read to the end of a source are answered so, whichever source it was.
abbrev pub AnswerGives : List ℕ → SinkSeen → Status → Type 0
AnswerGives bytes sink Memory = WritesNothing sink
AnswerGives bytes sink status = (source : SourceSeen) → ReadAll script_limit source.left source.left_after bytes → RunGives source sink status

-- with words of no form
pub record UsageGives (source : SourceSeen) (sink : SinkSeen) (status : Status) : Type 0 where
  pub usage : status ≡ Usage
  pub read : ReadsNothing source
  pub written : WritesNothing sink

-- neither end failed in this call
pub record NoneFailed (source : SourceSeen) (sink : SinkSeen) : Type 0 where
  pub source_whole : Rose source.faults source.faults_after → ⊥
  pub sink_whole : Rose sink.faults sink.faults_after → ⊥

-- Where the source's bytes spell a valid script, are within the limit and neither end fails, the
-- job is done or there was no memory.
abbrev pub IsComplete : SourceSeen → SinkSeen → Status → Type 0
IsComplete source sink status =
    (t : Content) → IsValid t → source.left ≡ Some (spell t) → length (spell t) ≤ script_limit → NoneFailed source sink → (status ≡ Done) ⊎ (status ≡ Memory)

-- Where the source's bytes are refused, are within the limit and neither end fails, they are
-- refused or there was no memory.
abbrev pub IsRefusing : SourceSeen → SinkSeen → Status → Type 0
IsRefusing source sink status =
    (bytes : List ℕ) (line : ℕ) (code : Code) → IsFault bytes line code → source.left ≡ Some bytes → length bytes ≤ script_limit → NoneFailed source sink → (status ≡ Refused) ⊎ (status ≡ Memory)
