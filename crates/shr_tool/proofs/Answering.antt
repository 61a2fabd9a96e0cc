-- SPDX-License-Identifier: GPL-2.0-only
-- What an input is answered, by the script or the fault that was read.
use Rattle.shr_tool.proofs.Common.{◌≡◌, ℕ, List, sym, subst, Option, Code, IsFault, SourceSeen, SinkSeen, RunGives, Status, Done, Usage, ReadFault, WriteFault, Refused, Memory, TooLong, Unlawful, refusal_text, refusal, AnswerGives, RefusalGives, TracedGives, TracedAnswer}
use Rattle.shr_tool.specs.Done.{ReadAll, script_limit}

-- bytes that are spelled so are answered as their spelling
pub answers_spelling : (bytes other : List ℕ) (sink : SinkSeen) (status : Status) → bytes ≡ other → AnswerGives other sink status → AnswerGives bytes sink status
answers_spelling bytes other sink status same h = subst (λ (b : List ℕ). AnswerGives b sink status) (sym same) h

-- and traced so
pub traced_spelling : (bytes other : List ℕ) (sink : SinkSeen) (status : Status) → bytes ≡ other → TracedAnswer other sink status → TracedAnswer bytes sink status
traced_spelling bytes other sink status same h = subst (λ (b : List ℕ). TracedAnswer b sink status) (sym same) h

-- bytes that are refused at a line are answered by its refusal
pub answers_refusal : (bytes : List ℕ) (line : ℕ) (code : Code) (sink : SinkSeen) (status : Status) → IsFault bytes line code → RefusalGives line code sink status → AnswerGives bytes sink status
answers_refusal bytes line code sink Refused refused h = λ source read. record { bytes = bytes; line = line; code = code; read = read; refused = refused; written = h }
answers_refusal bytes line code sink WriteFault refused h = λ source read. record { rose = h.0; bytes = bytes; answer = refusal line code; read = read; text_of = refusal_text bytes line code refused; part = h.1 }
answers_refusal bytes line code sink Memory refused h = h
answers_refusal bytes line code sink Done refused h = absurd h
answers_refusal bytes line code sink Usage refused h = absurd h
answers_refusal bytes line code sink ReadFault refused h = absurd h
answers_refusal bytes line code sink TooLong refused h = absurd h
answers_refusal bytes line code sink Unlawful refused h = absurd h

-- which is no report
pub traced_refusal : (bytes : List ℕ) (line : ℕ) (code : Code) (sink : SinkSeen) (status : Status) → RefusalGives line code sink status → TracedAnswer bytes sink status
traced_refusal bytes line code sink Done h = absurd h
traced_refusal bytes line code sink Refused h = tt
traced_refusal bytes line code sink WriteFault h = tt
traced_refusal bytes line code sink Memory h = tt
traced_refusal bytes line code sink Usage h = tt
traced_refusal bytes line code sink ReadFault h = tt
traced_refusal bytes line code sink TooLong h = tt
traced_refusal bytes line code sink Unlawful h = tt

-- what a source told, before and after
abbrev told_by : Option (List ℕ) → Option (List ℕ) → ℕ → ℕ → SourceSeen
told_by left left_after faults faults_after = record { left = left; left_after = left_after; faults = faults; faults_after = faults_after }

-- a source that was read to its end, and an answer to its bytes, are what a run gives
pub run_gives : (left left_after : Option (List ℕ)) (faults faults_after : ℕ) (bytes : List ℕ) (sink : SinkSeen) (status : Status) → ReadAll script_limit left left_after bytes → AnswerGives bytes sink status
    → RunGives (record { left = left; left_after = left_after; faults = faults; faults_after = faults_after }) sink status
run_gives left left_after faults faults_after bytes sink Memory read h = (record { bytes = bytes; taken = read.taken; within = read.within }, h)
run_gives left left_after faults faults_after bytes sink Done read h = h (told_by left left_after faults faults_after) read
run_gives left left_after faults faults_after bytes sink Refused read h = h (told_by left left_after faults faults_after) read
run_gives left left_after faults faults_after bytes sink WriteFault read h = h (told_by left left_after faults faults_after) read
run_gives left left_after faults faults_after bytes sink Usage read h = h (told_by left left_after faults faults_after) read
run_gives left left_after faults faults_after bytes sink ReadFault read h = h (told_by left left_after faults faults_after) read
run_gives left left_after faults faults_after bytes sink TooLong read h = h (told_by left left_after faults faults_after) read
run_gives left left_after faults faults_after bytes sink Unlawful read h = h (told_by left left_after faults faults_after) read

-- and so it is traced
pub traced_gives : (left left_after : Option (List ℕ)) (faults faults_after : ℕ) (bytes : List ℕ) (sink : SinkSeen) (status : Status) → ReadAll script_limit left left_after bytes → TracedAnswer bytes sink status
    → TracedGives (record { left = left; left_after = left_after; faults = faults; faults_after = faults_after }) sink status
traced_gives left left_after faults faults_after bytes sink Done read h = h (told_by left left_after faults faults_after) read
traced_gives left left_after faults faults_after bytes sink Refused read h = tt
traced_gives left left_after faults faults_after bytes sink WriteFault read h = tt
traced_gives left left_after faults faults_after bytes sink Memory read h = tt
traced_gives left left_after faults faults_after bytes sink Usage read h = tt
traced_gives left left_after faults faults_after bytes sink ReadFault read h = tt
traced_gives left left_after faults faults_after bytes sink TooLong read h = tt
traced_gives left left_after faults faults_after bytes sink Unlawful read h = tt
