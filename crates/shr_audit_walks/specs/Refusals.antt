-- SPDX-License-Identifier: GPL-2.0-only
-- The charges that groups refused, by the commands that made them. No public clause cites this.
use Rattle.std.specs.Prelude.{ℕ, ◌+◌, ◌*◌, ◌==◌, List, map, filter, IsPermutation}
use Rattle.std.specs.List.Sorted.{IsNonDecreasingBy}
use Rattle.shr_base.specs.declared.journals.UseStep.{UseStep}
use Rattle.shr_base.specs.declared.places.Serial.{Serial}
use Rattle.shr_base.specs.declared.scripts.Script.{Script}
use Rattle.shr_model.specs.Charges.{is_refused}
use Rattle.shr_laws.specs.Parts.{limit_of}
use Rattle.shr_audit_walks.specs.declared.refusals.Refusal.{Refusal}

-- the numbers of a worker and of its command as one
abbrev pub refusal_key : Serial → ℕ
refusal_key by = 4294967296 * by.worker + by.command

-- an operation that was refused, as its command's
abbrev pub as_refusal : UseStep → Refusal
as_refusal o = record { key = refusal_key o.by; group = o.group }

-- the operations that were refused, in their order
abbrev pub refusals_in : Script → List UseStep → List Refusal
refusals_in s ops = map as_refusal (filter (λ (o : UseStep). is_refused (limit_of s o.group) o) ops)

-- they stand by their commands
abbrev pub StandByKey : List Refusal → Type 0
StandByKey refusals = IsNonDecreasingBy (λ (x : Refusal). x.key) refusals

-- they are the operations that were refused, in some order
abbrev pub AreRefusals : Script → List UseStep → List Refusal → Type 0
AreRefusals s ops refusals = IsPermutation (refusals_in s ops) refusals

-- those of a command
abbrev pub refusals_with : ℕ → List Refusal → List Refusal
refusals_with key refusals = filter (λ (x : Refusal). x.key == key) refusals

-- the groups of refused charges
abbrev pub refused_groups : List Refusal → List ℕ
refused_groups refusals = map (λ (x : Refusal). x.group) refusals
