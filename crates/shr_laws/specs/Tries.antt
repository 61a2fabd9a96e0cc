-- SPDX-License-Identifier: GPL-2.0-only
-- The tries of a put's charge. Each goes up from the put's group to the root, or to the first group that refuses it.
use Rattle.std.specs.Prelude.{◌≡◌, ℕ, Bool, true, false, ◌==◌, cond, List, [], ◌∷◌, ◌++◌, map, filter, is_some, ⊤}
use Rattle.shr_base.specs.declared.journals.UseStep.{UseStep}
use Rattle.shr_base.specs.declared.places.Serial.{Serial}
use Rattle.shr_base.specs.declared.replies.Answered.{Answered}
use Rattle.shr_base.specs.declared.replies.Reply.{Reply}
use Rattle.shr_base.specs.declared.replies.Reply.TheVariants as reply
use Rattle.shr_base.specs.declared.replies.Spent.{Spent}
use Rattle.shr_base.specs.declared.replies.Spent.TheVariants as spent
use Rattle.shr_base.specs.declared.scripts.Command.{Command}
use Rattle.shr_base.specs.declared.scripts.Command.TheVariants.{Put}
use Rattle.shr_base.specs.declared.scripts.Script.{Script}
use Rattle.shr_model.specs.Charges.{ops_by, is_refused}
use Rattle.shr_model.specs.Commands.{jobs_of}
use Rattle.shr_model.specs.Freeings.{is_at_or_above}
use Rattle.shr_model.specs.Walks.{job_of}
use Rattle.shr_laws.specs.declared.report.Report.{Report}
use Rattle.shr_laws.specs.Parts.{parents_of, limit_of, walks_by, uses_at, EachAnswer}
use Rattle.shr_laws.specs.WalksLawful.{MayMake}

-- the groups that refused the tries of a put, in order: those of its rounds, and the one that an Over names
abbrev pub refusals_of : List ℕ → Reply → List ℕ
refusals_of rounds (reply.Over group operation usage) = rounds ++ group ∷ []
refusals_of rounds x = rounds

-- a put that found a counter used up had charged its object before, but not if it is that of charges
abbrev pub is_past_charge : Spent → Bool
is_past_charge (spent.Charges charges uncharges) = false
is_past_charge x = true

-- the last try of a put that was answered so was not refused: its charge was made, and may have been taken back
abbrev pub was_charged : Bool → Reply → Bool
was_charged found (reply.Added at) = true
was_charged found (reply.Exists at) = true
was_charged found (reply.NoCache entry) = true
was_charged found (reply.Worn x) = is_past_charge x
was_charged found reply.Memory = found
was_charged found x = false

-- whether each try that came so far up was refused in a group, in order; to a group that isn't on the path none came
abbrev pub outcomes_in : List ℕ → ℕ → List ℕ → Bool → ℕ → List Bool
outcomes_in parents own refusals charged group =
    cond (is_at_or_above parents group own) (map (λ h. h == group) (filter (λ h. is_at_or_above parents h group) refusals) ++ cond charged (false ∷ []) []) []

-- whether each up of a command in a group was refused, in order
abbrev pub refused_in : Script → Report → Serial → ℕ → List Bool
refused_in s r by group = map (is_refused (limit_of s group)) (filter (λ (o : UseStep). o.up) (ops_by by (uses_at r group)))

-- the rounds of a put are those that its tries asked for, and its ups are those of its tries
pub record AreTriesOfPut (s : Script) (r : Report) (by : Serial) (own : ℕ) (c : Command) (a : Answered) : Type 0 where
  pub rounds : List ℕ
  pub made : MayMake a.reply (jobs_of (parents_of s) s.nodes rounds c) (map job_of (walks_by r by))
  pub each : (group : ℕ) → refused_in s r by group ≡ outcomes_in (parents_of s) own (refusals_of rounds a.reply) (was_charged (is_some a.found) a.reply) group

-- only a put tries
abbrev pub AreTriesOf : Script → Report → Serial → Command → Answered → Type 0
AreTriesOf s r by (Put at key value) a = AreTriesOfPut s r by at.group (Put at key value) a
AreTriesOf s r by c a = ⊤

-- each put's charges are those of its tries
abbrev pub AreAllTries : Script → Report → Type 0
AreAllTries s r = EachAnswer s r (λ by c a. AreTriesOf s r by c a)
