-- SPDX-License-Identifier: GPL-2.0-only
-- Replies: each command has its answer, and so has a sweep, and each entry of a tenant its reply.
use Rattle.std.specs.Prelude.{◌≡◌, ℕ, ◌+◌, ◌<◌, ◌∷◌, length, map, codes, Some}
use Rattle.shr_base.specs.declared.places.Serial.{Serial}
use Rattle.shr_base.specs.declared.places.Place.{Place}
use Rattle.shr_base.specs.declared.replies.Answered.{Answered}
use Rattle.shr_base.specs.declared.scripts.Command.{Command}
use Rattle.shr_base.specs.declared.scripts.Script.{Script}
use Rattle.shr_model.specs.Tenants.{by_of}
use Rattle.shr_laws.specs.declared.report.Report.{Report}
use Rattle.shr_laws.specs.Parts.{parents_of, commands_of, sweeps_of, answers_of, answer_at, journals_of, cited_at, id_found, serial_of, at, EachAnswer, EachEntry}
use Rattle.shr_laws.specs.ReplyTable.{IsReply}
use Rattle.shr_laws.specs.Swept.{sweep_serial, IsSweepReply}

-- The report has the script's version, sizes, paths and names, and its answers are those of the script's
-- commands, each of which meets this test.
pub record AreReplies (IsAnswer : Serial → Command → Answered → Type 0) (s : Script) (r : Report) : Type 0 where
  pub version : r.version ≡ s.version
  pub nodes : r.nodes ≡ s.nodes
  pub ids : r.ids ≡ s.ids
  pub paths : r.groups.items ≡ codes "/" ∷ map (λ g. g.path) s.groups.items
  pub names : r.caches.items ≡ map (λ c. c.name) s.caches.items
  pub pools : r.pools.items ≡ map (λ p. p.name) s.pools.items
  -- each worker has one answer per command, in order, and behind them one to the sweep of a script that has one
  pub counts : (worker : ℕ) → length (answers_of r worker) ≡ length (commands_of s worker) + sweeps_of s worker
  pub last : (worker : ℕ) (a : Answered) → answer_at r (sweep_serial s worker) ≡ Some a → IsSweepReply a.reply
  pub answered : EachAnswer s r IsAnswer
  -- each Add, Look, Drop and Pin entry is cited by the reply to its command
  pub cited : EachEntry r (λ place n e. (by : Serial) → by_of e ≡ Some by → cited_at r by ≡ Some (at place n))
  -- along one worker's replies the entries cited at one place rise
  pub rise : (worker k later : ℕ) (place : Place) (n m : ℕ) → k < later → cited_at r (serial_of worker k) ≡ Some (at place n)
      → cited_at r (serial_of worker later) ≡ Some (at place m) → n < m

-- Each answer is one that its command may have, stands with a found cache if and only if the lookup
-- was held, and cites an entry of its kind at the id that was found.
abbrev pub AreRepliesLawful : Script → Report → Type 0
AreRepliesLawful s r = AreReplies (λ by c a. IsReply (parents_of s) (journals_of r) by c (id_found a) a.reply) s r
