-- SPDX-License-Identifier: GPL-2.0-only
-- A put's charges are those of its tries, of a run.
use Rattle.shr_lawful.proofs.Common.{◌≡◌, ℕ, List, map, sym, ap, subst, ◌∙◌, filter, UseStep, Serial, Answered, Command, Put, Script, WalkRecord, ops_by, is_refused, jobs_of, job_of, Report, parents_of, limit_of, uses_at, ops_at, Step, IsRun, DidJobs, AreWalksFor, AreTriesOf, AreAllTries, MayMake}
use Rattle.shr_lawful.proofs.Gathering.{Stepped, stepped}
use Rattle.shr_lawful.proofs.Listed.{ops_are}
use Rattle.shr_lawful.proofs.WalksLaw.{walks_are}

module _ (s : Script) (r : Report) (workers : List (List Step)) (run : IsRun s r workers) where
  ops : (by : Serial) (c : Command) (a : Answered) (t : Stepped s r workers run by c a) (g : ℕ) → ops_by by (uses_at r g) ≡ ops_at g t.step.work.ops
  ops by c a t g = ap (λ (b : Serial). ops_by b (uses_at r g)) (sym t.own) ∙ ops_are s r workers run by.worker by.command t.step g t.at

  of_command : (by : Serial) (c : Command) (a : Answered) (t : Stepped s r workers run by c a) → DidJobs s t.step c → AreTriesOf s r by c t.step.answered
  of_command by (Put to key value) a t d = record {
    rounds = d.rounds;
    made = subst (λ (l : List WalkRecord). MayMake t.step.answered.reply (jobs_of (parents_of s) s.nodes d.rounds (Put to key value)) (map job_of l)) (sym (walks_are s r workers run by.worker by.command t.step t.at)) d.made;
    each = λ g. ap (λ (os : List UseStep). map (is_refused (limit_of s g)) (filter (λ (o : UseStep). o.up) os)) (ops by (Put to key value) a t g) ∙ d.refused.tried g;
  }
  of_command by c a t d = tt

  pub tries : AreAllTries s r
  tries by c a command answer = let t = stepped s r workers run by c a command answer in
      subst (λ (b : Answered). AreTriesOf s r by c b) t.answered (of_command by c a t (subst (AreWalksFor s t.step) t.command t.did.walks.asked))
