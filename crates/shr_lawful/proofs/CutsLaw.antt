-- SPDX-License-Identifier: GPL-2.0-only
-- A walk that memory cut short ended its command, of a run.
use Rattle.shr_lawful.proofs.Common.{◌≡◌, false, List, ap, sym, subst, ◌∙◌, AllPairs, list_any, Answered, Script, WalkRecord, is_cut, Report, IsWant, Step, IsRun, AreCutsTold}
use Rattle.shr_lawful.proofs.Gathering.{stepped}
use Rattle.shr_lawful.proofs.WalksLaw.{walks_are, jobs_did}

module _ (s : Script) (r : Report) (workers : List (List Step)) (run : IsRun s r workers) where
  pub cuts_told : AreCutsTold s r
  cuts_told = record {
    last = λ by c a command answer. let t = stepped s r workers run by c a command answer in
        subst (AllPairs (λ (v w : WalkRecord). is_cut v.answer ≡ false)) (sym (walks_are s r workers run by.worker by.command t.step t.at)) (jobs_did s r workers run by c a t).cut;
    told = λ by c a command answer cut. let t = stepped s r workers run by c a command answer in
        subst (λ (z : Answered). IsWant z.reply) t.answered ((jobs_did s r workers run by c a t).cut_told (ap (λ (ws : List WalkRecord). list_any (λ (w : WalkRecord). is_cut w.answer) ws) (sym (walks_are s r workers run by.worker by.command t.step t.at)) ∙ cut));
  }
