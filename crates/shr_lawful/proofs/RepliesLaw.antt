-- SPDX-License-Identifier: GPL-2.0-only
-- The law of replies, of a run.
use Rattle.shr_lawful.proofs.Common.{◌≡◌, ℕ, ◌<◌, List, sym, ap, subst, ◌∙◌, arith, slice_get, Some, Option, same_Some, none-some, Place, Serial, Answered, Command, Entry, Add, Look, Drop, Pin, Script, place_number, by_of, Made, back, Report, parents_of, journals_of, serial_of, cited_at, cited_by, id_found, at, IsReply, Step, IsAmong, IsTenantEntry, MayMakeEntry, IsMadeAsCited, IsReplyTo, IsRun}
use Rattle.shr_laws.specs.Replies.{AreRepliesLawful}
use Rattle.shr_lawful.proofs.Gathering.{each_among, among_right, among_begins, work_of, grows, made_stands, maker, Stepped, stepped, cited_is, replies}
use Rattle.shr_lawful.proofs.SweepSteps.{last_answer}

-- a tenant's entry is told
pub told_of : (s : Script) (x : Step) (m : Made) (e : Entry) (by : Serial) → by_of e ≡ Some by → MayMakeEntry s x m e → IsTenantEntry x m by
told_of s x m (Add b birth added key value) by h may = subst (λ (y : Serial). IsTenantEntry x m y) (same_Some b by h) may
told_of s x m (Look b birth key hit) by h may = subst (λ (y : Serial). IsTenantEntry x m y) (same_Some b by h) may
told_of s x m (Drop b birth key kind) by h may = subst (λ (y : Serial). IsTenantEntry x m y) (same_Some b by h) may
told_of s x m (Pin b birth key pinned hit) by h may = subst (λ (y : Serial). IsTenantEntry x m y) (same_Some b by h) may
told_of s x m e by h may = absurd (none-some by h)

module _ (s : Script) (r : Report) (workers : List (List Step)) (run : IsRun s r workers) where
  answered : (by : Serial) (c : Command) (a : Answered) → Stepped s r workers run by c a → IsReply (parents_of s) (journals_of r) by c (id_found a) a.reply
  answered by c a t = subst (λ (b : Serial). IsReply (parents_of s) (journals_of r) b c (id_found a) a.reply) t.own
      (subst (λ (d : Option Command). IsReplyTo (parents_of s) (journals_of r) t.step.by d (id_found a) a.reply) t.command
      (subst (λ (y : Answered). IsReplyTo (parents_of s) (journals_of r) t.step.by t.step.command (id_found y) y.reply) t.answered
      (t.did.entries.reply (journals_of r) (λ j m e. (made_stands s r workers run by.worker by.command t.step t.at j m e).1))))

  -- each tenant's entry is cited by the reply to its command
  pub cited : (place : Place) (n : ℕ) (e : Entry) → slice_get (journals_of r place) n ≡ Some e → (by : Serial) → by_of e ≡ Some by → cited_at r by ≡ Some (at place n)
  cited place n e stands by tenant =
      let m = maker s r workers run place n e stands in
      let is = run.steps.each m.worker m.k m.step m.at in
      let told = told_of s m.step m.made m.made.entry by (ap by_of m.entry ∙ tenant) (each_among (λ (z : Made). MayMakeEntry s m.step z z.entry) m.step.work.core.made m.made is.did.entries.each m.among) in
      ap (cited_at r) (told.own ∙ is.by) ∙ (cited_is s r workers run m.worker m.k m.step m.at ∙ (told.cited ∙ ap Some (λ i. at (m.place_is i) (m.number i))))

  -- along one worker's replies the entries cited at one place rise
  rise : (worker k later : ℕ) (place : Place) (n m : ℕ) → k < later → cited_at r (serial_of worker k) ≡ Some (at place n) → cited_at r (serial_of worker later) ≡ Some (at place m) → n < m
  rise worker k later place n m lt first second =
      let a = replies s r workers run cited_by worker k (at place n) first in
      let b = replies s r workers run cited_by worker later (at place m) second in
      let c : IsMadeAsCited s a.step (at place n) = (run.steps.each worker k a.step a.at).did.entries.cited (at place n) a.reply in
      let d : IsMadeAsCited s b.step (at place m) = (run.steps.each worker later b.step b.at).did.entries.cited (at place m) b.reply in
      let same : c.made.place ≡ d.made.place = sym (back c.made.place) ∙ (ap place_number (c.place ∙ sym d.place) ∙ back d.made.place) in
      let done : IsAmong c.made a.step.after.core.traces.made = subst (λ l. IsAmong c.made l) (sym (work_of s r workers run worker k a.step a.at).core.made) (among_right a.step.before.core.traces.made a.step.work.core.made c.made c.among) in
      let before : IsAmong c.made b.step.before.core.traces.made = among_begins a.step.after.core.traces.made b.step.before.core.traces.made c.made (grows s r workers run worker k later a.step b.step lt a.at b.at).made done in
      omega (arith, c.number, d.number, d.later before.0 c.made before.1 same)

  pub replies_lawful : AreRepliesLawful s r
  replies_lawful = record {
    version = run.version;
    nodes = run.nodes;
    ids = run.ids;
    paths = run.paths;
    names = run.names;
    pools = run.pools;
    counts = λ worker. run.steps.answers worker ∙ run.steps.commands worker;
    last = last_answer s r workers run.steps;
    answered = λ by c a command answer. answered by c a (stepped s r workers run by c a command answer);
    cited = cited;
    rise = rise;
  }
