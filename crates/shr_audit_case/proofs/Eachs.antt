-- SPDX-License-Identifier: GPL-2.0-only
-- What is said of each answer, walk, place and entry, against loops over what is printed.
use Rattle.shr_audit_case.proofs.Common.{◌≡◌, ℕ, Bool, List, [], Option, Some, None, refl, sym, ap, subst, ◌∙◌, inl, inr, arith, slice_get, Decides, slice_get_within, Place, Entry, WorkerPart, journal_of, IsFirst, AnswersInParts, EachFirst, InParts, answers_in, serial_of, walks_in, journals_of, EachAnswer, EachEntry, EachWalk}
use Rattle.shr_base.specs.declared.places.Serial.{Serial}
use Rattle.shr_base.specs.declared.replies.Answered.{Answered}
use Rattle.shr_base.specs.Walks.{WalkRecord}
use Rattle.shr_base.specs.declared.scripts.Command.{Command}
use Rattle.shr_base.specs.declared.scripts.Script.{Script}
use Rattle.shr_laws.specs.declared.report.Report.{Report}
use Rattle.shr_audit_case.proofs.Firsts.{first_found, found_or_none}

-- what is so of the same things is decided alike
pub decides_iff : (b : Bool) (P Q : Type 0) → (P → Q) → (Q → P) → Decides b P → Decides b Q
decides_iff b P Q to from d = (λ t. to (d.0 t), λ q. d.1 (from q))

-- ---- walks

of_walks : (x : Option WorkerPart) (n : ℕ) (w : WalkRecord) (Q : Type 0) → ((part : WorkerPart) → x ≡ Some part → slice_get part.walks.items n ≡ Some w → Q) → slice_get (walks_in x) n ≡ Some w → Q
of_walks None n w Q f e = let lt = slice_get_within [] n w e in absurd (omega (arith, lt))
of_walks (Some part) n w Q f e = f part refl e

pub each_walk_of : (r : Report) (P : ℕ → ℕ → WalkRecord → Type 0) (b : Bool) → Decides b (InParts (λ (part : WorkerPart). part.walks.items) r P) → Decides b (EachWalk r P)
each_walk_of r P b d = decides_iff b (InParts (λ (part : WorkerPart). part.walks.items) r P) (EachWalk r P)
    (λ all worker n w e. of_walks (slice_get r.workers.items worker) n w (P worker n w) (λ part is at. all worker part is n w at) e)
    (λ all worker part is n w at. all worker n w (ap (λ (x : Option WorkerPart). slice_get (walks_in x) n) is ∙ at)) d

-- ---- answers

of_answers : (x : Option WorkerPart) (n : ℕ) (a : Answered) (Q : Type 0) → ((part : WorkerPart) → x ≡ Some part → slice_get part.answers.items n ≡ Some a → Q) → slice_get (answers_in x) n ≡ Some a → Q
of_answers None n a Q f e = let lt = slice_get_within [] n a e in absurd (omega (arith, lt))
of_answers (Some part) n a Q f e = f part refl e

pub each_answer_of : (s : Script) (r : Report) (P : Serial → Command → Answered → Type 0) (b : Bool) → Decides b (AnswersInParts s r P) → Decides b (EachAnswer s r P)
each_answer_of s r P b d = decides_iff b (AnswersInParts s r P) (EachAnswer s r P)
    (λ all by c a here e. of_answers (slice_get r.workers.items by.worker) by.command a (P by c a) (λ part is at. all by.worker part is by.command a at c here) e)
    (λ all worker part is n a at c here. all (serial_of worker n) c a here (ap (λ (x : Option WorkerPart). slice_get (answers_in x) n) is ∙ at)) d

-- ---- places and their entries

-- what is so of a place with the journal [] is so of each place, if it is of each that is printed first
pub each_place_of : (r : Report) (Q : Place → List Entry → Type 0) → ((place : Place) → Q place []) → (b : Bool) → Decides b (EachFirst r.places.items (λ end. Q end.place end.entries.items)) → Decides b ((place : Place) → Q place (journals_of r place))
each_place_of r Q none b d = decides_iff b (EachFirst r.places.items (λ end. Q end.place end.entries.items)) ((place : Place) → Q place (journals_of r place)) to from d
  where
    to : EachFirst r.places.items (λ end. Q end.place end.entries.items) → (place : Place) → Q place (journals_of r place)
    to all place = elim (found_or_none r.places.items place) [
      | inl away ↦ subst (Q place) (sym (ap journal_of away)) (none place)
      | inr at ↦
          let end = at.1.0 in
          let f = at.1.1 in
          subst (Q place) (sym (ap journal_of f.found)) (subst (λ (p : Place). Q p end.entries.items) f.same
          (all at.0 end f.at (subst (IsFirst r.places.items at.0) (sym f.same) f.first)))
    ]

    from : ((place : Place) → Q place (journals_of r place)) → EachFirst r.places.items (λ end. Q end.place end.entries.items)
    from all k end at first = subst (Q end.place) (ap journal_of (first_found r.places.items end.place k end at refl first)) (all end.place)

pub each_entry_of : (r : Report) (P : Place → ℕ → Entry → Type 0) (b : Bool) → Decides b (EachFirst r.places.items (λ end. (n : ℕ) (e : Entry) → slice_get end.entries.items n ≡ Some e → P end.place n e)) → Decides b (EachEntry r P)
each_entry_of r P b d = each_place_of r (λ place entries. (n : ℕ) (e : Entry) → slice_get entries n ≡ Some e → P place n e)
    (λ place n e at. let lt = slice_get_within [] n e at in absurd (omega (arith, lt))) b d
