-- SPDX-License-Identifier: GPL-2.0-only
-- Facts of each part of the second whole report, by cases.
use Rattle.shr_laws.proofs.Common.{ℕ, zero, suc, replicate, List, [], ◌∷◌, refl, AllByRecursion, Serial, Place, Entry, Answered, Command, WalkRecord, PlaceEnd, journals_of, EachAnswer, EachEntry, EachWalk}
use Rattle.shr_laws.proofs.SecondReport.{kept, by, place, commands, answers, entries, first_walk, second_walk, script, report}
use Rattle.shr_laws.proofs.SmallReports.{AllTwo}
use Rattle.shr_laws.proofs.SmallReports as small
use Rattle.shr_model.proofs.Lists.{each_at, AllAt}

-- what holds of each command with its answer holds of all of the report
pub each_answer : (P : Serial → Command → Answered → Type 0) → AllTwo (λ k. P (by k)) commands answers → EachAnswer script report P
each_answer P h = small.each_answer script report (λ worker. refl) P h

-- what holds of both walks holds of each walk of the report
pub each_walk : (P : ℕ → ℕ → WalkRecord → Type 0) → P 0 0 first_walk → P 0 1 second_walk → EachWalk report P
each_walk P first second zero n w e = each_at (P 0) (first_walk ∷ second_walk ∷ []) (first, (second, tt)) n w e
each_walk P first second (suc worker) n w e = absurd (cc)

abbrev end : PlaceEnd
end = record { place = place; entries = kept entries; items = kept [] }

-- what holds of the empty journal and of the one list's holds of each place's
pub each_journal : (P : Place → List Entry → Type 0) → ((p : Place) → P p []) → P place entries → (p : Place) → P p (journals_of report p)
each_journal P none here = small.each_journal report end refl P none here

-- what holds of each entry of the one list holds of each entry of the report
pub each_entry : (P : Place → ℕ → Entry → Type 0) → AllAt (P place) entries → EachEntry report P
each_entry P h = small.each_entry report end refl P h

pub all_replicate : {X : Type 0} (P : X → Type 0) (x : X) → P x → (n : ℕ) → AllByRecursion P (replicate n x)
all_replicate P x h zero = tt
all_replicate P x h (suc n) = (h, all_replicate P x h n)
