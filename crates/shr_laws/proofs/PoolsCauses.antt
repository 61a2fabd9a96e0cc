-- SPDX-License-Identifier: GPL-2.0-only
-- The answers of commands on pools, and what a pool's worn journal asks: the report of two pools has what the
-- law on replies asks, and changes of it break a sentence of that law or of the law on causes.
use Rattle.shr_laws.proofs.Common.{◌≡◌, ℕ, zero, suc, ◌^◌, false, replicate, List, [], ◌∷◌, length, codes, Some, refl, arith, ap, PlainEntry, Place, Answered, Balance, Release, PlainTry, Empty, Ran, Report, parents_of, journals_of, serial_of, cited_at, at, AreCausesLawful, AreRepliesLawful, IsReply, id_found, IsPoolSpent, free_at}
use Rattle.shr_base.specs.declared.journals.PlainEntry.TheVariants as units
use Rattle.shr_base.specs.declared.replies.Reply.TheVariants as reply
use Rattle.shr_base.specs.declared.replies.Spent.TheVariants as spent
use Rattle.shr_base.specs.declared.walks.Ending.TheVariants as ending
use Rattle.shr_laws.proofs.SecondReport.{kept, by, held, unheld}
use Rattle.shr_laws.proofs.SmallReports.{each_answer, each_serial, each_worker}
use Rattle.shr_laws.proofs.PoolsReport.{buf, script, place, answers, pass, walk, end, part, report}
use Rattle.shr_laws.proofs.QuietSweep.{quiet_counts, quiet_last}

replies : AreRepliesLawful script report
replies = record {
  version = refl;
  nodes = refl;
  ids = refl;
  paths = refl;
  names = refl;
  pools = refl;
  counts = quiet_counts script report refl (each_worker _ refl (λ worker. refl));
  last = quiet_last script report (each_worker _ refl (λ worker. refl));
  answered = each_answer script report (λ worker. refl) (λ x c a. IsReply (parents_of script) (journals_of report) x c (id_found a) a.reply) (tt, (tt, (tt, (tt, (tt, tt)))));
  cited = λ p n e at. absurd (cc);
  -- (no reply cites an entry of a list)
  rise = λ worker k later p n m before e f. absurd (each_serial 5 (λ worker k. cited_at report (serial_of worker k) ≡ Some (at p n) → ⊥) ((λ e. cc), ((λ e. cc), ((λ e. cc), ((λ e. cc), ((λ e. cc), tt))))) (λ k e. cc) (λ worker k e. cc) worker k e);
}

abbrev with_answers : List Answered → Report
with_answers answers = record report { workers = kept (record part { answers = kept answers } ∷ []) }

-- the name of a pool is lacking
no_pool_name : AreRepliesLawful script (record report { pools = kept (codes "buf" ∷ []) }) → ⊥
no_pool_name h = absurd (let e : codes "buf" ∷ [] ≡ codes "buf" ∷ codes "few" ∷ [] = h.pools in cc)

-- a release is answered as a grab, with a cache that was found, and as worn by charges; a balance is answered as a release
abbrev behind : Answered → List Answered
behind a = a ∷ unheld (reply.Grabbed 0 0 1) ∷ unheld (reply.Full 0 0 2 9) ∷ unheld (reply.Walked 0) ∷ unheld (reply.Bare 0 0 3) ∷ []

released_as_grabbed : AreRepliesLawful script (with_answers (behind (unheld (reply.Grabbed 0 0 0)))) → ⊥
released_as_grabbed h = h.answered (by 0) (Release 1 0 10) _ refl refl

released_with_cache : AreRepliesLawful script (with_answers (behind (held (reply.Released 0 0 0) 0))) → ⊥
released_with_cache h = h.answered (by 0) (Release 1 0 10) _ refl refl

released_by_charges : AreRepliesLawful script (with_answers (behind (unheld (reply.Worn (spent.Charges 1048576 0))))) → ⊥
released_by_charges h = h.answered (by 0) (Release 1 0 10) _ refl refl

balance_released : AreRepliesLawful script (with_answers (unheld (reply.Released 0 0 0) ∷ unheld (reply.Grabbed 0 0 1) ∷ unheld (reply.Full 0 0 2 9) ∷ unheld (reply.Released 0 0 2) ∷ [])) → ⊥
balance_released h = h.answered (by 3) (Balance 1 0 false) _ refl refl

-- ---- a journal that is used up

-- the report with this many entries in the flat pool's journal
abbrev with_entries : ℕ → Report
with_entries n = record report { units = kept (record end { entries = kept (replicate n (units.Grab (by 1) false)) } ∷ []) }

many : (n : ℕ) (e : PlainEntry) → length (replicate n e) ≡ n
many zero e = refl
many (suc n) e = ap suc (many n e)

-- so many entries use it up
used_up : (n : ℕ) → n ≡ 2 ^ 31 → IsPoolSpent (with_entries n) place (spent.List place n (free_at (with_entries n) place n))
used_up n full = (refl, full, many n (units.Grab (by 1) false), refl)

-- four don't; another pool's don't; lookups are none of its counters
worn_early : IsPoolSpent report place (spent.List place 4 0) → ⊥
worn_early h = let e = h.1 in absurd (omega (arith, e))

other_pool : (n : ℕ) → IsPoolSpent (with_entries n) place (spent.List (record place { id = 1 }) n 0) → ⊥
other_pool n h = let e : 1 ≡ 0 = ap (λ (p : Place). p.id) h.0 in absurd (omega (arith, e))

shorter : (n : ℕ) → IsPoolSpent (with_entries n) place (spent.List place (suc n) 0) → ⊥
shorter n h = let e = h.2 in let l = many n (units.Grab (by 1) false) in absurd (omega (arith, e, l))

-- a release is worn long before its pool's journal is full, or by lookups; so is a pass of a pool
release_worn : AreCausesLawful script (with_answers (unheld (reply.Worn (spent.List place 4 0)) ∷ [])) → ⊥
release_worn h = let e : 4 ≡ 2 ^ 31 = (h.rows (by 0) (Release 1 0 10) _ refl refl).1 in absurd (omega (arith, e))

release_by_lookups : AreCausesLawful script (with_answers (unheld (reply.Worn (spent.Lookups 0 4294967295)) ∷ [])) → ⊥
release_by_lookups h = h.rows (by 0) (Release 1 0 10) _ refl refl

abbrev with_tries : List PlainTry → Report
with_tries tries = record report { workers = kept (record part { plain = kept (record walk { tries = kept tries } ∷ []) } ∷ []) }

pass_worn : AreCausesLawful script (with_tries (Ran (record pass { ending = ending.Worn (spent.List place 4 0) }) ∷ Empty 0 ∷ [])) → ⊥
pass_worn h = let e : 4 ≡ 2 ^ 31 = (h.plain 0 0 _ refl 0 buf _ refl refl _ refl _ refl).1 in absurd (omega (arith, e))
