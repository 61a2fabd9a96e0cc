-- SPDX-License-Identifier: GPL-2.0-only
-- No two verdicts hold of the same bytes.
use Rattle.shr_audit.proofs.Common.{◌≡◌, ◌⊎◌, inl, inr, ℕ, ◌<◌, List, refl, ap, subst, Some, arith, ◌∙◌, slice_get, sym, cases_order, Script, content_of, IsFault, Report, IsLawful, Law, Lawful, BadScript, BadReport, IsScriptOf, law_number, Holds, IsFirstBroken, HoldsOf, Unlawful, AreTextsOf}
use Rattle.shr_base.specs.declared.ends.PlaceEnd.{PlaceEnd}
use Rattle.shr_base.specs.declared.places.Place.{Place}
use Rattle.shr_base.specs.declared.scripts.Code.{Code}
use Rattle.shr_script.proofs.ReadLaws.{faultless, same_fault}
use Rattle.shr_audit.specs.declared.verdict.Law.TheVariants as laws
use Rattle.shr_audit.specs.declared.verdict.Verdict.{Verdict}
use Rattle.shr_audit_replies.specs.Once.{IsPrintedOnce}
use Rattle.shr_audit.proofs.Order.{one_number}
use Rattle.shr_audit.proofs.OneReport.{one_report}
use Rattle.shr_audit.proofs.OneScript.{one_script}

-- where no place is printed twice, each is printed once at most
printed_once : (r : Report) → ((n m : ℕ) (x y : PlaceEnd) → slice_get r.places.items n ≡ Some x → slice_get r.places.items m ≡ Some y → x.place ≡ y.place → n ≡ m) → (place : Place) → IsPrintedOnce r.places.items place
printed_once r once place k end at same m x lt there here = let e = once m k x end there at (here ∙ sym same) in absurd (omega (arith, e, lt))

-- each law of a lawful report holds
pub each_holds : (s : Script) (r : Report) → IsLawful s r → (law : Law) → Holds law s r
each_holds s r h laws.Replies = (h.replies, λ worker k c e. printed_once r h.journals.once c.place)
each_holds s r h laws.Journals = h.journals
each_holds s r h laws.Bag = h.bag
each_holds s r h laws.Walks = h.walks
each_holds s r h laws.Lookups = h.lookups
each_holds s r h laws.Charges = h.charges
each_holds s r h laws.Deferred = h.deferred
each_holds s r h laws.Bits = h.bits
each_holds s r h laws.Causes = h.causes
each_holds s r h laws.Pools = h.pools
each_holds s r h laws.Isolations = h.isolations
each_holds s r h laws.Sweep = h.sweep

-- one law is the first that is broken
one_broken : (a b : Law) (s : Script) (r : Report) → IsFirstBroken a s r → IsFirstBroken b s r → a ≡ b
one_broken a b s r h k = by_order (cases_order (law_number a) (law_number b))
  where
    by_order : (law_number a ≡ law_number b) ⊎ ((law_number a < law_number b) ⊎ (law_number b < law_number a)) → a ≡ b
    by_order (inl e) = one_number a b e
    by_order (inr (inl lt)) = absurd (h.broken (k.before a lt))
    by_order (inr (inr lt)) = absurd (k.broken (h.before b lt))

-- what is so of one script and report of these bytes is so of another
of_same : (script report : List ℕ) (s t : Script) (r q : Report) (P : Script → Report → Type 0) → AreTextsOf script report s r → AreTextsOf script report t q → P s r → P t q
of_same script report s t r q P h k p =
    subst (λ (u : Script). P u q) (one_script script s t h.script k.script) (subst (λ (u : Report). P s u) (one_report report r q h.report k.report) p)

same_bad : (line other : ℕ) (code another : Code) → line ≡ other → code ≡ another → BadScript line code ≡ BadScript other another
same_bad line other code another e f = cc

pub no_fault : (script : List ℕ) (s : Script) (line : ℕ) (code : Code) → IsScriptOf script s → IsFault script line code → ⊥
no_fault script s line code h f = faultless script (content_of s) line code h.spelling f

-- a lawful report has no law that is broken
not_both : (script report : List ℕ) (s t : Script) (r q : Report) (law : Law) → AreTextsOf script report s r → IsLawful s r → AreTextsOf script report t q → IsFirstBroken law t q → ⊥
not_both script report s t r q law h lawful k broken = broken.broken (of_same script report s t r q (λ (x : Script) (y : Report). Holds law x y) h k (each_holds s r lawful law))

pub one_verdict : (script report : List ℕ) (v w : Verdict) → HoldsOf script report v → HoldsOf script report w → v ≡ w
one_verdict script report Lawful Lawful h k = refl
one_verdict script report Lawful (BadScript line code) h k = absurd (no_fault script h.0 line code h.1.1.0.script k)
one_verdict script report Lawful BadReport h k = absurd (k.1 h.1.0 h.1.1.0.report)
one_verdict script report Lawful (Unlawful law) h k = absurd (not_both script report h.0 k.0 h.1.0 k.1.0 law h.1.1.0 h.1.1.1 k.1.1.0 k.1.1.1)
one_verdict script report (BadScript line code) Lawful h k = absurd (no_fault script k.0 line code k.1.1.0.script h)
one_verdict script report (BadScript line code) (BadScript other another) h k = let e = same_fault script line other code another h k in same_bad line other code another e.0 e.1
one_verdict script report (BadScript line code) BadReport h k = absurd (no_fault script k.0.0 line code k.0.1 h)
one_verdict script report (BadScript line code) (Unlawful law) h k = absurd (no_fault script k.0 line code k.1.1.0.script h)
one_verdict script report BadReport Lawful h k = absurd (h.1 k.1.0 k.1.1.0.report)
one_verdict script report BadReport (BadScript line code) h k = absurd (no_fault script h.0.0 line code h.0.1 k)
one_verdict script report BadReport BadReport h k = refl
one_verdict script report BadReport (Unlawful law) h k = absurd (h.1 k.1.0 k.1.1.0.report)
one_verdict script report (Unlawful law) Lawful h k = absurd (not_both script report k.0 h.0 k.1.0 h.1.0 law k.1.1.0 k.1.1.1 h.1.1.0 h.1.1.1)
one_verdict script report (Unlawful law) (BadScript line code) h k = absurd (no_fault script h.0 line code h.1.1.0.script k)
one_verdict script report (Unlawful law) BadReport h k = absurd (k.1 h.1.0 h.1.1.0.report)
one_verdict script report (Unlawful law) (Unlawful other) h k =
    ap (λ (l : Law). Unlawful l) (one_broken law other k.0 k.1.0 (of_same script report h.0 k.0 h.1.0 k.1.0 (λ (x : Script) (y : Report). IsFirstBroken law x y) h.1.1.0 k.1.1.0 h.1.1.1) k.1.1.1)
