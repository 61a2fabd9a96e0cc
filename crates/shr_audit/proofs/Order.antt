-- SPDX-License-Identifier: GPL-2.0-only
-- The laws are asked in the order of their numbers.
use Rattle.shr_audit.proofs.Common.{◌≡◌, ◌⊎◌, inl, inr, ℕ, ◌<◌, ◌≤◌, refl, sym, ap, subst, ◌∙◌, arith, cases_order, Script, Report, IsLawful, Law, law_number, Holds, IsFirstBroken, ◌+◌, ◌-◌, Bool, true, false, get_or, add_comm}
use Rattle.std.specs.Bool.{Decides}
use Rattle.std.proofs.lemmas.List.{get_or-map}
use Rattle.std.proofs.lemmas.List.FromFn.{get_or-range_with_len}
use Rattle.std.specs.Prelude.{Result, IfOk}
use Rattle.shr_base.specs.declared.memory.Memory.{Memory}
use Rattle.shr_audit.specs.declared.verdict.TheConstants.{LAWS}
use Rattle.shr_audit.specs.declared.verdict.Law.TheVariants as laws

-- the law at a place of the order, from 0
abbrev pub law_at : ℕ → Law
law_at k = get_or LAWS k laws.Replies

-- each law is at the place before its number
again : (law : Law) → law_at (law_number law - 1) ≡ law
again laws.Replies = refl
again laws.Journals = refl
again laws.Bag = refl
again laws.Walks = refl
again laws.Lookups = refl
again laws.Charges = refl
again laws.Deferred = refl
again laws.Bits = refl
again laws.Causes = refl
again laws.Pools = refl
again laws.Isolations = refl
again laws.Sweep = refl

-- no two laws have one number
pub one_number : (a b : Law) → law_number a ≡ law_number b → a ≡ b
one_number a b e = sym (again a) ∙ ap (λ n. law_at (n - 1)) e ∙ again b

-- the numbers begin with 1
pub no_less : (law : Law) → law_number law < 1 → ⊥
no_less laws.Replies h = omega (arith, h)
no_less laws.Journals h = omega (arith, h)
no_less laws.Bag h = omega (arith, h)
no_less laws.Walks h = omega (arith, h)
no_less laws.Lookups h = omega (arith, h)
no_less laws.Charges h = omega (arith, h)
no_less laws.Deferred h = omega (arith, h)
no_less laws.Bits h = omega (arith, h)
no_less laws.Causes h = omega (arith, h)
no_less laws.Pools h = omega (arith, h)
no_less laws.Isolations h = omega (arith, h)
no_less laws.Sweep h = omega (arith, h)

-- and rise by 1
number_at : (k : ℕ) → k < 12 → law_number (law_at k) ≡ k + 1
number_at k lt =
    sym (get_or-map law_number LAWS k laws.Replies 1 lt) ∙ get_or-range_with_len 1 12 k 1 lt ∙ add_comm 1 k

-- what is decided of the law that was found is decided of the one that was asked
pub decided : (law found : Law) (s : Script) (r : Report) (b : Result Bool Memory) → law ≡ found → IfOk b (λ b. Decides b (Holds found s r)) → IfOk b (λ b. Decides b (Holds law s r))
decided law found s r b e h = subst (λ (l : Law). IfOk b (λ b. Decides b (Holds l s r))) (sym e) h

-- each law that was asked holds
abbrev pub AreHeldTo : ℕ → Script → Report → Type 0
AreHeldTo n s r = (law : Law) → law_number law ≤ n → Holds law s r

-- none was asked
pub held_none : (s : Script) (r : Report) → AreHeldTo 0 s r
held_none s r law le = absurd (no_less law (omega (arith, le)))

-- one more holds
pub held_more : (k : ℕ) (s : Script) (r : Report) → AreHeldTo k s r → Holds (law_at k) s r → AreHeldTo (k + 1) s r
held_more k s r h holds law le = by_order (cases_order (law_number law) (k + 1))
  where
    by_order : (law_number law ≡ k + 1) ⊎ ((law_number law < k + 1) ⊎ (k + 1 < law_number law)) → Holds law s r
    by_order (inl e) = subst (λ (l : Law). Holds l s r) (let same : k ≡ law_number law - 1 = omega (arith, e) in ap law_at same ∙ again law) holds
    by_order (inr (inl below)) = h law (omega (arith, below))
    by_order (inr (inr above)) = absurd (omega (arith, le, above))

-- the one that was asked last doesn't
pub first_broken : (k : ℕ) (s : Script) (r : Report) (b : Bool) → k < 12 → AreHeldTo k s r → Decides b (Holds (law_at k) s r) → b ≡ false → IsFirstBroken (law_at k) s r
first_broken k s r b lt h decides fails = record {
  before = λ other below. h other (let e = number_at k lt in omega (arith, below, e));
  broken = λ holds. clash b (decides.1 holds) fails;
}
  where
    clash : (b : Bool) → b ≡ true → b ≡ false → ⊥
    clash b e f = cc

-- all were asked
pub all_held : (s : Script) (r : Report) → AreHeldTo 12 s r → IsLawful s r
all_held s r h = record {
  replies = (h laws.Replies (omega arith)).0;
  journals = h laws.Journals (omega arith);
  bag = h laws.Bag (omega arith);
  walks = h laws.Walks (omega arith);
  lookups = h laws.Lookups (omega arith);
  charges = h laws.Charges (omega arith);
  deferred = h laws.Deferred (omega arith);
  bits = h laws.Bits (omega arith);
  causes = h laws.Causes (omega arith);
  pools = h laws.Pools (omega arith);
  isolations = h laws.Isolations (omega arith);
  sweep = h laws.Sweep (omega arith);
}
