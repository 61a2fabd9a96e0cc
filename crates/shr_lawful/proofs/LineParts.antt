-- SPDX-License-Identifier: GPL-2.0-only
-- Where the deeds of one seat stand in a line, read both ways.
use Rattle.shr_lawful.proofs.Common.{◌≡◌, ℕ, zero, suc, ◌<◌, ◌≤◌, inl, inr, Bool, true, false, cond, take, List, [], ◌∷◌, ◌++◌, length, sym, refl, ap, subst, ◌∙◌, arith, eq-eqb, ◌==◌, eqb-true, some, some-injective, some-ne-none, get_elem?, Has, Deed, by_seat, part, among, attempts_in, Event, Tried, looked}
use Rattle.shr_model.proofs.Members.{Has_right}
use Rattle.shr_lawful.proofs.Spots.{spot_of}

-- ---- lists
pub front_of : {A : Type 0} (xs ys : List A) (n : ℕ) (d : A) → n < length xs → get_elem? (xs ++ ys) n ≡ some d → get_elem? xs n ≡ some d
front_of [] ys n d lt e = absurd (omega (arith, lt))
front_of (x ∷ xs) ys zero d lt e = e
front_of (x ∷ xs) ys (suc n) d lt e = front_of xs ys n d (omega (arith, lt)) e

pub back_of : {A : Type 0} (xs ys : List A) (n : ℕ) (d : A) → length xs ≤ n → get_elem? (xs ++ ys) n ≡ some d → (m : ℕ) × (get_elem? ys m ≡ some d)
back_of [] ys n d le e = (n, e)
back_of (x ∷ xs) ys zero d le e = absurd (omega (arith, le))
back_of (x ∷ xs) ys (suc n) d le e = back_of xs ys n d (omega (arith, le)) e

-- what stands below an element is there too
pub at_below : {A : Type 0} (xs : List A) (n q : ℕ) (d : A) → get_elem? xs q ≡ some d → n ≤ q → (e : A) × (get_elem? xs n ≡ some e)
at_below [] n q d e le = absurd (some-ne-none d (sym e))
at_below (x ∷ xs) zero q d e le = (x, refl)
at_below (x ∷ xs) (suc n) zero d e le = absurd (omega (arith, le))
at_below (x ∷ xs) (suc n) (suc q) d e le = at_below xs n q d e (omega (arith, le))

pub by_seat_at : (j : ℕ) (es : List Event) (i : ℕ) (d : Deed Event) → get_elem? (by_seat j es) i ≡ some d → (e : Event) × (get_elem? es i ≡ some e) × (e ≡ d.act)
by_seat_at j [] i d e = absurd (some-ne-none d (sym e))
by_seat_at j (x ∷ es) zero d e = (x, refl, ap (λ (y : Deed Event). y.act) (some-injective (record { seat = j; act = x }) d e))
by_seat_at j (x ∷ es) (suc i) d e = by_seat_at j es i d e

-- a deed of a seat is in the part of that seat
pub part_has : (d : Deed Event) (j : ℕ) (line : List (Deed Event)) → d.seat ≡ j → Has line d → Has (part j line) d
part_has d j [] own h = absurd h
part_has d j (y ∷ line) own (inl e) = subst (λ (b : Bool). Has (cond b (y ∷ part j line) (part j line)) d) (sym (eq-eqb y.seat j (ap (λ (z : Deed Event). z.seat) e ∙ own))) (inl e)
part_has d j (y ∷ line) own (inr h) = (elim (y.seat == j) as (λ (b : Bool). Has (part j line) d → Has (cond b (y ∷ part j line) (part j line)) d) [ true ↦ λ has. inr has | false ↦ λ has. has ]) (part_has d j line own h)

-- a lookup is among the attempts
pub attempts_has : (es : List Event) (i : ℕ) (t : Tried) → get_elem? es i ≡ some (looked t) → Has (among attempts_in es) t
attempts_has [] i t e = absurd (some-ne-none (looked t) (sym e))
attempts_has (x ∷ es) zero t e = subst (λ (y : Event). Has (attempts_in y ++ among attempts_in es) t) (sym (some-injective x (looked t) e)) (inl refl)
attempts_has (x ∷ es) (suc i) t e = Has_right (attempts_in x) (among attempts_in es) t (attempts_has es i t e)

-- ---- the deeds of a seat
pub part_seat : (j : ℕ) (line : List (Deed Event)) (p : ℕ) (d : Deed Event) → get_elem? (part j line) p ≡ some d → d.seat ≡ j
part_seat j [] p d e = absurd (some-ne-none d (sym e))
part_seat j (x ∷ xs) p d e = one (x.seat == j) refl p e (λ q h. part_seat j xs q d h) where
  one : (b : Bool) → (x.seat == j) ≡ b → (p : ℕ) → get_elem? (cond b (x ∷ part j xs) (part j xs)) p ≡ some d → ((q : ℕ) → get_elem? (part j xs) q ≡ some d → d.seat ≡ j) → d.seat ≡ j
  one true is zero h below = ap (λ (y : Deed Event). y.seat) (sym (some-injective x d h)) ∙ eqb-true x.seat j is
  one true is (suc p) h below = below p h
  one false is p h below = below p h

-- a deed of a line is one of its seat's
pub own_spot : (j : ℕ) (line : List (Deed Event)) (i : ℕ) (d : Deed Event) → get_elem? line i ≡ some d → d.seat ≡ j → (p : ℕ) × (get_elem? (part j line) p ≡ some d) × (spot_of j line p ≡ i)
own_spot j [] i d e own = absurd (some-ne-none d (sym e))
own_spot j (x ∷ xs) zero d e own =
    let is : (x.seat == j) ≡ true = eq-eqb x.seat j (ap (λ (y : Deed Event). y.seat) (some-injective x d e) ∙ own) in
    (0, ap (λ (b : Bool). get_elem? (cond b (x ∷ part j xs) (part j xs)) 0) is ∙ e, ap (λ (b : Bool). cond b 0 (suc (spot_of j xs zero))) is)
own_spot j (x ∷ xs) (suc i) d e own = let t = own_spot j xs i d e own in one (x.seat == j) refl t.0 t.1 t.2 where
  one : (b : Bool) → (x.seat == j) ≡ b → (p : ℕ) → get_elem? (part j xs) p ≡ some d → spot_of j xs p ≡ i → (q : ℕ) × (get_elem? (part j (x ∷ xs)) q ≡ some d) × (spot_of j (x ∷ xs) q ≡ suc i)
  one true is p at spot = (suc p, ap (λ (b : Bool). get_elem? (cond b (x ∷ part j xs) (part j xs)) (suc p)) is ∙ at, ap (λ (b : Bool). suc (spot_of j xs (cond b p (suc p)))) is ∙ ap suc spot)
  one false is zero at spot = (zero, ap (λ (b : Bool). get_elem? (cond b (x ∷ part j xs) (part j xs)) zero) is ∙ at, ap (λ (b : Bool). cond b 0 (suc (spot_of j xs zero))) is ∙ ap suc spot)
  one false is (suc p) at spot = (suc p, ap (λ (b : Bool). get_elem? (cond b (x ∷ part j xs) (part j xs)) (suc p)) is ∙ at, ap (λ (b : Bool). suc (spot_of j xs (cond b p (suc p)))) is ∙ ap suc spot)

-- before a deed of a seat stand just those of its deeds that come before it
pub part_before : (j : ℕ) (line : List (Deed Event)) (p : ℕ) (d : Deed Event) → get_elem? (part j line) p ≡ some d → part j (take (spot_of j line p) line) ≡ take p (part j line)
part_before j [] p d e = absurd (some-ne-none d (sym e))
part_before j (x ∷ xs) zero d e = one (x.seat == j) refl (λ h. part_before j xs zero d h) where
  one : (b : Bool) → (x.seat == j) ≡ b → (get_elem? (part j xs) zero ≡ some d → part j (take (spot_of j xs zero) xs) ≡ take zero (part j xs)) → part j (take (cond (x.seat == j) 0 (suc (spot_of j xs zero))) (x ∷ xs)) ≡ take zero (part j (x ∷ xs))
  one true is below = ap (λ (b : Bool). part j (take (cond b 0 (suc (spot_of j xs zero))) (x ∷ xs))) is
  one false is below = ap (λ (b : Bool). part j (take (cond b 0 (suc (spot_of j xs zero))) (x ∷ xs))) is
      ∙ (ap (λ (b : Bool). cond b (x ∷ part j (take (spot_of j xs zero) xs)) (part j (take (spot_of j xs zero) xs))) is
      ∙ below (sym (ap (λ (b : Bool). get_elem? (cond b (x ∷ part j xs) (part j xs)) zero) is) ∙ e))
part_before j (x ∷ xs) (suc p) d e = one (x.seat == j) refl (λ h. part_before j xs p d h) (λ h. part_before j xs (suc p) d h) where
  one : (b : Bool) → (x.seat == j) ≡ b → (get_elem? (part j xs) p ≡ some d → part j (take (spot_of j xs p) xs) ≡ take p (part j xs)) → (get_elem? (part j xs) (suc p) ≡ some d → part j (take (spot_of j xs (suc p)) xs) ≡ take (suc p) (part j xs))
      → part j (x ∷ take (spot_of j xs (cond (x.seat == j) p (suc p))) xs) ≡ take (suc p) (part j (x ∷ xs))
  one true is here below = ap (λ (b : Bool). part j (x ∷ take (spot_of j xs (cond b p (suc p))) xs)) is
      ∙ (ap (λ (b : Bool). cond b (x ∷ part j (take (spot_of j xs p) xs)) (part j (take (spot_of j xs p) xs))) is
      ∙ (ap (λ (l : List (Deed Event)). x ∷ l) (here (sym (ap (λ (b : Bool). get_elem? (cond b (x ∷ part j xs) (part j xs)) (suc p)) is) ∙ e))
      ∙ sym (ap (λ (b : Bool). take (suc p) (cond b (x ∷ part j xs) (part j xs))) is)))
  one false is here below = ap (λ (b : Bool). part j (x ∷ take (spot_of j xs (cond b p (suc p))) xs)) is
      ∙ (ap (λ (b : Bool). cond b (x ∷ part j (take (spot_of j xs (suc p)) xs)) (part j (take (spot_of j xs (suc p)) xs))) is
      ∙ (below (sym (ap (λ (b : Bool). get_elem? (cond b (x ∷ part j xs) (part j xs)) (suc p)) is) ∙ e)
      ∙ sym (ap (λ (b : Bool). take (suc p) (cond b (x ∷ part j xs) (part j xs))) is)))
