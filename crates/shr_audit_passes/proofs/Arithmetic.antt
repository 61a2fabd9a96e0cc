-- SPDX-License-Identifier: GPL-2.0-only
-- The arithmetic of a pass, by the number and the size of the asks that were due.
use Rattle.shr_audit_passes.proofs.Common.{◌≡◌, ℕ, ◌*◌, ◌/◌, ◌<◌, ◌≤◌, Bool, true, false, take, refl, sym, ap, ◌∙◌, arith, nat_le, replicate, Decides, common_steps, nat_tests, PassRecord, due, ask_size, batch_of, total_of, next_of, MadeOf, ◌^◌, min, sum, length-replicate, due_asks, delta_of, FollowsArithmetic}
use Rattle.std.proofs.Math.Nat.{pow-le-pow_right, div-eq_of_lt}
use Rattle.shr_model.proofs.PassLaws.{asks_sum}

-- halved more often than it has bits, nothing is left of a number
pub halved_away : (x times : ℕ) → x < 2 ^ 64 → 64 ≤ times → 0 ≡ x / 2 ^ times
halved_away x times small many =
    let large : 2 ^ 64 ≤ 2 ^ times = pow-le-pow_right (omega arith) many in
    sym (div-eq_of_lt (omega arith))

take_all : (n m x : ℕ) → m ≤ n → take n (replicate m x) ≡ replicate m x
take_all n m x few = let count = length-replicate m x in grind (arith, common_steps)

less : (n d : ℕ) → n ≤ d → n ≡ min n d
less n d h = omega arith

more : (n d : ℕ) → d ≤ n → d ≡ min n d
more n d h = omega arith

-- what so many of the due asks come to
pub asked_sum : (b F total n : ℕ) → sum (take n (due_asks b F total)) ≡ min n (due b F total) * ask_size b F total
asked_sum b F total n = by_order (nat_le n d) refl
  where
    d : ℕ
    d = due b F total

    x : ℕ
    x = ask_size b F total

    by_order : (t : Bool) → nat_le n d ≡ t → sum (take n (replicate d x)) ≡ min n d * x
    by_order true e = let le : n ≤ d = grind (arith, nat_tests) in asks_sum b F total n le ∙ ap (λ (k : ℕ). k * x) (less n d le)
    by_order false e =
        let le : d ≤ n = grind (arith, nat_tests) in
        ap sum (take_all n d x le ∙ sym (take_all d d x (omega arith))) ∙ asks_sum b F total d (omega arith) ∙ ap (λ (k : ℕ). k * x) (more n d le)

-- the number that the code computes
pub product_is : (m asks count size d x : ℕ) → m ≡ min asks count → count ≡ d → size ≡ x → m * size ≡ min asks d * x
product_is m asks count size d x e f g = ap (λ (k : ℕ). k * size) (e ∙ ap (min asks) f) ∙ ap (λ (k : ℕ). min asks d * k) g

-- a pass that scanned another number doesn't follow
pub scanned_other : (priority seeks batch : ℕ) (p : PassRecord) (number : ℕ)
    → number ≡ min p.asks (due (batch_of batch) p.len (total_of p.len p.nr priority seeks)) * ask_size (batch_of batch) p.len (total_of p.len p.nr priority seeks)
    → (p.scanned ≡ number → ⊥) → Decides false (FollowsArithmetic priority seeks batch p)
scanned_other priority seeks batch p number e other = (λ t. absurd cc, λ h. absurd (other (h.scanned ∙ asked_sum (batch_of batch) p.len (total_of p.len p.nr priority seeks) p.asks ∙ sym e)))

-- one does of which all parts are so
pub follows_if : (priority seeks batch : ℕ) (p : PassRecord) (number : ℕ) (b : Bool)
    → number ≡ min p.asks (due (batch_of batch) p.len (total_of p.len p.nr priority seeks)) * ask_size (batch_of batch) p.len (total_of p.len p.nr priority seeks)
    → MadeOf p.asks p.ending (due (batch_of batch) p.len (total_of p.len p.nr priority seeks))
    → p.scanned ≡ number
    → p.next ≡ next_of p.nr (delta_of p.len priority seeks) p.scanned p.len
    → Decides b (p.closed ≤ p.asks) → Decides b (FollowsArithmetic priority seeks batch p)
follows_if priority seeks batch p number b e made scanned next d = (
  λ t. record { made = made; scanned = scanned ∙ e ∙ sym (asked_sum (batch_of batch) p.len (total_of p.len p.nr priority seeks) p.asks); next = next; closed = d.0 t },
  λ h. d.1 h.closed,
)
