-- SPDX-License-Identifier: GPL-2.0-only
-- Floors: the least number above all that was known.
use Rattle.shr_audit_fresh.proofs.Common.{◌≡◌, ℕ, ◌+◌, ◌<◌, ◌≤◌, Bool, true, false, List, [], ◌∷◌, ◌++◌, refl, sym, subst, inl, inr, arith, ◌↔◌, Decides, cases_lt, AreBelow, AreKnownBelow, FloorWith, IsFloor, IsFloorBefore, IsHigher, Reaches, AllByRecursion, all_both}

-- ---- of lists

pub all_front : (P : ℕ → Type 0) (xs ys : List ℕ) → AllByRecursion P (xs ++ ys) → AllByRecursion P xs
all_front P [] ys h = tt
all_front P (x ∷ xs) ys h = (h.0, all_front P xs ys h.1)

pub all_back : (P : ℕ → Type 0) (xs ys : List ℕ) → AllByRecursion P (xs ++ ys) → AllByRecursion P ys
all_back P [] ys h = h
all_back P (x ∷ xs) ys h = all_back P xs ys h.1

-- two ways to say that all of one list are below all of another
pub below_of : (ns ms : List ℕ) → AllByRecursion (λ m. AllByRecursion (λ n. n < m) ns) ms → AreBelow ns ms
below_of [] ms h = tt
below_of (n ∷ ns) ms h = (heads ms h, below_of ns ms (tails ms h))
  where
    heads : (xs : List ℕ) → AllByRecursion (λ m. AllByRecursion (λ k. k < m) (n ∷ ns)) xs → AllByRecursion (λ m. n < m) xs
    heads [] g = tt
    heads (x ∷ xs) g = (g.0.0, heads xs g.1)

    tails : (xs : List ℕ) → AllByRecursion (λ m. AllByRecursion (λ k. k < m) (n ∷ ns)) xs → AllByRecursion (λ m. AllByRecursion (λ k. k < m) ns) xs
    tails [] g = tt
    tails (x ∷ xs) g = (g.0.1, tails xs g.1)

pub of_below : (ns ms : List ℕ) → AreBelow ns ms → AllByRecursion (λ m. AllByRecursion (λ n. n < m) ns) ms
of_below ns [] h = tt
of_below ns (m ∷ ms) h = (heads ns h, of_below ns ms (tails ns h))
  where
    heads : (xs : List ℕ) → AreBelow xs (m ∷ ms) → AllByRecursion (λ k. k < m) xs
    heads [] g = tt
    heads (x ∷ xs) g = (g.0.0, heads xs g.1)

    tails : (xs : List ℕ) → AreBelow xs (m ∷ ms) → AreBelow xs ms
    tails [] g = tt
    tails (x ∷ xs) g = (g.0.1, tails xs g.1)

-- all are below nothing
pub below_none : (ns : List ℕ) → AreBelow ns []
below_none [] = tt
below_none (n ∷ ns) = (tt, below_none ns)

all_so : (P Q : ℕ → Type 0) → ((m : ℕ) → P m → Q m) → (ms : List ℕ) → AllByRecursion P ms → AllByRecursion Q ms
all_so P Q step [] h = tt
all_so P Q step (m ∷ ms) h = (step m h.0, all_so P Q step ms h.1)

-- one list reaches a number, and another
pub reach_both : (floor : ℕ) (ns ms : List ℕ) (b : Bool) → Reaches floor ns → Decides b (Reaches floor ms) → Decides b (Reaches floor (ns ++ ms))
reach_both floor ns ms b h d = (λ t. all_both (λ m. floor ≤ m) ns ms h (d.0 t), λ g. d.1 (all_back (λ m. floor ≤ m) ns ms g))

pub reach_fails : (floor : ℕ) (ns ms : List ℕ) (b : Bool) → Decides b (Reaches floor ns) → b ≡ false → Decides false (Reaches floor (ns ++ ms))
reach_fails floor ns ms b d isnt = (λ t. absurd cc, λ g. absurd (let holds = d.1 (all_front (λ m. floor ≤ m) ns ms g) in cc))

-- ---- floors

pub floor_none : (m : ℕ) → (0 ≤ m) ↔ AllByRecursion (λ n. n < m) []
floor_none m = (λ h. tt, λ h. omega arith)

pub floor_grows : (ns ms : List ℕ) (old new : ℕ) → IsFloor ns old → FloorWith old ms new → IsFloor (ns ++ ms) new
floor_grows ns ms old new f g m = (
  λ h. (let b = (g m).0 h in all_both (λ n. n < m) ns ms ((f m).0 b.0) b.1),
  λ h. (g m).1 ((f m).1 (all_front (λ n. n < m) ns ms h), all_back (λ n. n < m) ns ms h),
)

-- with what an answer and with what walks cite
pub shown_floor : (old cited other new : ℕ) (ns ms : List ℕ) → FloorWith old ns cited → IsFloor ms other → IsHigher cited other new → FloorWith old (ns ++ ms) new
shown_floor old cited other new ns ms f g h m = (
  λ le. (let b = (h m).0 le in let a = (f m).0 b.0 in (a.0, all_both (λ n. n < m) ns ms a.1 ((g m).0 b.1))),
  λ p. (h m).1 ((f m).1 (p.0, all_front (λ n. n < m) ns ms p.1), (g m).1 (all_back (λ n. n < m) ns ms p.1)),
)

-- ---- command by command

pub floor_start : (known : ℕ → List ℕ) → IsFloorBefore known 0 0
floor_start known m = (λ h k lt. absurd (omega arith), λ h. omega arith)

pub floor_next : (known : ℕ → List ℕ) (command old new : ℕ) → IsFloorBefore known command old → FloorWith old (known command) new → IsFloorBefore known (command + 1) new
floor_next known command old new f g m = (
  λ h k lt. (let b = (g m).0 h in elim (cases_lt k command) [
    | inl below ↦ (f m).0 b.0 k below
    | inr above ↦ (let same : command ≡ k = omega (arith, lt, above) in subst (λ (j : ℕ). AllByRecursion (λ n. n < m) (known j)) same b.1)
  ]),
  λ h. (g m).1 ((f m).1 (λ k lt. h k (omega (arith, lt))), h command (omega arith)),
)

-- what a command sees reaches the floor exactly where it is above all that was known before
pub reaches_below : (known : ℕ → List ℕ) (command floor : ℕ) (ms : List ℕ) → IsFloorBefore known command floor → Reaches floor ms → (k : ℕ) → k < command → AreBelow (known k) ms
reaches_below known command floor ms f h k lt = below_of (known k) ms (all_so (λ m. floor ≤ m) (λ m. AllByRecursion (λ n. n < m) (known k)) (λ m le. (f m).0 le k lt) ms h)

pub below_reaches : (known : ℕ → List ℕ) (command floor : ℕ) (ms : List ℕ) → IsFloorBefore known command floor → ((k : ℕ) → k < command → AreBelow (known k) ms) → Reaches floor ms
below_reaches known command floor [] f h = tt
below_reaches known command floor (m ∷ ms) f h = (
  (f m).1 (λ k lt. (of_below (known k) (m ∷ ms) (h k lt)).0),
  below_reaches known command floor ms f (λ k lt. below_of (known k) ms (of_below (known k) (m ∷ ms) (h k lt)).1),
)

-- the commands so far, with one more
pub known_more : (known seen : ℕ → List ℕ) (command : ℕ) → AreKnownBelow known seen command → ((k : ℕ) → k < command → AreBelow (known k) (seen command)) → AreKnownBelow known seen (command + 1)
known_more known seen command before here k later lt few = elim (cases_lt later command) [
  | inl below ↦ before k later lt below
  | inr above ↦ (let same : command ≡ later = omega (arith, few, above) in subst (λ (j : ℕ). AreBelow (known k) (seen j)) same (here k (omega (arith, lt, same))))
]

pub known_none : (known seen : ℕ → List ℕ) → AreKnownBelow known seen 0
known_none known seen k later lt few = absurd (omega (arith, few))

-- and all, where the others see nothing
pub known_all : (known seen : ℕ → List ℕ) (count command : ℕ) → count ≤ command → ((later : ℕ) → count ≤ later → seen later ≡ []) → AreKnownBelow known seen command → Decides true ((k later : ℕ) → k < later → AreBelow (known k) (seen later))
known_all known seen count command over none before = (
  λ t k later lt. elim (cases_lt later command) [
    | inl below ↦ before k later lt below
    | inr above ↦ subst (AreBelow (known k)) (sym (none later (omega (arith, over, above)))) (below_none (known k))
  ],
  λ h. refl,
)

pub known_fails : (known seen : ℕ → List ℕ) (command floor : ℕ) (b : Bool) → IsFloorBefore known command floor → Decides b (Reaches floor (seen command)) → b ≡ false → Decides false ((k later : ℕ) → k < later → AreBelow (known k) (seen later))
known_fails known seen command floor b f d isnt = (
  λ t. absurd cc,
  λ h. absurd (let holds = d.1 (below_reaches known command floor (seen command) f (λ k lt. h k command lt)) in cc),
)
