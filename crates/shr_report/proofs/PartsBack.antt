-- SPDX-License-Identifier: GPL-2.0-only
-- What stands of a command behind its answer is parted in one way: isolations, walks, carries and walks of the pools.
use Rattle.shr_report.proofs.Common.{◌≡◌, ℕ, ◌+◌, ◌<◌, ◌≤◌, Bool, true, false, List, [], ◌∷◌, ◌++◌, take, drop, flat_map, Option, Some, None, refl, sym, ap, subst, ◌∙◌, append_assoc, arith, ◌==◌, take_while, codes, AllByRecursion, AllZip, prefix_len, take-append-drop, nat_tests, Serial, Found, Reply, Answered, WalkRecord, Carry, PlainWalk, Isolation, PlaceAmount, line, numbered, numeral, reply_line, found_lines, walk_lines, carry_line, plain_lines, isolation_line, is_walk_of, is_carry_of, is_plain_of, is_isolation_of, Logs, log_lines, after_command, LendsWord, IsSameWalk, IsSamePlain, read_found, read_amount, same_byte, one-add}
use Rattle.shr_report.proofs.Printed.{one_line}
use Rattle.shr_report.proofs.LinesBack.{printed_found, amount_of, printed_carry}
use Rattle.shr_report.proofs.Sections.{kind, kind_found, kind_isolation, kind_carry, section, after_items, flat_numbered, after_flat, zip_same, all_taken}
use Rattle.shr_report.proofs.PlainBack.{IsPlainBy, kind_plains, plains_once, IsIsolationBy, isolations_once}
use Rattle.shr_report.proofs.WalksBack.{IsPastWalk, HasBitWords, IsWalkBy, walk_once, kind_walks}

-- ---- what the commands of a worker's walks and carries are

-- numbers of commands that don't fall, each at least a first one
unfoldable pub Sorted : {X : Type 0} → (X → ℕ) → ℕ → List X → Type 0
Sorted c k [] = Unit {0}
Sorted c k (x ∷ xs) = (k ≤ c x) × Sorted c (c x) xs

abbrev is_of : {X : Type 0} → (X → ℕ) → ℕ → X → Bool
is_of c k x = c x == k

other_number : (a b : ℕ) → (a == b) ≡ false → a ≡ b → ⊥
other_number a b e = grind (arith, nat_tests)

sorted_at : {X : Type 0} (c : X → ℕ) (k : ℕ) (x : X) (xs : List X) (t : Bool) → (c x == k) ≡ t → Sorted c k (x ∷ xs)
    → ((k ≡ c x) → Sorted c k xs → Sorted c (k + 1) (drop (prefix_len (is_of c k) xs) xs))
    → Sorted c (k + 1) (drop (prefix_len (is_of c k) (x ∷ xs)) (x ∷ xs))
unfolding Sorted
sorted_at c k x xs true e h more =
    let same : k ≡ c x = sym (same_byte (c x) k e) in
    rw (e, one-add (prefix_len (is_of c k) xs)) (more same (subst (λ (n : ℕ). Sorted c n xs) (sym same) h.1))
sorted_at c k x xs false e h more = let differ = other_number (c x) k e in let low : k ≤ c x = h.0 in rw e (above (c x) k low differ, h.1)
  where
    above : (a b : ℕ) → b ≤ a → (a ≡ b → ⊥) → b + 1 ≤ a
    above a b low differ = grind (arith, nat_tests)

-- behind the first command's they are of later commands
pub sorted_left : {X : Type 0} (c : X → ℕ) (k : ℕ) (xs : List X) → Sorted c k xs → Sorted c (k + 1) (drop (prefix_len (is_of c k) xs) xs)
unfolding Sorted
sorted_left c k [] h = tt
sorted_left c k (x ∷ xs) h = sorted_at c k x xs (c x == k) refl h (λ same s. sorted_left c k xs s)

taken_at : {X : Type 0} (c : X → ℕ) (k : ℕ) (x : X) (xs : List X) (t : Bool) → (c x == k) ≡ t → AllByRecursion (λ y. c y ≡ k) (take_while (is_of c k) xs) → AllByRecursion (λ y. c y ≡ k) (take_while (is_of c k) (x ∷ xs))
taken_at c k x xs true e h = rw (e, one-add (prefix_len (is_of c k) xs)) (same_byte (c x) k e, h)
taken_at c k x xs false e h = rw e tt

-- the first command's are of that command
taken_of : {X : Type 0} (c : X → ℕ) (k : ℕ) (xs : List X) → AllByRecursion (λ y. c y ≡ k) (take_while (is_of c k) xs)
taken_of c k [] = tt
taken_of c k (x ∷ xs) = taken_at c k x xs (c x == k) refl (taken_of c k xs)

-- none is left behind the last command
pub none_left : {X : Type 0} (c : X → ℕ) (k n : ℕ) (xs : List X) → Sorted c k xs → AllByRecursion (λ x. c x < n) xs → n ≤ k → xs ≡ []
unfolding Sorted
none_left c k n [] h b le = refl
none_left c k n (x ∷ xs) h b le = let low : k ≤ c x = h.0 in let high : c x < n = b.0 in absurd (omega arith)

-- the second of two facts of each
pub all_second : {X : Type 0} (P Q : X → Type 0) (xs : List X) → AllByRecursion (λ x. P x × Q x) xs → AllByRecursion Q xs
all_second P Q [] h = tt
all_second P Q (x ∷ xs) h = (h.0.1, all_second P Q xs h.1)

-- what is known of the walks, or the carries, from a command on, of which there are so many
pub record Remain (X : Type 0) (serial : X → Serial) (P : X → Type 0) (worker k n : ℕ) (xs : List X) : Type 0 where
  pub sorted : Sorted (λ x. (serial x).command) k xs
  pub workers : AllByRecursion (λ x. (serial x).worker ≡ worker) xs
  pub below : AllByRecursion (λ x. (serial x).command < n) xs
  pub each : AllByRecursion P xs

-- what follows next of one list is of this command, and the rest is of later ones
pub record Now (X : Type 0) (serial : X → Serial) (P : X → Type 0) (worker k n m : ℕ) (xs : List X) : Type 0 where
  pub here : AllByRecursion (λ x. P x × (serial x ≡ record { worker = worker; command = k })) (take m xs)
  pub others : Remain X serial P worker (k + 1) n (drop m xs)

serial_is : (s : Serial) (w k : ℕ) → s.worker ≡ w → s.command ≡ k → s ≡ record { worker = w; command = k }
serial_is s w k e f = rw (sym e, sym f) refl

all_serial : {X : Type 0} (serial : X → Serial) (P : X → Type 0) (w k : ℕ) (xs : List X) → AllByRecursion P xs → AllByRecursion (λ x. (serial x).worker ≡ w) xs → AllByRecursion (λ x. (serial x).command ≡ k) xs
    → AllByRecursion (λ x. P x × (serial x ≡ record { worker = w; command = k })) xs
all_serial serial P w k [] a b c = tt
all_serial serial P w k (x ∷ xs) a b c = ((a.0, serial_is (serial x) w k b.0 c.0), all_serial serial P w k xs a.1 b.1 c.1)

pub now_of : {X : Type 0} (serial : X → Serial) (P : X → Type 0) (worker k n : ℕ) (xs : List X) → Remain X serial P worker k n xs → Now X serial P worker k n (prefix_len (λ x. (serial x).command == k) xs) xs
now_of serial P worker k n xs r =
    let m = prefix_len (λ x. (serial x).command == k) xs in
    let a = all_taken P m xs r.each in
    let b = all_taken (λ x. (serial x).worker ≡ worker) m xs r.workers in
    let c = all_taken (λ x. (serial x).command < n) m xs r.below in
    record {
      here = all_serial serial P worker k (take m xs) a.0 b.0 (taken_of (λ x. (serial x).command) k xs);
      others = record { sorted = sorted_left (λ x. (serial x).command) k xs r.sorted; workers = b.1; below = c.1; each = a.1 };
    }

-- ---- one answer

-- no line of these kinds stands within an answer before kind n
abbrev pub IsFrom : ℕ → ℕ → Type 0
IsFrom n k = 7 ≤ k → n ≤ k

-- no line that stands within an answer
abbrev pub IsOutside : ℕ → Type 0
IsOutside k = IsFrom 15 k

from_is : (n k m : ℕ) → k ≡ m → n ≤ m → IsFrom n k
from_is n k m e le low = omega arith

from_weaker : (n m k : ℕ) → m ≤ n → IsFrom n k → IsFrom m k
from_weaker n m k le h low = let high : n ≤ k = h low in omega arith

pub from_not : (n k m : ℕ) → IsFrom n k → 7 ≤ m → m < n → k ≡ m → ⊥
from_not n k m h low lt e = let high : n ≤ k = h (omega arith) in absurd (omega arith)

from_walks : (k : ℕ) → IsFrom 12 k → IsPastWalk k
from_walks k h = (from_not 12 k 10 h (omega arith) (omega arith), from_not 12 k 11 h (omega arith) (omega arith))

walk_past : (k : ℕ) → k ≡ 9 → IsPastWalk k
walk_past k e = (λ f. absurd (omega arith), λ f. absurd (omega arith))

pub reply_outside : (k : ℕ) → k ≡ 6 → IsOutside k
reply_outside k e le = absurd (omega arith)

pub found_once : (f g : Option Found) (rest rest' : List ℕ) → (kind rest ≡ 7 → ⊥) → (kind rest' ≡ 7 → ⊥) → found_lines f ++ rest ≡ found_lines g ++ rest' → (f ≡ g) × (rest ≡ rest')
found_once None None rest rest' a b e = (refl, e)
found_once None (Some g) rest rest' a b e = absurd (a (ap kind e ∙ kind_found g rest'))
found_once (Some f) None rest rest' a b e = absurd (b (sym (ap kind e) ∙ kind_found f rest))
found_once (Some f) (Some g) rest rest' a b e =
    let one = one_line read_found f g (line (codes "find") (numeral f.id ∷ numeral f.number ∷ numeral f.entry ∷ [])) (line (codes "find") (numeral g.id ∷ numeral g.number ∷ numeral g.entry ∷ [])) rest rest' (printed_found f) (printed_found g) e in
    (ap (λ (x : Found). Some x) one.0, one.1)

made : Serial → PlaceAmount → Carry
made by a = record { by = by; place = a.place; amount = a.amount }

carry_same : (c d : Carry) → amount_of c ≡ amount_of d → c.by ≡ d.by → c ≡ d
unfolding made
carry_same c d e f = ap (λ (s : Serial). made s (amount_of c)) f ∙ ap (λ (a : PlaceAmount). made d.by a) e

-- of a carry nothing is asked but its order
abbrev pub IsAny : Carry → Type 0
IsAny c = Unit {0}

abbrev IsCarryBy : Serial → Carry → Type 0
IsCarryBy by c = IsAny c × (c.by ≡ by)

carries_once : (by : Serial) (cs ds : List Carry) (rest rest' : List ℕ) → AllByRecursion (IsCarryBy by) cs → AllByRecursion (IsCarryBy by) ds → (kind rest ≡ 12 → ⊥) → (kind rest' ≡ 12 → ⊥)
    → flat_map carry_line cs ++ rest ≡ flat_map carry_line ds ++ rest' → (cs ≡ ds) × (rest ≡ rest')
carries_once by cs ds rest rest' h k a b e =
    let both = section (λ (i : ℕ) (c : Carry). carry_line c) (IsCarryBy by) (λ c d. c ≡ d) (λ n. n ≡ 12) (λ n. Unit {0}) (λ n c rest. kind_carry c rest) (λ n c rest. tt)
    (λ n m c d rest rest' p q x y e. same_carry c d rest rest' p q e) 0 0 cs ds rest rest' h k a b tt tt
    (ap (λ (t : List ℕ). t ++ rest) (sym (flat_numbered carry_line 0 cs)) ∙ e ∙ ap (λ (t : List ℕ). t ++ rest') (flat_numbered carry_line 0 ds)) in
    (zip_same cs ds both.0, both.1)
  where
    same_carry : (c d : Carry) (rest rest' : List ℕ) → IsCarryBy by c → IsCarryBy by d → carry_line c ++ rest ≡ carry_line d ++ rest' → (c ≡ d) × (rest ≡ rest')
    same_carry c d rest rest' p q e =
        let one = one_line read_amount (amount_of c) (amount_of d) (carry_line c) (carry_line d) rest rest' (printed_carry c) (printed_carry d) e in
        (carry_same c d one.0 (p.1 ∙ sym q.1), one.1)

walks_once : (by : Serial) (n m : ℕ) (vs ws : List WalkRecord) (rest rest' : List ℕ) → AllByRecursion (IsWalkBy by) vs → AllByRecursion (IsWalkBy by) ws → (kind rest ≡ 9 → ⊥) → (kind rest' ≡ 9 → ⊥)
    → IsPastWalk (kind rest) → IsPastWalk (kind rest') → numbered walk_lines n vs ++ rest ≡ numbered walk_lines m ws ++ rest' → AllZip IsSameWalk vs ws × (rest ≡ rest')
walks_once by n m vs ws rest rest' h k a b c d e =
    section walk_lines (IsWalkBy by) IsSameWalk (λ n. n ≡ 9) IsPastWalk kind_walks (λ n x rest. walk_past (kind (walk_lines n x ++ rest)) (kind_walks n x rest)) (walk_once by) n m vs ws rest rest' h k a b c d e

zip_append : {X : Type 0} (R : X → X → Type 0) (xs ys us vs : List X) → AllZip R xs ys → AllZip R us vs → AllZip R (xs ++ us) (ys ++ vs)
zip_append R [] [] us vs h k = k
zip_append R [] (y ∷ ys) us vs h k = absurd h
zip_append R (x ∷ xs) [] us vs h k = absurd h
zip_append R (x ∷ xs) (y ∷ ys) us vs h k = (h.0, zip_append R xs ys us vs h.1 k)

pub zip_parts : {X : Type 0} (R : X → X → Type 0) (n m : ℕ) (xs ys : List X) → AllZip R (take n xs) (take m ys) → AllZip R (drop n xs) (drop m ys) → AllZip R xs ys
zip_parts R n m xs ys h k =
    subst (λ us. AllZip R us ys) (take-append-drop n xs) (subst (λ vs. AllZip R (take n xs ++ drop n xs) vs) (take-append-drop m ys) (zip_append R (take n xs) (take m ys) (drop n xs) (drop m ys) h k))

-- two empty lists agree
pub zip_none : {X : Type 0} (R : X → X → Type 0) (xs ys : List X) → xs ≡ [] → ys ≡ [] → AllZip R xs ys
zip_none R xs ys e f = rw (e, f) tt

pub same_parts : {X : Type 0} (n m : ℕ) (xs ys : List X) → take n xs ≡ take m ys → drop n xs ≡ drop m ys → xs ≡ ys
same_parts n m xs ys e f = sym (take-append-drop n xs) ∙ glue (take n xs) (take m ys) (drop n xs) (drop m ys) e f ∙ take-append-drop m ys
  where
    glue : {X : Type 0} (a b c d : List X) → a ≡ b → c ≡ d → a ++ c ≡ b ++ d
    glue a b c d e f = cc

-- ---- the answers of a worker

-- what follows isn't an answer of this worker
abbrev pub IsPast : ℕ → List ℕ → Type 0
IsPast w rest = (k : ℕ) (r : Reply) (more : List ℕ) → LendsWord r → rest ≡ reply_line w k r ++ more → ⊥

-- the value that an answer lends is a word
abbrev pub IsAnsweredWell : Answered → Type 0
IsAnsweredWell a = LendsWord a.reply

-- nothing is asked of a walk of the pools but its order
abbrev pub IsAnyPlain : PlainWalk → Type 0
IsAnyPlain w = Unit {0}

-- nor of an isolation
abbrev pub IsAnyIsolation : Isolation → Type 0
IsAnyIsolation i = Unit {0}

-- what is known of all that a worker has besides its answers, from a command on
pub record LogsRemain (w k n : ℕ) (l : Logs) : Type 0 where
  pub isolations : Remain Isolation (λ x. x.by) IsAnyIsolation w k n l.isolations
  pub walks : Remain WalkRecord (λ x. x.by) HasBitWords w k n l.walks
  pub carries : Remain Carry (λ x. x.by) IsAny w k n l.carries
  pub plain : Remain PlainWalk (λ x. x.by) IsAnyPlain w k n l.plain

-- behind the first command's they are of later ones
pub logs_left : (w k n : ℕ) (l : Logs) → LogsRemain w k n l → LogsRemain w (k + 1) n (after_command k l)
logs_left w k n l r = record {
  isolations = (now_of (λ (x : Isolation). x.by) IsAnyIsolation w k n l.isolations r.isolations).others;
  walks = (now_of (λ (x : WalkRecord). x.by) HasBitWords w k n l.walks r.walks).others;
  carries = (now_of (λ (x : Carry). x.by) IsAny w k n l.carries r.carries).others;
  plain = (now_of (λ (x : PlainWalk). x.by) IsAnyPlain w k n l.plain r.plain).others;
}

abbrev by_of : ℕ → ℕ → Serial
by_of w k = record { worker = w; command = k }

-- two runs of all that stands of one command with one text are the same
pub record SameNow (k : ℕ) (l m : Logs) : Type 0 where
  pub isolations : take_while (is_isolation_of k) l.isolations ≡ take_while (is_isolation_of k) m.isolations
  pub walks : AllZip IsSameWalk (take_while (is_walk_of k) l.walks) (take_while (is_walk_of k) m.walks)
  pub carries : take_while (is_carry_of k) l.carries ≡ take_while (is_carry_of k) m.carries
  pub plain : AllZip IsSamePlain (take_while (is_plain_of k) l.plain) (take_while (is_plain_of k) m.plain)

-- what follows the walks of the pools, the carries and the walks of a command, each in turn
plain_text : ℕ → Logs → List ℕ → List ℕ
plain_text k l rest = numbered plain_lines l.plain_walk (take_while (is_plain_of k) l.plain) ++ rest

carry_text : ℕ → Logs → List ℕ → List ℕ
carry_text k l rest = flat_map carry_line (take_while (is_carry_of k) l.carries) ++ plain_text k l rest

walk_text : ℕ → Logs → List ℕ → List ℕ
walk_text k l rest = numbered walk_lines l.walk (take_while (is_walk_of k) l.walks) ++ carry_text k l rest

log_parts : (k : ℕ) (l : Logs) (rest : List ℕ) → log_lines k l ++ rest ≡ flat_map isolation_line (take_while (is_isolation_of k) l.isolations) ++ walk_text k l rest
unfolding plain_text carry_text walk_text
log_parts k l rest = regrouped (flat_map isolation_line (take_while (is_isolation_of k) l.isolations)) (numbered walk_lines l.walk (take_while (is_walk_of k) l.walks))
    (flat_map carry_line (take_while (is_carry_of k) l.carries)) (numbered plain_lines l.plain_walk (take_while (is_plain_of k) l.plain)) rest
  where
    regrouped : (a b c d e : List ℕ) → (a ++ b ++ c ++ d) ++ e ≡ a ++ (b ++ (c ++ (d ++ e)))
    regrouped a b c d e = simp append_assoc

plain_from : (k : ℕ) (l : Logs) (rest : List ℕ) → IsOutside (kind rest) → IsFrom 13 (kind (plain_text k l rest))
unfolding plain_text
plain_from k l rest h = after_items plain_lines (IsFrom 13) (λ i w more. from_is 13 (kind (plain_lines i w ++ more)) 13 (kind_plains i w more) (omega arith)) l.plain_walk (take_while (is_plain_of k) l.plain) rest (from_weaker 15 13 (kind rest) (omega arith) h)

carry_from : (k : ℕ) (l : Logs) (rest : List ℕ) → IsOutside (kind rest) → IsFrom 12 (kind (carry_text k l rest))
unfolding carry_text
carry_from k l rest h = after_flat carry_line (IsFrom 12) (λ c more. from_is 12 (kind (carry_line c ++ more)) 12 (kind_carry c more) (omega arith)) (take_while (is_carry_of k) l.carries) (plain_text k l rest) (from_weaker 13 12 (kind (plain_text k l rest)) (omega arith) (plain_from k l rest h))

walk_from : (k : ℕ) (l : Logs) (rest : List ℕ) → IsOutside (kind rest) → IsFrom 9 (kind (walk_text k l rest))
unfolding walk_text
walk_from k l rest h = after_items walk_lines (IsFrom 9) (λ i w more. from_is 9 (kind (walk_lines i w ++ more)) 9 (kind_walks i w more) (omega arith)) l.walk (take_while (is_walk_of k) l.walks) (carry_text k l rest) (from_weaker 12 9 (kind (carry_text k l rest)) (omega arith) (carry_from k l rest h))

-- all that stands of a command begins with none but its own lines
pub log_from : (k : ℕ) (l : Logs) (rest : List ℕ) → IsOutside (kind rest) → IsFrom 8 (kind (log_lines k l ++ rest))
log_from k l rest h = subst (λ t. IsFrom 8 (kind t)) (sym (log_parts k l rest))
    (after_flat isolation_line (IsFrom 8) (λ i more. from_is 8 (kind (isolation_line i ++ more)) 8 (kind_isolation i more) (omega arith)) (take_while (is_isolation_of k) l.isolations) (walk_text k l rest)
    (from_weaker 9 8 (kind (walk_text k l rest)) (omega arith) (walk_from k l rest h)))

-- a text of all that stands of a command is that of one run only
pub logs_once : (w k N M : ℕ) (l m : Logs) (rest rest' : List ℕ) → LogsRemain w k N l → LogsRemain w k M m → IsOutside (kind rest) → IsOutside (kind rest')
    → log_lines k l ++ rest ≡ log_lines k m ++ rest' → SameNow k l m × (rest ≡ rest')
unfolding plain_text carry_text walk_text
logs_once w k N M l m rest rest' p q o o' e =
    let by = by_of w k in
    let f = walk_from k l rest o in
    let f' = walk_from k m rest' o' in
    let g = carry_from k l rest o in
    let g' = carry_from k m rest' o' in
    let h = plain_from k l rest o in
    let h' = plain_from k m rest' o' in
    let first = isolations_once by (take_while (is_isolation_of k) l.isolations) (take_while (is_isolation_of k) m.isolations) (walk_text k l rest) (walk_text k m rest')
    (all_second IsAnyIsolation (IsIsolationBy by) _ (now_of (λ (x : Isolation). x.by) IsAnyIsolation w k N l.isolations p.isolations).here) (all_second IsAnyIsolation (IsIsolationBy by) _ (now_of (λ (x : Isolation). x.by) IsAnyIsolation w k M m.isolations q.isolations).here)
    (from_not 9 _ 8 f (omega arith) (omega arith)) (from_not 9 _ 8 f' (omega arith) (omega arith)) (sym (log_parts k l rest) ∙ e ∙ log_parts k m rest') in
    let second = walks_once by l.walk m.walk (take_while (is_walk_of k) l.walks) (take_while (is_walk_of k) m.walks) (carry_text k l rest) (carry_text k m rest')
    (now_of (λ (x : WalkRecord). x.by) HasBitWords w k N l.walks p.walks).here (now_of (λ (x : WalkRecord). x.by) HasBitWords w k M m.walks q.walks).here
    (from_not 12 _ 9 g (omega arith) (omega arith)) (from_not 12 _ 9 g' (omega arith) (omega arith)) (from_walks _ g) (from_walks _ g') first.1 in
    let third = carries_once by (take_while (is_carry_of k) l.carries) (take_while (is_carry_of k) m.carries) (plain_text k l rest) (plain_text k m rest')
    (now_of (λ (x : Carry). x.by) IsAny w k N l.carries p.carries).here (now_of (λ (x : Carry). x.by) IsAny w k M m.carries q.carries).here
    (from_not 13 _ 12 h (omega arith) (omega arith)) (from_not 13 _ 12 h' (omega arith) (omega arith)) second.1 in
    let fourth = plains_once by l.plain_walk m.plain_walk (take_while (is_plain_of k) l.plain) (take_while (is_plain_of k) m.plain) rest rest'
    (all_second IsAnyPlain (IsPlainBy by) _ (now_of (λ (x : PlainWalk). x.by) IsAnyPlain w k N l.plain p.plain).here) (all_second IsAnyPlain (IsPlainBy by) _ (now_of (λ (x : PlainWalk). x.by) IsAnyPlain w k M m.plain q.plain).here)
    (from_not 15 _ 13 o (omega arith) (omega arith)) (from_not 15 _ 13 o' (omega arith) (omega arith)) (from_not 15 _ 14 o (omega arith) (omega arith)) (from_not 15 _ 14 o' (omega arith) (omega arith)) third.1 in
    let same : SameNow k l m = record { isolations = first.0; walks = second.0; carries = third.0; plain = fourth.0 } in
    (same, fourth.1)
