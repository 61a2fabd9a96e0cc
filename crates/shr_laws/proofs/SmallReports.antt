-- SPDX-License-Identifier: GPL-2.0-only
-- What holds of each command, entry and group of a small report holds of all of it: of a report of one worker, of one list, or
-- of one registration.
use Rattle.shr_laws.proofs.Common.{◌≡◌, ℕ, zero, suc, ◌+◌, ◌<◌, ◌≤◌, true, false, cond, ◌&&◌, nat_lt, fold, count_by, List, [], ◌∷◌, ◌++◌, Option, None, Some, find, option_and_then, slice_get, refl, arith, sym, ap, subst, ◌∙◌, none-some, cases_Bool, and_parts, inl, inr, AllByRecursion, Place, Serial, Entry, Command, Answered, Carry, PlaceEnd, Script, UseStep, Registered, Report, is_place, is_place_same, is_child, is_refused, IsBornAt, IsPoolJournal, IsNextPool, last_number, AreNotFalling, journal_of, journals_of, commands_of, answers_of, carries_of, serial_of, limit_of, lookups_at, found_numbers, tried_numbers, EachAnswer, EachEntry, ⊤, ◌==◌, if◌then◌else◌}
use Rattle.shr_laws.specs.Parts.{limits_of}
use Rattle.shr_model.specs.Groups.{path_within}
use Rattle.shr_model.specs.Pool.{phase_of, decl_from, number_from, is_live_below, lowest_free}
use Rattle.shr_model.proofs.Booleans.{not_zero}
use Rattle.shr_model.proofs.Lists.{each_at, AllAt}

-- ---- commands

-- a fact of each pair of elements at one number
abbrev pub AllTwo : {X Y : Type 0} → (ℕ → X → Y → Type 0) → List X → List Y → Type 0
AllTwo P [] ys = ⊤
AllTwo P (x ∷ xs) [] = ⊤
AllTwo P (x ∷ xs) (y ∷ ys) = P 0 x y × AllTwo (λ n. P (suc n)) xs ys

-- the same for the elements of two lists at one number
pub each_two : {X Y : Type 0} (P : ℕ → X → Y → Type 0) (xs : List X) (ys : List Y) → AllTwo P xs ys → (n : ℕ) (x : X) (y : Y)
    → slice_get xs n ≡ Some x → slice_get ys n ≡ Some y → P n x y
each_two P [] ys h n x y e f = absurd (cc)
each_two P (a ∷ xs) [] h n x y e f = absurd (cc)
each_two P (a ∷ xs) (b ∷ ys) h zero x y e f = let one : a ≡ x = cc in let other : b ≡ y = cc in subst (λ z. P 0 x z) other (subst (λ z. P 0 z b) one h.0)
each_two P (a ∷ xs) (b ∷ ys) h (suc n) x y e f = each_two (λ n. P (suc n)) xs ys h.1 n x y e f

-- the script has no worker but the first
abbrev pub IsAlone : Script → Type 0
IsAlone s = (worker : ℕ) → commands_of s (suc worker) ≡ []

each_by : (s : Script) (r : Report) → IsAlone s → (P : Serial → Command → Answered → Type 0) → AllTwo (λ k. P (serial_of 0 k)) (commands_of s 0) (answers_of r 0) → (worker k : ℕ) (c : Command) (a : Answered)
    → slice_get (commands_of s worker) k ≡ Some c → slice_get (answers_of r worker) k ≡ Some a → P (serial_of worker k) c a
each_by s r alone P h zero k c a e f = each_two (λ k. P (serial_of 0 k)) (commands_of s 0) (answers_of r 0) h k c a e f
each_by s r alone P h (suc worker) k c a e f = absurd (none-some c (ap (λ (cs : List Command). slice_get cs k) (sym (alone worker)) ∙ e))

-- what holds of each command of the one worker with its answer holds of all of the report
pub each_answer : (s : Script) (r : Report) → IsAlone s → (P : Serial → Command → Answered → Type 0) → AllTwo (λ k. P (serial_of 0 k)) (commands_of s 0) (answers_of r 0) → EachAnswer s r P
each_answer s r alone P h x c a e f = each_by s r alone P h x.worker x.command c a e f

-- what holds of the first worker and of those that there aren't holds of each
pub each_worker : (P : ℕ → Type 0) → P 0 → ((worker : ℕ) → P (suc worker)) → (worker : ℕ) → P worker
each_worker P first others zero = first
each_worker P first others (suc worker) = others worker

-- the number that is so many behind another
abbrev pub behind : ℕ → ℕ → ℕ
behind zero k = k
behind (suc n) k = suc (behind n k)

-- a fact of each number below this one
abbrev pub AllBelow : (ℕ → Type 0) → ℕ → Type 0
AllBelow P zero = ⊤
AllBelow P (suc n) = P 0 × AllBelow (λ k. P (suc k)) n

each_number : (P : ℕ → Type 0) (n : ℕ) → AllBelow P n → ((k : ℕ) → P (behind n k)) → (k : ℕ) → P k
each_number P zero h later k = later k
each_number P (suc n) h later zero = h.0
each_number P (suc n) h later (suc k) = each_number (λ k. P (suc k)) n h.1 later k

-- what holds of the first commands of the first worker, of what stands behind them and of other workers holds of each serial
pub each_serial : (n : ℕ) (P : ℕ → ℕ → Type 0) → AllBelow (P 0) n → ((k : ℕ) → P 0 (behind n k)) → ((worker k : ℕ) → P (suc worker) k) → (worker k : ℕ) → P worker k
each_serial n P first later others zero k = each_number (P 0) n first later k
each_serial n P first later others (suc worker) k = others worker k

-- no worker carried anything
pub none_carried : (r : Report) → ((worker : ℕ) → carries_of r worker ≡ []) → (worker n m : ℕ) (c d : Carry) → slice_get (carries_of r worker) n ≡ Some c → slice_get (carries_of r worker) m ≡ Some d → c.by ≡ d.by → c.place ≡ d.place → n ≡ m
none_carried r none worker n m c d e f same there = absurd (none-some c (ap (λ (cs : List Carry). slice_get cs n) (sym (none worker)) ∙ e))

pub none_fall : AreNotFalling []
none_fall k d h = absurd (omega (arith, h))

-- ---- entries

-- a fact of the empty journal everywhere, and of this one at its place, where no other list is
-- printed
pub only_journal : (one : PlaceEnd) (P : Place → List Entry → Type 0) → ((p : Place) → P p []) → P one.place one.entries.items → (p : Place)
    → P p (journal_of (find (λ (e : PlaceEnd). is_place e.place p) (one ∷ [])))
only_journal one P none here p = elim (cases_Bool (is_place one.place p)) [
  | inl own ↦ subst (λ es. P p es) (sym (ap (λ b. journal_of (cond b (Some one) None)) own)) (subst (λ q. P q one.entries.items) (is_place_same one.place p own) here)
  | inr other ↦ subst (λ es. P p es) (sym (ap (λ b. journal_of (cond b (Some one) None)) other)) (none p)
]

-- what holds of the empty journal and of the one list's holds of each place's
pub each_journal : (r : Report) (one : PlaceEnd) → r.places.items ≡ one ∷ [] → (P : Place → List Entry → Type 0) → ((p : Place) → P p []) → P one.place one.entries.items → (p : Place) → P p (journals_of r p)
each_journal r one only P none here p = subst (λ (ends : List PlaceEnd). P p (journal_of (find (λ (e : PlaceEnd). is_place e.place p) ends))) (sym only) (only_journal one P none here p)

-- what holds of each entry of the one list holds of each entry of the report
pub each_entry : (r : Report) (one : PlaceEnd) → r.places.items ≡ one ∷ [] → (P : Place → ℕ → Entry → Type 0) → AllAt (P one.place) one.entries.items → EachEntry r P
each_entry r one only P h p n e at = each_journal r one only (λ q es. slice_get es n ≡ Some e → P q n e) (λ q f. absurd (cc)) (λ f. each_at (P one.place) one.entries.items h n e f) p at

-- ---- groups

-- what holds of the root and the one group below it
pub below_two : (P : ℕ → Type 0) → P 0 → P 1 → (n : ℕ) → n < 2 → P n
below_two P root below zero low = root
below_two P root below (suc zero) low = below
below_two P root below (suc (suc n)) low = absurd (omega (arith, low))

-- group 1 has no child
no_child : (c : ℕ) → is_child (0 ∷ 0 ∷ []) 1 c ≡ true → ⊥
no_child zero e = absurd (cc)
no_child (suc zero) e = absurd (cc)
no_child (suc (suc c)) e = absurd (let last = (and_parts (nat_lt 0 (suc (suc c)) && nat_lt (suc (suc c)) 2) false e).1 in cc)

-- so what is made for it may stand on its list
pub born : (es : List Entry) → IsBornAt (0 ∷ 0 ∷ []) 1 es 1
unfolding path_within
born es = record { there = omega arith; at_or_above = (0, omega arith, refl); moved = λ c child on. absurd (no_child c child) }

none_at : (limits : List (Option ℕ)) → AllByRecursion (λ (limit : Option ℕ). limit ≡ None) limits → (group : ℕ) → option_and_then (λ (limit : Option ℕ). limit) (slice_get limits group) ≡ None
none_at [] h group = refl
none_at (l ∷ ls) h zero = h.0
none_at (l ∷ ls) h (suc group) = none_at ls h.1 group

-- no group has a limit
abbrev pub IsFree : Script → Type 0
IsFree s = AllByRecursion (λ (limit : Option ℕ). limit ≡ None) (limits_of s)

pub no_limit : (s : Script) → IsFree s → (group : ℕ) → limit_of s group ≡ None
no_limit s free group = none_at (limits_of s) free group

pub none_refused : (a : ℕ) (ops : List UseStep) → fold (λ a (o : UseStep). a + cond (is_refused None o) 1 0) a ops ≡ a
none_refused a [] = refl
none_refused a (o ∷ ops) = let later : fold (λ a (o : UseStep). a + cond (is_refused None o) 1 0) (a + 0) ops ≡ a + 0 = none_refused (a + 0) ops in omega (arith, later)

-- so no charge is refused
pub never_refused : (s : Script) → IsFree s → (group : ℕ) (ops : List UseStep) → count_by (is_refused (limit_of s group)) ops ≡ 0
never_refused s free group ops = subst (λ limit. count_by (is_refused limit) ops ≡ 0) (sym (no_limit s free group)) (none_refused 0 ops)

-- ---- registrations

pub pool_journal : IsPoolJournal 1 1 (Registered 0 0 0 ∷ [])
unfolding is_live_below phase_of decl_from lowest_free number_from
pool_journal zero e at = let same : Registered 0 0 0 ≡ e = cc in subst (λ x. IsNextPool 1 1 [] x) same (omega arith, refl, refl, omega arith)
pool_journal (suc n) e at = absurd (cc)

-- the last number of each id is 0
pub last_low : (id n : ℕ) → last_number id (Registered 0 0 0 ∷ []) ≤ n
unfolding number_from
last_low zero n = omega arith
last_low (suc id) n = let none : (if 0 == suc id then 0 else 0) ≡ 0 = ap (λ b. cond {A = ℕ} b 0 0) (not_zero id) in omega (arith, none)

none_below : (n : ℕ) → nat_lt n 0 ≡ false
none_below n = grind (arith)

-- each number of a lookup of id 0 stands once, and no other id was looked up
pub drawn : (r : Report) → ((number : ℕ) → count_by (λ n. n == number) (found_numbers r 0 ++ tried_numbers r 0) ≡ (if nat_lt number (lookups_at r 0) then 1 else 0))
    → ((id : ℕ) → found_numbers r (suc id) ++ tried_numbers r (suc id) ≡ []) → ((id : ℕ) → lookups_at r (suc id) ≡ 0)
    → (id number : ℕ) → count_by (λ n. n == number) (found_numbers r id ++ tried_numbers r id) ≡ (if nat_lt number (lookups_at r id) then 1 else 0)
drawn r first none unlooked zero number = first number
drawn r first none unlooked (suc id) number = ap (count_by (λ n. n == number)) (none id) ∙ sym (ap (λ k. cond {A = ℕ} (nat_lt number k) 1 0) (unlooked id) ∙ ap (λ b. cond {A = ℕ} b 1 0) (none_below number))
