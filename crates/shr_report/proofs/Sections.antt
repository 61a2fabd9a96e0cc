-- SPDX-License-Identifier: GPL-2.0-only
-- The parts of a report, one behind another.
use Rattle.shr_report.proofs.Common.{◌≡◌, ℕ, ◌+◌, ◌≤◌, Bool, true, false, List, [], ◌∷◌, ◌++◌, take, drop, flat_map, refl, sym, ap, subst, ◌∙◌, append_assoc, arith, ◌==◌, ◌||◌, if◌then◌else◌, bytes_eq, codes, AllByRecursion, AllZip, take-append-drop, Place, Object, Entry, PlainEntry, PoolEntry, TreeEntry, UseStep, Found, Reply, Attempt, MapSeen, WalkAnswer, Carry, PlainTry, PlainAnswer, Isolation, PlaceAmount, MapEnd, line, numeral, reply_line, place_words, attempt_line, map_line, carry_line, pass_line, isolation_line, numbered_group_line, numbered_cache_line, pool_entry_line, tree_line, entry_line, item_line, bit_line, deferred_line, use_line, lookups_line, units_name_line, plain_entry_line, pool_deferred_line}
use Rattle.shr_base.specs.declared.journals.Entry.TheVariants as entry
use Rattle.shr_base.specs.declared.journals.PlainEntry.TheVariants as units
use Rattle.shr_base.specs.declared.journals.PoolEntry.TheVariants as pool
use Rattle.shr_base.specs.declared.journals.TreeEntry.TheVariants as tree
use Rattle.shr_laws.specs.Lines.{numbered}
use Rattle.shr_report.proofs.LinesBack.{walk_line}
use Rattle.shr_report.proofs.PlainLinesBack.{plain_line, units_line}
use Rattle.shr_report.proofs.Printed.{Printed, one_line}

first_word : List ℕ → List ℕ
first_word [] = []
first_word (b ∷ bs) = if (b == 32) || (b == 10) then [] else b ∷ first_word bs

place_in : ℕ → List ℕ → List (List ℕ) → ℕ
place_in n w [] = n
place_in n w (v ∷ vs) = if bytes_eq w v then n else place_in (n + 1) w vs

-- the words that lines begin with, in the order of a report; those of a list's entries come behind
firsts : List (List ℕ)
firsts = codes "report" ∷ codes "size" ∷ codes "group" ∷ codes "cache" ∷ codes "pool" ∷ codes "tree" ∷ codes "reply" ∷ codes "find" ∷ codes "isolation" ∷ codes "walk" ∷ codes "map" ∷ codes "try" ∷ codes "carry" ∷ codes "plain" ∷ codes "pass"
    ∷ codes "list" ∷ codes "add" ∷ codes "look" ∷ codes "drop" ∷ codes "pin" ∷ codes "unpin" ∷ codes "scan" ∷ codes "moved" ∷ codes "closed" ∷ codes "drained"
    ∷ codes "item" ∷ codes "units" ∷ codes "release" ∷ codes "grab" ∷ codes "reclaim" ∷ codes "bit" ∷ codes "deferred" ∷ codes "pooldeferred" ∷ codes "use" ∷ codes "lookups" ∷ codes "total" ∷ []

-- the place of a text's first word among these
pub kind : List ℕ → ℕ
kind bytes = place_in 0 (first_word bytes) firsts

-- a text that begins with a group's line is of kind 2, and so on for the lines below
pub kind_group : (n : ℕ) (w rest : List ℕ) → kind (numbered_group_line n w ++ rest) ≡ 2
unfolding kind first_word place_in firsts
kind_group n w rest = refl

pub kind_cache : (n : ℕ) (w rest : List ℕ) → kind (numbered_cache_line n w ++ rest) ≡ 3
unfolding kind first_word place_in firsts
kind_cache n w rest = refl

pub kind_pool : (n : ℕ) (e : PoolEntry) (rest : List ℕ) → kind (pool_entry_line n e ++ rest) ≡ 4
unfolding kind first_word place_in firsts
kind_pool n (pool.Registered decl id from) rest = refl
kind_pool n (pool.Unregistered decl id to) rest = refl
kind_pool n (pool.Idle id) rest = refl

pub kind_units_name : (n : ℕ) (w rest : List ℕ) → kind (units_name_line n w ++ rest) ≡ 4
unfolding kind first_word place_in firsts
kind_units_name n w rest = refl

pub kind_tree : (n : ℕ) (e : TreeEntry) (rest : List ℕ) → kind (tree_line n e ++ rest) ≡ 5
unfolding kind first_word place_in firsts
kind_tree n (tree.Begin group) rest = refl
kind_tree n (tree.Done group) rest = refl
kind_tree n (tree.Made group) rest = refl

pub kind_reply : (w k : ℕ) (r : Reply) (rest : List ℕ) → kind (reply_line w k r ++ rest) ≡ 6
unfolding kind first_word place_in firsts
kind_reply w k r rest = refl

pub kind_found : (f : Found) (rest : List ℕ) → kind (line (codes "find") (numeral f.id ∷ numeral f.number ∷ numeral f.entry ∷ []) ++ rest) ≡ 7
unfolding kind first_word place_in firsts
kind_found f rest = refl

pub kind_isolation : (i : Isolation) (rest : List ℕ) → kind (isolation_line i ++ rest) ≡ 8
unfolding kind first_word place_in firsts
kind_isolation i rest = refl

pub kind_walk : (n group node priority : ℕ) (nofs : Bool) (a : WalkAnswer) (rest : List ℕ) → kind (walk_line n group node priority nofs a ++ rest) ≡ 9
unfolding kind first_word place_in firsts
kind_walk n group node priority nofs a rest = refl

pub kind_map : (m : MapSeen) (rest : List ℕ) → kind (map_line m ++ rest) ≡ 10
unfolding kind first_word place_in firsts
kind_map m rest = refl

pub kind_attempt : (a : Attempt) (rest : List ℕ) → kind (attempt_line a ++ rest) ≡ 11
unfolding kind first_word place_in firsts
kind_attempt a rest = refl

pub kind_carry : (c : Carry) (rest : List ℕ) → kind (carry_line c ++ rest) ≡ 12
unfolding kind first_word place_in firsts
kind_carry c rest = refl

pub kind_plain : (n node priority : ℕ) (a : PlainAnswer) (rest : List ℕ) → kind (plain_line n node priority a ++ rest) ≡ 13
unfolding kind first_word place_in firsts
kind_plain n node priority a rest = refl

pub kind_pass : (n : ℕ) (x : PlainTry) (rest : List ℕ) → kind (pass_line n x ++ rest) ≡ 14
unfolding kind first_word place_in firsts
kind_pass n x rest = refl

pub kind_list : (p : Place) (rest : List ℕ) → kind (line (codes "list") (place_words p) ++ rest) ≡ 15
unfolding kind first_word place_in firsts
kind_list p rest = refl

-- the kinds of the lines of entries
pub record IsEntryKind (k : ℕ) : Type 0 where
  pub low : 16 ≤ k
  pub high : k ≤ 24

kind_within : (k n : ℕ) → k ≡ n → 16 ≤ n → n ≤ 24 → IsEntryKind k
kind_within k n e low high = record { low = omega arith; high = omega arith }

pub kind_entry : (e : Entry) (rest : List ℕ) → IsEntryKind (kind (entry_line e ++ rest))
unfolding kind first_word place_in firsts
kind_entry (entry.Add by birth added key value) rest = kind_within _ 16 refl (omega arith) (omega arith)
kind_entry (entry.Look by birth key hit) rest = kind_within _ 17 refl (omega arith) (omega arith)
kind_entry (entry.Drop by birth key kind) rest = kind_within _ 18 refl (omega arith) (omega arith)
kind_entry (entry.Pin by birth key true hit) rest = kind_within _ 19 refl (omega arith) (omega arith)
kind_entry (entry.Pin by birth key false hit) rest = kind_within _ 20 refl (omega arith) (omega arith)
kind_entry (entry.Scan worker walk asked policy visits freed stopped) rest = kind_within _ 21 refl (omega arith) (omega arith)
kind_entry (entry.MovedIn child objects) rest = kind_within _ 22 refl (omega arith) (omega arith)
kind_entry entry.Closed rest = kind_within _ 23 refl (omega arith) (omega arith)
kind_entry (entry.Drained by objects) rest = kind_within _ 24 refl (omega arith) (omega arith)

pub kind_item : (o : Object) (rest : List ℕ) → kind (item_line o ++ rest) ≡ 25
unfolding kind first_word place_in firsts
kind_item o rest = refl

pub kind_units : (pool node free : ℕ) (rest : List ℕ) → kind (units_line pool node free ++ rest) ≡ 26
unfolding kind first_word place_in firsts
kind_units pool node free rest = refl

-- the kinds of the lines of a pool's entries
pub record IsUnitKind (k : ℕ) : Type 0 where
  pub low : 27 ≤ k
  pub high : k ≤ 29

unit_within : (k n : ℕ) → k ≡ n → 27 ≤ n → n ≤ 29 → IsUnitKind k
unit_within k n e low high = record { low = omega arith; high = omega arith }

pub kind_plain_entry : (e : PlainEntry) (rest : List ℕ) → IsUnitKind (kind (plain_entry_line e ++ rest))
unfolding kind first_word place_in firsts
kind_plain_entry (units.Release by n) rest = unit_within _ 27 refl (omega arith) (omega arith)
kind_plain_entry (units.Grab by got) rest = unit_within _ 28 refl (omega arith) (omega arith)
kind_plain_entry (units.Reclaim worker walk asked freed) rest = unit_within _ 29 refl (omega arith) (omega arith)

pub kind_bit : (version : ℕ) (m : MapEnd) (rest : List ℕ) → kind (bit_line version m ++ rest) ≡ 30
unfolding kind first_word place_in firsts
kind_bit version m rest = refl

pub kind_deferred : (d : PlaceAmount) (rest : List ℕ) → kind (deferred_line d ++ rest) ≡ 31
unfolding kind first_word place_in firsts
kind_deferred d rest = refl

pub kind_pool_deferred : (d : PlaceAmount) (rest : List ℕ) → kind (pool_deferred_line d ++ rest) ≡ 32
unfolding kind first_word place_in firsts
kind_pool_deferred d rest = refl

pub kind_use : (u : UseStep) (rest : List ℕ) → kind (use_line u ++ rest) ≡ 33
unfolding kind first_word place_in firsts
kind_use u rest = refl

pub kind_lookups : (id n : ℕ) (rest : List ℕ) → kind (lookups_line id n ++ rest) ≡ 34
unfolding kind first_word place_in firsts
kind_lookups id n rest = refl

pub kind_total : (ws : List (List ℕ)) (w : List ℕ) (rest : List ℕ) → kind (line (codes "total") (w ∷ ws) ++ rest) ≡ 35
unfolding kind first_word place_in firsts
kind_total ws w rest = refl

-- what follows items that begin with lines of a kind
pub after_items : {X : Type 0} (f : ℕ → X → List ℕ) (Q : ℕ → Type 0) → ((n : ℕ) (x : X) (rest : List ℕ) → Q (kind (f n x ++ rest))) → (n : ℕ) (xs : List X) (rest : List ℕ) → Q (kind rest) → Q (kind (numbered f n xs ++ rest))
unfolding numbered
after_items f Q starts n [] rest q = q
after_items f Q starts n (x ∷ xs) rest q = subst (λ (t : List ℕ). Q (kind t)) (sym (append_assoc (f n x) (numbered f (n + 1) xs) rest)) (starts n x (numbered f (n + 1) xs ++ rest))

-- items one behind another are parted in one way
pub section : {X : Type 0} (f : ℕ → X → List ℕ) (P : X → Type 0) (R : X → X → Type 0) (Own Next : ℕ → Type 0)
    → ((n : ℕ) (x : X) (rest : List ℕ) → Own (kind (f n x ++ rest)))
    → ((n : ℕ) (x : X) (rest : List ℕ) → Next (kind (f n x ++ rest)))
    → ((n m : ℕ) (x y : X) (rest rest' : List ℕ) → P x → P y → Next (kind rest) → Next (kind rest') → f n x ++ rest ≡ f m y ++ rest' → R x y × (rest ≡ rest'))
    → (n m : ℕ) (xs ys : List X) (rest rest' : List ℕ) → AllByRecursion P xs → AllByRecursion P ys → (Own (kind rest) → ⊥) → (Own (kind rest') → ⊥) → Next (kind rest) → Next (kind rest')
    → numbered f n xs ++ rest ≡ numbered f m ys ++ rest' → AllZip R xs ys × (rest ≡ rest')
unfolding numbered
section f P R Own Next starts goes one n m [] [] rest rest' p q a b c d e = (tt, e)
section f P R Own Next starts goes one n m [] (y ∷ ys) rest rest' p q a b c d e =
    absurd (a (subst (λ (t : List ℕ). Own (kind t)) (sym (e ∙ append_assoc (f m y) (numbered f (m + 1) ys) rest')) (starts m y (numbered f (m + 1) ys ++ rest'))))
section f P R Own Next starts goes one n m (x ∷ xs) [] rest rest' p q a b c d e =
    absurd (b (subst (λ (t : List ℕ). Own (kind t)) (sym (append_assoc (f n x) (numbered f (n + 1) xs) rest) ∙ e) (starts n x (numbered f (n + 1) xs ++ rest))))
section f P R Own Next starts goes one n m (x ∷ xs) (y ∷ ys) rest rest' p q a b c d e =
    let here = one n m x y (numbered f (n + 1) xs ++ rest) (numbered f (m + 1) ys ++ rest') p.0 q.0 (after_items f Next goes (n + 1) xs rest c) (after_items f Next goes (m + 1) ys rest' d)
    (sym (append_assoc (f n x) (numbered f (n + 1) xs) rest) ∙ e ∙ append_assoc (f m y) (numbered f (m + 1) ys) rest') in
    let more = section f P R Own Next starts goes one (n + 1) (m + 1) xs ys rest rest' p.1 q.1 a b c d here.1 in
    ((here.0, more.0), more.1)

-- two lists that agree element by element are the same
pub zip_same : {X : Type 0} (xs ys : List X) → AllZip (λ x y. x ≡ y) xs ys → xs ≡ ys
zip_same [] [] h = refl
zip_same [] (y ∷ ys) h = absurd h
zip_same (x ∷ xs) [] h = absurd h
zip_same (x ∷ xs) (y ∷ ys) h = let e = h.0 in let f = zip_same xs ys h.1 in cc

-- lines one behind another, each of one item
pub lines_once : {X : Type 0} (read : List ℕ → List (List ℕ) → X) (f : ℕ → X → List ℕ) (P : X → Type 0) (Own : ℕ → Type 0)
    → ((n : ℕ) (x : X) (rest : List ℕ) → Own (kind (f n x ++ rest)))
    → ((n : ℕ) (x : X) → P x → Printed X read x (f n x))
    → (n m : ℕ) (xs ys : List X) (rest rest' : List ℕ) → AllByRecursion P xs → AllByRecursion P ys → (Own (kind rest) → ⊥) → (Own (kind rest') → ⊥)
    → numbered f n xs ++ rest ≡ numbered f m ys ++ rest' → (xs ≡ ys) × (rest ≡ rest')
lines_once read f P Own starts prints n m xs ys rest rest' p q a b e =
    let both = section f P (λ x y. x ≡ y) Own (λ k. Unit {0}) starts (λ n x rest. tt)
    (λ n m x y rest rest' p q c d e. one_line read x y (f n x) (f m y) rest rest' (prints n x p) (prints m y q) e) n m xs ys rest rest' p q a b tt tt e in
    (zip_same xs ys both.0, both.1)

-- lines that don't say their number are numbered too
pub flat_numbered : {X : Type 0} (f : X → List ℕ) (n : ℕ) (xs : List X) → flat_map f xs ≡ numbered (λ (i : ℕ) (x : X). f x) n xs
unfolding numbered
flat_numbered f n [] = refl
flat_numbered f n (x ∷ xs) = ap (λ (t : List ℕ). f x ++ t) (flat_numbered f (n + 1) xs)

-- the same of items without numbers
pub flat_once : {X : Type 0} (read : List ℕ → List (List ℕ) → X) (f : X → List ℕ) (P : X → Type 0) (Own : ℕ → Type 0)
    → ((x : X) (rest : List ℕ) → Own (kind (f x ++ rest)))
    → ((x : X) → P x → Printed X read x (f x))
    → (xs ys : List X) (rest rest' : List ℕ) → AllByRecursion P xs → AllByRecursion P ys → (Own (kind rest) → ⊥) → (Own (kind rest') → ⊥)
    → flat_map f xs ++ rest ≡ flat_map f ys ++ rest' → (xs ≡ ys) × (rest ≡ rest')
flat_once read f P Own starts prints xs ys rest rest' p q a b e =
    lines_once read (λ i x. f x) P Own (λ n x rest. starts x rest) (λ n x h. prints x h) 0 0 xs ys rest rest' p q a b
    (ap (λ (t : List ℕ). t ++ rest) (sym (flat_numbered f 0 xs)) ∙ e ∙ ap (λ (t : List ℕ). t ++ rest') (flat_numbered f 0 ys))

-- what holds of the kind of each line and of what follows holds of the kind of the whole
pub after_flat : {X : Type 0} (f : X → List ℕ) (Q : ℕ → Type 0) → ((x : X) (rest : List ℕ) → Q (kind (f x ++ rest))) → (xs : List X) (rest : List ℕ) → Q (kind rest) → Q (kind (flat_map f xs ++ rest))
after_flat f Q starts xs rest q = subst (λ (t : List ℕ). Q (kind (t ++ rest))) (sym (flat_numbered f 0 xs)) (after_items (λ i x. f x) Q (λ n x rest. starts x rest) 0 xs rest q)

-- every item is one of which nothing is known
pub all_any : {X : Type 0} (xs : List X) → AllByRecursion (λ (x : X). Unit {0}) xs
all_any [] = tt
all_any (x ∷ xs) = (tt, all_any xs)

-- lines one behind another, where each item has its line
pub lines_each : {X : Type 0} (read : List ℕ → List (List ℕ) → X) (f : ℕ → X → List ℕ) (Own : ℕ → Type 0)
    → ((n : ℕ) (x : X) (rest : List ℕ) → Own (kind (f n x ++ rest)))
    → ((n : ℕ) (x : X) → Printed X read x (f n x))
    → (n m : ℕ) (xs ys : List X) (rest rest' : List ℕ) → (Own (kind rest) → ⊥) → (Own (kind rest') → ⊥)
    → numbered f n xs ++ rest ≡ numbered f m ys ++ rest' → (xs ≡ ys) × (rest ≡ rest')
lines_each read f Own starts prints n m xs ys rest rest' a b e = lines_once read f (λ x. Unit {0}) Own starts (λ n x h. prints n x) n m xs ys rest rest' (all_any xs) (all_any ys) a b e

-- the same of items without numbers
pub flat_each : {X : Type 0} (read : List ℕ → List (List ℕ) → X) (f : X → List ℕ) (Own : ℕ → Type 0)
    → ((x : X) (rest : List ℕ) → Own (kind (f x ++ rest)))
    → ((x : X) → Printed X read x (f x))
    → (xs ys : List X) (rest rest' : List ℕ) → (Own (kind rest) → ⊥) → (Own (kind rest') → ⊥)
    → flat_map f xs ++ rest ≡ flat_map f ys ++ rest' → (xs ≡ ys) × (rest ≡ rest')
flat_each read f Own starts prints xs ys rest rest' a b e = flat_once read f (λ x. Unit {0}) Own starts (λ x h. prints x) xs ys rest rest' (all_any xs) (all_any ys) a b e

-- what holds of each of two lists' items holds of each of both
pub all_both : {X : Type 0} (P Q : X → Type 0) (xs : List X) → AllByRecursion P xs → AllByRecursion Q xs → AllByRecursion (λ x. P x × Q x) xs
all_both P Q [] h k = tt
all_both P Q (x ∷ xs) h k = ((h.0, k.0), all_both P Q xs h.1 k.1)

all_parts : {X : Type 0} (P : X → Type 0) (xs ys : List X) → AllByRecursion P (xs ++ ys) → AllByRecursion P xs × AllByRecursion P ys
all_parts P [] ys h = (tt, h)
all_parts P (x ∷ xs) ys h = let more = all_parts P xs ys h.1 in ((h.0, more.0), more.1)

-- what holds of each element holds of each of the first ones and of each of the others
pub all_taken : {X : Type 0} (P : X → Type 0) (n : ℕ) (xs : List X) → AllByRecursion P xs → AllByRecursion P (take n xs) × AllByRecursion P (drop n xs)
all_taken P n xs h = all_parts P (take n xs) (drop n xs) (subst (λ ys. AllByRecursion P ys) (sym (take-append-drop n xs)) h)
