-- SPDX-License-Identifier: GPL-2.0-only
-- Walks are parted in one way: each with its maps and its attempts.
use Rattle.shr_report.proofs.Common.{◌≡◌, ℕ, List, [], ◌∷◌, ◌++◌, drop, flat_map, refl, sym, ap, ◌∙◌, append_assoc, arith, take_while, AllByRecursion, prefix_len, take-append-drop, Serial, Attempt, MapSeen, WalkRecord, attempt_line, map_line, is_in_unit, walk_lines, IsBitWord, IsSameWalk, read_attempt, read_map, WalkHead, read_walk}
use Rattle.std.proofs.lemmas.List.Concat.{flat_map-append}
use Rattle.shr_laws.specs.WalkText.{map_lines}
use Rattle.shr_report.proofs.Printed.{one_line}
use Rattle.shr_report.proofs.LinesBack.{head_of, walk_line, printed_walk, printed_attempt, printed_map}
use Rattle.shr_report.proofs.Sections.{kind, kind_map, kind_attempt, kind_walk, flat_each, after_flat}

-- neither a map nor an attempt
abbrev pub IsPastWalk : ℕ → Type 0
IsPastWalk k = (k ≡ 10 → ⊥) × (k ≡ 11 → ⊥)

past_is : (k n : ℕ) → k ≡ n → (n ≡ 10 → ⊥) → (n ≡ 11 → ⊥) → IsPastWalk k
past_is k n e a b = (λ f. a (sym e ∙ f), λ f. b (sym e ∙ f))

attempts_once : (us bs : List Attempt) (rest rest' : List ℕ) → (kind rest ≡ 11 → ⊥) → (kind rest' ≡ 11 → ⊥)
    → flat_map attempt_line us ++ rest ≡ flat_map attempt_line bs ++ rest' → (us ≡ bs) × (rest ≡ rest')
attempts_once us bs rest rest' a b e = flat_each read_attempt attempt_line (λ n. n ≡ 11) (λ x rest. kind_attempt x rest) printed_attempt us bs rest rest' a b e

-- each is a word of bits
abbrev pub AreBitWords : List MapSeen → Type 0
AreBitWords ms = AllByRecursion (λ m. IsBitWord m.bits) ms

-- the maps of a walk are words of 64 bits
abbrev pub HasBitWords : WalkRecord → Type 0
HasBitWords w = AreBitWords w.maps.items

-- two runs of maps and attempts with one text are the same
pub record Maps (ms ns : List MapSeen) (us bs : List Attempt) (rest rest' : List ℕ) : Type 0 where
  pub maps : ms ≡ ns
  pub attempts : us ≡ bs
  pub others : rest ≡ rest'

not_map : (k : ℕ) → k ≡ 11 → k ≡ 10 → ⊥
not_map k a b = absurd (omega arith)

no_map : (us : List Attempt) (rest : List ℕ) → IsPastWalk (kind rest) → kind (flat_map attempt_line us ++ rest) ≡ 10 → ⊥
no_map us rest p = after_flat attempt_line (λ k. k ≡ 10 → ⊥) (λ x more e. not_map (kind (attempt_line x ++ more)) (kind_attempt x more) e) us rest p.0

tries_in : MapSeen → List Attempt → List ℕ
tries_in m us = flat_map attempt_line (take_while (is_in_unit m.unit) us)

after_tries : MapSeen → List Attempt → List Attempt
after_tries m us = drop (prefix_len (is_in_unit m.unit) us) us

-- the first unit, and what follows
unit_parts : (m : MapSeen) (ms : List MapSeen) (us : List Attempt) (rest : List ℕ) → map_lines (m ∷ ms) us ++ rest ≡ map_line m ++ (tries_in m us ++ (map_lines ms (after_tries m us) ++ rest))
unfolding map_lines tries_in after_tries
unit_parts m ms us rest = regrouped (map_line m) (flat_map attempt_line (take_while (is_in_unit m.unit) us)) (map_lines ms (drop (prefix_len (is_in_unit m.unit) us) us)) rest
  where
    regrouped : (a b c d : List ℕ) → (a ++ b ++ c) ++ d ≡ a ++ (b ++ (c ++ d))
    regrouped a b c d = simp append_assoc

split_tries : (m : MapSeen) (us : List Attempt) → take_while (is_in_unit m.unit) us ++ after_tries m us ≡ us
unfolding after_tries
split_tries m us = take-append-drop (prefix_len (is_in_unit m.unit) us) us

-- the last unit: all attempts that are left
last_parts : (m : MapSeen) (us : List Attempt) (rest : List ℕ) → tries_in m us ++ (map_lines [] (after_tries m us) ++ rest) ≡ flat_map attempt_line us ++ rest
unfolding map_lines tries_in
last_parts m us rest =
    sym (append_assoc (flat_map attempt_line (take_while (is_in_unit m.unit) us)) (flat_map attempt_line (after_tries m us)) rest)
    ∙ ap (λ (t : List ℕ). t ++ rest) (sym (flat_map-append attempt_line (take_while (is_in_unit m.unit) us) (after_tries m us)) ∙ ap (λ (xs : List Attempt). flat_map attempt_line xs) (split_tries m us))

map_first : (m : MapSeen) (ms : List MapSeen) (us : List Attempt) (rest : List ℕ) → kind (map_lines (m ∷ ms) us ++ rest) ≡ 10
map_first m ms us rest = ap kind (unit_parts m ms us rest) ∙ kind_map m (tries_in m us ++ (map_lines ms (after_tries m us) ++ rest))

not_try : (k : ℕ) → k ≡ 10 → k ≡ 11 → ⊥
not_try k a b = absurd (omega arith)

tries_is : (m : MapSeen) (us : List Attempt) (rest : List ℕ) → tries_in m us ++ rest ≡ flat_map attempt_line (take_while (is_in_unit m.unit) us) ++ rest
unfolding tries_in
tries_is m us rest = refl

joined_maps : (m n : MapSeen) (ms ns : List MapSeen) → m ≡ n → ms ≡ ns → m ∷ ms ≡ n ∷ ns
joined_maps m n ms ns e f = cc

joined_tries : (us bs cs ds : List Attempt) → us ≡ bs → cs ≡ ds → us ++ cs ≡ bs ++ ds
joined_tries us bs cs ds e f = cc

no_maps : (us : List Attempt) (rest : List ℕ) → map_lines [] us ++ rest ≡ flat_map attempt_line us ++ rest
unfolding map_lines
no_maps us rest = refl

-- a text of maps and attempts is that of one run of them only
pub maps_once : (ms ns : List MapSeen) (us bs : List Attempt) (rest rest' : List ℕ) → AreBitWords ms → AreBitWords ns
    → IsPastWalk (kind rest) → IsPastWalk (kind rest') → map_lines ms us ++ rest ≡ map_lines ns bs ++ rest' → Maps ms ns us bs rest rest'
maps_once [] [] us bs rest rest' f g p q e =
    let both = attempts_once us bs rest rest' p.1 q.1 (sym (no_maps us rest) ∙ e ∙ no_maps bs rest') in record { maps = refl; attempts = both.0; others = both.1 }
maps_once [] (n ∷ ns) us bs rest rest' f g p q e = absurd (no_map us rest p (ap kind (sym (no_maps us rest) ∙ e) ∙ map_first n ns bs rest'))
maps_once (m ∷ ms) [] us bs rest rest' f g p q e = absurd (no_map bs rest' q (ap kind (sym (no_maps bs rest') ∙ sym e) ∙ map_first m ms us rest))
maps_once (m ∷ []) (n ∷ []) us bs rest rest' f g p q e =
    let one = one_line read_map m n (map_line m) (map_line n) (tries_in m us ++ (map_lines [] (after_tries m us) ++ rest)) (tries_in n bs ++ (map_lines [] (after_tries n bs) ++ rest')) (printed_map m f.0) (printed_map n g.0)
    (sym (unit_parts m [] us rest) ∙ e ∙ unit_parts n [] bs rest') in
    let both = attempts_once us bs rest rest' p.1 q.1 (sym (last_parts m us rest) ∙ one.1 ∙ last_parts n bs rest') in
    record { maps = ap (λ (x : MapSeen). x ∷ []) one.0; attempts = both.0; others = both.1 }
maps_once (m ∷ []) (n ∷ n2 ∷ ns) us bs rest rest' f g p q e =
    let one = one_line read_map m n (map_line m) (map_line n) (tries_in m us ++ (map_lines [] (after_tries m us) ++ rest)) (tries_in n bs ++ (map_lines (n2 ∷ ns) (after_tries n bs) ++ rest')) (printed_map m f.0) (printed_map n g.0)
    (sym (unit_parts m [] us rest) ∙ e ∙ unit_parts n (n2 ∷ ns) bs rest') in
    let later = map_first n2 ns (after_tries n bs) rest' in
    let both = attempts_once us (take_while (is_in_unit n.unit) bs) rest (map_lines (n2 ∷ ns) (after_tries n bs) ++ rest') p.1 (not_try _ later) (sym (last_parts m us rest) ∙ one.1 ∙ tries_is n bs (map_lines (n2 ∷ ns) (after_tries n bs) ++ rest')) in
    absurd (p.0 (ap kind both.1 ∙ later))
maps_once (m ∷ m2 ∷ ms) (n ∷ []) us bs rest rest' f g p q e =
    let one = one_line read_map m n (map_line m) (map_line n) (tries_in m us ++ (map_lines (m2 ∷ ms) (after_tries m us) ++ rest)) (tries_in n bs ++ (map_lines [] (after_tries n bs) ++ rest')) (printed_map m f.0) (printed_map n g.0)
    (sym (unit_parts m (m2 ∷ ms) us rest) ∙ e ∙ unit_parts n [] bs rest') in
    let later = map_first m2 ms (after_tries m us) rest in
    let both = attempts_once (take_while (is_in_unit m.unit) us) bs (map_lines (m2 ∷ ms) (after_tries m us) ++ rest) rest' (not_try _ later) q.1 (sym (tries_is m us (map_lines (m2 ∷ ms) (after_tries m us) ++ rest)) ∙ one.1 ∙ last_parts n bs rest') in
    absurd (q.0 (sym (ap kind both.1) ∙ later))
maps_once (m ∷ m2 ∷ ms) (n ∷ n2 ∷ ns) us bs rest rest' f g p q e =
    let one = one_line read_map m n (map_line m) (map_line n) (tries_in m us ++ (map_lines (m2 ∷ ms) (after_tries m us) ++ rest)) (tries_in n bs ++ (map_lines (n2 ∷ ns) (after_tries n bs) ++ rest')) (printed_map m f.0) (printed_map n g.0)
    (sym (unit_parts m (m2 ∷ ms) us rest) ∙ e ∙ unit_parts n (n2 ∷ ns) bs rest') in
    let both = attempts_once (take_while (is_in_unit m.unit) us) (take_while (is_in_unit n.unit) bs) (map_lines (m2 ∷ ms) (after_tries m us) ++ rest) (map_lines (n2 ∷ ns) (after_tries n bs) ++ rest')
    (not_try _ (map_first m2 ms (after_tries m us) rest)) (not_try _ (map_first n2 ns (after_tries n bs) rest')) (sym (tries_is m us (map_lines (m2 ∷ ms) (after_tries m us) ++ rest)) ∙ one.1 ∙ tries_is n bs (map_lines (n2 ∷ ns) (after_tries n bs) ++ rest')) in
    let more = maps_once (m2 ∷ ms) (n2 ∷ ns) (after_tries m us) (after_tries n bs) rest rest' f.1 g.1 p q both.1 in
    record {
      maps = joined_maps m n (m2 ∷ ms) (n2 ∷ ns) one.0 more.maps;
      attempts = sym (split_tries m us) ∙ joined_tries (take_while (is_in_unit m.unit) us) (take_while (is_in_unit n.unit) bs) (after_tries m us) (after_tries n bs) both.0 more.attempts ∙ split_tries n bs;
      others = more.others;
    }

head_same : (v w : WalkRecord) → head_of v.group v.node v.priority v.nofs v.answer ≡ head_of w.group w.node w.priority w.nofs w.answer → v.by ≡ w.by → v.maps.items ≡ w.maps.items → v.attempts.items ≡ w.attempts.items → IsSameWalk v w
head_same v w e by m a = record {
  by = by;
  group = ap (λ (h : WalkHead). h.group) e;
  node = ap (λ (h : WalkHead). h.node) e;
  priority = ap (λ (h : WalkHead). h.priority) e;
  nofs = ap (λ (h : WalkHead). h.nofs) e;
  maps = m;
  attempts = a;
  answer = ap (λ (h : WalkHead). h.answer) e;
}

-- the maps of a walk are words of 64 bits, and this command made it
abbrev pub IsWalkBy : Serial → WalkRecord → Type 0
IsWalkBy by w = HasBitWords w × (w.by ≡ by)

walk_parts : (n : ℕ) (w : WalkRecord) (rest : List ℕ) → walk_lines n w ++ rest ≡ walk_line n w.group w.node w.priority w.nofs w.answer ++ (map_lines w.maps.items w.attempts.items ++ rest)
walk_parts n w rest = append_assoc (walk_line n w.group w.node w.priority w.nofs w.answer) (map_lines w.maps.items w.attempts.items) rest

-- the lines of a walk begin with its first line
pub kind_walks : (n : ℕ) (w : WalkRecord) (rest : List ℕ) → kind (walk_lines n w ++ rest) ≡ 9
kind_walks n w rest = ap kind (walk_parts n w rest) ∙ kind_walk n w.group w.node w.priority w.nofs w.answer (map_lines w.maps.items w.attempts.items ++ rest)

-- a text of a walk is that of one walk only
pub walk_once : (by : Serial) (n m : ℕ) (v w : WalkRecord) (rest rest' : List ℕ) → IsWalkBy by v → IsWalkBy by w → IsPastWalk (kind rest) → IsPastWalk (kind rest')
    → walk_lines n v ++ rest ≡ walk_lines m w ++ rest' → IsSameWalk v w × (rest ≡ rest')
walk_once by n m v w rest rest' h k p q e =
    let one = one_line read_walk (head_of v.group v.node v.priority v.nofs v.answer) (head_of w.group w.node w.priority w.nofs w.answer)
    (walk_line n v.group v.node v.priority v.nofs v.answer) (walk_line m w.group w.node w.priority w.nofs w.answer)
    (map_lines v.maps.items v.attempts.items ++ rest) (map_lines w.maps.items w.attempts.items ++ rest')
    (printed_walk n v.group v.node v.priority v.nofs v.answer)
    (printed_walk m w.group w.node w.priority w.nofs w.answer)
    (sym (walk_parts n v rest) ∙ e ∙ walk_parts m w rest') in
    let more = maps_once v.maps.items w.maps.items v.attempts.items w.attempts.items rest rest' h.0 k.0 p q one.1 in
    (head_same v w one.0 (h.1 ∙ sym k.1) more.maps more.attempts, more.others)
