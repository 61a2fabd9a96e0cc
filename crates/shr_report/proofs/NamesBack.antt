-- SPDX-License-Identifier: GPL-2.0-only
-- The names of the pools of units and the journal of registrations are parted in one way, though the
-- lines of both begin with `pool`: a name's has two words behind that, and an entry's more.
use Rattle.shr_report.proofs.Common.{◌≡◌, ℕ, ◌+◌, true, List, [], ◌∷◌, ◌++◌, refl, sym, ap, ◌∙◌, append_assoc, AllByRecursion, is_name, PoolEntry, units_name_line, pool_entry_line, read_units_name, read_pool}
use Rattle.shr_laws.specs.Lines.{numbered}
use Rattle.shr_report.proofs.Printed.{one_line}
use Rattle.shr_report.proofs.LinesBack.{printed_pool}
use Rattle.shr_report.proofs.PlainLinesBack.{printed_units_name, count_words, counted_name, words_of, counted_pool, not_two}
use Rattle.shr_report.proofs.Sections.{kind, kind_pool, kind_units_name, lines_each}

-- the name is a word
abbrev IsNamed : List ℕ → Type 0
IsNamed w = is_name w ≡ true

-- the two are one row of names and one journal, and the same follows
pub record SameNames (ws vs : List (List ℕ)) (es fs : List PoolEntry) (rest rest' : List ℕ) : Type 0 where
  pub names : ws ≡ vs
  pub entries : es ≡ fs
  pub others : rest ≡ rest'

-- no name follows the names
no_name : (n : ℕ) (w : List ℕ) (more : List ℕ) (es : List PoolEntry) (rest : List ℕ) → IsNamed w → (kind rest ≡ 4 → ⊥) → numbered pool_entry_line 0 es ++ rest ≡ units_name_line n w ++ more → ⊥
unfolding numbered
no_name n w more [] rest h a e = a (ap kind e ∙ kind_units_name n w more)
no_name n w more (x ∷ es) rest h a e =
    let one = one_line count_words (words_of x) 2 (pool_entry_line 0 x) (units_name_line n w) (numbered pool_entry_line 1 es ++ rest) more (counted_pool 0 x) (counted_name n w h) (sym (append_assoc (pool_entry_line 0 x) (numbered pool_entry_line 1 es) rest) ∙ e) in
    not_two x one.0

joined_names : (w v : List ℕ) (ws vs : List (List ℕ)) → w ≡ v → ws ≡ vs → w ∷ ws ≡ v ∷ vs
joined_names w v ws vs e f = cc

-- a text of names and registrations is that of one row of both only
pub names_once : (n : ℕ) (ws vs : List (List ℕ)) (es fs : List PoolEntry) (rest rest' : List ℕ) → AllByRecursion IsNamed ws → AllByRecursion IsNamed vs → (kind rest ≡ 4 → ⊥) → (kind rest' ≡ 4 → ⊥)
    → numbered units_name_line n ws ++ (numbered pool_entry_line 0 es ++ rest) ≡ numbered units_name_line n vs ++ (numbered pool_entry_line 0 fs ++ rest') → SameNames ws vs es fs rest rest'
unfolding numbered
names_once n [] [] es fs rest rest' h k a b e =
    let entries = lines_each read_pool pool_entry_line (λ m. m ≡ 4) kind_pool printed_pool 0 0 es fs rest rest' a b e in
    record { names = refl; entries = entries.0; others = entries.1 }
names_once n [] (v ∷ vs) es fs rest rest' h k a b e =
    absurd (no_name n v (numbered units_name_line (n + 1) vs ++ (numbered pool_entry_line 0 fs ++ rest')) es rest k.0 a (e ∙ append_assoc (units_name_line n v) (numbered units_name_line (n + 1) vs) (numbered pool_entry_line 0 fs ++ rest')))
names_once n (w ∷ ws) [] es fs rest rest' h k a b e =
    absurd (no_name n w (numbered units_name_line (n + 1) ws ++ (numbered pool_entry_line 0 es ++ rest)) fs rest' h.0 b (sym e ∙ append_assoc (units_name_line n w) (numbered units_name_line (n + 1) ws) (numbered pool_entry_line 0 es ++ rest)))
names_once n (w ∷ ws) (v ∷ vs) es fs rest rest' h k a b e =
    let one = one_line read_units_name w v (units_name_line n w) (units_name_line n v) (numbered units_name_line (n + 1) ws ++ (numbered pool_entry_line 0 es ++ rest)) (numbered units_name_line (n + 1) vs ++ (numbered pool_entry_line 0 fs ++ rest'))
    (printed_units_name n w h.0) (printed_units_name n v k.0)
    (sym (append_assoc (units_name_line n w) (numbered units_name_line (n + 1) ws) (numbered pool_entry_line 0 es ++ rest)) ∙ e ∙ append_assoc (units_name_line n v) (numbered units_name_line (n + 1) vs) (numbered pool_entry_line 0 fs ++ rest')) in
    let more = names_once (n + 1) ws vs es fs rest rest' h.1 k.1 a b one.1 in
    record { names = joined_names w v ws vs one.0 more.names; entries = more.entries; others = more.others }
