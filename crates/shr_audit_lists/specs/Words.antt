-- SPDX-License-Identifier: GPL-2.0-only
-- The bit words that are printed, by node, group and unit. No public clause cites this.
use Rattle.std.specs.Prelude.{◌≡◌, ℕ, ◌+◌, ◌*◌, ◌==◌, nat_eq, List, find, Option, option_map}
use Rattle.std.specs.declared.hash.FoldHasher.{FoldHasher}
use Rattle.std.specs.declared.hash.BuildHasherDefault.{BuildHasherDefault}
use Rattle.std.specs.HashMap.{get, HashMap}
use Rattle.shr_base.specs.declared.ends.MapEnd.{MapEnd}

-- a node, a group and a unit by one number
abbrev pub word_key : ℕ → ℕ → ℕ → ℕ
word_key node group unit = 4294967296 * node + 65536 * group + unit

-- those of a word
abbrev pub map_key : MapEnd → ℕ
map_key m = word_key m.node m.group m.unit

-- the first word with this number
abbrev pub word_at : ℕ → List MapEnd → Option ℕ
word_at key maps = option_map (λ (m : MapEnd). m.bits) (find (λ (m : MapEnd). map_key m == key) maps)

-- a table of words by their numbers
abbrev pub Words : Type 0
Words = HashMap ℕ ℕ (BuildHasherDefault FoldHasher)

-- it has the first of these words with each number
abbrev pub AreWords : List MapEnd → Words → Type 0
AreWords maps w = (key : ℕ) → get nat_eq w key ≡ word_at key maps
