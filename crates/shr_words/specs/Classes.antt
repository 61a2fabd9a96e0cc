-- SPDX-License-Identifier: GPL-2.0-only
-- The classes of words, and lines as lists of them.
use Rattle.std.specs.Prelude.{◌≡◌, ℕ, ◌+◌, ◌<◌, ◌≤◌, Bool, true, if◌then◌else◌, List, [], ◌∷◌, get_or, slice_index_or, false, bytes_eq, codes, decimal, Option, Some, None, Result, Ok, Err, option_map}
use Rattle.shr_model.specs.Words.{is_key, is_value, is_name}
use Rattle.shr_model.specs.Paths.{is_path}
use Rattle.shr_base.specs.declared.objects.Policy.{Policy}
use Rattle.shr_base.specs.declared.objects.Policy.TheVariants as policies
use Rattle.shr_base.specs.declared.scripts.Code.{Code}

-- a word of a line, and its words
abbrev pub Word : Type 0
Word = List ℕ

-- ---- which words are of a class

-- how a word is tested
pub data Test : Type 0 where
  PathTest : Test
  NameTest : Test
  KeyTest : Test

-- the word meets the test
unfoldable pub passes : Test → Word → Bool
passes PathTest w = is_path w
passes NameTest w = is_name w
passes KeyTest w = is_key w

-- words of which one is to be chosen
pub data Choice : Type 0 where
  Policies : Choice
  Kinds : Choice
  Starts : Choice
  Walks : Choice
  PoolKinds : Choice

-- the words of a choice; an item of it is the place of its word among them
abbrev pub choice_words : Choice → List Word
choice_words Policies = codes "plain" ∷ codes "clock" ∷ codes "halt" ∷ []
choice_words Kinds = codes "any" ∷ codes "fs" ∷ []
choice_words Starts = codes "off" ∷ codes "on" ∷ []
choice_words Walks = codes "fs" ∷ codes "nofs" ∷ []
choice_words PoolKinds = codes "nodes" ∷ codes "flat" ∷ []

-- the place of a policy among their words
abbrev pub policy_place : Policy → ℕ
policy_place policies.Plain = 0
policy_place policies.Clock = 1
policy_place policies.Halt = 2

-- the place of a flag among the two words that tell it
abbrev pub flag_place : Bool → ℕ
flag_place b = if b then 1 else 0

-- what a word of a line must be
pub data Class : Type 0 where
  -- at least low, and below high; no number of a line is above a million
  Number : (low : ℕ) → (high : ℕ) → Class
  -- max, or a number to a million
  Limit : Class
  Plain : Test → Class
  -- a value behind its =
  Valued : Class
  -- one of words that were declared
  Listed : Test → Code → List Word → Class
  -- one of words that were declared, which is marked
  Marked : Test → Code → List Word → List Bool → Class
  Chosen : Choice → Class

-- what a word says
pub data Item : Type 0 where
  N : ℕ → Item
  L : Option ℕ → Item
  W : Word → Item

-- what an item is, where it is a number, a word or a limit
abbrev pub number_said : Item → ℕ
number_said (N n) = n
number_said x = 0

-- the same for a word, and empty where it is none
abbrev pub word_said : Item → Word
word_said (W w) = w
word_said x = []

-- the items of a line by their places
abbrev pub first : List Item → Item
first [] = N 0
first (x ∷ xs) = x

-- the items behind the first
abbrev pub behind_first : List Item → List Item
behind_first [] = []
behind_first (x ∷ xs) = xs

-- the second item of a line
abbrev pub second : List Item → Item
second xs = first (behind_first xs)

-- the third item of a line
abbrev pub third : List Item → Item
third xs = second (behind_first xs)

-- the fourth item of a line
abbrev pub fourth : List Item → Item
fourth xs = third (behind_first xs)

-- the fifth item of a line
abbrev pub fifth : List Item → Item
fifth xs = fourth (behind_first xs)

-- the sixth item of a line
abbrev pub sixth : List Item → Item
sixth xs = fifth (behind_first xs)

-- the seventh item of a line
abbrev pub seventh : List Item → Item
seventh xs = sixth (behind_first xs)

-- ---- reading a word

infixl 10 ◌>>=◌
-- what was read is handed on, and the first code ends the reading
abbrev pub ◌>>=◌ : {A B : Type 0} → Result A Code → (A → Result B Code) → Result B Code
(Ok x) >>= f = f x
(Err e) >>= f = Err e

-- the place of a word in a list
unfoldable pub place_of : Word → List Word → Option ℕ
place_of w [] = None
place_of w (v ∷ vs) = if bytes_eq w v then Some 0 else option_map (λ i. i + 1) (place_of w vs)

-- ---- the other way: what is written

-- the one spelling of a limit
abbrev pub limit_word : Option ℕ → Word
limit_word None = codes "max"
limit_word (Some n) = decimal n

-- the one spelling of an item
abbrev pub word_of : Class → Item → Word
word_of (Listed t code ws) (N i) = get_or ws i []
word_of (Marked t code ws marks) (N i) = get_or ws i []
word_of (Chosen c) (N i) = get_or (choice_words c) i []
word_of Valued (W v) = 61 ∷ v
word_of c (N n) = decimal n
word_of c (L l) = limit_word l
word_of c (W w) = w

-- the item is of the class
abbrev pub IsOfClass : Class → Item → Type 0
IsOfClass (Number low high) (N n) = (low ≤ n) × (n < high) × (n < 1000001)
IsOfClass Limit (L None) = Unit {0}
IsOfClass Limit (L (Some n)) = n < 1000001
IsOfClass (Plain t) (W w) = passes t w ≡ true
IsOfClass Valued (W v) = is_value v ≡ true
IsOfClass (Listed t code ws) (N i) = (passes t (get_or ws i []) ≡ true) × (place_of (get_or ws i []) ws ≡ Some i)
IsOfClass (Marked t code ws marks) (N i) = (passes t (get_or ws i []) ≡ true) × (place_of (get_or ws i []) ws ≡ Some i) × (slice_index_or marks i false ≡ true)
IsOfClass (Chosen c) (N i) = place_of (get_or (choice_words c) i []) (choice_words c) ≡ Some i
IsOfClass c x = ⊥

-- the words of a line that spell these items by these classes
abbrev pub words_of : List Class → List Item → List Word
words_of (c ∷ cs) (x ∷ xs) = word_of c x ∷ words_of cs xs
words_of cs xs = []

-- the items are of these classes, one for each class
abbrev pub AreOf : List Class → List Item → Type 0
AreOf [] [] = Unit {0}
AreOf (c ∷ cs) (x ∷ xs) = IsOfClass c x × AreOf cs xs
AreOf cs xs = ⊥
