-- SPDX-License-Identifier: GPL-2.0-only
-- Reading a word by its class.
use Rattle.std.specs.Prelude.{◌≡◌, ℕ, Bool, true, ◌&&◌, ◌==◌, nat_le, nat_lt, if◌then◌else◌, List, [], ◌∷◌, length, get_or, slice_index_or, false, bytes_eq, codes, Option, Some, None, Result, Ok, Err, option_map}
use Rattle.std.specs.Borrow.{Bor}
use Rattle.std.specs.List.{list_all}
use Rattle.std.specs.Str.Parse.{digits_value}
use Rattle.shr_model.specs.Words.{is_value}
use Rattle.shr_base.specs.declared.objects.Policy.{Policy}
use Rattle.shr_base.specs.declared.objects.Policy.TheVariants as policies
use Rattle.shr_base.specs.declared.scripts.Code.{Code}
use Rattle.shr_base.specs.declared.scripts.Code.TheVariants as codes_of
use Rattle.shr_model.specs.PieceParts.{left}
use Rattle.shr_words.specs.Classes.{Word, KeyTest, PathTest, Test, NameTest, passes, Choice, choice_words, Marked, Chosen, Listed, Plain, Class, Number, Valued, Limit, L, N, Item, W, number_said, word_said, first, behind_first, ◌>>=◌, place_of}

-- ---- which words are of a class

-- the code of a word that fails the test
abbrev pub test_code : Test → Code
test_code PathTest = codes_of.BadPath
test_code NameTest = codes_of.BadText
test_code KeyTest = codes_of.BadText

-- the policy at a place
abbrev pub policy_at : ℕ → Policy
policy_at i = if i == 0 then policies.Plain else (if i == 1 then policies.Clock else policies.Halt)

-- the same for a limit, and None where it is none
abbrev pub limit_said : Item → Option ℕ
limit_said (L l) = l
limit_said x = None

-- ---- reading a word

-- the byte is one of 0 to 9
abbrev pub is_digit : ℕ → Bool
is_digit b = nat_le 48 b && nat_le b 57

-- digits with no leading zero but in 0
unfoldable pub is_numeral : Word → Bool
is_numeral w = list_all is_digit w && nat_le 1 (length w) && (if get_or w 0 0 == 48 then length w == 1 else true)

-- the number that a word spells, at least low and below high, or BadNumber
unfoldable pub number_spelled : ℕ → ℕ → Word → Result ℕ Code
number_spelled low high w =
    if is_numeral w && nat_le low (digits_value 10 w) && nat_lt (digits_value 10 w) high && nat_lt (digits_value 10 w) 1000001 then Ok (digits_value 10 w) else Err codes_of.BadNumber

-- the limit that a word spells: None for max, or a number up to a million
unfoldable pub limit_spelled : Word → Result (Option ℕ) Code
limit_spelled w = if bytes_eq w (codes "max") then Ok None else (number_spelled 0 1000001 w >>= λ n. Ok (Some n))

-- the number, or the code where there is none
abbrev pub found_or : Code → Option ℕ → Result ℕ Code
found_or code None = Err code
found_or code (Some i) = Ok i

-- the word itself where it meets the test, or the test's code
unfoldable pub text_of : Test → Word → Result Word Code
text_of t w = if passes t w then Ok w else Err (test_code t)

-- the value behind the = of a word, or BadText
unfoldable pub value_of : Word → Result Word Code
value_of [] = Err codes_of.BadText
value_of (b ∷ v) = if (b == 61) && is_value v then Ok v else Err codes_of.BadText

-- the place of a word among those declared: the test's code comes first, and then the code where it
-- isn't there
unfoldable pub listed_of : Test → Code → List Word → Word → Result ℕ Code
listed_of t code ws w = if passes t w then found_or code (place_of w ws) else Err (test_code t)

-- the place of a word among those declared, where it is marked, and else the code
abbrev pub marked_of : Test → Code → List Word → List Bool → Word → Result ℕ Code
marked_of t code ws marks w = listed_of t code ws w >>= λ i. if slice_index_or marks i false then Ok i else Err code

-- the place of a word among those of a choice, or UnknownWord
unfoldable pub chosen_of : Choice → Word → Result ℕ Code
chosen_of c w = found_or codes_of.UnknownWord (place_of w (choice_words c))

-- the item that a word says by its class, or the code of its first fault
abbrev pub item_of : Class → Word → Result Item Code
item_of (Number low high) w = number_spelled low high w >>= λ n. Ok (N n)
item_of Limit w = limit_spelled w >>= λ l. Ok (L l)
item_of (Plain t) w = text_of t w >>= λ v. Ok (W v)
item_of Valued w = value_of w >>= λ v. Ok (W v)
item_of (Listed t code ws) w = listed_of t code ws w >>= λ i. Ok (N i)
item_of (Marked t code ws marks) w = marked_of t code ws marks w >>= λ i. Ok (N i)
item_of (Chosen c) w = chosen_of c w >>= λ i. Ok (N i)

-- The words are taken in order. One that is absent is Missing, one that fails its class has the
-- class's code, and one behind the last class is Trailing.
unfoldable pub taken : List Word → Result (Word × List Word) Code
taken [] = Err codes_of.Missing
taken (w ∷ ws) = Ok (w, ws)

-- no word is left, or Trailing
unfoldable pub ended : List Word → Result (Unit {0}) Code
ended [] = Ok tt
ended (w ∷ ws) = Err codes_of.Trailing

-- the next word, as an item of its class, and the words behind it
unfoldable pub item_at : Class → List Word → Result (Item × List Word) Code
item_at c ws = taken ws >>= λ w. item_of c w.0 >>= λ x. Ok (x, w.1)

-- the items that the words of a line say by these classes, or the code of the first fault
abbrev pub items_said : List Class → List Word → Result (List Item) Code
items_said [] ws = ended ws >>= λ _. Ok []
items_said (c ∷ cs) ws = item_at c ws >>= λ x. items_said cs x.1 >>= λ xs. Ok (x.0 ∷ xs)

-- ---- the other way: what is written

-- an item as it must be to be of a class
abbrev pub as_of : Class → Item → Item
as_of (Number low high) x = N (number_said x)
as_of Limit x = L (limit_said x)
as_of (Plain t) x = W (word_said x)
as_of Valued x = W (word_said x)
as_of (Listed t code ws) x = N (number_said x)
as_of (Marked t code ws marks) x = N (number_said x)
as_of (Chosen c) x = N (number_said x)

-- a line's items as they must be to be of these classes; one that is absent is taken as 0
abbrev pub shape : List Class → List Item → List Item
shape [] xs = []
shape (c ∷ cs) xs = as_of c (first xs) ∷ shape cs (behind_first xs)

-- What was returned, seen by view, is what reading gives.
abbrev pub Gives : {X Y : Type 0} → (X → Y) → Result X Code → Result Y Code → Type 0
Gives view (Ok x) read = read ≡ Ok (view x)
Gives view (Err e) read = read ≡ Err e

-- the words that are left of a line, as the code has them
abbrev pub words_left : Option (Bor (List ℕ)) → List Word
words_left rest = left 32 (option_map (λ r. r.now) rest)
