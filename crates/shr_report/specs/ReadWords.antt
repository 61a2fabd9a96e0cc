-- SPDX-License-Identifier: GPL-2.0-only
-- Numbers and words of a line read back. No clause cites this: the proof that a text determines its report does, and so may
-- what reads reports.
use Rattle.std.specs.Prelude.{ℕ, ◌+◌, ◌*◌, ◌-◌, ◌==◌, nat_lt, bytes_eq, codes, if◌then◌else◌, cond, Bool, true, false, List, [], ◌∷◌, map, ℤ, pos, negsuc}
use Rattle.std.specs.Int.Digits.{number_from_digits}
use Rattle.shr_base.specs.declared.places.Place.{Place}
use Rattle.shr_base.specs.declared.places.Serial.{Serial}
use Rattle.shr_base.specs.declared.places.At.{At}
use Rattle.shr_base.specs.declared.replies.Spent.{Spent}
use Rattle.shr_base.specs.declared.replies.Spent.TheVariants as spent
use Rattle.shr_base.specs.declared.replies.HalfWhy.{HalfWhy}
use Rattle.shr_base.specs.declared.replies.HalfWhy.TheVariants as why
use Rattle.shr_base.specs.declared.replies.IsolateEnd.{IsolateEnd}
use Rattle.shr_base.specs.declared.replies.IsolateEnd.TheVariants as isolate
use Rattle.shr_base.specs.declared.walks.Ending.{Ending}
use Rattle.shr_base.specs.declared.walks.Ending.TheVariants as ending
use Rattle.shr_base.specs.declared.walks.PassRecord.{PassRecord}

-- the number that a word writes
unfoldable pub num : List ℕ → ℕ
num w = number_from_digits 10 (map (λ c. c - 48) w)

-- the number that a hexadecimal digit says
unfoldable pub digit_of : ℕ → ℕ
digit_of d = if nat_lt d 58 then d - 48 else d - 87

-- hexadecimal digits put behind those of a number
unfoldable pub hex_onto : ℕ → List ℕ → ℕ
hex_onto n [] = n
hex_onto n (d ∷ ds) = hex_onto (16 * n + digit_of d) ds

-- the number that hexadecimal digits say
unfoldable pub unhex : List ℕ → ℕ
unhex w = hex_onto 0 w

-- a word begins with a `-`
unfoldable pub starts_minus : List ℕ → Bool
starts_minus [] = false
starts_minus (b ∷ bs) = b == 45

-- the bytes behind the first
unfoldable pub later_bytes : List ℕ → List ℕ
later_bytes [] = []
later_bytes (b ∷ bs) = bs

-- the signed number that a word writes
unfoldable pub signed_num : List ℕ → ℤ
signed_num w = cond (starts_minus w) (negsuc (num (later_bytes w) - 1)) (pos (num w))

-- the first of some words
abbrev pub first_of : List (List ℕ) → List ℕ
first_of [] = []
first_of (w ∷ ws) = w

-- the words behind the first
abbrev pub later : List (List ℕ) → List (List ℕ)
later [] = []
later (w ∷ ws) = ws

-- no words
abbrev pub is_none : List (List ℕ) → Bool
is_none [] = true
is_none (w ∷ ws) = false

-- the bytes behind the first
abbrev pub bytes_later : List ℕ → List ℕ
bytes_later [] = []
bytes_later (b ∷ bs) = bs

-- the word with number 0, from 0
abbrev pub w0 : List (List ℕ) → List ℕ
w0 ws = first_of ws

-- the number that it writes
abbrev pub n0 : List (List ℕ) → ℕ
n0 ws = num (w0 ws)

-- the word with number 1, from 0
abbrev pub w1 : List (List ℕ) → List ℕ
w1 ws = first_of (later ws)

-- the number that it writes
abbrev pub n1 : List (List ℕ) → ℕ
n1 ws = num (w1 ws)

-- the word with number 2, from 0
abbrev pub w2 : List (List ℕ) → List ℕ
w2 ws = first_of (later (later ws))

-- the number that it writes
abbrev pub n2 : List (List ℕ) → ℕ
n2 ws = num (w2 ws)

-- the word with number 3, from 0
abbrev pub w3 : List (List ℕ) → List ℕ
w3 ws = first_of (later (later (later ws)))

-- the number that it writes
abbrev pub n3 : List (List ℕ) → ℕ
n3 ws = num (w3 ws)

-- the word with number 4, from 0
abbrev pub w4 : List (List ℕ) → List ℕ
w4 ws = first_of (later (later (later (later ws))))

-- the number that it writes
abbrev pub n4 : List (List ℕ) → ℕ
n4 ws = num (w4 ws)

-- the word with number 5, from 0
abbrev pub w5 : List (List ℕ) → List ℕ
w5 ws = first_of (later (later (later (later (later ws)))))

-- the number that it writes
abbrev pub n5 : List (List ℕ) → ℕ
n5 ws = num (w5 ws)

-- the word with number 6, from 0
abbrev pub w6 : List (List ℕ) → List ℕ
w6 ws = first_of (later (later (later (later (later (later ws))))))

-- the number that it writes
abbrev pub n6 : List (List ℕ) → ℕ
n6 ws = num (w6 ws)

-- the word with number 7, from 0
abbrev pub w7 : List (List ℕ) → List ℕ
w7 ws = first_of (later (later (later (later (later (later (later ws)))))))

-- the number that it writes
abbrev pub n7 : List (List ℕ) → ℕ
n7 ws = num (w7 ws)

-- the word with number 8, from 0
abbrev pub w8 : List (List ℕ) → List ℕ
w8 ws = first_of (later (later (later (later (later (later (later (later ws))))))))

-- the number that it writes
abbrev pub n8 : List (List ℕ) → ℕ
n8 ws = num (w8 ws)

-- the place that words say
abbrev pub read_place : List (List ℕ) → Place
read_place ws = record { id = n0 ws; node = n1 ws; group = n2 ws }

-- the entry of a place that words say
abbrev pub read_at : List (List ℕ) → At
read_at ws = record { place = read_place ws; entry = n3 ws }

-- the serial that words say
abbrev pub read_serial : List (List ℕ) → Serial
read_serial ws = record { worker = n0 ws; command = n1 ws }

-- the counter that words say is used up
unfoldable pub read_spent : List (List ℕ) → Spent
read_spent ws = if bytes_eq (w0 ws) (codes "lookups") then spent.Lookups (n1 ws) (n2 ws)
    else if bytes_eq (w0 ws) (codes "list") then spent.List (read_place (later ws)) (n4 ws) (n5 ws) else spent.Charges (n1 ws) (n2 ws)

-- the reason that words say
unfoldable pub read_why : List (List ℕ) → HalfWhy
read_why ws = if is_none (later ws) then why.Memory else why.Worn (read_spent (later ws))

-- how words say that an isolation ended
unfoldable pub read_isolate_end : List (List ℕ) → IsolateEnd
read_isolate_end ws = if bytes_eq (w0 ws) (codes "spent") then isolate.Spent else if bytes_eq (w0 ws) (codes "bare") then isolate.Bare
    else if bytes_eq (w0 ws) (codes "stop") then isolate.Stop else if bytes_eq (w0 ws) (codes "closed") then isolate.Closed
    else if bytes_eq (w0 ws) (codes "noroom") then isolate.NoRoom else isolate.Worn (read_spent (later ws))

-- how words say that a pass ended
unfoldable pub read_ending : List (List ℕ) → Ending
read_ending ws = if bytes_eq (w0 ws) (codes "through") then ending.Through else if bytes_eq (w0 ws) (codes "stop") then ending.Stop
    else if bytes_eq (w0 ws) (codes "noroom") then ending.NoRoom else ending.Worn (read_spent (later ws))

-- the pass that words say
unfoldable pub read_pass : List (List ℕ) → PassRecord
read_pass ws = record {
  len = n0 ws;
  version = n1 ws;
  nr = n2 ws;
  asks = n3 ws;
  closed = n4 ws;
  scanned = n5 ws;
  freed = n6 ws;
  next = n7 ws;
  ending = read_ending (later (later (later (later (later (later (later (later ws))))))));
}
