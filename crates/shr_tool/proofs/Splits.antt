-- SPDX-License-Identifier: GPL-2.0-only
-- A script and what stands behind it, found line by line.
use Rattle.shr_tool.proofs.Common.{◌≡◌, ◌∙◌, ℕ, ◌+◌, ◌-◌, ◌≤◌, ◌<◌, inl, inr, true, false, cond, List, [], ◌∷◌, ◌++◌, length, take, get_or, refl, sym, ap, ap₂, subst, append_assoc, codes, arith, AllByRecursion, append-nil, list_all-append, differs, is_part_of, IsOtherLine, AreOtherLines, IsSplit, with_feeds, ◌≢◌, ◌&&◌, drop, ne_eqb, length-drop, take_more, get_or-drop, take-append-drop, drop_all}
use Rattle.std.proofs.Math.Seq.{take-add}
use Rattle.std.proofs.lemmas.Grind.{flat_map-append}

-- the bytes from the one place to the other
abbrev pub between : List ℕ → ℕ → ℕ → List ℕ
between bytes from to = take (to - from) (drop from bytes)

pub up_to : (bytes : List ℕ) (from to : ℕ) → from ≤ to → take to bytes ≡ take from bytes ++ between bytes from to
up_to bytes from to h = let e : to ≡ from + (to - from) = omega arith in ap (λ n. take n bytes) e ∙ take-add from (to - from) bytes

pub next_byte : (bytes : List ℕ) (from to : ℕ) → from ≤ to → to < length bytes → between bytes from (to + 1) ≡ between bytes from to ++ get_or bytes to 0 ∷ []
next_byte bytes from to h lt =
    let e : to + 1 - from ≡ (to - from) + 1 = omega arith in
    let at : from + (to - from) ≡ to = omega arith in
    let below : to - from < length (drop from bytes) = omega (arith, length-drop from bytes) in
    ap (λ n. take n (drop from bytes)) e ∙ take_more (drop from bytes) (to - from) 0 below
    ∙ ap (λ b. between bytes from to ++ b ∷ []) (get_or-drop from bytes (to - from) 0 ∙ ap (λ n. get_or bytes n 0) at)

-- a byte more that is no line feed
pub part_more : (w : List ℕ) (b : ℕ) → is_part_of 10 w ≡ true → b ≢ 10 → is_part_of 10 (w ++ b ∷ []) ≡ true
part_more w b part other =
    list_all-append (differs 10) w (b ∷ []) ∙ ap₂ (λ x y. x && (y && true)) part (ap (λ t. cond t false true) (ne_eqb b 10 other))

all_more : (P : List ℕ → Type 0) (xs : List (List ℕ)) (x : List ℕ) → AllByRecursion P xs → P x → AllByRecursion P (xs ++ x ∷ [])
all_more P [] x h p = (p, tt)
all_more P (y ∷ ys) x h p = (h.0, all_more P ys x h.1 p)

-- a line more that isn't `end`
pub lines_more : (bytes line : List ℕ) → AreOtherLines bytes → IsOtherLine line → AreOtherLines (bytes ++ line ++ codes "\n")
lines_more bytes line h other = record {
  lines = h.lines ++ line ∷ [];
  others = all_more IsOtherLine h.lines line h.others other;
  are = ap (λ xs. (xs ++ line) ++ codes "\n") h.are
      ∙ append_assoc (with_feeds h.lines) line (codes "\n")
      ∙ ap (λ xs. with_feeds h.lines ++ xs) (sym (append-nil (line ++ codes "\n")))
      ∙ sym (flat_map-append (λ (l : List ℕ). l ++ codes "\n") h.lines (line ∷ []));
}

-- the bytes up to and with a line feed
pub through_feed : (bytes : List ℕ) (from to : ℕ) → from ≤ to → to < length bytes → get_or bytes to 0 ≡ 10 → take (to + 1) bytes ≡ take from bytes ++ between bytes from to ++ codes "\n"
through_feed bytes from to h lt feed = take_more bytes to 0 lt ∙ ap₂ (λ xs b. xs ++ b ∷ []) (up_to bytes from to h) feed

-- no byte stands between a place and itself
none_between : (bytes : List ℕ) (at : ℕ) → is_part_of 10 (between bytes at at) ≡ true
none_between bytes at = let none : at - at ≡ 0 = omega arith in ap (λ n. is_part_of 10 (take n (drop at bytes))) none

-- What is known where the bytes up to the one place are other lines, and those up to the other begin a line.
pub record IsReading (bytes : List ℕ) (from to : ℕ) : Type 0 where
  pub ordered : from ≤ to
  pub others : AreOtherLines (take from bytes)
  pub one : is_part_of 10 (between bytes from to) ≡ true

-- the script ends with this line
pub split_at_end : (bytes : List ℕ) (from to : ℕ) → IsReading bytes from to → to < length bytes → get_or bytes to 0 ≡ 10 → between bytes from to ≡ codes "end" → IsSplit bytes (take (to + 1) bytes) (drop (to + 1) bytes)
split_at_end bytes from to h lt feed line = record {
  whole = take-append-drop (to + 1) bytes;
  ending = inl (record {
    before = take from bytes;
    others = h.others;
    is = through_feed bytes from to h.ordered lt feed ∙ ap (λ l. (take from bytes ++ l) ++ codes "\n") line ∙ append_assoc (take from bytes) (codes "end") (codes "\n");
  });
}

-- all is script
pub split_nowhere : (bytes : List ℕ) (from to : ℕ) → IsReading bytes from to → to ≡ length bytes → IsSplit bytes (take to bytes) (drop to bytes)
split_nowhere bytes from to h long = record {
  whole = take-append-drop to bytes;
  ending = inr (
    record {
      before = take from bytes;
      last = between bytes from to;
      others = h.others;
      one = h.one;
      is = up_to bytes from to h.ordered;
    },
    drop_all to bytes (omega (arith, long)),
  );
}

-- the line goes on
pub same_line : (bytes : List ℕ) (from to : ℕ) → IsReading bytes from to → to < length bytes → get_or bytes to 0 ≢ 10 → IsReading bytes from (to + 1)
same_line bytes from to h lt other = record {
  ordered = omega (arith, h.ordered);
  others = h.others;
  one = ap (is_part_of 10) (next_byte bytes from to h.ordered lt) ∙ part_more (between bytes from to) (get_or bytes to 0) h.one other;
}

-- another begins behind a line feed
pub past_line : (bytes : List ℕ) (from to : ℕ) → IsReading bytes from to → to < length bytes → get_or bytes to 0 ≡ 10 → between bytes from to ≢ codes "end" → IsReading bytes (to + 1) (to + 1)
past_line bytes from to h lt feed other = record {
  ordered = omega arith;
  others = subst AreOtherLines (sym (through_feed bytes from to h.ordered lt feed)) (lines_more (take from bytes) (between bytes from to) h.others (record { one = h.one; other = other }));
  one = none_between bytes (to + 1);
}

-- none has been read
pub none_read : (bytes : List ℕ) → IsReading bytes 0 0
none_read bytes = record { ordered = omega arith; others = record { lines = []; others = tt; are = refl }; one = refl }
