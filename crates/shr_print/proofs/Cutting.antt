-- SPDX-License-Identifier: GPL-2.0-only
-- One cut more.
use Rattle.std.proofs.Common.{◌≡◌, ℕ, zero, suc, ◌+◌, ◌-◌, ◌<◌, ◌≤◌, ⊎_elim, List, [], ◌∷◌, ◌++◌, length, drop, refl, sym, subst, ap, ◌∙◌, arith, length-drop}
use Rattle.std.proofs.Math.Seq.{length-take-le}
use Rattle.std.proofs.lemmas.List.{length_push, get_or_append_left, get_or_push, get_or-drop, get_or-take}
use Rattle.std.proofs.lemmas.Bool.{cases_eq}
use Rattle.shr_print.specs.Cuts.{AreRising, AreCuts, IsCutTo, cut_at, last_cut}
use Rattle.shr_print.specs.Runs.{run_of}

-- the first
pub cut_first : AreCuts (0 ∷ []) 0
cut_first = record {
  rising = record {
    some = omega arith;
    rising = λ i lt. absurd (omega (arith, lt));
    within = λ i lt. let e : i ≡ 0 = omega (arith, lt) in subst (λ k. cut_at (0 ∷ []) k ≤ 0) (sym e) (omega arith);
  };
  first = refl;
  last = refl;
}

-- one behind them
cut_more : (cuts : List ℕ) (a b : ℕ) → AreCuts cuts a → a ≤ b → AreCuts (cuts ++ b ∷ []) b
cut_more cuts a b h le =
    let long = length_push cuts b in
    let some = h.rising.some in
    record {
      rising = record {
        some = omega (arith, long);
        rising = λ i lt. ⊎_elim
            (λ at_end. let here : i ≡ length cuts - 1 = omega (arith, at_end, some) in
            omega (arith, ap (cut_at cuts) here, h.last, get_or_append_left cuts (b ∷ []) 0 i (omega (arith, here, some)), get_or_push cuts b 0 (i + 1) (sym at_end)))
            (λ other. omega (arith, h.rising.rising i (omega (arith, long, lt, other)), get_or_append_left cuts (b ∷ []) 0 i (omega (arith, long, lt, other)), get_or_append_left cuts (b ∷ []) 0 (i + 1) (omega (arith, long, lt, other))))
            (cases_eq (i + 1) (length cuts));
        within = λ i lt. ⊎_elim
            (λ at_end. omega (arith, get_or_push cuts b 0 i (sym at_end)))
            (λ other. omega (arith, le, h.rising.within i (omega (arith, long, lt, other)), get_or_append_left cuts (b ∷ []) 0 i (omega (arith, long, lt, other))))
            (cases_eq i (length cuts));
      };
      first = get_or_append_left cuts (b ∷ []) 0 0 some ∙ h.first;
      last = get_or_push cuts b 0 (length (cuts ++ b ∷ []) - 1) (omega (arith, long));
    }

-- the same behind an item that stands no earlier than the last cut
pub cut_behind : (cuts : List ℕ) (at : ℕ) → IsCutTo cuts at → AreCuts (cuts ++ at ∷ []) at
cut_behind cuts at up = cut_more cuts up.0 at up.1.0 up.1.1

-- those of no more than so many items are of no more than more
pub cut_later : (cuts : List ℕ) (at to : ℕ) → IsCutTo cuts at → at ≤ to → IsCutTo cuts to
cut_later cuts at to up le = (up.0, (up.1.0, omega (arith, up.1.1, le)))

-- a cut of a run of cuts
pub cut_of_run : (cuts : List ℕ) (from to i : ℕ) → i < to - from → cut_at (run_of from to cuts) i ≡ cut_at cuts (from + i)
cut_of_run cuts from to i lt = get_or-take (to - from) (drop from cuts) i 0 lt ∙ get_or-drop from cuts i 0

-- how many cuts a run has
pub run_length : (cuts : List ℕ) (from to : ℕ) → from ≤ to → to ≤ length cuts → length (run_of from to cuts) ≡ to - from
run_length cuts from to le within = length-take-le (to - from) (drop from cuts) (omega (arith, le, within, length-drop from cuts))

-- a run of cuts rises
pub run_rising : (cuts : List ℕ) (size from to : ℕ) → AreRising cuts size → from < to → to ≤ length cuts → AreRising (run_of from to cuts) size
run_rising cuts size from to h lt within =
    let long = run_length cuts from to (omega (arith, lt)) within in
    record {
      some = omega (arith, long, lt);
      rising = λ i inside.
          let e : from + (i + 1) ≡ from + i + 1 = omega arith in
          omega (arith, cut_of_run cuts from to i (omega (arith, inside, long)), cut_of_run cuts from to (i + 1) (omega (arith, inside, long)), ap (cut_at cuts) e, h.rising (from + i) (omega (arith, inside, long, within, lt)));
      within = λ i inside. omega (arith, cut_of_run cuts from to i (omega (arith, inside, long)), h.within (from + i) (omega (arith, inside, long, within, lt)));
    }

-- the last of a run of cuts
pub run_last : (cuts : List ℕ) (from to : ℕ) → from ≤ to → to < length cuts → last_cut (run_of from (to + 1) cuts) ≡ cut_at cuts to
run_last cuts from to le within =
    let long = run_length cuts from (to + 1) (omega (arith, le)) (omega (arith, within)) in
    let last : length (run_of from (to + 1) cuts) - 1 ≡ to - from = omega (arith, long, le) in
    let here : from + (to - from) ≡ to = omega (arith, le) in
    ap (cut_at (run_of from (to + 1) cuts)) last ∙ cut_of_run cuts from (to + 1) (to - from) (omega (arith, le)) ∙ ap (cut_at cuts) here

-- the first
pub run_first : (cuts : List ℕ) (from to : ℕ) → from < to → cut_at (run_of from to cuts) 0 ≡ cut_at cuts from
run_first cuts from to lt =
    let here : from + 0 ≡ from = omega arith in
    cut_of_run cuts from to 0 (omega (arith, lt)) ∙ ap (cut_at cuts) here

-- a cut stands no earlier than one some before it
later_cut : (cuts : List ℕ) (size i n : ℕ) → AreRising cuts size → i + n < length cuts → cut_at cuts i ≤ cut_at cuts (i + n)
later_cut cuts size i zero h lt = let e : i + 0 ≡ i = omega arith in omega (arith, ap (cut_at cuts) e)
later_cut cuts size i (suc n) h lt =
    let e : i + suc n ≡ i + n + 1 = omega arith in
    omega (arith, later_cut cuts size i n h (omega (arith, lt)), h.rising (i + n) (omega (arith, lt)), ap (cut_at cuts) e)

-- the same of any two
pub risen : (cuts : List ℕ) (size i j : ℕ) → AreRising cuts size → i ≤ j → j < length cuts → cut_at cuts i ≤ cut_at cuts j
risen cuts size i j h le lt =
    let e : i + (j - i) ≡ j = omega (arith, le) in
    omega (arith, later_cut cuts size i (j - i) h (omega (arith, e, lt)), ap (cut_at cuts) e)
