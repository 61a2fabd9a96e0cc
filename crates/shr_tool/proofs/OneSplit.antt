-- SPDX-License-Identifier: GPL-2.0-only
-- Bytes are split in one way.
use Rattle.shr_tool.proofs.Common.{◌≡◌, ◌∙◌, ℕ, ◌⊎◌, inl, inr, true, false, List, [], ◌∷◌, ◌++◌, refl, sym, ap, ap₂, append_assoc, codes, AllByRecursion, append-nil, list_all-append, differs, is_part_of, IsOtherLine, IsSplit, with_feeds, Parts, cut, HasEndLine, HasNoEnd}
use Rattle.shr_model.proofs.PiecesLaws.{and_true, cut_first}

append_same : (a x y : List ℕ) → a ++ x ≡ a ++ y → x ≡ y
append_same [] x y e = e
append_same (b ∷ bs) x y e = append_same bs x y (tails (bs ++ x) (bs ++ y) e)
  where
    tails : (u v : List ℕ) → b ∷ u ≡ b ∷ v → u ≡ v
    tails u v h = cc

-- the line before the first line feed
same_line : (a b x y : List ℕ) → is_part_of 10 a ≡ true → is_part_of 10 b ≡ true → a ++ 10 ∷ x ≡ b ++ 10 ∷ y → a ≡ b
same_line a b x y one other e = sym (ap (λ (p : Parts). p.first) (cut_first 10 a x one)) ∙ ap (λ l. (cut 10 l).first) e ∙ ap (λ (p : Parts). p.first) (cut_first 10 b y other)

-- and what is behind it
same_rest : (a b x y : List ℕ) → a ≡ b → a ++ 10 ∷ x ≡ b ++ 10 ∷ y → x ≡ y
same_rest a b x y same e = tails (append_same b (10 ∷ x) (10 ∷ y) (ap (λ l. l ++ 10 ∷ x) (sym same) ∙ e))
  where
    tails : 10 ∷ x ≡ 10 ∷ y → x ≡ y
    tails h = cc

no_feed : (a x : List ℕ) → is_part_of 10 (a ++ 10 ∷ x) ≡ true → ⊥
no_feed a x h = let no = (and_true _ _ (sym (list_all-append (differs 10) a (10 ∷ x)) ∙ h)).1 in stray no
  where
    stray : false ≡ true → ⊥
    stray e = absurd cc

first_line : (l : List ℕ) (ls : List (List ℕ)) (t : List ℕ) → with_feeds (l ∷ ls) ++ t ≡ l ++ 10 ∷ (with_feeds ls ++ t)
first_line l ls t = append_assoc (l ++ codes "\n") (with_feeds ls) t ∙ append_assoc l (codes "\n") (with_feeds ls ++ t)

-- other lines before two ends are the same
ends_there : (ls ms : List (List ℕ)) (x y : List ℕ) → AllByRecursion IsOtherLine ls → AllByRecursion IsOtherLine ms → with_feeds ls ++ (codes "end\n" ++ x) ≡ with_feeds ms ++ (codes "end\n" ++ y) → (with_feeds ls ≡ with_feeds ms) × (x ≡ y)
ends_there [] [] x y h k e = (refl, append_same (codes "end\n") x y e)
ends_there [] (m ∷ ms) x y h k e = absurd (k.0.other (sym (same_line (codes "end") m x (with_feeds ms ++ (codes "end\n" ++ y)) refl k.0.one (e ∙ first_line m ms (codes "end\n" ++ y)))))
ends_there (l ∷ ls) [] x y h k e = absurd (h.0.other (same_line l (codes "end") (with_feeds ls ++ (codes "end\n" ++ x)) y h.0.one refl (sym (first_line l ls (codes "end\n" ++ x)) ∙ e)))
ends_there (l ∷ ls) (m ∷ ms) x y h k e =
    let f = sym (first_line l ls (codes "end\n" ++ x)) ∙ e ∙ first_line m ms (codes "end\n" ++ y) in
    let same = same_line l m (with_feeds ls ++ (codes "end\n" ++ x)) (with_feeds ms ++ (codes "end\n" ++ y)) h.0.one k.0.one f in
    let more = ends_there ls ms x y h.1 k.1 (same_rest l m _ _ same f) in
    (ap₂ (λ a b. (a ++ codes "\n") ++ b) same more.0, more.1)

-- where a line is `end`, one is
has_line : (ls ms : List (List ℕ)) (x last : List ℕ) → AllByRecursion IsOtherLine ls → AllByRecursion IsOtherLine ms → is_part_of 10 last ≡ true → with_feeds ls ++ (codes "end\n" ++ x) ≡ with_feeds ms ++ last → ⊥
has_line [] [] x last h k one e = no_feed (codes "end") x (ap (is_part_of 10) e ∙ one)
has_line [] (m ∷ ms) x last h k one e = k.0.other (sym (same_line (codes "end") m x (with_feeds ms ++ last) refl k.0.one (e ∙ first_line m ms last)))
has_line (l ∷ ls) [] x last h k one e = no_feed l (with_feeds ls ++ (codes "end\n" ++ x)) (ap (is_part_of 10) (sym (first_line l ls (codes "end\n" ++ x)) ∙ e) ∙ one)
has_line (l ∷ ls) (m ∷ ms) x last h k one e =
    let f = sym (first_line l ls (codes "end\n" ++ x)) ∙ e ∙ first_line m ms last in
    let same = same_line l m (with_feeds ls ++ (codes "end\n" ++ x)) (with_feeds ms ++ last) h.0.one k.0.one f in
    has_line ls ms x last h.1 k.1 one (same_rest l m _ _ same f)

-- the bytes up to the end of a script with an `end`, and behind it
laid_out : (script report : List ℕ) (h : HasEndLine script) → script ++ report ≡ with_feeds h.others.lines ++ (codes "end\n" ++ report)
laid_out script report h = ap (λ s. s ++ report) (h.is ∙ ap (λ b. b ++ codes "end\n") h.others.are) ∙ append_assoc (with_feeds h.others.lines) (codes "end\n") report

laid_open : (script report : List ℕ) (h : HasNoEnd script) → report ≡ [] → script ++ report ≡ with_feeds h.others.lines ++ h.last
laid_open script report h none = ap (λ r. script ++ r) none ∙ append-nil script ∙ h.is ∙ ap (λ b. b ++ h.last) h.others.are

-- bytes are split into one script and one report
pub one_split : (bytes script report other another : List ℕ) → IsSplit bytes script report → IsSplit bytes other another → (script ≡ other) × (report ≡ another)
one_split bytes script report other another h k = by_cases h.ending k.ending
  where
    same : script ++ report ≡ other ++ another
    same = h.whole ∙ sym k.whole

    by_cases : HasEndLine script ⊎ (HasNoEnd script × (report ≡ [])) → HasEndLine other ⊎ (HasNoEnd other × (another ≡ [])) → (script ≡ other) × (report ≡ another)
    by_cases (inl f) (inl g) =
        let both = ends_there f.others.lines g.others.lines report another f.others.others g.others.others (sym (laid_out script report f) ∙ same ∙ laid_out other another g) in
        (f.is ∙ ap (λ b. b ++ codes "end\n") (f.others.are ∙ both.0 ∙ sym g.others.are) ∙ sym g.is, both.1)
    by_cases (inl f) (inr g) = absurd (has_line f.others.lines g.0.others.lines report g.0.last f.others.others g.0.others.others g.0.one (sym (laid_out script report f) ∙ same ∙ laid_open other another g.0 g.1))
    by_cases (inr f) (inl g) = absurd (has_line g.others.lines f.0.others.lines another f.0.last g.others.others f.0.others.others f.0.one (sym (laid_out other another g) ∙ sym same ∙ laid_open script report f.0 f.1))
    by_cases (inr f) (inr g) = (sym (append-nil script) ∙ ap (λ r. script ++ r) (sym f.1) ∙ same ∙ ap (λ r. other ++ r) g.1 ∙ append-nil other, f.1 ∙ sym g.1)
