-- SPDX-License-Identifier: GPL-2.0-only
-- Each line reads back as what it is of.
use Rattle.shr_report.proofs.Common.{◌≡◌, ℕ, true, List, ◌∷◌, ◌++◌, refl, sym, ap, ◌∙◌, list_all, IsolateEnd, Ending, PassRecord, line, spent_words, why_words, isolate_end_words, pass_words, ending_words}
use Rattle.shr_base.specs.declared.replies.Spent.{Spent}
use Rattle.shr_base.specs.declared.replies.Spent.TheVariants as spent
use Rattle.shr_base.specs.declared.replies.HalfWhy.{HalfWhy}
use Rattle.shr_base.specs.declared.replies.HalfWhy.TheVariants as why
use Rattle.shr_base.specs.declared.replies.IsolateEnd.TheVariants as isolate
use Rattle.shr_base.specs.declared.walks.Ending.TheVariants as ending
use Rattle.shr_report.proofs.Peel.{is_plain_word, peel}
use Rattle.shr_report.proofs.Reading.{value, plain_numeral}
use Rattle.shr_report.specs.ReadWords.{first_of, later, read_spent, read_why, read_isolate_end, read_ending, read_pass}

-- the words of a counter that is used up read back as it
pub again_spent : (s : Spent) → read_spent (spent_words s) ≡ s
unfolding read_spent
again_spent (spent.Lookups id seen) = rw (value id, value seen) refl
again_spent (spent.List place entries items) = rw (value place.id, value place.node, value place.group, value entries, value items) refl
again_spent (spent.Charges charges uncharges) = rw (value charges, value uncharges) refl

pub plain_spent : (s : Spent) → list_all is_plain_word (spent_words s) ≡ true
unfolding is_plain_word
plain_spent (spent.Lookups id seen) = simp plain_numeral
plain_spent (spent.List place entries items) = simp plain_numeral
plain_spent (spent.Charges charges uncharges) = simp plain_numeral

-- the words of a reason read back as it
pub again_why : (w : HalfWhy) → read_why (why_words w) ≡ w
unfolding read_why
again_why why.Memory = refl
again_why (why.Worn (spent.Lookups id seen)) = ap why.Worn (again_spent (spent.Lookups id seen))
again_why (why.Worn (spent.List place entries items)) = ap why.Worn (again_spent (spent.List place entries items))
again_why (why.Worn (spent.Charges charges uncharges)) = ap why.Worn (again_spent (spent.Charges charges uncharges))

pub plain_why : (w : HalfWhy) → list_all is_plain_word (why_words w) ≡ true
unfolding is_plain_word
plain_why why.Memory = refl
plain_why (why.Worn s) = plain_spent s

-- the words of how an isolation ended read back as it
pub again_isolate_end : (e : IsolateEnd) → read_isolate_end (isolate_end_words e) ≡ e
unfolding read_isolate_end
again_isolate_end isolate.Spent = refl
again_isolate_end isolate.Bare = refl
again_isolate_end isolate.Stop = refl
again_isolate_end isolate.Closed = refl
again_isolate_end isolate.NoRoom = refl
again_isolate_end (isolate.Worn s) = ap isolate.Worn (again_spent s)

pub plain_isolate_end : (e : IsolateEnd) → list_all is_plain_word (isolate_end_words e) ≡ true
unfolding is_plain_word
plain_isolate_end isolate.Spent = refl
plain_isolate_end isolate.Bare = refl
plain_isolate_end isolate.Stop = refl
plain_isolate_end isolate.Closed = refl
plain_isolate_end isolate.NoRoom = refl
plain_isolate_end (isolate.Worn s) = plain_spent s

again_ending : (e : Ending) → read_ending (ending_words e) ≡ e
unfolding read_ending
again_ending ending.Through = refl
again_ending ending.Stop = refl
again_ending ending.NoRoom = refl
again_ending (ending.Worn s) = ap ending.Worn (again_spent s)

pub plain_ending : (e : Ending) → list_all is_plain_word (ending_words e) ≡ true
unfolding is_plain_word
plain_ending ending.Through = refl
plain_ending ending.Stop = refl
plain_ending ending.NoRoom = refl
plain_ending (ending.Worn s) = plain_spent s

-- the words of a pass read back as it
pub again_pass : (p : PassRecord) → read_pass (pass_words p) ≡ p
unfolding read_pass
again_pass p = rw (value p.len, value p.version, value p.nr, value p.asks, value p.closed, value p.scanned, value p.freed, value p.next, again_ending p.ending) refl

pub plain_pass : (p : PassRecord) → list_all is_plain_word (pass_words p) ≡ true
unfolding is_plain_word
plain_pass p = simp (plain_numeral, plain_ending)

-- a text is a line of words that are read back
pub record Printed (X : Type 0) (read : List ℕ → List (List ℕ) → X) (x : X) (text : List ℕ) : Type 0 where
  pub first : List ℕ
  pub words : List (List ℕ)
  pub is : text ≡ line first words
  pub plain : list_all is_plain_word (first ∷ words) ≡ true
  pub again : read first words ≡ x

-- a line reads back where its words have no separator and are read back
pub printed : {X : Type 0} (read : List ℕ → List (List ℕ) → X) (x : X) (f : List ℕ) (ws : List (List ℕ)) → list_all is_plain_word (f ∷ ws) ≡ true → read f ws ≡ x → Printed X read x (line f ws)
printed read x f ws h e = record { first = f; words = ws; is = refl; plain = h; again = e }

-- two texts that begin with such lines are the same only where the lines are of the same, and what
-- follows is the same
pub one_line : {X : Type 0} (read : List ℕ → List (List ℕ) → X) (x y : X) (a b rest rest' : List ℕ) → Printed X read x a → Printed X read y b → a ++ rest ≡ b ++ rest' → (x ≡ y) × (rest ≡ rest')
one_line read x y a b rest rest' p q e =
    let f : line p.first p.words ++ rest ≡ line q.first q.words ++ rest' = ap (λ (t : List ℕ). t ++ rest) (sym p.is) ∙ e ∙ ap (λ (t : List ℕ). t ++ rest') q.is in
    let g = peel p.first q.first p.words q.words rest rest' p.plain q.plain f in
    (sym p.again ∙ ap (λ (ws : List (List ℕ)). read (first_of ws) (later ws)) g.words ∙ q.again, g.others)
