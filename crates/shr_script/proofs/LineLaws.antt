-- SPDX-License-Identifier: GPL-2.0-only
-- A line that was read is spelled so, and a line that is spelled is read as itself.
use Rattle.shr_script.proofs.Common.{◌≡◌, ℕ, Bool, true, false, cond, List, [], ◌∷◌, Option, Some, None, Ok, Err, refl, ap, subst, ◌∙◌, bytes_eq, option_map, bytes_eq-Decides, Code, ◌>>=◌, Word, items_said, words_of, bind_ok, ok_is, Kind, Header, Size, Group, Cache, Pool, Worker, Work, Sweep, End, Verb, Put, On, Get, Del, SetPin, Shrink, Balance, Offline, MkGroup, Register, Unregister, Isolate, Release, Grab, Phase, State, Line, first_word, misplaced, unless, is_served, allowed, classes, own, IsLine, items_take, items_again, IsClean}
use Rattle.shr_words.specs.WordReading.{taken}
use Rattle.shr_script.specs.Lines.{verb_word, unknown}
use Rattle.shr_script.specs.LineReading.{kind_of, verb_of, kind_at, plain_line}

-- ---- first words

-- the word of a command names it, and no other kind of line
pub verb_again : (v : Verb) → verb_of (verb_word v) ≡ Some v
unfolding verb_of
verb_again Put = refl
verb_again (On Get) = refl
verb_again (On Del) = refl
verb_again (On (SetPin true)) = refl
verb_again (On (SetPin false)) = refl
verb_again Shrink = refl
verb_again Balance = refl
verb_again Offline = refl
verb_again MkGroup = refl
verb_again Register = refl
verb_again Unregister = refl
verb_again Isolate = refl
verb_again Release = refl
verb_again Grab = refl

pub work_again : (v : Verb) → kind_of (verb_word v) ≡ Some (Work v)
unfolding kind_of verb_of
work_again Put = refl
work_again (On Get) = refl
work_again (On Del) = refl
work_again (On (SetPin true)) = refl
work_again (On (SetPin false)) = refl
work_again Shrink = refl
work_again Balance = refl
work_again Offline = refl
work_again MkGroup = refl
work_again Register = refl
work_again Unregister = refl
work_again Isolate = refl
work_again Release = refl
work_again Grab = refl

-- the first word of a kind names that kind
pub kind_again : (k : Kind) → kind_of (first_word k) ≡ Some k
unfolding kind_of
kind_again Header = refl
kind_again Size = refl
kind_again (Group true) = refl
kind_again (Group false) = refl
kind_again Cache = refl
kind_again Pool = refl
kind_again Worker = refl
kind_again (Work verb) = work_again verb
kind_again Sweep = refl
kind_again End = refl

-- the word of a command has no space and no line feed
verb_clean : (v : Verb) → IsClean (verb_word v)
verb_clean Put = refl
verb_clean (On Get) = refl
verb_clean (On Del) = refl
verb_clean (On (SetPin true)) = refl
verb_clean (On (SetPin false)) = refl
verb_clean Shrink = refl
verb_clean Balance = refl
verb_clean Offline = refl
verb_clean MkGroup = refl
verb_clean Register = refl
verb_clean Unregister = refl
verb_clean Isolate = refl
verb_clean Release = refl
verb_clean Grab = refl

-- the first word of a kind has no space and no line feed
pub first_clean : (k : Kind) → IsClean (first_word k)
first_clean Header = refl
first_clean Size = refl
first_clean (Group true) = refl
first_clean (Group false) = refl
first_clean Cache = refl
first_clean Pool = refl
first_clean Worker = refl
first_clean (Work verb) = verb_clean verb
first_clean Sweep = refl
first_clean End = refl

-- one test of a chain of words
names : {K : Type 0} (word : K → Word) (w : Word) (j : K) (t : Bool) (others : Option K) (k : K) → bytes_eq w (word j) ≡ t → cond t (Some j) others ≡ Some k → (others ≡ Some k → w ≡ word k) → w ≡ word k
names word w j true others k is e more = let s : j ≡ k = cc in (bytes_eq-Decides w (word j)).0 is ∙ ap word s
names word w j false others k is e more = more e

none : {K : Type 0} (word : K → Word) (w : Word) (k : K) → None ≡ Some k → w ≡ word k
none word w k e = absurd cc

-- a word that names a command is its word
verb_takes : (w : Word) (v : Verb) → verb_of w ≡ Some v → w ≡ verb_word v
unfolding verb_of
verb_takes w v e =
    names verb_word w Put (bytes_eq w (verb_word Put)) _ v refl e (λ e.
    names verb_word w (On Get) (bytes_eq w (verb_word (On Get))) _ v refl e (λ e.
    names verb_word w (On Del) (bytes_eq w (verb_word (On Del))) _ v refl e (λ e.
    names verb_word w (On (SetPin true)) (bytes_eq w (verb_word (On (SetPin true)))) _ v refl e (λ e.
    names verb_word w (On (SetPin false)) (bytes_eq w (verb_word (On (SetPin false)))) _ v refl e (λ e.
    names verb_word w Shrink (bytes_eq w (verb_word Shrink)) _ v refl e (λ e.
    names verb_word w Balance (bytes_eq w (verb_word Balance)) _ v refl e (λ e.
    names verb_word w Offline (bytes_eq w (verb_word Offline)) _ v refl e (λ e.
    names verb_word w MkGroup (bytes_eq w (verb_word MkGroup)) _ v refl e (λ e.
    names verb_word w Register (bytes_eq w (verb_word Register)) _ v refl e (λ e.
    names verb_word w Unregister (bytes_eq w (verb_word Unregister)) _ v refl e (λ e.
    names verb_word w Isolate (bytes_eq w (verb_word Isolate)) _ v refl e (λ e.
    names verb_word w Release (bytes_eq w (verb_word Release)) _ v refl e (λ e.
    names verb_word w Grab (bytes_eq w (verb_word Grab)) _ v refl e (λ e.
    none verb_word w v e))))))))))))))

work_takes : (w : Word) (o : Option Verb) (k : Kind) → verb_of w ≡ o → option_map Work o ≡ Some k → w ≡ first_word k
work_takes w None k is e = absurd cc
work_takes w (Some v) k is e = let s : Work v ≡ k = cc in verb_takes w v is ∙ ap first_word s

-- a word that names a kind is its first word
pub kind_takes : (w : Word) (k : Kind) → kind_of w ≡ Some k → w ≡ first_word k
unfolding kind_of
kind_takes w k e =
    names first_word w Header (bytes_eq w (first_word Header)) _ k refl e (λ e.
    names first_word w Size (bytes_eq w (first_word Size)) _ k refl e (λ e.
    names first_word w (Group false) (bytes_eq w (first_word (Group false))) _ k refl e (λ e.
    names first_word w (Group true) (bytes_eq w (first_word (Group true))) _ k refl e (λ e.
    names first_word w Cache (bytes_eq w (first_word Cache)) _ k refl e (λ e.
    names first_word w Pool (bytes_eq w (first_word Pool)) _ k refl e (λ e.
    names first_word w Worker (bytes_eq w (first_word Worker)) _ k refl e (λ e.
    names first_word w Sweep (bytes_eq w (first_word Sweep)) _ k refl e (λ e.
    names first_word w End (bytes_eq w (first_word End)) _ k refl e (λ e.
    work_takes w (verb_of w) k refl e)))))))))

abbrev some : {A : Type 0} → A → Option A
some x = Some x

-- what is allowed is what was named
stands_is : (r : Option Code) (j k : Kind) → unless r j ≡ Ok k → some j ≡ Some k
stands_is None j k e = cc
stands_is (Some code) j k e = absurd cc

taken_if : (served : Bool) (p : Phase) (j k : Kind) → cond served (unless (misplaced p j) j) (Err (unknown p)) ≡ Ok k → unless (misplaced p j) j ≡ Ok k
taken_if true p j k e = e
taken_if false p j k e = absurd cc

served_if : (served : Bool) (p : Phase) (j k : Kind) → cond served (unless (misplaced p j) j) (Err (unknown p)) ≡ Ok k → served ≡ true
served_if true p j k e = refl
served_if false p j k e = absurd cc

-- a kind that is allowed may stand here
pub may_stand : (version : ℕ) (p : Phase) (j k : Kind) → allowed version p (Some j) ≡ Ok k → unless (misplaced p j) j ≡ Ok k
may_stand version p j k e = taken_if (is_served version j) p j k e

-- and its lines are taken in this version
pub is_taken : (version : ℕ) (p : Phase) (j k : Kind) → allowed version p (Some j) ≡ Ok k → is_served version j ≡ true
is_taken version p j k e = served_if (is_served version j) p j k e

allowed_is : (version : ℕ) (p : Phase) (o : Option Kind) (k : Kind) → allowed version p o ≡ Ok k → o ≡ Some k
allowed_is version p None k e = absurd cc
allowed_is version p (Some j) k e = stands_is (misplaced p j) j k (may_stand version p j k e)

-- ---- lines

-- a line that was read has the one spelling of its kind and items, and may stand where it stands
pub line_takes : (st : State) (ws : List Word) (l : Line) → plain_line st ws ≡ Ok l → (ws ≡ first_word l.0 ∷ words_of (classes st l.0) l.1) × IsLine st l
unfolding plain_line taken kind_at
line_takes st [] l e = absurd cc
line_takes st (w ∷ ws) l e =
    let a = bind_ok (allowed st.version st.phase (kind_of w)) (λ k. items_said (classes st k) ws >>= λ xs. own st k xs >>= λ _. Ok (k, xs)) l e in
    let b = bind_ok (items_said (classes st a.0) ws) (λ xs. own st a.0 xs >>= λ _. Ok (a.0, xs)) l a.2 in
    let c = bind_ok (own st a.0 b.0) (λ _. Ok (a.0, b.0)) l b.2 in
    let named = allowed_is st.version st.phase (kind_of w) a.0 a.1 in
    let first = kind_takes w a.0 named in
    let others = items_take (classes st a.0) ws b.0 b.1 in
    let made : Line = (a.0, b.0) in
    let whole : w ∷ ws ≡ first_word a.0 ∷ words_of (classes st a.0) b.0 = rw (← first, ← others.0) refl in
    let good : IsLine st made = record { stands = subst (λ (o : Option Kind). allowed st.version st.phase o ≡ Ok a.0) named a.1; words = others.1; rule = c.1 } in
    subst (λ (m : Line). (w ∷ ws ≡ first_word m.0 ∷ words_of (classes st m.0) m.1) × IsLine st m) (ok_is made l c.2) (whole, good)

-- the spelling of a line that may stand is read as that line
pub line_again : (st : State) (l : Line) → IsLine st l → plain_line st (first_word l.0 ∷ words_of (classes st l.0) l.1) ≡ Ok l
unfolding plain_line taken kind_at
line_again st l h = rw (kind_again l.0, h.stands, items_again (classes st l.0) l.1 h.words, h.rule) refl
