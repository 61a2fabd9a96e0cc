-- SPDX-License-Identifier: GPL-2.0-only
-- What a lookup of an id that the seat met answers, by what its seat's view gains.
use Rattle.std.specs.Prelude.{◌≡◌, ◌≢◌, ◌⊎◌, ℕ, ◌+◌, ◌%◌, ◌<◌, [], ◌∷◌, ◌++◌, length}
use Rattle.shr_base.specs.declared.ends.LookupWord.{LookupWord}
use Rattle.shr_seats.specs.declared.shape.Shape.{Shape}
use Rattle.shr_core.specs.declared.view.View.{View}
use Rattle.shr_core.specs.declared.seat.Met.{Met}
use Rattle.shr_core.specs.declared.again.Again.{Again}
use Rattle.shr_core.specs.Lookup.{word_in, lookups_of, decl_in, last_lookups}
use Rattle.shr_core.specs.Steps.{Sat, with_word, with_lookup}
use Rattle.shr_core.specs.Answers.{MetLive}

-- A lookup was made by what the seat knows of the pool's journal: the id is dated over that at once,
-- and the journal was met once more.
abbrev pub with_again : View → ℕ → LookupWord → View
with_again v id w = let u : View = with_lookup v id w in record u {
  turns = record u.turns {
    gives = u.turns.gives + 1;
    dated = u.turns.dated ++ record { id = id; number = w.lookups; entries = length u.turns.known } ∷ [];
  };
}

-- A compare and exchange of the lookup word of an id found this word. Where it is the one that was
-- wanted the id was looked up, in the registration that the seat knows, and else nothing changed.
abbrev pub looked_again : Sat → ℕ → ℕ → ℕ → Sat → Type 0
looked_again m id wanted found n = (found ≡ wanted → n ≡ (with_again m.0 id (word_in wanted), m.1)) × (found ≡ wanted → MetLive m.0.turns.known id (lookups_of wanted) (decl_in wanted)) × (found ≢ wanted → n ≡ m)

-- a number was drawn of the id that was met, once a word had shown that one is left
pub record DrawsAgain (m : Sat) (met : Met) (first number : ℕ) (n : Sat) : Type 0 where
  pub found : LookupWord
  pub left : lookups_of first < last_lookups
  pub live : found.phase % 3 ≡ 1
  pub drawn : found.lookups ≡ number
  pub named : found.decl ≡ met.decl
  pub lives : MetLive m.0.turns.known met.id number met.decl
  pub step : n ≡ (with_again m.0 met.id found, m.1)

-- The id is live with the declaration by all of the journal that the seat knows, and a number in
-- that registration was taken, once a load had shown that one is left.
pub record FindsAgain (shape : Shape) (v : View) (decl : ℕ) (again : Again) (w : View) : Type 0 where
  pub near : again.id < shape.ids
  pub after : again.entry ≡ length v.turns.known
  pub lives : MetLive v.turns.known again.id again.number decl
  pub first : LookupWord
  pub found : LookupWord
  pub left : first.lookups < last_lookups
  pub live : found.phase % 3 ≡ 1
  pub drawn : found.lookups ≡ again.number
  pub named : found.decl ≡ decl
  pub step : w ≡ with_again (with_word v again.id first) again.id found

-- nothing was done but maybe one load of an id's word
abbrev pub KnowsNone : View → View → Type 0
KnowsNone v w = (w ≡ v) ⊎ ((id : ℕ) × (first : LookupWord) × (w ≡ with_word v id first))
