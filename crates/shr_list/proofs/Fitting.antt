-- SPDX-License-Identifier: GPL-2.0-only
-- What an index finds, over changes of its prints and of its clashes.
use Rattle.shr_list.proofs.Common.{◌≡◌, ◌≢◌, ◌⊎◌, Added, New, Known, Crowded, ℕ, true, ◌==◌, [], Option, Some, None, refl, sym, ap, subst, ◌∙◌, inl, inr, eqb-true, cases_Bool, cases_eq, IsSome, bytes_eq, option_map, if◌then◌else◌, Result, Ok, Err, OnErr, bytes_decides, nat_eq, UpdatesBy, ne_eqb, Names, found_clash, AddsClash, IsSameClashes, Name, is_same, print_of, entry_at, PutsNode, KeepsFound, GainsName, TurnsName, and_true, eq-eqb, PutsClash, owned, Owns, NodesByName, FitsFound}

pub same_is : (one other : Name) → is_same one other ≡ true → one ≡ other
same_is one other same =
    let both = and_true (one.0 == other.0) (bytes_eq one.1 other.1) same in
    rw (eqb-true one.0 other.0 both.0, (bytes_decides one.1 other.1).0 both.1) refl

pub same_itself : (name : Name) → is_same name name ≡ true
same_itself name = rw (eq-eqb name.0 name.0 refl, (bytes_decides name.1 name.1).1 refl) refl

-- where the owner is another name, or there is none, the clashes are asked
pub owned_else : (owner : Option Name) (name : Name) (entry clash : Option ℕ) → ((n : Name) → owner ≡ Some n → n ≢ name) → owned owner name entry clash ≡ clash
owned_else None name entry clash apart = refl
owned_else (Some n) name entry clash apart = elim (cases_Bool (is_same n name)) [
  | inl same ↦ absurd (apart n refl (same_is n name same))
  | inr not ↦ rw not refl
]

-- an index finds what another function says too
pub fits_alike : (names : Names) (found after : NodesByName) → ((name : Name) → after name ≡ found name) → FitsFound names found → FitsFound names after
fits_alike names found after same fits = record { owner = fits.owner; vacant = fits.vacant; taken = fits.taken; finds = λ name. same name ∙ fits.finds name }

-- and so does one with the same entries and clashes
pub fits_kept : (old new : Names) → ((print : ℕ) → entry_at new print ≡ entry_at old print) → IsSameClashes old.clashes new.clashes → KeepsFound old new
fits_kept old new entries clashes found fits =
    record {
      owner = fits.owner;
      vacant = λ print none. entries print ∙ fits.vacant print none;
      taken = λ print name is.
          let owns = fits.taken print name is in
          record { print_is = owns.print_is; entry = rw (entries print) owns.entry; alone = clashes name ∙ owns.alone };
      finds = λ name. rw (entries (print_of name.0 name.1), clashes name) (fits.finds name);
    }

module _ (names : Names) (found : NodesByName) (fits : FitsFound names found) where
  -- a print without an entry has no owner
  pub vacant_owner : (print : ℕ) → entry_at names print ≡ None → fits.owner print ≡ None
  vacant_owner print none = go (fits.owner print) refl
    where
      go : (owner : Option Name) → fits.owner print ≡ owner → owner ≡ None
      go None is = refl
      go (Some name) is = let some = rw none at (fits.taken print name is).entry in absurd (cc)

  -- and its names are asked of the clashes
  pub vacant_finds : (name : Name) → entry_at names (print_of name.0 name.1) ≡ None → found name ≡ found_clash names.clashes name
  vacant_finds name none =
      let owner = vacant_owner (print_of name.0 name.1) none in
      rw owner at (fits.finds name)

  -- an owner is found by its print
  pub owner_finds : (print : ℕ) (name : Name) → fits.owner print ≡ Some name → found name ≡ entry_at names print
  owner_finds print name is =
      let owns = fits.taken print name is in
      rw (owns.print_is, is, same_itself name) at (fits.finds name)

  -- an entry has an owner
  pub entry_owner : (print k : ℕ) → entry_at names print ≡ Some k → (name : Name) × (fits.owner print ≡ Some name) × (found name ≡ Some k)
  entry_owner print k is = go (fits.owner print) refl
    where
      go : (owner : Option Name) → fits.owner print ≡ owner → (name : Name) × (fits.owner print ≡ Some name) × (found name ≡ Some k)
      go None none = let both = sym is ∙ fits.vacant print none in absurd (cc)
      go (Some name) owner = (name, owner, owner_finds print name owner ∙ is)

  -- a name that is not found owns none
  pub absent_apart : (name : Name) → found name ≡ None → (print : ℕ) (n : Name) → fits.owner print ≡ Some n → n ≢ name
  absent_apart name none print n is e =
      let owns = fits.taken print n is in
      let some = rw (sym (owner_finds print n is) ∙ ap found e ∙ none) at owns.entry in absurd (cc)

  -- nor does one that clashes
  pub clash_apart : (name : Name) → IsSome (found_clash names.clashes name) → (print : ℕ) (n : Name) → fits.owner print ≡ Some n → n ≢ name
  clash_apart name some print n is e =
      let owns = fits.taken print n is in
      let here = rw (ap (found_clash names.clashes) (sym e) ∙ owns.alone) at some in absurd (cc)

  -- one that is found and does not clash owns its print
  pub owner_is : (name : Name) → IsSome (found name) → found_clash names.clashes name ≡ None → (n : Name) → fits.owner (print_of name.0 name.1) ≡ Some n → n ≡ name
  owner_is name some alone n is = elim (cases_Bool (is_same n name)) [
    | inl same ↦ same_is n name same
    | inr not ↦ let none = rw (fits.finds name, is, not, alone) at some in absurd (cc)
  ]

-- a change among the clashes, of a name that owns no print
pub fits_clash : (old new : Names) (name : Name) (place : Option ℕ) (found after : NodesByName) (fits : FitsFound old found) → ((print : ℕ) (n : Name) → fits.owner print ≡ Some n → n ≢ name)
    → ((print : ℕ) → entry_at new print ≡ entry_at old print) → PutsClash old.clashes new.clashes name place → PutsNode found after name place → FitsFound new after
fits_clash old new name place found after fits apart entries clashes puts =
    record {
      owner = fits.owner;
      vacant = λ print none. entries print ∙ fits.vacant print none;
      taken = λ print n is.
          let owns = fits.taken print n is in
          record { print_is = owns.print_is; entry = rw (entries print) owns.entry; alone = clashes.others n (apart print n is) ∙ owns.alone };
      finds = finds;
    }
  where
    finds : (other : Name) → after other ≡ owned (fits.owner (print_of other.0 other.1)) other (entry_at new (print_of other.0 other.1)) (found_clash new.clashes other)
    finds other = elim (cases_Bool (is_same other name)) [
      | inl same ↦
          let is = same_is other name same in
          rw (owned_else (fits.owner (print_of other.0 other.1)) other (entry_at new (print_of other.0 other.1)) (found_clash new.clashes other)
          (λ n owner e. apart (print_of other.0 other.1) n owner (e ∙ is)))
          (ap after is ∙ puts.here ∙ sym clashes.here ∙ ap (found_clash new.clashes) (sym is))
      | inr not ↦
          let ne : other ≢ name = λ e. let itself = subst (λ (n : Name). is_same other n ≡ true) e (same_itself other) in absurd (cc) in
          rw (entries (print_of other.0 other.1), clashes.others other ne) (puts.others other ne ∙ fits.finds other)
    ]

-- a change of the entry of a print that has no other owner
pub fits_entry : (old new : Names) (name : Name) (place : Option ℕ) (found after : NodesByName) (fits : FitsFound old found) → found_clash old.clashes name ≡ None
    → ((n : Name) → fits.owner (print_of name.0 name.1) ≡ Some n → n ≡ name) → entry_at new (print_of name.0 name.1) ≡ place
    → ((print : ℕ) → print ≢ print_of name.0 name.1 → entry_at new print ≡ entry_at old print) → IsSameClashes old.clashes new.clashes → PutsNode found after name place → FitsFound new after
fits_entry old new name place found after fits alone only entry entries clashes puts =
    record { owner = owner; vacant = vacant; taken = taken; finds = finds }
  where
    owner : ℕ → Option Name
    owner p = if p == print_of name.0 name.1 then option_map (λ (k : ℕ). name) place else fits.owner p

    owner_here : owner (print_of name.0 name.1) ≡ option_map (λ (k : ℕ). name) place
    owner_here = rw (eq-eqb (print_of name.0 name.1) (print_of name.0 name.1) refl) refl

    owner_else : (p : ℕ) → p ≢ print_of name.0 name.1 → owner p ≡ fits.owner p
    owner_else p ne = elim (cases_Bool (p == print_of name.0 name.1)) [
      | inl same ↦ absurd (ne (eqb-true p (print_of name.0 name.1) same))
      | inr not ↦ rw not refl
    ]

    vacant : (p : ℕ) → owner p ≡ None → entry_at new p ≡ None
    vacant p none = elim (cases_eq p (print_of name.0 name.1)) [
      | inl same ↦ ap (entry_at new) same ∙ entry ∙ unset place (sym owner_here ∙ ap owner (sym same) ∙ none)
      | inr ne ↦ entries p ne ∙ fits.vacant p (sym (owner_else p ne) ∙ none)
    ]
      where
        unset : (slot : Option ℕ) → option_map (λ (k : ℕ). name) slot ≡ None → slot ≡ None
        unset None is = refl
        unset (Some k) is = absurd (cc)

    set : (slot : Option ℕ) (n : Name) → option_map (λ (k : ℕ). name) slot ≡ Some n → IsSome slot × (n ≡ name)
    set None n is = absurd (cc)
    set (Some k) n is = (refl, cc)

    taken : (p : ℕ) (n : Name) → owner p ≡ Some n → Owns new p n
    taken p n is = elim (cases_eq p (print_of name.0 name.1)) [
      | inl same ↦
          let own = set place n (sym owner_here ∙ ap owner (sym same) ∙ is) in
          record {
            print_is = ap (λ (m : Name). print_of m.0 m.1) own.1 ∙ sym same;
            entry = rw (ap (entry_at new) same ∙ entry) own.0;
            alone = clashes n ∙ ap (found_clash old.clashes) own.1 ∙ alone;
          }
      | inr ne ↦
          let owns = fits.taken p n (sym (owner_else p ne) ∙ is) in
          record { print_is = owns.print_is; entry = rw (entries p ne) owns.entry; alone = clashes n ∙ owns.alone }
    ]

    here_is : (slot : Option ℕ) → owned (option_map (λ (k : ℕ). name) slot) name slot None ≡ slot
    here_is None = refl
    here_is (Some k) = rw (same_itself name) refl

    finds : (other : Name) → after other ≡ owned (owner (print_of other.0 other.1)) other (entry_at new (print_of other.0 other.1)) (found_clash new.clashes other)
    finds other = elim (cases_eq (print_of other.0 other.1) (print_of name.0 name.1)) [
      | inl same ↦ elim (cases_Bool (is_same other name)) [
        | inl is_name ↦
            let is = same_is other name is_name in
            rw (is, owner_here, entry, clashes name, alone, here_is place) puts.here
        | inr not ↦
            let ne : other ≢ name = λ e. let itself = subst (λ (n : Name). is_same other n ≡ true) e (same_itself other) in absurd (cc) in
            let was = owned_else (fits.owner (print_of other.0 other.1)) other (entry_at old (print_of other.0 other.1)) (found_clash old.clashes other)
            (λ n own e. ne (sym e ∙ only n (ap fits.owner (sym same) ∙ own))) in
            let is = owned_else (owner (print_of other.0 other.1)) other (entry_at new (print_of other.0 other.1)) (found_clash new.clashes other)
            (λ n own e. ne (sym e ∙ (set place n (sym owner_here ∙ ap owner (sym same) ∙ own)).1)) in
            rw is (puts.others other ne ∙ fits.finds other ∙ was ∙ sym (clashes other))
      ]
      | inr apart ↦
          let ne : other ≢ name = λ e. apart (ap (λ (m : Name). print_of m.0 m.1) e) in
          rw (owner_else (print_of other.0 other.1) apart, entries (print_of other.0 other.1) apart, clashes other) (puts.others other ne ∙ fits.finds other)
    ]

-- ---- what the calls do

-- the entry of a print is this now, or none, and the others are as before
abbrev pub SetsEntry : Names → Names → ℕ → Option ℕ → Type 0
SetsEntry old new print place = UpdatesBy nat_eq (nat_eq print) old.prints new.prints place

entries_apart : (old new : Names) (print : ℕ) (place : Option ℕ) → SetsEntry old new print place → (p : ℕ) → p ≢ print → entry_at new p ≡ entry_at old p
entries_apart old new print place sets p ne = sets.2 p (ne_eqb print p (λ e. ne (sym e)))

-- where there is an error
pub on_err : {T E : Type 0} (r : Result T E) (P : Type 0) → P → OnErr r P
on_err (Ok x) P p = tt
on_err (Err e) P p = p

-- a new name whose print has no entry
pub gains_entry : (old new : Names) (name : Name) (node : ℕ) → entry_at old (print_of name.0 name.1) ≡ None → SetsEntry old new (print_of name.0 name.1) (Some node)
    → IsSameClashes old.clashes new.clashes → GainsName old new name node
gains_entry old new name node free sets clashes found after fits none puts =
    let owner = vacant_owner old found fits (print_of name.0 name.1) free in
    fits_entry old new name (Some node) found after fits (sym (vacant_finds old found fits name free) ∙ none) (λ n is. let both = sym owner ∙ is in absurd (cc)) sets.1
    (entries_apart old new (print_of name.0 name.1) (Some node) sets) clashes puts

-- a new name that comes to the clashes
pub gains_clash : (old new : Names) (name : Name) (node : ℕ) → ((print : ℕ) → entry_at new print ≡ entry_at old print) → PutsClash old.clashes new.clashes name (Some node)
    → GainsName old new name node
gains_clash old new name node entries clashes found after fits none puts =
    fits_clash old new name (Some node) found after fits (absent_apart old found fits name none) entries clashes puts

-- a name that the clashes have is not new
pub gains_known : (old new : Names) (name : Name) (node : ℕ) → IsSome (found_clash old.clashes name) → GainsName old new name node
gains_known old new name node there found after fits none puts =
    let apart = absent_apart old found fits name none in
    let asked = owned_else (fits.owner (print_of name.0 name.1)) name (entry_at old (print_of name.0 name.1)) (found_clash old.clashes name) (apart (print_of name.0 name.1)) in
    let some = rw (sym asked ∙ sym (fits.finds name) ∙ none) at there in absurd (cc)

-- where the clashes take a name that is told to be new, they have it now
pub gains_told : (old new : Names) (name : Name) (node : ℕ) (added : Added) → ((print : ℕ) → entry_at new print ≡ entry_at old print) → (added ≡ New) ⊎ (added ≡ Known)
    → AddsClash old.clashes new.clashes name node added → GainsName old new name node
gains_told old new name node New entries placed adds = gains_clash old new name node entries adds.1
gains_told old new name node Known entries placed adds = gains_known old new name node adds.0
gains_told old new name node Crowded entries (inl is) adds = absurd (cc)
gains_told old new name node Crowded entries (inr is) adds = absurd (cc)

-- a name that clashes has another node, or none
pub turns_clash : (old new : Names) (name : Name) (place : Option ℕ) → IsSome (found_clash old.clashes name) → ((print : ℕ) → entry_at new print ≡ entry_at old print)
    → PutsClash old.clashes new.clashes name place → TurnsName old new name place
turns_clash old new name place some entries clashes found after fits there puts =
    fits_clash old new name place found after fits (clash_apart old found fits name some) entries clashes puts

-- and so has one that doesn't
pub turns_entry : (old new : Names) (name : Name) (place : Option ℕ) → found_clash old.clashes name ≡ None → SetsEntry old new (print_of name.0 name.1) place
    → IsSameClashes old.clashes new.clashes → TurnsName old new name place
turns_entry old new name place alone sets clashes found after fits there puts =
    fits_entry old new name place found after fits alone (owner_is old found fits name there alone) sets.1
    (entries_apart old new (print_of name.0 name.1) place sets) clashes puts

-- an index without entries finds nothing
pub fits_none : (names : Names) → names.prints.entries ≡ [] → ((name : Name) → found_clash names.clashes name ≡ None) → FitsFound names (λ (name : Name). None)
fits_none names none clashes =
    record {
      owner = λ (print : ℕ). None;
      vacant = λ print is. rw none refl;
      taken = λ print name is. absurd (let e : None ≡ Some name = is in cc);
      finds = λ name. sym (clashes name);
    }
