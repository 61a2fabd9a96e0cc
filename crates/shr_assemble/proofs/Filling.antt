-- SPDX-License-Identifier: GPL-2.0-only
-- Which bits a command set: those of the lists that it filled, and those that its walks set again.
use Rattle.shr_assemble.proofs.Common.{◌≡◌, ◌⊎◌, inl, inr, ℕ, zero, suc, ◌<◌, Bool, true, false, cond, List, [], ◌∷◌, ◌++◌, length, sym, refl, ap, subst, ◌∙◌, arith, append_assoc, ◌&&◌, ◌==◌, nat_lt, flat_map, map-append, dite, ℕ_discrete, and_parts, ltb-true, some-injective, some-ne-none, Entry, Add, Scan, Object, WalkRecord, Has, step, Deed, by_seat, Each, times, only, Each-none, Each-weaker, some_term, only_no, View, Gained, Adds, among, group_of, Made, Event, raised, is_raised, bits_for, Fills, IsListFilled, IsAmong, set_by_walk, sets_in, cleared_in}
use Rattle.shr_model.specs.Scan.{scan_from}
use Rattle.shr_lawful.proofs.Listed.{among_has, either}
use Rattle.shr_node.proofs.Places.{none_in}

-- the bit of a place was set by an entry, or in a walk
abbrev pub IsSet : List Made → List WalkRecord → ℕ → Type 0
IsSet ms walks place = IsListFilled ms place ⊎ IsAmong place (flat_map set_by_walk walks)

-- an entry that leaves something in an empty list, where nothing is moved in, fills it
fills_none : (e : Entry) → 0 < length (step [] [] e) → Fills [] e
unfolding scan_from
fills_none (Add by birth added key value) lt = refl
fills_none (Scan worker walk zero policy visits freed stopped) lt = absurd (omega (arith, lt))
fills_none e lt = absurd (omega (arith, lt))

pub filled_one : (ms : List Made) (k : ℕ) → IsListFilled ms k → Each (IsListFilled ms) (k ∷ [])
filled_one ms k h zero y e = subst (IsListFilled ms) (some-injective k y e) h
filled_one ms k h (suc j) y e = absurd (some-ne-none y (sym e))

-- the one bit that an entry of a tenant or a scan sets is of the list that it filled
pub filled_by : (m : Made) → Each (IsListFilled (m ∷ [])) (bits_for m.place m.items (step [] m.items m.entry))
filled_by m = by_cases (is_raised m.place m.items (step [] m.items m.entry)) refl where
  by_cases : (b : Bool) → is_raised m.place m.items (step [] m.items m.entry) ≡ b → Each (IsListFilled (m ∷ [])) (cond b (m.place ∷ []) [])
  by_cases false e = Each-none (IsListFilled (m ∷ []))
  by_cases true e =
      let first = and_parts (length m.items == 0) (nat_lt 0 (length (step [] m.items m.entry))) (and_parts ((length m.items == 0) && nat_lt 0 (length (step [] m.items m.entry))) (nat_lt 0 (group_of m.place)) e).0 in
      let none = none_in m.items first.0 in
      let some : 0 < length (step [] m.items m.entry) = ltb-true 0 (length (step [] m.items m.entry)) first.1 in
      filled_one (m ∷ []) m.place (record {
        entry = m;
        among = (0, refl);
        here = refl;
        fills = subst (λ (l : List Object). Fills l m.entry) (sym none) (fills_none m.entry (subst (λ (l : List Object). 0 < length (step [] l m.entry)) none some));
      })

-- among more entries
pub filled_among : (ms more : List Made) → ((m : Made) → IsAmong m ms → IsAmong m more) → (places : List ℕ) → Each (IsListFilled ms) places → Each (IsListFilled more) places
filled_among ms more into places h = Each-weaker (IsListFilled ms) (IsListFilled more) (λ k f. record { entry = f.entry; among = into f.entry f.among; here = f.here; fills = f.fills }) places h

pub set_filled : (ms : List Made) (walks : List WalkRecord) (places : List ℕ) → Each (IsListFilled ms) places → Each (IsSet ms walks) places
set_filled ms walks places h = Each-weaker (IsListFilled ms) (IsSet ms walks) (λ k f. inl f) places h

-- what walks set
pub set_walked : (ms : List Made) (walks : List WalkRecord) (places : List ℕ) → flat_map set_by_walk walks ≡ places → Each (IsSet ms walks) places
set_walked ms walks places e j k at = inr (subst (λ l. IsAmong k l) (sym e) (j, at))

pub set_none : (ms : List Made) (walks : List WalkRecord) (places : List ℕ) → places ≡ [] → Each (IsSet ms walks) places
set_none ms walks places none = subst (Each (IsSet ms walks)) (sym none) (Each-none (IsSet ms walks))

-- ---- the order of what a command did
pub none_left : {A : Type 0} (xs ys : List A) → xs ++ ys ≡ [] → (xs ≡ []) × (ys ≡ [])
none_left [] ys e = (refl, e)
none_left (x ∷ xs) ys e = absurd (cc)

raised_of : (e : Event) (k : ℕ) → Has (sets_in e) k → e ≡ raised k
raised_of (raised x) k (inl e) = ap raised e
raised_of (raised x) k (inr none) = absurd none
raised_of e k h = absurd h

-- a bit that is set among events
raised_at : (es : List Event) (k : ℕ) → Has (among sets_in es) k → (front : List Event) × (back : List Event) × (es ≡ front ++ raised k ∷ back)
raised_at [] k h = absurd h
raised_at (e ∷ es) k h = either (sets_in e) (among sets_in es) k h (λ here. ([], es, ap (λ (y : Event). y ∷ es) (raised_of e k here))) (λ later. let t = raised_at es k later in (e ∷ t.0, t.1, ap (λ (l : List Event). e ∷ l) t.2))

clears_back : (front back : List Event) (k : ℕ) → among cleared_in (front ++ raised k ∷ back) ≡ [] → among cleared_in back ≡ []
clears_back [] back k e = e
clears_back (x ∷ front) back k e = clears_back front back k (none_left (cleared_in x) (among cleared_in (front ++ raised k ∷ back)) e).1

-- a seat that set a bit in the second of two works, in which it cleared none, cleared none behind that
pub set_last : (u v w : View) (g h : Gained) → Adds u v g → Adds v w h → (k : ℕ) → 0 < times k h.sets → h.cleared ≡ []
    → (front : List Event) × (back : List Event) × (w.did ≡ u.did ++ by_seat u.seat (front ++ raised k ∷ back)) × (among cleared_in back ≡ [])
set_last u v w g h a b k set none =
    let t = some_term (only k) h.sets set in
    let same : t.1 ≡ k = dite (ℕ_discrete t.1 k) (λ e. e) (λ ne. absurd (omega (arith, t.3, only_no k t.1 ne))) in
    let has : Has (among sets_in b.did) k = subst (λ l. Has l k) (sym b.kinds.sets) (subst (Has h.sets) same (among_has h.sets t.1 (t.0, t.2))) in
    let at = raised_at b.did k has in (
      a.did ++ at.0,
      at.1,
      b.noted
          ∙ (ap (λ (l : List (Deed Event)). l ++ by_seat v.seat b.did) a.noted
          ∙ (append_assoc u.did (by_seat u.seat a.did) (by_seat v.seat b.did)
          ∙ ap (λ (l : List (Deed Event)). u.did ++ l)
          (ap (λ (n : ℕ). by_seat u.seat a.did ++ by_seat n b.did) a.seat
          ∙ (ap (λ (l : List Event). by_seat u.seat a.did ++ by_seat u.seat l) at.2
          ∙ (sym (map-append (λ (e : Event). record { seat = u.seat; act = e }) a.did (at.0 ++ raised k ∷ at.1))
          ∙ ap (by_seat u.seat) (sym (append_assoc a.did at.0 (raised k ∷ at.1)))))))),
      clears_back at.0 at.1 k (ap (among cleared_in) (sym at.2) ∙ (b.kinds.cleared ∙ none)),
    )
