-- SPDX-License-Identifier: GPL-2.0-only
-- Orders of events at known values, and stories that no order tells.
use Rattle.shr_core.proofs.Common.{Bool, true, cond, sym, subst, arith, eq-eqb, ne_eqb, dite, ℕ_discrete, ◌≡◌, ℕ, ◌<◌, List, [], ◌∷◌, ◌++◌, Some, None, refl, some, get_elem?, Add, Closed, Drained, Registered, Unregistered, Idle, Serial, HasJournal, fresh, Deed, Event, counted, made, looked, loaded, turned, put_back, raised, cleared, mapped, place_id, AreEvents, AreOwn, last_moment, entries, lookups, AreInUse}
use Rattle.shr_model.specs.Items.{items_from}
use Rattle.shr_model.specs.Pool.{phase_of}
use Rattle.shr_model.proofs.ItemsLaws.{HasJournal_push, HasJournal_none}
use Rattle.shr_core.proofs.Ranking.{by_numbers}
use Rattle.shr_core.proofs.References.{given_back}

abbrev deed : ℕ → Event → Deed Event
deed seat act = record { seat = seat; act = act }

-- an entry of the place k with this number
abbrev entry : ℕ → ℕ → Event
entry k number = made (record { place = k; number = number; entry = Closed; items = [] })

-- a count of the place k at this version
abbrev count : ℕ → ℕ → Event
count k version = counted (record { place = k; len = 0; version = version })

-- a lookup of the id 0 that held nothing
abbrev lookup : ℕ → Event
lookup number = looked (record { id = 0; number = number; held = None })

-- the id 0 was unregistered
abbrev unregistered : ℕ → ℕ → Event
unregistered number to = turned (record { number = number; entry = Unregistered 0 0 to })

-- seat 0 sets the bit of the place 0, seat 1 sees it, makes an entry, clears the bit and sees that
abbrev line : List (Deed Event)
line = deed 0 (raised 0) ∷ deed 1 (mapped (record { map = 0; bits = 1; set = [] })) ∷ deed 0 (count 0 0) ∷ deed 1 (entry 0 0) ∷ deed 0 (lookup 7) ∷ deed 1 (count 0 1) ∷ []

at_end : (last_moment 7 line).bits 0 ≡ 1
at_end = refl

one_entry : (last_moment 7 line).now 0 ≡ Closed ∷ []
one_entry = refl

next_lookup : (last_moment 7 line).next 0 ≡ 8
next_lookup = refl

module _ (ids first : ℕ) (l : List (Deed Event)) (events : AreEvents ids first l) (i j : ℕ) (d e : ℕ) (before : i < j) where
  -- no lookup with a number below the end of its registration comes after that end
  none_after_the_end : get_elem? l i ≡ some (deed d (unregistered 1 5)) → get_elem? l j ≡ some (deed e (lookup 4)) → ⊥
  none_after_the_end at there = absurd (omega (arith, before, by_numbers ids first l events j i (deed e (lookup 4)) (deed d (unregistered 1 5)) there at (lookups 0) 4 5 5 5 (refl, refl, refl) (refl, refl, refl) (omega arith)))

  -- the lookups of an id don't fall
  lookups_rise : get_elem? l i ≡ some (deed d (lookup 5)) → get_elem? l j ≡ some (deed e (lookup 4)) → ⊥
  lookups_rise at there = absurd (omega (arith, before, by_numbers ids first l events j i (deed e (lookup 4)) (deed d (lookup 5)) there at (lookups 0) 4 5 5 6 (refl, refl, refl) (refl, refl, refl) (omega arith)))

  -- Seat 0 makes the first entries of two lists. Seat 1 makes the second entry of the later list, and
  -- then counts none on the earlier one.
  cycle : (m n : ℕ) → m < n → get_elem? l i ≡ some (deed 0 (entry 0 0)) → get_elem? l j ≡ some (deed 0 (entry 256 0)) → get_elem? l m ≡ some (deed 1 (entry 256 1)) → get_elem? l n ≡ some (deed 1 (count 0 0)) → ⊥
  cycle m n less first-made second-made third-made seen = absurd (omega (
    arith,
    before,
    less,
    by_numbers ids first l events j m (deed 0 (entry 256 0)) (deed 1 (entry 256 1)) second-made third-made (entries 256) 0 1 1 2 (refl, refl, refl) (refl, refl, refl) (omega arith),
    by_numbers ids first l events n i (deed 1 (count 0 0)) (deed 0 (entry 0 0)) seen first-made (entries 0) 0 0 0 1 (refl, refl, refl) (refl, refl, refl) (omega arith),
  ))

-- a bit was cleared, then set, and a map that was seen then lacks it
lacks_the_bit : AreEvents 1 0 (deed 0 (cleared 0) ∷ deed 0 (raised 0) ∷ deed 0 (mapped (record { map = 0; bits = 0; set = [] })) ∷ []) → ⊥
lacks_the_bit events = absurd (omega (arith, events.1.1.0 0 (omega arith) refl))

-- a map with a bit that nobody set
has_a_bit : AreEvents 1 0 (deed 0 (mapped (record { map = 0; bits = 1; set = [] })) ∷ []) → ⊥
has_a_bit events = absurd (omega (arith, events.0 0 (omega arith) refl))

module _ (by : Serial) (value : List ℕ) where
  -- one object is added at the place 0
  abbrev add : Event
  add = made (record { place = 0; number = 0; entry = Add by 0 true [] value; items = [] })

  -- the list of the place 0 is drained of one object
  abbrev drain : Event
  drain = made (record { place = 0; number = 1; entry = Drained by 1; items = fresh by 0 [] value ∷ [] })

  -- the id 0 is registered, is unregistered and comes to be idle
  abbrev begin : Event
  begin = turned (record { number = 0; entry = Registered 0 0 0 })

  abbrev end : Event
  end = turned (record { number = 1; entry = Unregistered 0 0 0 })

  abbrev idle : Event
  idle = turned (record { number = 2; entry = Idle 0 })

  filled : HasJournal (Add by 0 true [] value ∷ []) (fresh by 0 [] value ∷ [])
  filled = HasJournal_push [] [] (Add by 0 true [] value) (fresh by 0 [] value ∷ []) HasJournal_none refl (λ moved. (refl, refl))

  rests : (k : ℕ) → place_id k ≡ 0 → HasJournal ((last_moment 0 (deed 0 begin ∷ deed 0 add ∷ deed 0 end ∷ deed 0 drain ∷ [])).now k) []
  rests k own = let F : Bool → Type 0 = λ b. HasJournal (cond b (cond b (Add by 0 true [] value ∷ []) [] ++ Drained by 1 ∷ []) (cond b (Add by 0 true [] value ∷ []) [])) [] in dite (ℕ_discrete k 0)
      (λ e. subst F (sym (eq-eqb k 0 e)) (HasJournal_push (Add by 0 true [] value ∷ []) (fresh by 0 [] value ∷ []) (Drained by 1) [] filled refl (λ moved. (refl, refl))))
      (λ n. subst F (sym (ne_eqb k 0 n)) HasJournal_none)

  -- a list that was drained before its id came to be idle
  drained_first : AreEvents 1 0 (deed 0 begin ∷ deed 0 add ∷ deed 0 end ∷ deed 0 drain ∷ deed 0 idle ∷ [])
  unfolding phase_of
  drained_first = ((refl, refl, tt), ((refl, tt), ((refl, refl, tt), ((refl, refl), ((refl, tt, rests), tt)))))

  -- a list that is drained while its id is live
  drained_early : AreEvents 1 0 (deed 0 begin ∷ deed 0 add ∷ deed 0 drain ∷ []) → ⊥
  unfolding phase_of
  drained_early events = absurd (omega (arith, events.1.1.0.1))

  leaves_one : HasJournal (Add by 0 true [] value ∷ []) [] → ⊥
  unfolding items_from
  leaves_one h = let e : fresh by 0 [] value ∷ [] ≡ [] = h.1.left in cc

  -- an id that comes to be idle with an object on its list
  not_drained : AreEvents 1 0 (deed 0 begin ∷ deed 0 add ∷ deed 0 end ∷ deed 0 idle ∷ []) → ⊥
  not_drained events = leaves_one (events.1.1.1.0.2 0 refl)

  -- seat 1 finds the id 0 live
  abbrev find : Event
  find = looked (record { id = 0; number = 0; held = Some 0 })

  -- what it does until it gives the id back is done in its use, and the drain and the end after that
  used_first : AreInUse (deed 1 find ∷ deed 1 add ∷ deed 1 (put_back 0) ∷ deed 0 drain ∷ deed 0 idle ∷ [])
  used_first = (tt, (omega arith, (tt, (refl, (refl, tt)))))

  -- what it does behind that isn't, nor what another seat does
  used_late : AreInUse (deed 1 find ∷ deed 1 (put_back 0) ∷ deed 1 add ∷ []) → ⊥
  used_late uses = absurd (omega (arith, uses.1.1.0))

  used_by_another : AreInUse (deed 1 find ∷ deed 0 add ∷ []) → ⊥
  used_by_another uses = absurd (omega (arith, uses.1.0))

  -- a drain and an end in the midst of it
  drained_amid : AreInUse (deed 1 find ∷ deed 0 drain ∷ []) → ⊥
  drained_amid uses = let e : ◌≡◌ {A = List ℕ} (1 ∷ []) [] = uses.1.0 in cc

  ended_amid : AreInUse (deed 1 find ∷ deed 0 idle ∷ []) → ⊥
  ended_amid uses = let e : ◌≡◌ {A = List ℕ} (1 ∷ []) [] = uses.1.0 in cc

-- the word of the id 0, which was looked up once and has so many references
abbrev shows : ℕ → Event
shows refs = loaded (record { id = 0; word = record { lookups = 1; phase = 0; decl = 0; refs = refs } })

-- seat 1 looks up the id 0, seat 0 sees its reference, seat 1 gives it back, and seat 0 sees none
abbrev given_line : List (Deed Event)
given_line = deed 1 (lookup 0) ∷ deed 0 (shows 1) ∷ deed 1 (put_back 0) ∷ deed 0 (shows 0) ∷ []

given_events : AreEvents 1 0 given_line
unfolding phase_of
given_events = ((refl, refl), ((refl, refl, refl), (omega arith, ((refl, refl, refl), tt))))

given_own : AreOwn given_line
given_own = (refl, (tt, (refl, (tt, tt))))

-- seat 0 gives back the reference of seat 1: each event is so, but for that
abbrev taken_line : List (Deed Event)
taken_line = deed 1 (lookup 0) ∷ deed 0 (put_back 0) ∷ deed 0 (shows 0) ∷ []

taken_events : AreEvents 1 0 taken_line
unfolding phase_of
taken_events = ((refl, refl), (omega arith, ((refl, refl, refl), tt)))

taken_own : AreOwn taken_line → ⊥
taken_own own = absurd (omega (arith, own.1.0))

-- no seat's lookup stands before a load that shows no reference if its put doesn't
amid : (ids first : ℕ) (l : List (Deed Event)) → AreEvents ids first l → AreOwn l → (i j : ℕ) → i < j → get_elem? l i ≡ some (deed 1 (lookup 4)) → get_elem? l j ≡ some (deed 0 (shows 0)) → ((n : ℕ) → n < j → get_elem? l n ≡ some (deed 1 (put_back 0)) → ⊥) → ⊥
amid ids first l events own i j less at there none = let g = given_back ids first l events own i j 1 0 (record { id = 0; number = 4; held = None }) (record { id = 0; word = record { lookups = 1; phase = 0; decl = 0; refs = 0 } }) at there refl refl less in none g.at g.before g.stands
