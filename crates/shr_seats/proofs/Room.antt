-- SPDX-License-Identifier: GPL-2.0-only
-- One room under each step of one seat, on plain data, for any kind of entry.
use Rattle.shr_seats.proofs.RoomsCommon.{◌≡◌, ℕ, ◌+◌, ◌*◌, ◌≢◌, ◌^◌, true, false, eqb, cond, List, [], ◌∷◌, ◌++◌, length, set, sym, refl, ap, subst, ◌∙◌, arith, length-append, append-nil, Option, some, get_elem?, Each, Begins, Each-set, Each-push, Each-none, RoomMade, RoomCount, RoomView, no_room, with_room_hand, with_room_given, with_room_stored, with_room_count, joined_room, Law, FitsCountWord, IsEntryMade, CountsPrefix, times_made, holds_it, IsRoomSeen, IsRoomSound, Bool, ltb, ⊎_elim, append_assoc, at_set, sum_by-changed, sum_by-joined, sum_by-more, term_le, terms_le, Each-weaker, Each-append, Each-cons, heard_of}
use Rattle.std.proofs.lemmas.Bool.{cases_Bool}
use Rattle.std.proofs.lemmas.List.Sums.{sum_by_push, sum_by-append}
use Rattle.shr_model.specs.Follow.{Follow}
use Rattle.shr_model.proofs.Numbers.{below_more}

true_false : (b : Bool) → b ≡ true → b ≡ false → ⊥
true_false b t f = let e : true ≡ false = sym t ∙ f in cc

-- what is so of a prefix is so of the one that is heard of it
each_heard : {E : Type 0} (P : List E → Type 0) (h : List E) → P h → Each P (heard_of h)
each_heard P [] p = Each-none P
each_heard P (e ∷ es) p = Each-cons P (e ∷ es) [] p (Each-none P)

module _ {E S : Type 0} (law : Law E) (entries : S → List E) where
  -- an entry more
  follow_push : (may : List E → E → Type 0) (before es : List E) (e : E) → Follow may before es → may (before ++ es) e → Follow may before (es ++ e ∷ [])
  follow_push may before [] e all last = (subst (λ (l : List E). may l e) (append-nil before) last, tt)
  follow_push may before (x ∷ es) e all last = (all.0, follow_push may (before ++ x ∷ []) es e all.1 (subst (λ (l : List E). may l e) (sym (append_assoc before (x ∷ []) es)) last))

  in_one : (t : RoomView E) → t.in_hand ≡ true → ◌≡◌ {A = ℕ} (holds_it t) 1
  in_one t e = ap (λ b. cond b 1 0) e

  in_none : (t : RoomView E) → t.in_hand ≡ false → ◌≡◌ {A = ℕ} (holds_it t) 0
  in_none t e = ap (λ b. cond b 1 0) e

  none_in : (t : RoomView E) → ◌≡◌ {A = ℕ} (holds_it t) 0 → t.in_hand ≡ false
  none_in t e = ⊎_elim (λ h. absurd (omega (arith, in_one t h, e))) (λ f. f) (cases_Bool t.in_hand)

  module _ (journal : List E) (e : E) where
    begins_longer : (h : List E) → Begins h journal → Begins h (journal ++ e ∷ [])
    begins_longer h b = (b.0 ++ e ∷ [], ap (λ (l : List E). l ++ e ∷ []) b.1 ∙ append_assoc h b.0 (e ∷ []))

    made_longer : (m : RoomMade E) → IsEntryMade journal m → IsEntryMade (journal ++ e ∷ []) m
    made_longer m is = (is.0, is.1 ++ e ∷ [], ap (λ (l : List E). l ++ e ∷ []) is.2 ∙ append_assoc is.0 (m.entry ∷ is.1) (e ∷ []), is.3)

    counted_longer : (c : RoomCount) → CountsPrefix law journal c → CountsPrefix law (journal ++ e ∷ []) c
    counted_longer c is = (is.0, is.1 ++ e ∷ [], ap (λ (l : List E). l ++ e ∷ []) is.2 ∙ append_assoc is.0 is.1 (e ∷ []), is.3, is.4)

    seen_longer : (t : RoomView E) → t.in_hand ≡ false → IsRoomSeen law journal t → IsRoomSeen law (journal ++ e ∷ []) t
    seen_longer t out s = record {
      known = begins_longer t.known s.known;
      heard = Each-weaker (λ h. Begins h journal) (λ h. Begins h (journal ++ e ∷ [])) begins_longer t.heard s.heard;
      hand = λ h. absurd (true_false t.in_hand h out);
      made = Each-weaker (IsEntryMade journal) (IsEntryMade (journal ++ e ∷ [])) made_longer t.made s.made;
      seen = Each-weaker (CountsPrefix law journal) (CountsPrefix law (journal ++ e ∷ [])) counted_longer t.seen s.seen;
    }

  -- what a new seat knows is so of any journal
  pub seen_none : (journal : List E) → IsRoomSeen law journal no_room
  seen_none journal = record {
    known = (journal, refl);
    heard = Each-none (λ h. Begins h journal);
    hand = λ h. absurd (true_false true refl (sym h));
    made = Each-none (IsEntryMade journal);
    seen = Each-none (CountsPrefix law journal);
  }

  module _ (journal : List E) (lock count : ℕ) (home : Option (Option S)) (views : List (RoomView E)) (id : ℕ) (t : RoomView E) (me : get_elem? views id ≡ some t) (o : IsRoomSound law entries journal lock count home views) where
    -- while a seat has the room in hand no other has
    alone : t.in_hand ≡ true → (j : ℕ) (x : RoomView E) → j ≢ id → get_elem? views j ≡ some x → x.in_hand ≡ false
    alone has j x apart there = none_in x (omega (arith, o.locks, o.one, terms_le holds_it views id j t x apart me there, in_one t has))

    taken : t.in_hand ≡ true → lock ≡ 1
    taken has = omega (arith, o.locks, o.one, term_le holds_it views id t me, in_one t has)

    -- the count word is loaded
    pub loads : IsRoomSound law entries journal lock count home (set views id (with_room_count t (law.len journal) (length journal)))
    loads = let w : RoomView E = with_room_count t (law.len journal) (length journal) in let s = o.seen id t me in record {
      legal = o.legal;
      fits = o.fits;
      counted = o.counted;
      locks = omega (arith, o.locks, sum_by-changed holds_it views id t w me);
      one = o.one;
      at_home = o.at_home;
      seen = Each-set (IsRoomSeen law journal) views id w (record {
        known = s.known;
        heard = s.heard;
        hand = s.hand;
        made = s.made;
        seen = Each-push (CountsPrefix law journal) t.seen (record { len = law.len journal; version = length journal }) (journal, [], sym (append-nil journal), refl, refl) s.seen;
      }) o.seen;
      once = λ n. omega (arith, o.once n, sum_by-changed (λ (y : RoomView E). times_made n y.made) views id t w me);
    }

    -- the room is taken
    pub takes : (home' : Option (Option S)) → lock ≡ 0 → t.in_hand ≡ false → IsRoomSound law entries journal 1 count home' (set views id (with_room_hand t journal))
    takes home' free out = let w : RoomView E = with_room_hand t journal in let s = o.seen id t me in record {
      legal = o.legal;
      fits = o.fits;
      counted = o.counted;
      locks = omega (arith, o.locks, free, in_none t out, sum_by-changed holds_it views id t w me);
      one = omega arith;
      at_home = λ z. absurd (omega (arith, z));
      seen = Each-set (IsRoomSeen law journal) views id w (record { known = s.known; heard = s.heard; hand = λ _. refl; made = s.made; seen = s.seen }) o.seen;
      once = λ n. omega (arith, o.once n, sum_by-changed (λ (y : RoomView E). times_made n y.made) views id t w me);
    }

    -- it is given back
    pub gives : (room : S) → t.in_hand ≡ true → entries room ≡ t.hand → IsRoomSound law entries journal 0 count (some (some room)) (set views id (with_room_given t))
    gives room has fits = let w : RoomView E = with_room_given t in let s = o.seen id t me in let is = s.hand has in record {
      legal = o.legal;
      fits = o.fits;
      counted = o.counted;
      locks = omega (arith, o.locks, taken has, in_one t has, sum_by-changed holds_it views id t w me);
      one = omega arith;
      at_home = λ _. (room, refl, fits ∙ is);
      seen = Each-set (IsRoomSeen law journal) views id w (record { known = ([], sym is ∙ sym (append-nil t.hand)); heard = s.heard; hand = λ h. absurd (true_false true refl (sym h)); made = s.made; seen = s.seen }) o.seen;
      once = λ n. omega (arith, o.once n, sum_by-changed (λ (y : RoomView E). times_made n y.made) views id t w me);
    }

    -- an entry is stored, with the new count
    pub stores : (e : E) (count' : ℕ) → t.in_hand ≡ true → law.may t.hand e → FitsCountWord law (t.hand ++ e ∷ []) → count' ≡ length (t.hand ++ e ∷ []) * 2 ^ 32 + law.len (t.hand ++ e ∷ [])
        → IsRoomSound law entries (journal ++ e ∷ []) lock count' home (set views id (with_room_stored t e))
    stores e count' has may small now = let w : RoomView E = with_room_stored t e in let s = o.seen id t me in let is : t.hand ≡ journal = s.hand has in let more : t.hand ++ e ∷ [] ≡ journal ++ e ∷ [] = ap (λ (l : List E). l ++ e ∷ []) is in
        let m : RoomMade E = record { number = length t.hand; entry = e } in record {
          legal = follow_push law.may [] journal e o.legal (subst (λ (l : List E). law.may l e) is may);
          fits = subst (FitsCountWord law) more small;
          counted = subst (λ (l : List E). count' ≡ length l * 2 ^ 32 + law.len l) more now;
          locks = omega (arith, o.locks, sum_by-changed holds_it views id t w me);
          one = o.one;
          at_home = λ z. absurd (omega (arith, z, taken has));
          seen = λ j x there. ⊎_elim
              (λ (g : (j ≡ id) × (w ≡ x)). subst (IsRoomSeen law (journal ++ e ∷ [])) g.1 (record {
                known = begins_longer journal e t.known s.known;
                heard = Each-weaker (λ h. Begins h journal) (λ h. Begins h (journal ++ e ∷ [])) (begins_longer journal e) t.heard s.heard;
                hand = λ _. more;
                made = Each-push (IsEntryMade (journal ++ e ∷ [])) t.made m (journal, [], refl, ap (length {A = E}) is) (Each-weaker (IsEntryMade journal) (IsEntryMade (journal ++ e ∷ [])) (made_longer journal e) t.made s.made);
                seen = Each-weaker (CountsPrefix law journal) (CountsPrefix law (journal ++ e ∷ [])) (counted_longer journal e) t.seen s.seen;
              }))
              (λ (g : (j ≢ id) × (get_elem? views j ≡ some x)). seen_longer journal e x (alone has j x g.0 g.1) (o.seen j x g.1))
              (at_set views id j w x there);
          once = λ n. let changed = sum_by-changed (λ (y : RoomView E). times_made n y.made) views id t w me in
              let one-more = sum_by_push (λ (y : RoomMade E). cond (eqb y.number n) 1 0) t.made m in
              let long = length-append journal (e ∷ []) in let flag = ap {B = ℕ} (λ (k : ℕ). cond (ltb n k) 1 0) (let l : length (journal ++ e ∷ []) ≡ length journal + 1 = omega (arith, long) in l) in
              omega (arith, o.once n, changed, one-more, flag, below_more n (length journal) (length t.hand) (ap (length {A = E}) is));
        }

  -- a view that knows nothing is added
  pub split : (journal : List E) (lock count : ℕ) (home : Option (Option S)) (views : List (RoomView E)) → IsRoomSound law entries journal lock count home views → IsRoomSound law entries journal lock count home (views ++ no_room ∷ [])
  split journal lock count home views o = record {
    legal = o.legal;
    fits = o.fits;
    counted = o.counted;
    locks = omega (arith, o.locks, sum_by-more holds_it views no_room);
    one = o.one;
    at_home = o.at_home;
    seen = Each-push (IsRoomSeen law journal) views no_room (seen_none journal) o.seen;
    once = λ n. omega (arith, o.once n, sum_by-more (λ (y : RoomView E). times_made n y.made) views no_room);
  }

  -- what one view did and knows goes to another
  pub join : (journal : List E) (lock count : ℕ) (home : Option (Option S)) (views : List (RoomView E)) (id other : ℕ) (t u : RoomView E) → get_elem? views id ≡ some t → other ≢ id → get_elem? views other ≡ some u → u.in_hand ≡ false
      → IsRoomSound law entries journal lock count home views → IsRoomSound law entries journal lock count home (set (set views id (joined_room t u)) other no_room)
  join journal lock count home views id other t u at apart them out o = let b : RoomView E = joined_room t u in let s = o.seen id t at in let r = o.seen other u them in record {
    legal = o.legal;
    fits = o.fits;
    counted = o.counted;
    locks = omega (arith, o.locks, in_none u out, sum_by-joined holds_it views id other t u b no_room at apart them);
    one = o.one;
    at_home = o.at_home;
    seen = Each-set (IsRoomSeen law journal) (set views id b) other no_room (seen_none journal) (Each-set (IsRoomSeen law journal) views id b (record {
      known = s.known;
      heard = Each-append (λ h. Begins h journal) t.heard (heard_of u.known ++ u.heard) s.heard (Each-append (λ h. Begins h journal) (heard_of u.known) u.heard (each_heard (λ h. Begins h journal) u.known r.known) r.heard);
      hand = s.hand;
      made = Each-append (IsEntryMade journal) t.made u.made s.made r.made;
      seen = Each-append (CountsPrefix law journal) t.seen u.seen s.seen r.seen;
    }) o.seen);
    once = λ n. omega (arith, o.once n, sum_by-joined (λ (y : RoomView E). times_made n y.made) views id other t u b no_room at apart them, sum_by-append (λ (m : RoomMade E). cond (eqb m.number n) 1 0) t.made u.made);
  }
