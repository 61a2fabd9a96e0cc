-- SPDX-License-Identifier: GPL-2.0-only
-- The steps on a table of rooms keep its rule.
use Rattle.shr_seats.proofs.RoomsCommon.{◌≡◌, ℕ, ◌+◌, ◌*◌, ◌<◌, ◌≢◌, ◌^◌, true, false, eqb, cond, List, [], ◌∷◌, ◌++◌, map, length, set, get_or, sym, refl, ap, subst, ◌∙◌, arith, Option, some, get_elem?, State, at_map, Standing, AreSeats, Each-set, Each-push, not_gone, RoomView, with_room_hand, with_room_given, with_room_stored, with_room_count, joined_room, part_at, Law, FitsCountWord, IsRoomSound, AreRoomsSound, lock_index, count_index, IsTold, ◌%◌, ◌/◌, eq-eqb, ne_eqb, length-set, get_or-set_same, get_or-set_other, map-set, set-get_or, none, Me, Act, Valid, keeps, takes, gives, Allows, Splits, Joins, stepped, carried_after, set_again, set_else, set_here, exchanged, at_split, at_end, with_split, with_join, AreSeats-split, AreSeats-join, with_part_at, IsCount}
use mathlib.Core.Logic.{dite}
use native.Mathlib.Decide.{ℕ_discrete}
use prog.Atomic.{either}
use Rattle.shr_seats.proofs.Changed.{grown, kept, joined_list}
use Rattle.shr_seats.proofs.RoomParts.{here, there}
use Rattle.shr_seats.proofs.Room as room

module _ {E S V : Type 0} (law : Law E) (entries : S → List E) (parts : V → List (RoomView E)) (standing : V → Standing) (spent : V) (with_parts : V → List (RoomView E) → V)
    (parts_are : (v : V) (l : List (RoomView E)) → parts (with_parts v l) ≡ l) (stands : (v : V) (l : List (RoomView E)) → standing (with_parts v l) ≡ standing v) where
  abbrev pub with_room : V → ℕ → RoomView E → V
  with_room v i t = with_parts v (with_part_at (parts v) i t)

  room_here : (v : V) (i : ℕ) (t : RoomView E) → part_at (parts (with_room v i t)) i ≡ t
  room_here v i t = ap (λ l. part_at l i) (parts_are v (with_part_at (parts v) i t)) ∙ here (parts v) i t

  room_there : (v : V) (i k : ℕ) (t : RoomView E) → k ≢ i → part_at (parts (with_room v i t)) k ≡ part_at (parts v) k
  room_there v i k t n = ap (λ l. part_at l k) (parts_are v (with_part_at (parts v) i t)) ∙ there (parts v) i k t n

  -- One room changes: its word at j, its slot and one view of it; all others stay
  on_room : (rooms : ℕ) (s : State S V) (o : AreRoomsSound law entries parts standing spent rooms s) (id : ℕ) (v : V) (me : get_elem? s.views id ≡ some v) (alive : (standing v).gone ≡ false)
      (i : ℕ) (low : i < rooms) (j n : ℕ) → ((k : ℕ) → k ≢ i → (lock_index k ≢ j) × (count_index k ≢ j)) → (homes : List (Option S)) → ((k : ℕ) → k ≢ i → get_elem? homes k ≡ get_elem? s.homes k)
      → (t : RoomView E) (journal : List E)
      → IsRoomSound law entries journal (get_or (set s.words j n) (lock_index i) 0) (get_or (set s.words j n) (count_index i) 0) (get_elem? homes i) (set (map (λ (y : V). part_at (parts y) i) s.views) id t)
      → AreRoomsSound law entries parts standing spent rooms record { words = set s.words j n; homes = homes; views = set s.views id (with_room v i t) }
  on_room rooms s o id v me alive i low j n apart homes others t journal fact = let w : V = with_room v i t in record {
    journal = λ k. cond (eqb k i) journal (o.journal k);
    wide = length-set s.words j n ∙ o.wide;
    each = λ k near. dite (ℕ_discrete k i)
        (λ (e : k ≡ i). subst (λ (x : ℕ). IsRoomSound law entries (cond (eqb x i) journal (o.journal x)) (get_or (set s.words j n) (lock_index x) 0) (get_or (set s.words j n) (count_index x) 0) (get_elem? homes x) (map (λ (y : V). part_at (parts y) x) (set s.views id w))) (sym e)
        (subst (λ (l : List (RoomView E)). IsRoomSound law entries (cond (eqb i i) journal (o.journal i)) (get_or (set s.words j n) (lock_index i) 0) (get_or (set s.words j n) (count_index i) 0) (get_elem? homes i) l) (sym (map-set (λ (y : V). part_at (parts y) i) s.views id w ∙ ap (set (map (λ (y : V). part_at (parts y) i) s.views) id) (room_here v i t)))
        (subst (λ (x : List E). IsRoomSound law entries x (get_or (set s.words j n) (lock_index i) 0) (get_or (set s.words j n) (count_index i) 0) (get_elem? homes i) (set (map (λ (y : V). part_at (parts y) i) s.views) id t)) (sym (ap (λ b. cond b journal (o.journal i)) (eq-eqb i i refl))) fact)))
        (λ (no : k ≢ i).
        subst (λ (l : List (RoomView E)). IsRoomSound law entries (cond (eqb k i) journal (o.journal k)) (get_or (set s.words j n) (lock_index k) 0) (get_or (set s.words j n) (count_index k) 0) (get_elem? homes k) l) (sym (map-set (λ (y : V). part_at (parts y) k) s.views id w ∙ (ap (set (map (λ (y : V). part_at (parts y) k) s.views) id) (room_there v i k t no) ∙ set_again (map (λ (y : V). part_at (parts y) k) s.views) id (part_at (parts v) k) (at_map (λ (y : V). part_at (parts y) k) s.views id v me))))
        (subst (λ (h : Option (Option S)). IsRoomSound law entries (cond (eqb k i) journal (o.journal k)) (get_or (set s.words j n) (lock_index k) 0) (get_or (set s.words j n) (count_index k) 0) h (map (λ (y : V). part_at (parts y) k) s.views)) (sym (others k no))
        (subst (λ (x : List E). IsRoomSound law entries x (get_or (set s.words j n) (lock_index k) 0) (get_or (set s.words j n) (count_index k) 0) (get_elem? s.homes k) (map (λ (y : V). part_at (parts y) k) s.views)) (sym (ap (λ b. cond b journal (o.journal k)) (ne_eqb k i no)))
        (subst (λ (x : ℕ). IsRoomSound law entries (o.journal k) x (get_or (set s.words j n) (count_index k) 0) (get_elem? s.homes k) (map (λ (y : V). part_at (parts y) k) s.views)) (sym (get_or-set_other s.words j (lock_index k) n 0 (apart k no).0))
        (subst (λ (x : ℕ). IsRoomSound law entries (o.journal k) (get_or s.words (lock_index k) 0) x (get_elem? s.homes k) (map (λ (y : V). part_at (parts y) k) s.views)) (sym (get_or-set_other s.words j (count_index k) n 0 (apart k no).1)) (o.each k near))))));
    seats = subst AreSeats (sym (map-set standing s.views id w ∙ (ap (set (map standing s.views) id) (stands v (with_part_at (parts v) i t)) ∙ set_again (map standing s.views) id (standing v) (at_map standing s.views id v me)))) o.seats;
    emptied = Each-set (λ (x : V). (standing x).gone ≡ true → x ≡ spent) s.views id w (λ g. absurd (not_gone (standing w) (ap (λ (z : Standing). z.gone) (stands v (with_part_at (parts v) i t)) ∙ alive) g)) o.emptied;
  }

  locks_apart : (i k : ℕ) → k ≢ i → (lock_index k ≢ lock_index i) × (count_index k ≢ lock_index i)
  locks_apart i k n = ((λ e. n (omega (arith, e))), λ e. absurd (omega (arith, e)))

  counts_apart : (i k : ℕ) → k ≢ i → (lock_index k ≢ count_index i) × (count_index k ≢ count_index i)
  counts_apart i k n = ((λ e. absurd (omega (arith, e))), λ e. n (omega (arith, e)))

  module _ (rooms slots id : ℕ) (m : Me S V) (alive : (standing m.0).gone ≡ false) (i : ℕ) (low : i < rooms) where
    abbrev mine : RoomView E
    mine = part_at (parts m.0) i

    -- the count word is loaded
    pub loads : Allows (AreRoomsSound law entries parts standing spent rooms) slots id m (count_index i) (λ y. y)
        (λ n r. (r ≡ (with_room m.0 i (with_room_count mine (n % 2 ^ 32) (n / 2 ^ 32)), m.1)) × IsCount law mine (n % 2 ^ 32) (n / 2 ^ 32))
    loads s o deep me fits = let v : V = m.0 in let f = o.each i low in let j : List E = o.journal i in let n : ℕ = get_or s.words (count_index i) 0 in
        let len_is : n % 2 ^ 32 ≡ law.len j = omega (arith, f.counted, f.fits.entries, f.fits.count) in let version_is : n / 2 ^ 32 ≡ length j = omega (arith, f.counted, f.fits.entries, f.fits.count) in
        let t : RoomView E = with_room_count mine (n % 2 ^ 32) (n / 2 ^ 32) in let same = set-get_or s.words (count_index i) 0 in (
          with_room v i t,
          keeps,
          tt,
          on_room rooms s o id v me alive i low (count_index i) n (counts_apart i) s.homes (λ k _. refl) t j
              (subst (λ (l : List ℕ). IsRoomSound law entries j (get_or l (lock_index i) 0) (get_or l (count_index i) 0) (get_elem? s.homes i) (set (map (λ (y : V). part_at (parts y) i) s.views) id t)) (sym same)
              (subst (λ (x : ℕ × ℕ). IsRoomSound law entries j (get_or s.words (lock_index i) 0) (get_or s.words (count_index i) 0) (get_elem? s.homes i) (set (map (λ (y : V). part_at (parts y) i) s.views) id (with_room_count mine x.0 x.1))) (λ q. (sym len_is q, sym version_is q))
              (room.loads law entries j (get_or s.words (lock_index i) 0) (get_or s.words (count_index i) 0) (get_elem? s.homes i) (map (λ (y : V). part_at (parts y) i) s.views) id mine (at_map (λ (y : V). part_at (parts y) i) s.views id v me) f))),
          (refl, record { journal = j; told = record { legal = f.legal; fits = f.fits; seen = f.seen id mine (at_map (λ (y : V). part_at (parts y) i) s.views id v me) }; len = len_is; version = version_is }),
        )

    -- an entry is stored, with its count
    pub stores : (e : E) (new : ℕ) → mine.in_hand ≡ true → law.may mine.hand e → FitsCountWord law (mine.hand ++ e ∷ []) → new ≡ length (mine.hand ++ e ∷ []) * 2 ^ 32 + law.len (mine.hand ++ e ∷ [])
        → Allows (AreRoomsSound law entries parts standing spent rooms) slots id m (count_index i) (λ _. new) (λ _ r. r ≡ (with_room m.0 i (with_room_stored mine e), m.1))
    stores e new has may small is s o deep me fits = let v : V = m.0 in let f = o.each i low in let j : List E = o.journal i in let t : RoomView E = with_room_stored mine e in let wide = o.wide in (
      with_room v i t,
      keeps,
      tt,
      on_room rooms s o id v me alive i low (count_index i) new (counts_apart i) s.homes (λ k _. refl) t (j ++ e ∷ [])
          (subst (λ (x : ℕ × ℕ). IsRoomSound law entries (j ++ e ∷ []) x.0 x.1 (get_elem? s.homes i) (set (map (λ (y : V). part_at (parts y) i) s.views) id t))
          (λ q. (sym (get_or-set_other s.words (count_index i) (lock_index i) new 0 (λ x. absurd (omega (arith, x)))) q, sym (get_or-set_same s.words (count_index i) new 0 (omega (arith, wide, low))) q))
          (room.stores law entries j (get_or s.words (lock_index i) 0) (get_or s.words (count_index i) 0) (get_elem? s.homes i) (map (λ (y : V). part_at (parts y) i) s.views) id mine (at_map (λ (y : V). part_at (parts y) i) s.views id v me) f e new has may small is)),
      refl,
    )

    -- the room is taken, where its lock word was 0
    pub locks : m.1 ≡ [] → mine.in_hand ≡ false → Allows (AreRoomsSound law entries parts standing spent rooms) slots id m (lock_index i) (λ y. either (eqb y 0) 1 y)
        (λ n r. (n ≡ 0 → (room : S) × (r ≡ (with_room m.0 i (with_room_hand mine (entries room)), (i, room) ∷ [])) × IsTold law mine (entries room)) × (n ≢ 0 → r ≡ m))
    locks bare out s o deep me fits = let v : V = m.0 in let f = o.each i low in let j : List E = o.journal i in let n : ℕ = get_or s.words (lock_index i) 0 in let wide = o.wide in
        exchanged n 0 1 (λ y. (w : V) × (a : Act S) × Valid s.homes m.1 a × AreRoomsSound law entries parts standing spent rooms (stepped s (lock_index i) y id m.1 w a)
        × ((n ≡ 0 → (room : S) × ◌≡◌ {A = Me S V} (w, carried_after m.1 a) (with_room v i (with_room_hand mine (entries room)), (i, room) ∷ []) × IsTold law mine (entries room)) × (n ≢ 0 → ◌≡◌ {A = Me S V} (w, carried_after m.1 a) m)))
        (λ free. let home = f.at_home free in let kept = home.0 in let t : RoomView E = with_room_hand mine (entries kept) in (
          with_room v i t,
          takes i kept,
          home.1,
          on_room rooms s o id v me alive i low (lock_index i) 1 (locks_apart i) (set s.homes i none) (λ k no. set_else s.homes i k none no) t j
              (subst (λ (x : ℕ × ℕ). IsRoomSound law entries j x.0 x.1 (get_elem? (set s.homes i none) i) (set (map (λ (y : V). part_at (parts y) i) s.views) id t))
              (λ q. (sym (get_or-set_same s.words (lock_index i) 1 0 (omega (arith, wide, low))) q, sym (get_or-set_other s.words (lock_index i) (count_index i) 1 0 (λ x. absurd (omega (arith, x)))) q))
              (subst (λ (l : List E). IsRoomSound law entries j 1 (get_or s.words (count_index i) 0) (get_elem? (set s.homes i none) i) (set (map (λ (y : V). part_at (parts y) i) s.views) id (with_room_hand mine l))) (sym home.2)
              (room.takes law entries j n (get_or s.words (count_index i) 0) (get_elem? s.homes i) (map (λ (y : V). part_at (parts y) i) s.views) id mine (at_map (λ (y : V). part_at (parts y) i) s.views id v me) f (get_elem? (set s.homes i none) i) free out))),
          ((λ _. (kept, ap (λ (l : List (ℕ × S)). (with_room v i t, (i, kept) ∷ l)) bare, subst (IsTold law mine) (sym home.2) (record { legal = f.legal; fits = f.fits; seen = f.seen id mine (at_map (λ (y : V). part_at (parts y) i) s.views id v me) }))), λ no. absurd (no free)),
        ))
        (λ busy. (
          v,
          keeps,
          tt,
          subst (λ (x : State S V). AreRoomsSound law entries parts standing spent rooms x) (λ q. record { words = sym (set-get_or s.words (lock_index i) 0) q; homes = s.homes; views = sym (set_again s.views id v me) q }) o,
          ((λ free. absurd (busy free)), λ _. refl),
        ))

    -- the room is given back, with the journal that the seat has in hand
    pub unlocks : (kept : S) → slots ≡ rooms → m.1 ≡ (i, kept) ∷ [] → mine.in_hand ≡ true → entries kept ≡ mine.hand → Allows (AreRoomsSound law entries parts standing spent rooms) slots id m (lock_index i) (λ _. 0)
        (λ _ r. r ≡ (with_room m.0 i (with_room_given mine), []))
    unlocks kept all has_slot has same s o deep me fits = let v : V = m.0 in let f = o.each i low in let j : List E = o.journal i in let wide = o.wide in let t : RoomView E = with_room_given mine in
        subst (λ (c : List (ℕ × S)). (w : V) × (a : Act S) × Valid s.homes c a × AreRoomsSound law entries parts standing spent rooms (stepped s (lock_index i) 0 id c w a) × ◌≡◌ {A = Me S V} (w, carried_after c a) (with_room v i t, [])) (sym has_slot) (
          with_room v i t,
          gives,
          tt,
          on_room rooms s o id v me alive i low (lock_index i) 0 (locks_apart i) (set s.homes i (some kept)) (λ k no. set_else s.homes i k (some kept) no) t j
              (subst (λ (x : ℕ × ℕ). IsRoomSound law entries j x.0 x.1 (get_elem? (set s.homes i (some kept)) i) (set (map (λ (y : V). part_at (parts y) i) s.views) id t))
              (λ q. (sym (get_or-set_same s.words (lock_index i) 0 0 (omega (arith, wide, low))) q, sym (get_or-set_other s.words (lock_index i) (count_index i) 0 0 (λ x. absurd (omega (arith, x)))) q))
              (subst (λ (h : Option (Option S)). IsRoomSound law entries j 0 (get_or s.words (count_index i) 0) h (set (map (λ (y : V). part_at (parts y) i) s.views) id t)) (sym (set_here s.homes i (some kept) (omega (arith, deep, all, low))))
              (room.gives law entries j (get_or s.words (lock_index i) 0) (get_or s.words (count_index i) 0) (get_elem? s.homes i) (map (λ (y : V). part_at (parts y) i) s.views) id mine (at_map (λ (y : V). part_at (parts y) i) s.views id v me) f kept has same))),
          refl,
        )

  -- the first seat is split
  pub splits : (rooms id : ℕ) (v left new : V) → (standing v).first ≡ true → (standing v).gone ≡ false → parts left ≡ parts v → parts new ≡ [] → standing left ≡ with_split (standing v) → standing new ≡ at_split → Splits (AreRoomsSound law entries parts standing spent rooms) id v left new
  splits rooms id v left new is alive same blank stand-left stand-new s o me = record {
    journal = o.journal;
    wide = o.wide;
    each = λ k near. kept s.views id v me (λ (y : V). part_at (parts y) k) left new (IsRoomSound law entries (o.journal k) (get_or s.words (lock_index k) 0) (get_or s.words (count_index k) 0) (get_elem? s.homes k)) (ap (λ l. part_at l k) same)
        (subst (λ (t : RoomView E). IsRoomSound law entries (o.journal k) (get_or s.words (lock_index k) 0) (get_or s.words (count_index k) 0) (get_elem? s.homes k) (map (λ (y : V). part_at (parts y) k) s.views ++ t ∷ [])) (sym (ap (λ l. part_at l k) blank))
        (room.split law entries (o.journal k) (get_or s.words (lock_index k) 0) (get_or s.words (count_index k) 0) (get_elem? s.homes k) (map (λ (y : V). part_at (parts y) k) s.views) (o.each k near)));
    seats = grown s.views id v me standing left new AreSeats (subst (λ (p : Standing × Standing). AreSeats (set (map standing s.views) id p.0 ++ p.1 ∷ [])) (λ q. (sym stand-left q, sym stand-new q))
        (AreSeats-split (map standing s.views) id (standing v) (at_map standing s.views id v me) is o.seats));
    emptied = Each-push (λ (x : V). (standing x).gone ≡ true → x ≡ spent) (set s.views id left) new (λ g. absurd (not_gone (standing new) (ap (λ (z : Standing). z.gone) stand-new) g))
        (Each-set (λ (x : V). (standing x).gone ≡ true → x ≡ spent) s.views id left (λ g. absurd (not_gone (standing left) (ap (λ (z : Standing). z.gone) stand-left ∙ alive) g)) o.emptied);
  }

  -- another seat, which has no room in hand, is joined into the first
  pub joins : (rooms id : ℕ) (v : V) (other : ℕ) (u both : V) → (standing v).first ≡ true → (standing v).gone ≡ false → (standing u).gone ≡ false → ((k : ℕ) → k < rooms → (part_at (parts u) k).in_hand ≡ false)
      → ((k : ℕ) → part_at (parts both) k ≡ joined_room (part_at (parts v) k) (part_at (parts u) k)) → parts spent ≡ [] → standing both ≡ with_join (standing v) → standing spent ≡ at_end → Joins (AreRoomsSound law entries parts standing spent rooms) id v other u both spent
  joins rooms id v other u both is alive near-alive out put blank stand-both stand-spent s o me apart them = let at : get_elem? s.views other ≡ some u = sym (set_else s.views id other both apart) ∙ them in record {
    journal = o.journal;
    wide = o.wide;
    each = λ k near. joined_list (λ (y : V). part_at (parts y) k) (IsRoomSound law entries (o.journal k) (get_or s.words (lock_index k) 0) (get_or s.words (count_index k) 0) (get_elem? s.homes k)) s.views id other both spent
        (subst (λ (p : RoomView E × RoomView E). IsRoomSound law entries (o.journal k) (get_or s.words (lock_index k) 0) (get_or s.words (count_index k) 0) (get_elem? s.homes k) (set (set (map (λ (y : V). part_at (parts y) k) s.views) id p.0) other p.1)) (λ q. (sym (put k) q, sym (ap (λ l. part_at l k) blank) q))
        (room.join law entries (o.journal k) (get_or s.words (lock_index k) 0) (get_or s.words (count_index k) 0) (get_elem? s.homes k) (map (λ (y : V). part_at (parts y) k) s.views) id other (part_at (parts v) k) (part_at (parts u) k) (at_map (λ (y : V). part_at (parts y) k) s.views id v me) apart (at_map (λ (y : V). part_at (parts y) k) s.views other u at) (out k near) (o.each k near)));
    seats = joined_list standing AreSeats s.views id other both spent (subst (λ (p : Standing × Standing). AreSeats (set (set (map standing s.views) id p.0) other p.1)) (λ q. (sym stand-both q, sym stand-spent q))
        (AreSeats-join (map standing s.views) id other (standing v) (standing u) (at_map standing s.views id v me) apart (at_map standing s.views other u at) is near-alive o.seats));
    emptied = Each-set (λ (x : V). (standing x).gone ≡ true → x ≡ spent) (set s.views id both) other spent (λ _. refl)
        (Each-set (λ (x : V). (standing x).gone ≡ true → x ≡ spent) s.views id both (λ g. absurd (not_gone (standing both) (ap (λ (z : Standing). z.gone) stand-both ∙ alive) g)) o.emptied);
  }
