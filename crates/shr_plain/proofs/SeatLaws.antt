-- SPDX-License-Identifier: GPL-2.0-only
-- A seat after it looked at a room or put an entry into it.
use Rattle.shr_plain.proofs.Common.{◌≡◌, ◌≢◌, ℕ, ◌<◌, ◌≤◌, false, List, [], length, sym, refl, ap, subst, ◌∙◌, arith, dite, ℕ_discrete, PlainEntry, RoomView, with_known, with_entry, here, there, part_joined, units, with_part, part_of, split_units_view, joined_units_view, UnitSeat, PlainState, IsPlainSeat, PlainSeated, plain_seated, ActsPlain, DeferredSeated, Kept, PlainWalk, Standing, map-append, UnitsSat, Changes, Looked, Put, Makes, IsJournalWorn, Place, free_of, row_count, Sizes, IsTold, IsUnitSeatOf, Sees, row_of}
use Rattle.shr_plain.specs.declared.table.Pools.{Pools}
use Rattle.shr_base.specs.declared.replies.Spent.TheVariants as spent
use Rattle.shr_deferred.proofs.Seating.{some_words}
use Rattle.shr_deferred.specs.Moves.{Move, Moves}
use Rattle.shr_deferred.specs.Rule.{with_split_view, joined_view}
use Rattle.shr_deferred.specs.Seat.{moves_of}
use Rattle.shr_seats.specs.RoomViews.{joined_parts}
use Rattle.shr_seats.specs.Lines.{Deed}
use Rattle.shr_plain.specs.Seat.{joined_state, plain_split, plain_joined}

-- a seat whose table and number are another's
pub like : (s t : UnitSeat) → t.table_id ≡ s.table_id → t.id ≡ s.id → t ≡ record s { me = t.me }
like s t a b = ap (λ k. record t { table_id = k }) a ∙ ap (λ i. record s { me = t.me; id = i }) b

-- a seat of which only what it knows and has changed
pub became : (s t : UnitSeat) (m : UnitsSat) → Changes (λ _ r. r ≡ m) s t → t ≡ record s { me = m }
became s t m did = did.same ∙ ap (λ (x : UnitsSat). record s { me = x }) did.did

-- the same seat after two steps
pub same_then : (s t u : UnitSeat) (m : UnitsSat) → t ≡ record s { me = t.me } → u ≡ record t { me = m } → u ≡ record s { me = u.me }
same_then s t u m a b = b ∙ (ap (λ (x : UnitSeat). record x { me = m }) a ∙ ap (λ (x : UnitSeat). record s { me = x.me }) (sym b))

module _ (p : Pools) (i : ℕ) (s t : UnitSeat) (is : IsUnitSeatOf p s) (table : t.table_id ≡ s.table_id) where
  -- a seat of which one part changed, with no room in hand
  pub unit_seat : (x : RoomView PlainEntry) → x.in_hand ≡ false → t.me ≡ (with_part s.me.0 i x, []) → IsUnitSeatOf p t
  unit_seat x out now = record {
    seat = record { same = table ∙ is.seat.same; here = ap (λ (m : UnitsSat). m.0.standing.gone) now ∙ is.seat.here };
    bare = ap (λ (m : UnitsSat). m.1) now;
    out = λ k. ap (λ (m : UnitsSat). (part_of m.0 k).in_hand) now ∙ dite (ℕ_discrete k i)
        (λ (e : k ≡ i). subst (λ (j : ℕ). (part_of (with_part s.me.0 i x) j).in_hand ≡ false) (sym e) (ap (λ (y : RoomView PlainEntry). y.in_hand) (here s.me.0.rooms i x) ∙ out))
        (λ (no : k ≢ i). ap (λ (y : RoomView PlainEntry). y.in_hand) (there s.me.0.rooms i k x no) ∙ is.out k);
  }

  pub unit_looked : (journal : List PlainEntry) → Looked i s.me t.me journal → IsUnitSeatOf p t
  unit_looked journal did = unit_seat (with_known (part_of s.me.0 i) journal) refl did.seat

  pub unit_put : (journal : List PlainEntry) (e : PlainEntry) → Put i s.me t.me journal e → IsUnitSeatOf p t
  unit_put journal e did = unit_seat (with_entry (part_of s.me.0 i) journal e) refl did.seat

-- a seat whose seat at the table of rooms is another
module _ (p : Pools) (s t : UnitSeat) (d : DeferredSeated) (walks : Kept PlainWalk) where
  abbrev pub was : PlainSeated
  was = plain_seated p s d walks

  abbrev pub is : PlainSeated
  is = plain_seated p t d walks

  abbrev state_with : UnitsSat → PlainState
  state_with m = record was.state { rooms = m.0.rooms }

  -- which stands where it stood
  pub acts : (P : PlainState → PlainState → Type 0) → t.me.0.standing ≡ s.me.0.standing → P was.state is.state → ActsPlain P was is
  acts P same did = record { did = did; rest = ap (λ (z : Standing). record is { standing = (z, d.view.standing) }) same }

  -- it looked at a room
  pub sees : (P : PlainState → PlainState → Type 0) (i : ℕ) (journal : List PlainEntry) → Looked i s.me t.me journal → (Sees i was.state is.state journal → P was.state is.state) → ActsPlain P was is
  sees P i journal did then = acts P (ap (λ (m : UnitsSat). m.0.standing) did.seat) (then (record { told = did.told; state = ap state_with did.seat }))

  -- it put an entry into a room
  pub makes : (P : PlainState → PlainState → Type 0) (i : ℕ) (journal : List PlainEntry) (e : PlainEntry) → Put i s.me t.me journal e → (Makes i was.state is.state journal e → P was.state is.state) → ActsPlain P was is
  makes P i journal e did then = acts P (ap (λ (m : UnitsSat). m.0.standing) did.seat) (then (record { told = did.told; state = ap state_with did.seat }))

module _ (p : Pools) (i : ℕ) (s t : UnitSeat) (d : DeferredSeated) (is : IsPlainSeat p s d) (table : t.table_id ≡ s.table_id) where
  pub looked_seat : (journal : List PlainEntry) → Looked i s.me t.me journal → IsPlainSeat p t d
  looked_seat journal did = record { units = unit_looked p i s t is.units table journal did; deferred = is.deferred }

  pub put_seat : (journal : List PlainEntry) (e : PlainEntry) → Put i s.me t.me journal e → IsPlainSeat p t d
  put_seat journal e did = record { units = unit_put p i s t is.units table journal e did; deferred = is.deferred }

-- a seat of the table of rooms after it was split
pub unit_split : (p : Pools) (s t : UnitSeat) → IsUnitSeatOf p s → t.table_id ≡ s.table_id → t.me ≡ (split_units_view s.me.0, s.me.1) → IsUnitSeatOf p t
unit_split p s t is table now = record {
  seat = record { same = table ∙ is.seat.same; here = ap (λ (m : UnitsSat). m.0.standing.gone) now ∙ is.seat.here };
  bare = ap (λ (m : UnitsSat). m.1) now ∙ is.bare;
  out = λ k. ap (λ (m : UnitsSat). (part_of m.0 k).in_hand) now ∙ is.out k;
}

-- and after another was joined into it
pub unit_join : (p : Pools) (s t u : UnitSeat) → IsUnitSeatOf p s → t.table_id ≡ s.table_id → t.me ≡ (joined_units_view s.me.0 u.me.0, s.me.1) → IsUnitSeatOf p t
unit_join p s t u is table now = record {
  seat = record { same = table ∙ is.seat.same; here = ap (λ (m : UnitsSat). m.0.standing.gone) now ∙ is.seat.here };
  bare = ap (λ (m : UnitsSat). m.1) now ∙ is.bare;
  out = λ k. ap (λ (m : UnitsSat). (part_of m.0 k).in_hand) now ∙ (ap (λ (x : RoomView PlainEntry). x.in_hand) (part_joined s.me.0.rooms u.me.0.rooms k) ∙ is.out k);
}

-- the table of rooms has a word
pub has_words : (p : Pools) → 0 < p.table.shared.table_id.words
has_words p = let some = some_words p.sizes (row_count p.sizes) refl p.ids.0 p.nodes.0 (let one = p.groups in omega (arith, one)) in let wide = p.wide in omega (arith, some, wide)

-- a journal that has all entries that it may have is told to be used up
pub worn_is : (place : Place) (t : RoomView PlainEntry) (journal : List PlainEntry) (entries free : ℕ) → IsTold units t journal → entries ≡ length journal → free ≡ free_of journal → 2147483648 ≤ entries → IsJournalWorn place journal (spent.List place entries free)
worn_is place t journal entries free told long kept most = record {
  full = let few = told.fits.short in omega (arith, few, long, most);
  spent = ap (λ (x : ℕ × ℕ). spent.List place x.0 x.1) (λ q. (long q, kept q));
}

-- what is so of a place and its row is so of the place that it is
pub at_row : (P : Place → ℕ → Type 0) (z : Sizes) (place found : Place) (row : ℕ) → row ≡ row_of z found → found ≡ place → P found row → P place (row_of z place)
at_row P z place found row row_is place_is so = subst (λ (x : Place). P x (row_of z x)) place_is (subst (P found) row_is so)

-- a seat by what it knows at both tables
abbrev by_views : Pools → Kept PlainWalk → UnitsSat × DeferredSeated → PlainSeated
by_views p walks x = record { pools = p; state = record { rooms = x.0.0.rooms; moves = moves_of x.1; walks = walks.items }; standing = (x.0.0.standing, x.1.view.standing); spare = walks.spare }

-- the seat once both its seats were split
pub split_is : (p : Pools) (s t : UnitSeat) (d e : DeferredSeated) (walks : Kept PlainWalk) → t.me ≡ (split_units_view s.me.0, s.me.1) → e ≡ record d { view = with_split_view d.view }
    → plain_seated p t e walks ≡ record (plain_seated p s d walks) { standing = plain_split (plain_seated p s d walks).standing }
split_is p s t d e walks a b = ap (by_views p walks) (λ q. (a q, b q))

-- and once others were joined into both
pub join_is : (p q : Pools) (s t u : UnitSeat) (d e f : DeferredSeated) (walks others : Kept PlainWalk) → t.me ≡ (joined_units_view s.me.0 u.me.0, s.me.1) → e ≡ record d { view = joined_view d.view f.view }
    → plain_seated p t e walks ≡ record (plain_seated p s d walks) { state = joined_state (plain_seated p s d walks).state (plain_seated q u f others).state; standing = plain_joined (plain_seated p s d walks).standing }
join_is p q s t u d e f walks others a b = ap (by_views p walks) (λ i. (a i, b i))
    ∙ ap (λ (m : Moves). record (plain_seated p s d walks) { state = record { rooms = joined_parts s.me.0.rooms u.me.0.rooms; moves = m; walks = walks.items }; standing = plain_joined (plain_seated p s d walks).standing }) (map-append (λ (x : Deed Move). x.act) d.view.did f.view.did)
