-- SPDX-License-Identifier: GPL-2.0-only
-- What calls gain on a seat, none and one after the other.
use Rattle.shr_deferred.proofs.Common.{◌≡◌, ℕ, List, [], ◌∷◌, ◌++◌, sym, refl, ap, ◌∙◌, append-nil, map-append, Me, View, Deed, by_seat, acts_of, acts_by, Move, Moves, took, gave, takes_of, gives_of, both, append_assoc, no_moves}
use Rattle.shr_deferred.proofs.Steps.{with_moves}
use Rattle.shr_deferred.specs.Seat.{DeferredSeated, Token, IsDeferredSeat, GainsMoves, did_of, moves_of, own_of}
use Rattle.shr_deferred.specs.declared.table.Deferred.{Deferred}

-- a token whose table and number are another's
pub like : (s t : Token) → t.table_id ≡ s.table_id → t.id ≡ s.id → t ≡ record s { me = t.me }
like s t a b = ap (λ k. record t { table_id = k }) a ∙ ap (λ i. record s { me = t.me; id = i }) b

-- the seat of a token at its table
abbrev pub seated : Deferred → Token → DeferredSeated
seated d s = record { deferred = d; id = s.id; view = s.me.0 }

-- a token that took and gave these is still one of the table
pub stays : (d : Deferred) (s t : Token) (more : Moves) → IsDeferredSeat d s → t ≡ record s { me = t.me } → t.me ≡ with_moves s.id s.me more → IsDeferredSeat d t
stays d s t more o e m = record {
  seat = record { same = ap (λ (x : Token). x.table_id) e ∙ o.seat.same; here = ap (λ (x : Me (Unit {0}) View). x.0.standing.gone) m ∙ o.seat.here };
  bare = ap (λ (x : Me (Unit {0}) View). x.1) m ∙ o.bare;
}

-- the moves of a seat that did these more
pub moves_more : (id : ℕ) (old new : List (Deed Move)) (more : Moves) → new ≡ old ++ by_seat id more → acts_of new ≡ both (acts_of old) more
moves_more id old new more e = ap acts_of e ∙ (map-append (λ (d : Deed Move). d.act) old (by_seat id more) ∙ ap (λ (m : Moves). acts_of old ++ m) (acts_by id more))

-- and so much its seat gains
pub gains : (d : Deferred) (s t : Token) (more : Moves) → t ≡ record s { me = t.me } → t.me ≡ with_moves s.id s.me more → GainsMoves (seated d s) (seated d t) more
gains d s t more e m = record {
  deferred = refl;
  id = ap (λ (x : Token). x.id) e;
  did = ap (λ (x : Me (Unit {0}) View). x.0.did) m;
  moves = moves_more s.id _ _ more (ap (λ (x : Me (Unit {0}) View). x.0.did) m);
  own = ap (λ (x : Me (Unit {0}) View). x.0.own) m;
  joined = ap (λ (x : Me (Unit {0}) View). x.0.joined) m;
  standing = ap (λ (x : Me (Unit {0}) View). x.0.standing) m;
}

pub Gains-none : (s : DeferredSeated) → GainsMoves s s no_moves
Gains-none s = record { deferred = refl; id = refl; did = sym (append-nil (did_of s)); moves = sym (append-nil (moves_of s)); own = sym (append-nil (own_of s)); joined = refl; standing = refl }

-- what two calls gain, one after the other
pub Gains-trans : (s t u : DeferredSeated) (m k : Moves) → GainsMoves s t m → GainsMoves t u k → GainsMoves s u (both m k)
Gains-trans s t u m k a b = record {
  deferred = b.deferred ∙ a.deferred;
  id = b.id ∙ a.id;
  did = b.did ∙ (ap (λ j. did_of t ++ by_seat j k) a.id ∙ (ap (λ (l : List (Deed Move)). l ++ by_seat s.id k) a.did ∙ (append_assoc (did_of s) (by_seat s.id m) (by_seat s.id k)
      ∙ ap (λ (l : List (Deed Move)). did_of s ++ l) (sym (map-append (λ (x : Move). record { seat = s.id; act = x }) m k)))));
  moves = b.moves ∙ (ap (λ (n : Moves). n ++ k) a.moves ∙ append_assoc (moves_of s) m k);
  own = b.own ∙ (ap (λ (n : Moves). n ++ k) a.own ∙ append_assoc (own_of s) m k);
  joined = b.joined ∙ a.joined;
  standing = b.standing ∙ a.standing;
}

-- the takes and the gives of one list of moves after another
pub takes_both : (m k : Moves) → takes_of (both m k) ≡ takes_of m ++ takes_of k
takes_both [] k = refl
takes_both (took x ∷ m) k = ap (λ l. x ∷ l) (takes_both m k)
takes_both (gave x ∷ m) k = takes_both m k

pub gives_both : (m k : Moves) → gives_of (both m k) ≡ gives_of m ++ gives_of k
gives_both [] k = refl
gives_both (took x ∷ m) k = gives_both m k
gives_both (gave x ∷ m) k = ap (λ l. x ∷ l) (gives_both m k)
