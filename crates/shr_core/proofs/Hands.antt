-- SPDX-License-Identifier: GPL-2.0-only
-- What a seat has in hand after it took a room, stored a count or raised a phase.
use Rattle.shr_core.proofs.Common.{◌≡◌, ℕ, zero, suc, ◌%◌, ◌<◌, Bool, false, cond, eqb, List, [], ◌∷◌, ◌++◌, sym, refl, ap, subst, ◌∙◌, arith, eq-eqb, ne_eqb, Some, dite, ℕ_discrete, LookupWord, PoolEntry, Registered, Unregistered, Idle, is_live_decl, lowest_idle, total, only_yes, only_no, View, Shape, RoomContent, Hand, places_in, is_room, has_room, content_in, in_hand, with_content, with_taken, with_phase, turn_at, MayPhase}
use Rattle.shr_model.specs.Pool.{phase_of, is_live_below, lowest_free}
use Rattle.shr_model.specs.PoolEnds.{dying_in}

-- the room that was just taken
pub taken_in_hand : (v : View) (r : ℕ) (c : RoomContent) → in_hand (with_taken v r c) r ≡ c
taken_in_hand v r c = ap (λ b. cond b c (content_in r v.holding.hands)) (eq-eqb r r refl)

-- a room that was taken is in hand
pub has_taken : (v : View) (r : ℕ) (c : RoomContent) → 0 < has_room r (with_taken v r c).holding
has_taken v r c = omega (arith, only_yes r r refl)

-- the room whose content was changed
pub changed_in_hand : (r : ℕ) (c : RoomContent) (hs : List Hand) → 0 < total (is_room r) hs → content_in r (with_content r c hs) ≡ c
changed_in_hand r c [] h = absurd (omega (arith, h))
changed_in_hand r c (x ∷ hs) h = dite (ℕ_discrete x.room r)
    (λ e. subst (λ (b : Bool). content_in r (cond b (record { room = r; content = c } ∷ hs) (x ∷ with_content r c hs)) ≡ c) (sym (eq-eqb x.room r e)) (ap (λ b. cond b c (content_in r hs)) (eq-eqb r r refl)))
    (λ n. subst (λ (b : Bool). content_in r (cond b (record { room = r; content = c } ∷ hs) (x ∷ with_content r c hs)) ≡ c) (sym (ne_eqb x.room r n)) (ap (λ b. cond b x.content (content_in r (with_content r c hs))) (ne_eqb x.room r n) ∙ changed_in_hand r c hs (omega (arith, h, only_no r x.room n))))

-- the pool in hand after a phase step
pub phase_in_hand : (shape : Shape) (v : View) (id decl : ℕ) (w : LookupWord) → 0 < has_room (places_in shape.ids) v.holding → (in_hand (with_phase shape v id decl w) (places_in shape.ids)).pool ≡ (in_hand v (places_in shape.ids)).pool ++ turn_at id decl w ∷ []
phase_in_hand shape v id decl w h = let r : ℕ = places_in shape.ids in ap (λ (c : RoomContent). c.pool) (changed_in_hand r (record (in_hand v r) { pool = (in_hand v r).pool ++ turn_at id decl w ∷ [] }) v.holding.hands h)

pub no_phase : (i : ℕ) → phase_of i [] ≡ 0
unfolding phase_of
no_phase i = refl

none_live : (ids d : ℕ) → is_live_decl ids d [] ≡ false
unfolding is_live_below phase_of
none_live zero d = refl
none_live (suc id) d = none_live id d

first_free : (ids : ℕ) → 0 < ids → lowest_idle ids [] ≡ Some 0
unfolding lowest_free phase_of
first_free zero h = absurd (omega (arith, h))
first_free (suc n) h = refl

-- with an empty pool in hand, id 0 can be registered with any declaration
pub first_registration : (shape : Shape) (v : View) (d : ℕ) → 0 < shape.ids → d < shape.decls → 0 < has_room (places_in shape.ids) v.holding → (in_hand v (places_in shape.ids)).pool ≡ [] → MayPhase shape v 0 d
first_registration shape v d ids decls has none = let idle : phase_of 0 (in_hand v (places_in shape.ids)).pool ≡ 0 = ap (phase_of 0) none ∙ no_phase 0 in record {
  near = ids;
  declared = decls;
  room = has;
  to_live = λ _. ap (is_live_decl shape.ids d) none ∙ none_live shape.ids d;
  lowest = λ _. ap (lowest_idle shape.ids) none ∙ first_free shape.ids ids;
  to_dying = λ z. absurd (omega (arith, z, idle));
  own = λ n. absurd (n (omega (arith, idle)));
  to_idle = λ z. absurd (omega (arith, z, idle));
  drained = λ z. absurd (omega (arith, z, idle));
}

-- and its entry is a Registered
pub first_turn : (d : ℕ) (w : LookupWord) → w.phase ≡ 0 → turn_at 0 d w ≡ Registered d 0 w.lookups
first_turn d w z = ap (λ b. cond b (Registered d 0 w.lookups) (cond (eqb (w.phase % 3) 1) (Unregistered d 0 w.lookups) (Idle 0))) (eq-eqb (w.phase % 3) 0 (omega (arith, z)))

-- of a single id, none is dying then
pub none_dying : (d n : ℕ) → dying_in 1 (Registered d 0 n ∷ []) ≡ 0
unfolding dying_in phase_of
none_dying d n = refl

-- with an empty journal of the pool the phase is 0
pub idle_word : (w : LookupWord) (pool : List PoolEntry) → pool ≡ [] → w.phase ≡ phase_of 0 pool → w.phase ≡ 0
idle_word w pool none e = e ∙ (ap (phase_of 0) none ∙ no_phase 0)
