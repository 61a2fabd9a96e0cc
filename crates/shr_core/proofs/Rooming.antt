-- SPDX-License-Identifier: GPL-2.0-only
-- Rooms and hands keep their part of the rule.
use Rattle.shr_core.proofs.Common.{◌≡◌, ℕ, suc, ◌<◌, ◌≤◌, ◌≢◌, Bool, true, false, cond, eqb, List, [], ◌∷◌, set, sym, refl, ap, subst, ◌∙◌, ⊎_elim, arith, eq-eqb, ne_eqb, dite, ℕ_discrete, some, some-ne-none, get_elem?, at_set, Each, total, only, total_same, total-set, term_le, terms_le, Each-set, Each-cons, only_yes, only_no, Slot, RoomContent, Hand, Holding, AreRooms, AreInHand, is_room, has_room, content_in, without_room, with_content}
use Rattle.std.specs.Prelude.{Option as Maybe}
use mathlib.Core.Option.{Option}

-- a room that is in hand has what it has there
pub held : (rooms : ℕ → Type 0) (r : ℕ) (fits : ℕ → RoomContent → Type 0) (hs : List Hand) → 0 < total (is_room r) hs → Each (λ h. rooms h.room × fits h.room h.content) hs → rooms r × fits r (content_in r hs)
held rooms r fits [] some-room all = absurd (omega arith)
held rooms r fits (h ∷ hs) some-room all = dite (ℕ_discrete h.room r)
    (λ e. let mine = all 0 h refl in subst (λ (b : Bool). rooms r × fits r (cond b h.content (content_in r hs))) (sym (eq-eqb h.room r e)) (subst rooms e mine.0, subst (λ (x : ℕ). fits x h.content) e mine.1))
    (λ n. subst (λ (b : Bool). rooms r × fits r (cond b h.content (content_in r hs))) (sym (ne_eqb h.room r n)) (held rooms r fits hs (omega (arith, some-room, only_no r h.room n)) (λ j x e. all (suc j) x e)))

-- the rooms in hand without one
pub without_same : (r : ℕ) (hs : List Hand) → total (is_room r) hs ≤ 1 → total (is_room r) (without_room r hs) ≡ 0
without_same r [] few = refl
without_same r (h ∷ hs) few = dite (ℕ_discrete h.room r)
    (λ e. subst (λ (b : Bool). total (is_room r) (cond b hs (h ∷ without_room r hs)) ≡ 0) (sym (eq-eqb h.room r e)) (omega (arith, few, only_yes r h.room e)))
    (λ n. subst (λ (b : Bool). total (is_room r) (cond b hs (h ∷ without_room r hs)) ≡ 0) (sym (ne_eqb h.room r n)) (omega (arith, only_no r h.room n, without_same r hs (omega (arith, few, only_no r h.room n)))))

pub without_else : (r x : ℕ) (hs : List Hand) → x ≢ r → total (is_room x) (without_room r hs) ≡ total (is_room x) hs
without_else r x [] ne = refl
without_else r x (h ∷ hs) ne = dite (ℕ_discrete h.room r)
    (λ e. subst (λ (b : Bool). total (is_room x) (cond b hs (h ∷ without_room r hs)) ≡ total (is_room x) (h ∷ hs)) (sym (eq-eqb h.room r e)) (omega (arith, only_no x h.room (λ d. ne (sym d ∙ e)))))
    (λ n. subst (λ (b : Bool). total (is_room x) (cond b hs (h ∷ without_room r hs)) ≡ total (is_room x) (h ∷ hs)) (sym (ne_eqb h.room r n)) (omega (arith, without_else r x hs ne)))

Each-without : (P : Hand → Type 0) (r : ℕ) (hs : List Hand) → Each P hs → Each P (without_room r hs)
Each-without P r [] all = all
Each-without P r (h ∷ hs) all = elim (eqb h.room r) as (λ b. Each P (cond b hs (h ∷ without_room r hs))) [ true ↦ (λ j x e. all (suc j) x e) | false ↦ Each-cons P h (without_room r hs) (all 0 h refl) (Each-without P r hs (λ j x e. all (suc j) x e)) ]

-- the rooms in hand where one's content changes
pub content_rooms : (r x : ℕ) (c : RoomContent) (hs : List Hand) → total (is_room x) (with_content r c hs) ≡ total (is_room x) hs
content_rooms r x c [] = refl
content_rooms r x c (h ∷ hs) = dite (ℕ_discrete h.room r)
    (λ e. subst (λ (b : Bool). total (is_room x) (cond b (record { room = r; content = c } ∷ hs) (h ∷ with_content r c hs)) ≡ total (is_room x) (h ∷ hs)) (sym (eq-eqb h.room r e)) (omega (arith, ap (only x) e)))
    (λ n. subst (λ (b : Bool). total (is_room x) (cond b (record { room = r; content = c } ∷ hs) (h ∷ with_content r c hs)) ≡ total (is_room x) (h ∷ hs)) (sym (ne_eqb h.room r n)) (omega (arith, content_rooms r x c hs)))

-- each room in hand fits, where one's content changes and the others fit as before
Each-content : (rooms : ℕ → Type 0) (r : ℕ) (c : RoomContent) (fits fits' : ℕ → RoomContent → Type 0) (hs : List Hand) → rooms r → total (is_room r) hs ≤ 1 → fits' r c → ((x : ℕ) (d : RoomContent) → x ≢ r → fits x d → fits' x d)
    → Each (λ h. rooms h.room × fits h.room h.content) hs → Each (λ h. rooms h.room × fits' h.room h.content) (with_content r c hs)
Each-content rooms r c fits fits' [] near few mine others all = λ j x e. absurd (some-ne-none x (sym e))
Each-content rooms r c fits fits' (h ∷ hs) near few mine others all = let P : Hand → Type 0 = λ x. rooms x.room × fits' x.room x.content in dite (ℕ_discrete h.room r)
    (λ e. subst (λ (b : Bool). Each P (cond b (record { room = r; content = c } ∷ hs) (h ∷ with_content r c hs))) (sym (eq-eqb h.room r e))
    (Each-cons P (record { room = r; content = c }) hs (near, mine) (λ j x at. let t = all (suc j) x at in (t.0, others x.room x.content (λ d. absurd (omega (arith, few, only_yes r h.room e, term_le (is_room r) hs j x at, only_yes r x.room d))) t.1))))
    (λ n. subst (λ (b : Bool). Each P (cond b (record { room = r; content = c } ∷ hs) (h ∷ with_content r c hs))) (sym (ne_eqb h.room r n))
    (Each-cons P h (with_content r c hs) (let t = all 0 h refl in (t.0, others h.room h.content n t.1)) (Each-content rooms r c fits fits' hs near (omega (arith, few, only_no r h.room n)) mine others (λ j x at. all (suc j) x at))))

module _ (rooms : ℕ → Type 0) (lock : ℕ → ℕ) (home : ℕ → Option (Option Slot)) (keeps : ℕ → Slot → Type 0) (fits : ℕ → RoomContent → Type 0) (hs : List Holding) (o : AreRooms rooms lock home keeps fits hs) where
  -- a seat has a room in hand at most once
  pub once : (id r : ℕ) (v : Holding) → get_elem? hs id ≡ some v → rooms r → has_room r v ≤ 1
  once id r v at near = omega (arith, o.locks r near, o.one r near, term_le (has_room r) hs id v at)

  -- what a seat has in hand
  pub mine : (id r : ℕ) (v : Holding) → get_elem? hs id ≡ some v → 0 < has_room r v → rooms r × fits r (content_in r v.hands)
  mine id r v at some-room = held rooms r fits v.hands some-room (o.hand id v at)

-- the room r is taken
pub takes : (rooms : ℕ → Type 0) (lock lock' : ℕ → ℕ) (home home' : ℕ → Option (Option Slot)) (keeps : ℕ → Slot → Type 0) (fits : ℕ → RoomContent → Type 0) (hs : List Holding) (id r : ℕ) (v : Holding) (c : RoomContent)
    → get_elem? hs id ≡ some v → rooms r → lock r ≡ 0 → lock' r ≡ 1 → ((x : ℕ) → x ≢ r → lock' x ≡ lock x) → ((x : ℕ) → rooms x → x ≢ r → home' x ≡ home x)
    → fits r c → AreRooms rooms lock home keeps fits hs
    → AreRooms rooms lock' home' keeps fits (set hs id (record v { hands = record { room = r; content = c } ∷ v.hands }))
takes rooms lock lock' home home' keeps fits hs id r v c at near was is others elsewhere shows o = let w : Holding = record v { hands = record { room = r; content = c } ∷ v.hands } in record {
  locks = λ x inside. let moved = total-set (has_room x) hs id v w at in dite (ℕ_discrete x r)
      (λ e. omega (arith, moved, only_yes x r (sym e), o.locks x inside, ap lock e, ap lock' e))
      (λ n. omega (arith, moved, only_no x r (λ e. n (sym e)), o.locks x inside, others x n));
  one = λ x inside. dite (ℕ_discrete x r) (λ e. omega (arith, ap lock' e)) (λ n. omega (arith, others x n, o.one x inside));
  home = λ x inside empty. dite (ℕ_discrete x r) (λ e. absurd (omega (arith, ap lock' e)))
      (λ n. let t = o.home x inside (sym (others x n) ∙ empty) in (t.0, elsewhere x inside n ∙ t.1, t.2));
  hand = Each-set (AreInHand rooms fits) hs id w (Each-cons (λ h. rooms h.room × fits h.room h.content) (record { room = r; content = c }) v.hands (near, shows) (o.hand id v at)) o.hand;
}

-- the room r is given back
pub gives : (rooms : ℕ → Type 0) (lock lock' : ℕ → ℕ) (home home' : ℕ → Option (Option Slot)) (keeps : ℕ → Slot → Type 0) (fits : ℕ → RoomContent → Type 0) (hs : List Holding) (id r : ℕ) (v : Holding) (slot : Slot)
    → get_elem? hs id ≡ some v → rooms r → 0 < has_room r v → keeps r slot → home' r ≡ some (some slot) → ((x : ℕ) → rooms x → x ≢ r → home' x ≡ home x) → lock' r ≡ 0 → ((x : ℕ) → x ≢ r → lock' x ≡ lock x)
    → AreRooms rooms lock home keeps fits hs
    → AreRooms rooms lock' home' keeps fits (set hs id (record v { hands = without_room r v.hands }))
gives rooms lock lock' home home' keeps fits hs id r v slot at near has kept back elsewhere is others o =
    let w : Holding = record v { hands = without_room r v.hands } in let few = once rooms lock home keeps fits hs o id r v at near in record {
      locks = λ x inside. let moved = total-set (has_room x) hs id v w at in dite (ℕ_discrete x r)
          (λ e. subst (λ (y : ℕ). total (has_room y) (set hs id w) ≡ lock' y) (sym e) (omega (arith, total-set (has_room r) hs id v w at, without_same r v.hands few, has, o.locks r near, o.one r near, is)))
          (λ n. omega (arith, moved, without_else r x v.hands n, o.locks x inside, others x n));
      one = λ x inside. dite (ℕ_discrete x r) (λ e. omega (arith, ap lock' e)) (λ n. omega (arith, others x n, o.one x inside));
      home = λ x inside empty. dite (ℕ_discrete x r)
          (λ e. (slot, ap home' e ∙ back, subst (λ (y : ℕ). keeps y slot) (sym e) kept))
          (λ n. let t = o.home x inside (sym (others x n) ∙ empty) in (t.0, elsewhere x inside n ∙ t.1, t.2));
      hand = Each-set (AreInHand rooms fits) hs id w (Each-without (λ h. rooms h.room × fits h.room h.content) r v.hands (o.hand id v at)) o.hand;
    }

-- the content of the room r changes in hand
pub refits : (rooms : ℕ → Type 0) (lock : ℕ → ℕ) (home : ℕ → Option (Option Slot)) (keeps keeps' : ℕ → Slot → Type 0) (fits fits' : ℕ → RoomContent → Type 0) (hs : List Holding) (id r : ℕ) (half : Maybe ℕ) (v : Holding) (c : RoomContent)
    → get_elem? hs id ≡ some v → 0 < has_room r v → fits' r c → ((x : ℕ) (d : RoomContent) → x ≢ r → fits x d → fits' x d) → ((x : ℕ) (d : Slot) → x ≢ r → keeps x d → keeps' x d)
    → AreRooms rooms lock home keeps fits hs → AreRooms rooms lock home keeps' fits' (set hs id (record { hands = with_content r c v.hands; half = half }))
refits rooms lock home keeps keeps' fits fits' hs id r half v c at has mine-now others others-home o =
    let w : Holding = record { hands = with_content r c v.hands; half = half } in
    let near = (mine rooms lock home keeps fits hs o id r v at has).0 in let few = once rooms lock home keeps fits hs o id r v at near in
    let busy : lock r ≡ 1 = omega (arith, o.locks r near, o.one r near, has, term_le (has_room r) hs id v at) in record {
      locks = λ x inside. total_same (has_room x) hs id v w at (content_rooms r x c v.hands) ∙ o.locks x inside;
      one = o.one;
      home = λ x inside empty. let t = o.home x inside empty in (t.0, t.1, others-home x t.0 (λ e. omega (arith, busy, empty, ap lock e)) t.2);
      hand = λ j u e. ⊎_elim
          (λ (t : (j ≡ id) × (w ≡ u)). subst (AreInHand rooms fits') t.1 (Each-content rooms r c fits fits' v.hands near few mine-now others (o.hand id v at)))
          (λ (t : (j ≢ id) × (get_elem? hs j ≡ some u)). λ a h at-h. let theirs = o.hand j u t.1 a h at-h in
          (theirs.0, others h.room h.content (λ d. absurd (omega (arith, o.locks r near, o.one r near, terms_le (has_room r) hs id j v u t.0 at t.1, has, term_le (is_room r) u.hands a h at-h, only_yes r h.room d))) theirs.1))
          (at_set hs id j w u e);
    }
