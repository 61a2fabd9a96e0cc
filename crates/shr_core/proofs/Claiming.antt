-- SPDX-License-Identifier: GPL-2.0-only
-- Lookup words and claims keep their part of the rule.
use Rattle.shr_core.proofs.Common.{◌≡◌, ◌⊎◌, ℕ, ◌+◌, ◌*◌, ◌%◌, ◌<◌, ◌≤◌, ◌≢◌, Bool, true, false, cond, eqb, ltb, List, [], ◌∷◌, ◌++◌, length, set, sym, refl, ap, subst, ◌∙◌, inl, inr, ⊎_elim, arith, eq-eqb, ne_eqb, length-set, none-some, same_Some, ◌&&◌, Option, Some, None, nat_tests, dite, ℕ_discrete, dec_lt, some, get_elem?, LookupWord, PoolEntry, Registered, Unregistered, Idle, phase_of, decl_of, decl_after, last_number, from_of, from_after, is_live, registrations, decl_at, one_of, phase_of_push, decl_from_push, Each, total, total_same, total-set, total-append, term_le, Each-set, Each-push, Each-weaker, Claims, Tried, Loaded, refs_of, lookups_of, phase_in, decl_in, AreLookups, IsHeld, IsTried, IsLoaded, only_some, hit_attempt, met_now, turn_at, leb, number_after, HaveEndedBy, number_from_push, from_from_push, registrations_else, ended_push, ended_later, Numbered, met_after, decl_at_push_low, decl_at_push_high, or_else, total_le, total_both, claimed}
use Rattle.shr_core.proofs.Options.{not_some, only_some_yes, only_some_no, only_some_le, only_none}

pub attempt_yes : (i n : ℕ) (x : Tried) → x.id ≡ i → x.number ≡ n → hit_attempt i n x ≡ 1
attempt_yes i n x p q = ap (λ b. cond b (cond (eqb x.number n) 1 0) 0) (eq-eqb x.id i p) ∙ ap (λ b. cond b 1 0) (eq-eqb x.number n q)

pub attempt_id : (i n : ℕ) (x : Tried) → x.id ≢ i → hit_attempt i n x ≡ 0
attempt_id i n x ne = ap (λ b. cond b (cond (eqb x.number n) 1 0) 0) (ne_eqb x.id i ne)

pub attempt_number : (i n : ℕ) (x : Tried) → x.id ≡ i → x.number ≢ n → hit_attempt i n x ≡ 0
attempt_number i n x p ne = ap (λ b. cond b (cond (eqb x.number n) 1 0) 0) (eq-eqb x.id i p) ∙ ap (λ b. cond b 1 0) (ne_eqb x.number n ne)

-- 1 if a number was handed out: it is at least the first and below the lookups now
abbrev pub between : ℕ → ℕ → ℕ → ℕ
between first n l = cond (leb first n && ltb n l) 1 0

between_in : (first n l : ℕ) → first ≤ n → n < l → between first n l ≡ 1
between_in first n l a b = let t : (leb first n && ltb n l) ≡ true = grind (arith, nat_tests) in ap (λ x. cond x 1 0) t

-- no number from the lookups now on was handed out
pub between_high : (first n l : ℕ) → l ≤ n → between first n l ≡ 0
between_high first n l a = let t : (leb first n && ltb n l) ≡ false = grind (arith, nat_tests) in ap (λ x. cond x 1 0) t

-- before the first lookup no number was handed out
pub between_none : (first n l : ℕ) → l ≡ first → between first n l ≡ 0
between_none first n l e = let t : (leb first n && ltb n l) ≡ false = grind (arith, nat_tests) in ap (λ x. cond x 1 0) t

between_more : (first n l : ℕ) → n ≢ l → between first n (l + 1) ≡ between first n l
between_more first n l ne = let t : ltb n (l + 1) ≡ ltb n l = grind (arith, nat_tests) in ap (λ x. cond (leb first n && x) 1 0) t

-- how often a seat refers to an id: by holding it or by probing it
abbrev pub R : ℕ → Claims → ℕ
R i c = only_some i c.held + only_some i c.probe

abbrev Holds : ℕ → (ℕ → ℕ) → List PoolEntry → Claims → Type 0
Holds ids look pool c = (i : ℕ) → c.held ≡ Some i → IsHeld ids look pool c i

module _ (ids first : ℕ) (look : ℕ → ℕ) (pool : List PoolEntry) (cs : List Claims) (o : AreLookups ids first look pool cs) where
  -- there is room for one more reference and number
  pub space_left : (id i : ℕ) (c : Claims) → get_elem? cs id ≡ some c → i < ids → c.may ≡ Some i → (refs_of (look i) < 255) × (lookups_of (look i) < 4294967104)
  space_left id i c at near may = let s = o.space i near in let l = o.low i near in let mine = term_le (λ (z : Claims). only_some i z.may) cs id c at in let one = only_some_yes i c.may may in
      let refs : total (R i) cs ≤ 2 * length cs = total_le (R i) 2 (λ z. omega (arith, only_some_le i z.held, only_some_le i z.probe)) cs in
      (omega (arith, o.refs i near, refs, o.few), omega (arith, s, l, mine, one))

  -- a seat's attempt is below the lookups
  pub attempt_below : (j a : ℕ) (c : Claims) (x : Tried) → get_elem? cs j ≡ some c → get_elem? c.attempts a ≡ some x → x.id < ids → x.number < lookups_of (look x.id)
  attempt_below j a c x at is near = dite (dec_lt x.number (lookups_of (look x.id))) (λ h. h) (λ h. let hits : Tried → ℕ = hit_attempt x.id x.number in
      absurd (omega (arith, o.once x.id x.number near, between_high first x.number (lookups_of (look x.id)) (omega arith), term_le (λ (z : Claims). total hits z.attempts) cs j c at, term_le hits c.attempts a x is, attempt_yes x.id x.number x refl refl)))

  -- what a view loaded is so still where lookups only grow
  loaded_more : (look' : ℕ → ℕ) → ((j : ℕ) → j < ids → lookups_of (look j) ≤ lookups_of (look' j)) → (z : Claims) → Each (IsLoaded ids look) z.loaded → Each (IsLoaded ids look') z.loaded
  loaded_more look' up z = Each-weaker (IsLoaded ids look) (IsLoaded ids look') (λ x t. (t.0, omega (arith, t.1, up x.id t.0))) z.loaded

-- a step of the seat id on lookup words, with the same pool
pub moves : (ids first : ℕ) (look look' : ℕ → ℕ) (pool : List PoolEntry) (cs : List Claims) (id : ℕ) (c w : Claims) → get_elem? cs id ≡ some c
    → ((j : ℕ) → j < ids → refs_of (look' j) + R j c ≡ refs_of (look j) + R j w)
    → ((j : ℕ) → j < ids → lookups_of (look' j) + only_some j w.may ≤ lookups_of (look j) + only_some j c.may)
    → ((j : ℕ) → j < ids → lookups_of (look j) ≤ lookups_of (look' j))
    → ((j : ℕ) → j < ids → phase_in (look' j) ≡ phase_in (look j))
    → ((j : ℕ) → j < ids → decl_in (look' j) ≡ decl_in (look j))
    → ((j n : ℕ) → j < ids → between first n (lookups_of (look' j)) + total (hit_attempt j n) c.attempts ≡ between first n (lookups_of (look j)) + total (hit_attempt j n) w.attempts)
    → Each (IsTried ids pool) w.attempts
    → Each (IsLoaded ids look') w.loaded
    → Holds ids look' pool w
    → (w.held ≡ None) ⊎ (w.probe ≡ None)
    → AreLookups ids first look pool cs → AreLookups ids first look' pool (set cs id w)
moves ids first look look' pool cs id c w at refs space up phase decl once tried loaded held apart o = record {
  apart = Each-set (λ (z : Claims). (z.held ≡ None) ⊎ (z.probe ≡ None)) cs id w apart o.apart;
  few = omega (arith, o.few, length-set cs id w);
  refs = λ j near. omega (arith, refs j near, o.refs j near, total-set (R j) cs id c w at);
  space = λ j near. omega (arith, space j near, o.space j near, total-set (λ (z : Claims). only_some j z.may) cs id c w at);
  low = λ j near. omega (arith, o.low j near, up j near);
  phase = λ j near. phase j near ∙ o.phase j near;
  decl = λ j near. decl j near ∙ o.decl j near;
  edges = λ j n near h. o.edges j n near (omega (arith, h, up j near));
  ended = λ j near. ended_later (lookups_of (look j)) (lookups_of (look' j)) (registrations j pool) (up j near) (o.ended j near);
  numbers = λ j near. omega (arith, o.numbers j near, up j near);
  began = λ j near. omega (arith, o.began j near, up j near);
  once = λ j n near. omega (arith, o.once j n near, once j n near, total-set (λ (z : Claims). total (hit_attempt j n) z.attempts) cs id c w at);
  tried = Each-set (λ (z : Claims). Each (IsTried ids pool) z.attempts) cs id w tried o.tried;
  loaded = Each-set (λ (z : Claims). Each (IsLoaded ids look') z.loaded) cs id w loaded (λ j z e. loaded_more ids first look pool cs o look' up z (o.loaded j z e));
  held = Each-set (Holds ids look' pool) cs id w held (λ j z e i is. let t = o.held j z e i is in record { near = t.near; busy = t.busy; below = omega (arith, t.below, up i t.near); last = t.last; decl = t.decl; met = t.met });
}

-- only what the part does not read changes, and the words loaded
pub still : (ids first : ℕ) (look : ℕ → ℕ) (pool : List PoolEntry) (cs : List Claims) (id : ℕ) (owner : Option ℕ) (quiet : Bool) (drained : List ℕ) (loaded : List Loaded) (c : Claims) → get_elem? cs id ≡ some c → Each (IsLoaded ids look) loaded
    → AreLookups ids first look pool cs → AreLookups ids first look pool (set cs id (record c { owner = owner; quiet = quiet; drained = drained; loaded = loaded }))
still ids first look pool cs id owner quiet drained loaded c at fits o = moves ids first look look pool cs id c (record c { owner = owner; quiet = quiet; drained = drained; loaded = loaded }) at (λ j near. refl) (λ j near. omega arith) (λ j near. omega arith) (λ j near. refl) (λ j near. refl) (λ j n near. refl) (o.tried id c at) fits
    (λ i e. let t = o.held id c at i e in record { near = t.near; busy = t.busy; below = t.below; last = t.last; decl = t.decl; met = t.met }) (o.apart id c at) o

-- a seat may look up i next
pub leaves : (ids first : ℕ) (look : ℕ → ℕ) (pool : List PoolEntry) (cs : List Claims) (id i : ℕ) (quiet : Bool) (loaded : List Loaded) (c : Claims) → get_elem? cs id ≡ some c → c.may ≡ None → lookups_of (look i) < 4294967040 → Each (IsLoaded ids look) loaded
    → AreLookups ids first look pool cs → AreLookups ids first look pool (set cs id (record c { may = Some i; quiet = quiet; loaded = loaded }))
leaves ids first look pool cs id i quiet loaded c at none room fits o = let w : Claims = record c { may = Some i; quiet = quiet; loaded = loaded } in record {
  few = omega (arith, o.few, length-set cs id w);
  refs = λ j near. o.refs j near ∙ sym (total_same (R j) cs id c w at refl);
  apart = Each-set (λ (z : Claims). (z.held ≡ None) ⊎ (z.probe ≡ None)) cs id w (o.apart id c at) o.apart;
  space = λ j near. let moved = total-set (λ (z : Claims). only_some j z.may) cs id c w at in let all = total_le (λ (z : Claims). only_some j z.may) 1 (λ z. only_some_le j z.may) (set cs id w) in dite (ℕ_discrete j i)
      (λ e. omega (arith, all, o.few, length-set cs id w, room, ap (λ (x : ℕ). lookups_of (look x)) e))
      (λ n. omega (arith, moved, o.space j near, only_none j c.may none, only_some_no j w.may (λ e. n (sym (same_Some i j e)))));
  low = o.low;
  phase = o.phase;
  decl = o.decl;
  edges = o.edges;
  ended = o.ended;
  numbers = o.numbers;
  began = o.began;
  once = λ j n near. total_same (λ (z : Claims). total (hit_attempt j n) z.attempts) cs id c w at refl ∙ o.once j n near;
  tried = Each-set (λ (z : Claims). Each (IsTried ids pool) z.attempts) cs id w (o.tried id c at) o.tried;
  loaded = Each-set (λ (z : Claims). Each (IsLoaded ids look) z.loaded) cs id w fits o.loaded;
  held = Each-set (Holds ids look pool) cs id w (λ q e. let t = o.held id c at q e in record { near = t.near; busy = t.busy; below = t.below; last = t.last; decl = t.decl; met = t.met }) o.held;
}

-- the lookup of i: held where it is live, else probed
pub looks_up : (ids first : ℕ) (look look' : ℕ → ℕ) (pool : List PoolEntry) (cs : List Claims) (id i : ℕ) (c : Claims) (word : LookupWord) → get_elem? cs id ≡ some c → i < ids → c.may ≡ Some i → c.held ≡ None → c.probe ≡ None
    → word.lookups ≡ lookups_of (look i) → word.phase ≡ phase_in (look i) → word.decl ≡ decl_in (look i)
    → refs_of (look' i) ≡ refs_of (look i) + 1 → lookups_of (look' i) ≡ lookups_of (look i) + 1 → phase_in (look' i) ≡ phase_in (look i) → decl_in (look' i) ≡ decl_in (look i) → ((j : ℕ) → j ≢ i → look' j ≡ look j)
    → AreLookups ids first look pool cs → AreLookups ids first look' pool (set cs id (claimed c i word (eqb (word.phase % 3) 1)))
looks_up ids first look look' pool cs id i c word at near may held probe is-l is-p is-d refs lookups phase decl others o =
    let l : ℕ = word.lookups in let t = o.phase i near in let live : Bool = eqb (word.phase % 3) 1 in
    let edges : decl_at l (registrations i pool) ≡ met_now i pool = o.edges i l near (omega (arith, is-l)) in
    let same-live : live ≡ is_live i pool = ap (λ (x : ℕ). eqb (x % 3) 1) (is-p ∙ t) in
    let same-decl : word.decl ≡ decl_of i pool = is-d ∙ o.decl i near in
    let met : cond live (Some word.decl) None ≡ decl_at l (registrations i pool) = ap {B = Option ℕ} (λ b. cond b (Some word.decl) None) same-live ∙ (ap {B = Option ℕ} (λ x. cond (is_live i pool) (Some x) None) same-decl ∙ sym edges) in
    let go : (b : Bool) → b ≡ live → AreLookups ids first look' pool (set cs id (claimed c i word b)) = λ b same.
    let w : Claims = claimed c i word b in let x : Tried = record { id = i; number = l; held = cond b (Some word.decl) None } in
    let counts : (j : ℕ) → R j w ≡ R j c + only_some j (Some i) = λ j. elim b as (λ y. R j (claimed c i word y) ≡ R j c + only_some j (Some i)) [ true ↦ omega (arith, only_none j c.held held, only_none j c.probe probe) | false ↦ omega (arith, only_none j c.held held, only_none j c.probe probe) ] in
    let up : (j : ℕ) → j < ids → lookups_of (look j) ≤ lookups_of (look' j) = λ j inside. dite (ℕ_discrete j i) (λ e. omega (arith, lookups, ap (λ x. lookups_of (look' x)) e, ap (λ x. lookups_of (look x)) e)) (λ n. omega (arith, ap lookups_of (others j n))) in
    moves ids first look look' pool cs id c w at
    (λ j inside. dite (ℕ_discrete j i)
    (λ e. omega (arith, counts j, only_some_yes j (Some i) (ap (λ (x : ℕ). Some x) (sym e)), refs, ap (λ x. refs_of (look' x)) e, ap (λ x. refs_of (look x)) e))
    (λ n. omega (arith, counts j, only_some_no j (Some i) (λ e. n (sym (same_Some i j e))), ap refs_of (others j n))))
    (λ j inside. dite (ℕ_discrete j i)
    (λ e. omega (arith, only_some_yes j c.may (may ∙ ap (λ (x : ℕ). Some x) (sym e)), lookups, ap (λ x. lookups_of (look' x)) e, ap (λ x. lookups_of (look x)) e))
    (λ n. omega (arith, ap lookups_of (others j n))))
    up
    (λ j inside. dite (ℕ_discrete j i) (λ e. ap (λ x. phase_in (look' x)) e ∙ (phase ∙ ap (λ x. phase_in (look x)) (sym e))) (λ n. ap phase_in (others j n)))
    (λ j inside. dite (ℕ_discrete j i) (λ e. ap (λ x. decl_in (look' x)) e ∙ (decl ∙ ap (λ x. decl_in (look x)) (sym e))) (λ n. ap decl_in (others j n)))
    (λ j n inside. let mine = total-append (hit_attempt j n) c.attempts (x ∷ []) in dite (ℕ_discrete j i)
    (λ e. subst (λ (y : ℕ). between first n (lookups_of (look' y)) + total (hit_attempt y n) c.attempts ≡ between first n (lookups_of (look y)) + total (hit_attempt y n) w.attempts) (sym e)
    (let mine' = total-append (hit_attempt i n) c.attempts (x ∷ []) in let more = ap (between first n) lookups in let low = ap (between first n) (sym is-l) in let upper = ap (λ (y : ℕ). between first n (y + 1)) (sym is-l) in dite (ℕ_discrete l n)
    (λ q. omega (arith, mine', more, low, upper, attempt_yes i n x refl q, between_high first n l (omega arith), between_in first n (l + 1) (omega (arith, o.low i near, is-l)) (omega arith)))
    (λ q. omega (arith, mine', more, low, upper, attempt_number i n x refl q, between_more first n l (λ d. q (sym d))))))
    (λ ne. omega (arith, mine, attempt_id j n x (λ d. ne (sym d)), ap (λ y. between first n (lookups_of y)) (others j ne))))
    (Each-push (IsTried ids pool) c.attempts x (near, ap {B = Option ℕ} (λ y. cond y (Some word.decl) None) same ∙ met) (o.tried id c at))
    (loaded_more ids first look pool cs o look' up c (o.loaded id c at))
    (dite (ℕ_discrete (word.phase % 3) 1)
    (λ e. let yes-live : b ≡ true = same ∙ eq-eqb _ 1 e in subst (λ y. Holds ids look' pool (claimed c i word y)) (sym yes-live)
    (λ q has. let place : i ≡ q = same_Some i q has in subst (λ (y : ℕ). IsHeld ids look' pool (claimed c i word true) y) place
    record { near = near; busy = (λ z. omega (arith, z, e, is-p, t)); below = omega (arith, lookups, is-l); last = omega (arith, o.began i near, is-l); decl = same-decl; met = sym met ∙ ap {B = Option ℕ} (λ y. cond y (Some word.decl) None) (eq-eqb _ 1 e) }))
    (λ n. let not-live : b ≡ false = same ∙ ne_eqb _ 1 n in subst (λ y. Holds ids look' pool (claimed c i word y)) (sym not-live)
    (λ q has. absurd (not_some q c.held held has))))
    (elim b as (λ y. ((claimed c i word y).held ≡ None) ⊎ ((claimed c i word y).probe ≡ None)) [ true ↦ inr probe | false ↦ inl held ])
    o in
    go live refl

-- the reference is given back
pub puts_back : (ids first : ℕ) (look look' : ℕ → ℕ) (pool : List PoolEntry) (cs : List Claims) (id i : ℕ) (c : Claims) → get_elem? cs id ≡ some c → i < ids
    → ((c.held ≡ Some i) × (c.probe ≡ None)) ⊎ ((c.held ≡ None) × (c.probe ≡ Some i))
    → refs_of (look' i) + 1 ≡ refs_of (look i) → lookups_of (look' i) ≡ lookups_of (look i) → phase_in (look' i) ≡ phase_in (look i) → decl_in (look' i) ≡ decl_in (look i) → ((j : ℕ) → j ≢ i → look' j ≡ look j)
    → AreLookups ids first look pool cs → AreLookups ids first look' pool (set cs id (record c { held = None; probe = None }))
puts_back ids first look look' pool cs id i c at near has refs lookups phase decl others o = let w : Claims = record c { held = None; probe = None } in
    let counts : (j : ℕ) → R j c ≡ only_some j (Some i) = λ j. ⊎_elim (λ h. omega (arith, ap (only_some j) h.0, only_none j c.probe h.1)) (λ h. omega (arith, only_none j c.held h.0, ap (only_some j) h.1)) has in
    let same : (j : ℕ) → lookups_of (look' j) ≡ lookups_of (look j) = λ j. dite (ℕ_discrete j i) (λ e. ap (λ x. lookups_of (look' x)) e ∙ (lookups ∙ ap (λ x. lookups_of (look x)) (sym e))) (λ n. ap lookups_of (others j n)) in
    let up : (j : ℕ) → j < ids → lookups_of (look j) ≤ lookups_of (look' j) = λ j inside. omega (arith, same j) in
    moves ids first look look' pool cs id c w at
    (λ j inside. dite (ℕ_discrete j i)
    (λ e. omega (arith, counts j, only_some_yes j (Some i) (ap (λ (x : ℕ). Some x) (sym e)), refs, ap (λ x. refs_of (look' x)) e, ap (λ x. refs_of (look x)) e))
    (λ n. omega (arith, counts j, only_some_no j (Some i) (λ e. n (sym (same_Some i j e))), ap refs_of (others j n))))
    (λ j inside. omega (arith, same j)) up
    (λ j inside. dite (ℕ_discrete j i) (λ e. ap (λ x. phase_in (look' x)) e ∙ (phase ∙ ap (λ x. phase_in (look x)) (sym e))) (λ n. ap phase_in (others j n)))
    (λ j inside. dite (ℕ_discrete j i) (λ e. ap (λ x. decl_in (look' x)) e ∙ (decl ∙ ap (λ x. decl_in (look x)) (sym e))) (λ n. ap decl_in (others j n)))
    (λ j n inside. ap (λ (y : ℕ). y + total (hit_attempt j n) c.attempts) (ap (between first n) (same j)))
    (o.tried id c at) (loaded_more ids first look pool cs o look' up c (o.loaded id c at)) (λ q e. absurd (none-some q e)) (inl refl) o

-- by the three kinds of phase step
pub by_phase : (F : PoolEntry → Type 0) (i d : ℕ) (word : LookupWord) → (word.phase % 3 ≡ 0 → F (Registered d i word.lookups)) → (word.phase % 3 ≡ 1 → F (Unregistered d i word.lookups)) → (word.phase % 3 ≡ 2 → F (Idle i)) → F (turn_at i d word)
by_phase F i d word a b c = let t : ℕ = word.phase in let l : ℕ = word.lookups in dite (ℕ_discrete (t % 3) 0)
    (λ e. subst (λ (x : Bool). F (cond x (Registered d i l) (cond (eqb (t % 3) 1) (Unregistered d i l) (Idle i)))) (sym (eq-eqb (t % 3) 0 e)) (a e))
    (λ n. subst (λ (x : Bool). F (cond x (Registered d i l) (cond (eqb (t % 3) 1) (Unregistered d i l) (Idle i)))) (sym (ne_eqb (t % 3) 0 n)) (dite (ℕ_discrete (t % 3) 1)
    (λ e. subst (λ (x : Bool). F (cond x (Unregistered d i l) (Idle i))) (sym (eq-eqb (t % 3) 1 e)) (b e))
    (λ m. subst (λ (x : Bool). F (cond x (Unregistered d i l) (Idle i))) (sym (ne_eqb (t % 3) 1 m)) (c (omega arith)))))

here_one : (i : ℕ) → ◌≡◌ {A = ℕ} (cond (eqb i i) 1 0) 1
here_one i = ap (λ b. cond b 1 0) (eq-eqb i i refl)

else_none : (i j : ℕ) → j ≢ i → ◌≡◌ {A = ℕ} (cond (eqb i j) 1 0) 0
else_none i j n = ap (λ b. cond b 1 0) (ne_eqb i j (λ e. n (sym e)))

-- a phase step makes one entry of its own id
pub turn_here : (i d : ℕ) (word : LookupWord) → one_of i (turn_at i d word) ≡ 1
turn_here i d word = by_phase (λ e. one_of i e ≡ 1) i d word (λ _. here_one i) (λ _. here_one i) (λ _. here_one i)

-- and none of another id
pub turn_else : (i j d : ℕ) (word : LookupWord) → j ≢ i → one_of j (turn_at i d word) ≡ 0
turn_else i j d word n = by_phase (λ e. one_of j e ≡ 0) i d word (λ _. else_none i j n) (λ _. else_none i j n) (λ _. else_none i j n)

pub turn_id : (i d : ℕ) (word : LookupWord) → Rattle.shr_model.specs.Pool.id_of (turn_at i d word) ≡ i
turn_id i d word = by_phase (λ e. Rattle.shr_model.specs.Pool.id_of e ≡ i) i d word (λ _. refl) (λ _. refl) (λ _. refl)

-- the entry of a phase step carries the lookups of the word that it found
pub turn_numbered : (i d l : ℕ) (word : LookupWord) → word.lookups ≡ l → Numbered i l (turn_at i d word)
turn_numbered i d l word is = by_phase (Numbered i l) i d word (λ _. (refl, is)) (λ _. (refl, is)) (λ _. refl)

-- a test of another id
other_id : {A : Type 0} (i j : ℕ) (x y : A) → j ≢ i → cond (eqb i j) x y ≡ y
other_id {A} i j x y n = ap {B = A} (λ b. cond b x y) (ne_eqb i j (λ e. n (sym e)))

this_id : {A : Type 0} (i : ℕ) (x y : A) → cond (eqb i i) x y ≡ x
this_id {A} i x y = ap {B = A} (λ b. cond b x y) (eq-eqb i i refl)

-- what the entry says of another id
decl_else : (i j d n : ℕ) (word : LookupWord) → j ≢ i → decl_after j n (turn_at i d word) ≡ n
decl_else i j d n word ne = by_phase (λ e. decl_after j n e ≡ n) i d word (λ _. other_id i j d n ne) (λ _. refl) (λ _. refl)

number_else : (i j d n : ℕ) (word : LookupWord) → j ≢ i → number_after j n (turn_at i d word) ≡ n
number_else i j d n word ne = by_phase (λ e. number_after j n e ≡ n) i d word (λ _. other_id i j word.lookups n ne) (λ _. other_id i j word.lookups n ne) (λ _. refl)

from_else : (i j d n : ℕ) (word : LookupWord) → j ≢ i → from_after j n (turn_at i d word) ≡ n
from_else i j d n word ne = by_phase (λ e. from_after j n e ≡ n) i d word (λ _. other_id i j word.lookups n ne) (λ _. refl) (λ _. refl)

-- and of its own
number_here : (i d n : ℕ) (word : LookupWord) → n ≤ word.lookups → number_after i n (turn_at i d word) ≤ word.lookups
number_here i d n word h = by_phase (λ e. number_after i n e ≤ word.lookups) i d word (λ _. omega (arith, this_id i word.lookups n)) (λ _. omega (arith, this_id i word.lookups n)) (λ _. h)

from_here : (i d n : ℕ) (word : LookupWord) → n ≤ word.lookups → from_after i n (turn_at i d word) ≤ word.lookups
from_here i d n word h = by_phase (λ e. from_after i n e ≤ word.lookups) i d word (λ _. omega (arith, this_id i word.lookups n)) (λ _. h) (λ _. h)

-- after a phase step the id has the declaration of the step
pub decl_here : (i d n : ℕ) (word : LookupWord) → (word.phase % 3 ≢ 0 → d ≡ n) → decl_after i n (turn_at i d word) ≡ d
decl_here i d n word own = by_phase (λ e. decl_after i n e ≡ d) i d word (λ _. this_id i d n) (λ z. sym (own (λ y. omega (arith, y, z)))) (λ z. sym (own (λ y. omega (arith, y, z))))

-- a lookup meets after the entry what the phase says
met_next : (i d t n : ℕ) (word : LookupWord) (live : Bool) → live ≡ eqb (t % 3) 1 → t ≡ word.phase → (word.phase % 3 ≢ 0 → d ≡ n) → met_after (turn_at i d word) (cond live (Some n) None) ≡ cond (eqb ((t + 1) % 3) 1) (Some d) None
met_next i d t n word live is same own = by_phase (λ e. met_after e (cond live (Some n) None) ≡ cond (eqb ((t + 1) % 3) 1) (Some d) None) i d word
    (λ z. let was : live ≡ false = is ∙ ne_eqb (t % 3) 1 (λ y. omega (arith, y, z, same)) in let next = eq-eqb ((t + 1) % 3) 1 (omega (arith, z, same)) in ap (λ b. or_else (cond b (Some n) None) (Some d)) was ∙ sym (ap {B = Option ℕ} (λ b. cond b (Some d) None) next))
    (λ z. let next = ne_eqb ((t + 1) % 3) 1 (λ y. omega (arith, y, z, same)) in sym (ap {B = Option ℕ} (λ b. cond b (Some d) None) next))
    (λ z. let was : live ≡ false = is ∙ ne_eqb (t % 3) 1 (λ y. omega (arith, y, z, same)) in let next = ne_eqb ((t + 1) % 3) 1 (λ y. omega (arith, y, z, same)) in ap {B = Option ℕ} (λ b. cond b (Some n) None) was ∙ sym (ap {B = Option ℕ} (λ b. cond b (Some d) None) next))

-- the phase of i rises, with its entry; where it becomes idle no view holds it
pub phases : (ids first : ℕ) (look look' : ℕ → ℕ) (pool : List PoolEntry) (cs : List Claims) (id i d : ℕ) (owner : Option ℕ) (quiet : Bool) (drained : List ℕ) (c : Claims) (word : LookupWord) → get_elem? cs id ≡ some c → i < ids
    → (phase_of i pool % 3 ≡ 2 → total (λ (z : Claims). only_some i z.held) cs ≡ 0) → (phase_of i pool % 3 ≢ 0 → d ≡ decl_of i pool)
    → word.lookups ≡ lookups_of (look i) → word.phase ≡ phase_in (look i)
    → refs_of (look' i) ≡ refs_of (look i) → lookups_of (look' i) ≡ lookups_of (look i) → phase_in (look' i) ≡ phase_in (look i) + 1 → decl_in (look' i) ≡ d → ((j : ℕ) → j ≢ i → look' j ≡ look j)
    → AreLookups ids first look pool cs → AreLookups ids first look' (pool ++ turn_at i d word ∷ []) (set cs id (record c { owner = owner; quiet = quiet; drained = drained }))
phases ids first look look' pool cs id i d owner quiet drained c word at near idle own is-l is-p refs lookups phase decl others o =
    let w : Claims = record c { owner = owner; quiet = quiet; drained = drained } in let t : ℕ = word.phase in let l : ℕ = word.lookups in let e : PoolEntry = turn_at i d word in let pool' : List PoolEntry = pool ++ e ∷ [] in
    let was : t ≡ phase_of i pool = is-p ∙ o.phase i near in let owned : t % 3 ≢ 0 → d ≡ decl_of i pool = λ n. own (λ z. n (omega (arith, z, was))) in
    let same : (j : ℕ) → lookups_of (look' j) ≡ lookups_of (look j) = λ j. dite (ℕ_discrete j i) (λ q. ap (λ x. lookups_of (look' x)) q ∙ (lookups ∙ ap (λ x. lookups_of (look x)) (sym q))) (λ n. ap lookups_of (others j n)) in
    let up : (j : ℕ) → j < ids → lookups_of (look j) ≤ lookups_of (look' j) = λ j inside. omega (arith, same j) in
    let phase-here : phase_of i pool' ≡ phase_of i pool + 1 = omega (arith, phase_of_push i pool e, turn_here i d word) in
    let phase-else : (j : ℕ) → j ≢ i → phase_of j pool' ≡ phase_of j pool = λ j n. omega (arith, phase_of_push j pool e, turn_else i j d word n) in
    let decl-here : decl_of i pool' ≡ d = decl_from_push i 0 pool e ∙ decl_here i d (decl_of i pool) word owned in
    let decl-else : (j : ℕ) → j ≢ i → decl_of j pool' ≡ decl_of j pool = λ j n. decl_from_push j 0 pool e ∙ decl_else i j d (decl_of j pool) word n in
    let from-else : (j : ℕ) → j ≢ i → from_of j pool' ≡ from_of j pool = λ j n. from_from_push j 0 pool e ∙ from_else i j d (from_of j pool) word n in
    let apart : (j : ℕ) → j ≢ i → registrations j pool' ≡ registrations j pool = λ j n. registrations_else j pool e (λ q. n (sym q ∙ turn_id i d word)) in
    let numbered : Numbered i l e = turn_numbered i d l word refl in
    let ended : HaveEndedBy l (registrations i pool) = subst (λ (x : ℕ). HaveEndedBy x (registrations i pool)) (sym is-l) (o.ended i near) in
    -- below the lookups, nothing changes
    let low : (j n : ℕ) → n < lookups_of (look j) → decl_at n (registrations j pool') ≡ decl_at n (registrations j pool) = λ j n h. dite (ℕ_discrete j i)
    (λ q. subst (λ (x : ℕ). decl_at n (registrations x pool') ≡ decl_at n (registrations x pool)) (sym q) (decl_at_push_low n l i pool e numbered (omega (arith, h, is-l, ap (λ x. lookups_of (look x)) q)))) (λ ne. ap (decl_at n) (apart j ne)) in
    let still-held : (j : ℕ) (z : Claims) → get_elem? cs j ≡ some z → Holds ids look' pool' z = λ j z at-z q has. let r = o.held j z at-z q has in dite (ℕ_discrete q i)
    (λ y. let here : phase_of q pool ≡ phase_of i pool = ap (λ x. phase_of x pool) y in let mine = only_some_yes i z.held (has ∙ ap (λ (x : ℕ). Some x) y) in let none = term_le (λ (u : Claims). only_some i u.held) cs j z at-z in
    dite (ℕ_discrete (t % 3) 2) (λ two. absurd (omega (arith, idle (omega (arith, two, was)), none, mine))) (λ ne. let nz : t % 3 ≢ 0 = λ x. r.busy (omega (arith, x, was, here)) in
    record {
      near = r.near;
      busy = (λ x. omega (arith, x, ap (λ x. phase_of x pool') y, phase-here, was, nz, ne));
      below = omega (arith, r.below, same q);
      last = omega (arith, r.last, ap (λ x. from_of x pool') y, ap (λ x. from_of x pool) y, from_from_push i 0 pool e, from_stays i d (from_of i pool) word nz);
      decl = r.decl ∙ (ap (λ x. decl_of x pool) y ∙ (sym (owned nz) ∙ sym (ap (λ x. decl_of x pool') y ∙ decl-here)));
      met = low q z.number r.below ∙ r.met;
    }))
    (λ n. record { near = r.near; busy = (λ x. r.busy (omega (arith, x, phase-else q n))); below = omega (arith, r.below, same q); last = omega (arith, r.last, from-else q n); decl = r.decl ∙ sym (decl-else q n); met = low q z.number r.below ∙ r.met }) in record {
      few = omega (arith, o.few, length-set cs id w);
      refs = λ j inside. dite (ℕ_discrete j i) (λ q. omega (arith, o.refs j inside, total_same (R j) cs id c w at refl, refs, ap (λ x. refs_of (look' x)) q, ap (λ x. refs_of (look x)) q)) (λ n. omega (arith, o.refs j inside, total_same (R j) cs id c w at refl, ap refs_of (others j n)));
      apart = Each-set (λ (z : Claims). (z.held ≡ None) ⊎ (z.probe ≡ None)) cs id w (o.apart id c at) o.apart;
      space = λ j inside. omega (arith, o.space j inside, same j, total_same (λ (z : Claims). only_some j z.may) cs id c w at refl);
      low = λ j inside. omega (arith, o.low j inside, same j);
      phase = λ j inside. dite (ℕ_discrete j i) (λ q. subst (λ (x : ℕ). phase_in (look' x) ≡ phase_of x pool') (sym q) (omega (arith, phase, o.phase i near, phase-here))) (λ n. ap phase_in (others j n) ∙ (o.phase j inside ∙ sym (phase-else j n)));
      decl = λ j inside. dite (ℕ_discrete j i) (λ q. subst (λ (x : ℕ). decl_in (look' x) ≡ decl_of x pool') (sym q) (decl ∙ sym decl-here)) (λ n. ap decl_in (others j n) ∙ (o.decl j inside ∙ sym (decl-else j n)));
      edges = λ j n inside h. dite (ℕ_discrete j i)
          (λ q. subst (λ (x : ℕ). decl_at n (registrations x pool') ≡ met_now x pool') (sym q)
          (let high : lookups_of (look i) ≤ n = omega (arith, h, same j, ap (λ x. lookups_of (look x)) q) in
          decl_at_push_high n l i pool e numbered (omega (arith, is-l, high)) ended ∙ (ap (met_after e) (o.edges i n near high) ∙ (met_next i d (phase_of i pool) (decl_of i pool) word (is_live i pool) refl (sym was) owned
          ∙ sym (ap {B = Option ℕ} (λ (x : ℕ). cond (eqb (x % 3) 1) (Some (decl_of i pool')) None) phase-here ∙ ap {B = Option ℕ} (λ (x : ℕ). cond (eqb ((phase_of i pool + 1) % 3) 1) (Some x) None) decl-here)))))
          (λ ne. ap (decl_at n) (apart j ne) ∙ (o.edges j n inside (omega (arith, h, same j)) ∙ sym (ap {B = Option ℕ} (λ (x : ℕ). cond (eqb (x % 3) 1) (Some (decl_of j pool')) None) (phase-else j ne) ∙ ap {B = Option ℕ} (λ (x : ℕ). cond (eqb (phase_of j pool % 3) 1) (Some x) None) (decl-else j ne))));
      ended = λ j inside. dite (ℕ_discrete j i) (λ q. subst (λ (x : ℕ). HaveEndedBy (lookups_of (look' x)) (registrations x pool')) (sym q) (subst (λ (x : ℕ). HaveEndedBy x (registrations i pool')) (is-l ∙ sym lookups) (ended_push l i pool e numbered ended)))
          (λ n. subst (HaveEndedBy (lookups_of (look' j))) (sym (apart j n)) (subst (λ (x : ℕ). HaveEndedBy x (registrations j pool)) (sym (same j)) (o.ended j inside)));
      numbers = λ j inside. dite (ℕ_discrete j i) (λ q. subst (λ (x : ℕ). last_number x pool' ≤ lookups_of (look' x)) (sym q) (omega (arith, number_from_push i 0 pool e, number_here i d (last_number i pool) word (omega (arith, o.numbers i near, is-l)), is-l, lookups)))
          (λ n. omega (arith, number_from_push j 0 pool e, number_else i j d (last_number j pool) word n, o.numbers j inside, same j));
      began = λ j inside. dite (ℕ_discrete j i) (λ q. subst (λ (x : ℕ). from_of x pool' ≤ lookups_of (look' x)) (sym q) (omega (arith, from_from_push i 0 pool e, from_here i d (from_of i pool) word (omega (arith, o.began i near, is-l)), is-l, lookups)))
          (λ n. omega (arith, from-else j n, o.began j inside, same j));
      once = λ j n inside. total_same (λ (z : Claims). total (hit_attempt j n) z.attempts) cs id c w at refl ∙ (o.once j n inside ∙ sym (ap (between first n) (same j)));
      tried = let stays : (j : ℕ) (z : Claims) → get_elem? cs j ≡ some z → Each (IsTried ids pool') z.attempts = λ j z q a x y. let r = o.tried j z q a x y in (r.0, r.1 ∙ sym (low x.id x.number (attempt_below ids first look pool cs o j a z x q y r.0))) in
          Each-set (λ (z : Claims). Each (IsTried ids pool') z.attempts) cs id w (stays id c at) stays;
      loaded = Each-set (λ (z : Claims). Each (IsLoaded ids look') z.loaded) cs id w (loaded_more ids first look pool cs o look' up c (o.loaded id c at)) (λ j z q. loaded_more ids first look pool cs o look' up z (o.loaded j z q));
      held = Each-set (Holds ids look' pool') cs id w (λ q has. let r = still-held id c at q has in record { near = r.near; busy = r.busy; below = r.below; last = r.last; decl = r.decl; met = r.met }) still-held;
    } where
      from_stays : (i d n : ℕ) (word : LookupWord) → word.phase % 3 ≢ 0 → from_after i n (turn_at i d word) ≡ n
      from_stays i d n word nz = by_phase (λ e. from_after i n e ≡ n) i d word (λ z. absurd (nz z)) (λ _. refl) (λ _. refl)

-- where there is no reference, no view holds the id
pub no_held : (i : ℕ) (cs : List Claims) {refs : ℕ} → refs ≡ total (R i) cs → refs ≡ 0 → total (λ (z : Claims). only_some i z.held) cs ≡ 0
no_held i cs is z = omega (arith, is, z, total_both (λ (c : Claims). only_some i c.held) (λ (c : Claims). only_some i c.probe) cs)
