-- SPDX-License-Identifier: GPL-2.0-only
-- The order of all events while seats do more, are split and are joined, on plain data.
use Rattle.shr_core.proofs.Common.{◌≡◌, ◌⊎◌, ℕ, zero, suc, ◌+◌, ◌-◌, ◌%◌, ◌<◌, ◌≤◌, ◌≢◌, Bool, true, false, cond, eqb, List, [], ◌∷◌, ◌++◌, map, length, set, sym, refl, ap, subst, ◌∙◌, ⊎_elim, inl, inr, arith, eq-eqb, ne_eqb, length-set, length-append, bit_at, dite, ℕ_discrete, dec_lt, some, some-injective, some-ne-none, get_elem?, at_set, at_map, LookupWord, Entry, PoolEntry, HasJournal, phase_of, decl_of, is_live, Deed, total, only, times, without, only_yes, only_no, term_le, total-append, times-push_same, times-push_other, times-without_same, times-without_other, state_after_push, View, Claims, Event, Counted, Made, Mapped, counted, made, looked, loaded, turned, put_back, raised, cleared, mapped, places_in, place_id, map_of, place_bit, refs_of, lookups_of, opener, spent, claims_of, only_some, Moment, at_start, moment_after, moment_next, IsDrawnAt, IsTimely, IsSo, last_moment, IsMoment, Holders, no_holders, holders_after, holders_next, IsOwn, users_after, users_next, last_users, IsMadeInUse, ids_of, stands_at, did_in, AreOrdered, noted, turn_at, with_one_split, split_off, with_joined, AreSo-push, lined_keep, lined_do, lined_split, lined_join, lined_first, LeavesNothing, last_holders, IsOutOfUse, IsInUse, references_of}
use Rattle.std.specs.Prelude.{Some, None, Option as Maybe}
use Rattle.shr_core.proofs.Marking.{OnlyAt, elsewhere}
use Rattle.shr_core.proofs.Claiming.{by_phase}
use Rattle.shr_core.proofs.Uses.{users_else, users_looked, users_put, nowhere}

at_push : {A : Type 0} (l : List A) (a b : A) (j : ℕ) → get_elem? (l ++ a ∷ []) j ≡ some b → (get_elem? l j ≡ some b) ⊎ ((j ≡ length l) × (a ≡ b))
at_push [] a b zero e = inr (refl, some-injective a b e)
at_push [] a b (suc j) e = absurd (some-ne-none b (sym e))
at_push (x ∷ xs) a b zero e = inl e
at_push (x ∷ xs) a b (suc j) e = ⊎_elim (λ t. inl t) (λ t. inr (ap suc t.0, t.1)) (at_push xs a b j e)

gone_here : (x : View) → x.standing.gone ≡ true → x.standing.gone ≡ false → ⊥
gone_here x t f = let e : true ≡ false = sym t ∙ f in cc

-- nothing held or probed
pub no_refs : (held probe : Maybe ℕ) → held ≡ None → probe ≡ None → ids_of held ++ ids_of probe ≡ []
no_refs held probe a b = ap (λ (x : Maybe ℕ). ids_of x ++ ids_of probe) a ∙ ap ids_of b

-- the one id that is held or probed once a lookup was made
pub one_ref : (i : ℕ) (held probe : Maybe ℕ) (live : Bool) → held ≡ None → probe ≡ None → ids_of (cond live (Some i) held) ++ ids_of (cond live probe (Some i)) ≡ i ∷ []
one_ref i held probe true a b = ap (λ (x : Maybe ℕ). i ∷ ids_of x) b
one_ref i held probe false a b = ap (λ (x : Maybe ℕ). ids_of x ++ i ∷ []) a

pub ref_is : (i : ℕ) (held probe : Maybe ℕ) → ((held ≡ Some i) × (probe ≡ None)) ⊎ ((held ≡ None) × (probe ≡ Some i)) → ids_of held ++ ids_of probe ≡ i ∷ []
ref_is i held probe has = ⊎_elim
    (λ (h : (held ≡ Some i) × (probe ≡ None)). ap (λ (x : Maybe ℕ). ids_of x ++ ids_of probe) h.0 ∙ ap (λ (x : Maybe ℕ). i ∷ ids_of x) h.1)
    (λ (h : (held ≡ None) × (probe ≡ Some i)). ap (λ (x : Maybe ℕ). ids_of x ++ ids_of probe) h.0 ∙ ap ids_of h.1) has

within : (l : List View) (i : ℕ) (v : View) → get_elem? l i ≡ some v → i < length l
within [] i v e = absurd (some-ne-none v (sym e))
within (x ∷ xs) zero v e = omega arith
within (x ∷ xs) (suc i) v e = omega (arith, within xs i v e)

there : (l : List View) (i : ℕ) → i < length l → (v : View) × (get_elem? l i ≡ some v)
there [] i lt = absurd (omega (arith, lt))
there (x ∷ xs) zero lt = (x, refl)
there (x ∷ xs) (suc i) lt = there xs i (omega (arith, lt))

-- what a view holds and probes
abbrev pub refs_in : View → Maybe ℕ × Maybe ℕ
refs_in v = (v.claims.held, v.claims.probe)

-- of as many references as none, none is held
none_held : (held probe : Maybe ℕ) (i : ℕ) → times i (ids_of held ++ ids_of probe) ≡ 0 → times i (ids_of held) ≡ 0
none_held held probe i none = omega (arith, none, total-append (only i) (ids_of held) (ids_of probe))

-- an event changes the references of its own seat alone
holders_else : (h : Holders) (seat j i : ℕ) (e : Event) → j ≢ seat → times j (holders_after h seat e i) ≡ times j (h i)
holders_else h seat j i (counted x) n = refl
holders_else h seat j i (made x) n = refl
holders_else h seat j i (looked x) n = dite (ℕ_discrete i x.id)
    (λ e. ap (λ b. times j (cond b (h i ++ seat ∷ []) (h i))) (eq-eqb i x.id e) ∙ times-push_other j seat (h i) (λ s. n (sym s)))
    (λ m. ap (λ b. times j (cond b (h i ++ seat ∷ []) (h i))) (ne_eqb i x.id m))
holders_else h seat j i (loaded x) n = refl
holders_else h seat j i (turned x) n = refl
holders_else h seat j i (put_back k) n = dite (ℕ_discrete i k)
    (λ e. ap (λ b. times j (cond b (without seat (h i)) (h i))) (eq-eqb i k e) ∙ times-without_other j seat (h i) n)
    (λ m. ap (λ b. times j (cond b (without seat (h i)) (h i))) (ne_eqb i k m))
holders_else h seat j i (raised k) n = refl
holders_else h seat j i (cleared k) n = refl
holders_else h seat j i (mapped x) n = refl

module _ (ids first : ℕ) (now : ℕ → List Entry) (pool : List PoolEntry) (bits look : ℕ → ℕ) (views : List View) (id : ℕ) (v : View) (me : get_elem? views id ≡ some v) (present : v.standing.gone ≡ false) (o : AreOrdered ids first now pool bits look views) where
  named_still : (w : View) → w.seat ≡ v.seat → (i : ℕ) (x : View) → get_elem? (set views id w) i ≡ some x → x.standing.gone ≡ false → x.seat ≡ i
  named_still w same i x at here = ⊎_elim
      (λ (g : (i ≡ id) × (w ≡ x)). ap (λ (y : View). y.seat) (sym g.1) ∙ (same ∙ (o.named id v me present ∙ sym g.0)))
      (λ (g : (i ≢ id) × (get_elem? views i ≡ some x)). o.named i x g.1 here)
      (at_set views id i w x at)

  -- these are the references of the seat with this view, and these the ids that it uses
  abbrev pub Mine : Holders → View → Type 0
  Mine h w = (i : ℕ) → times id (h i) ≡ times i (references_of w)

  abbrev pub Used : Holders → View → Type 0
  Used u w = (i : ℕ) → times id (u i) ≡ times i (ids_of w.claims.held)

  -- those of other seats are what they were
  abbrev Else : Holders → Holders → Type 0
  Else old h = (j : ℕ) → j ≢ id → (i : ℕ) → times j (h i) ≡ times j (old i)

  module _ (has : View → List ℕ) (old : Holders) (all : (j : ℕ) (x : View) → get_elem? views j ≡ some x → (i : ℕ) → times j (old i) ≡ times i (has x)) (none : (j : ℕ) → length views ≤ j → (i : ℕ) → times j (old i) ≡ 0) where
    held_now : (h : Holders) (w : View) → ((i : ℕ) → times id (h i) ≡ times i (has w)) → Else old h → (j : ℕ) (x : View) → get_elem? (set views id w) j ≡ some x → (i : ℕ) → times j (h i) ≡ times i (has x)
    held_now h w mine others j x at i = ⊎_elim
        (λ (g : (j ≡ id) × (w ≡ x)). ap (λ (n : ℕ). times n (h i)) g.0 ∙ (mine i ∙ ap (λ (y : View). times i (has y)) g.1))
        (λ (g : (j ≢ id) × (get_elem? views j ≡ some x)). others j g.0 i ∙ all j x g.1 i)
        (at_set views id j w x at)

    none_now : (h : Holders) → Else old h → (j : ℕ) → length views ≤ j → (i : ℕ) → times j (h i) ≡ 0
    none_now h others j far i = others j (λ e. omega (arith, e, far, within views id v me)) i ∙ none j far i

  abbrev refs_now : (h : Holders) (w : View) → Mine h w → Else (last_holders o.line) h → (j : ℕ) (x : View) → get_elem? (set views id w) j ≡ some x → (i : ℕ) → times j (h i) ≡ times i (references_of x)
  refs_now = held_now references_of (last_holders o.line) o.held o.none_else

  abbrev users_now : (u : Holders) (w : View) → Used u w → Else (last_users o.line) u → (j : ℕ) (x : View) → get_elem? (set views id w) j ≡ some x → (i : ℕ) → times j (u i) ≡ times i (ids_of x.claims.held)
  users_now = held_now (λ (x : View). ids_of x.claims.held) (last_users o.line) o.users o.no_user

  -- an id that the view holds is in use by its seat
  pub uses_it : (i : ℕ) → v.claims.held ≡ Some i → 0 < times id (last_users o.line i)
  uses_it i held = omega (arith, o.users id v me i, ap (λ (x : Maybe ℕ). times i (ids_of x)) held, only_yes i i refl)

  weighs : (i : ℕ) (x : Maybe ℕ) → times i (ids_of x) ≡ only_some i x
  weighs i None = refl
  weighs i (Some k) = omega arith

  -- and one that no view holds is in use by none
  pub unused : (i : ℕ) → total (λ (c : Claims). only_some i c.held) (map claims_of views) ≡ 0 → last_users o.line i ≡ []
  unused i none = nowhere (last_users o.line i) (λ j. dite (dec_lt j (length views))
      (λ lt. let t = there views j lt in omega (arith, none, o.users j t.0 t.1 i, weighs i t.0.claims.held, term_le (λ (c : Claims). only_some i c.held) (map claims_of views) j t.0.claims (at_map claims_of views j t.0 t.1)))
      (λ no. o.no_user j (omega (arith, no)) i))

  -- where a seat's view has the same references it has the same in the order
  same_mine : (w : View) → refs_in w ≡ refs_in v → (h : Holders) → Mine h v → Mine h w
  same_mine w refs h mine i = mine i ∙ ap (λ (p : Maybe ℕ × Maybe ℕ). times i (ids_of p.0 ++ ids_of p.1)) (sym refs)

  same_used : (w : View) → refs_in w ≡ refs_in v → (u : Holders) → Used u v → Used u w
  same_used w refs u mine i = mine i ∙ ap (λ (p : Maybe ℕ × Maybe ℕ). times i (ids_of p.0)) (sym refs)

  module _ (now' : ℕ → List Entry) (pool' : List PoolEntry) (bits' look' : ℕ → ℕ) where
    -- a step that notes nothing
    pub keeps : (w : View) → w.seat ≡ v.seat → w.did ≡ v.did → refs_in w ≡ refs_in v → ((t : Moment) → IsMoment ids now pool bits look t → IsMoment ids now' pool' bits' look' t) → AreOrdered ids first now' pool' bits' look' (set views id w)
    keeps w same did refs ends = record {
      line = o.line;
      lined = lined_keep stands_at did_in views id v me present o.line o.lined w did;
      events = o.events;
      ends = ends (last_moment first o.line) o.ends;
      named = named_still w same;
      own = o.own;
      held = refs_now (last_holders o.line) w (same_mine w refs (last_holders o.line) (o.held id v me)) (λ j n i. refl);
      none_else = λ j far i. o.none_else j (omega (arith, far, length-set views id w)) i;
      uses = o.uses;
      users = users_now (last_users o.line) w (same_used w refs (last_users o.line) (o.users id v me)) (λ j n i. refl);
      no_user = λ j far i. o.no_user j (omega (arith, far, length-set views id w)) i;
    }

    -- a step that notes an event, which is so
    pub does : (w : View) (e : Event) → w.seat ≡ v.seat → w.did ≡ noted v e → ((t : Moment) → IsMoment ids now pool bits look t → IsSo ids t e) → ((t : Moment) → IsMoment ids now pool bits look t → IsMoment ids now' pool' bits' look' (moment_after t e))
        → ((h : Holders) → Mine h v → IsOwn h id e) → ((h : Holders) → Mine h v → Mine (holders_after h id e) w) → IsInUse (last_users o.line) id e → ((u : Holders) → Used u v → Used (users_after u id e) w) → AreOrdered ids first now' pool' bits' look' (set views id w)
    does w e same did so ends own refs used-now used = let d : Deed Event = record { seat = id; act = e } in let h : Holders = last_holders o.line in let h' : Holders = holders_after h id e in
        let after : last_holders (o.line ++ d ∷ []) ≡ h' = state_after_push holders_next no_holders o.line d in let others : Else h h' = λ j n i. holders_else h id j i e n in
        let u : Holders = last_users o.line in let u' : Holders = users_after u id e in
        let after-use : last_users (o.line ++ d ∷ []) ≡ u' = state_after_push users_next no_holders o.line d in let else-use : Else u u' = λ j n i. users_else u id j i e n in record {
          line = o.line ++ d ∷ [];
          lined = lined_do stands_at did_in views id v me present o.line o.lined w e (did ∙ ap (λ (n : ℕ). v.did ++ record { seat = n; act = e } ∷ []) (o.named id v me present));
          events = AreSo-push moment_next (λ t y. IsSo ids t y.act) (at_start first) o.line d o.events (so (last_moment first o.line) o.ends);
          ends = subst (IsMoment ids now' pool' bits' look') (sym (state_after_push moment_next (at_start first) o.line d)) (ends (last_moment first o.line) o.ends);
          named = named_still w same;
          own = AreSo-push holders_next (λ g y. IsOwn g y.seat y.act) no_holders o.line d o.own (own h (o.held id v me));
          held = λ j x at i. ap (λ (g : Holders). times j (g i)) after ∙ refs_now h' w (refs h (o.held id v me)) others j x at i;
          none_else = λ j far i. ap (λ (g : Holders). times j (g i)) after ∙ none_now references_of h o.held o.none_else h' others j (omega (arith, far, length-set views id w)) i;
          uses = AreSo-push users_next (λ g y. IsInUse g y.seat y.act) no_holders o.line d o.uses used-now;
          users = λ j x at i. ap (λ (g : Holders). times j (g i)) after-use ∙ users_now u' w (used u (o.users id v me)) else-use j x at i;
          no_user = λ j far i. ap (λ (g : Holders). times j (g i)) after-use ∙ none_now (λ (x : View). ids_of x.claims.held) u o.users o.no_user u' else-use j (omega (arith, far, length-set views id w)) i;
        }

  -- a step that notes nothing and changes none of this
  pub stays : (w : View) → w.seat ≡ v.seat → w.did ≡ v.did → refs_in w ≡ refs_in v → AreOrdered ids first now pool bits look (set views id w)
  stays w same did refs = keeps now pool bits look w same did refs (λ t is. is)

  -- a count was loaded
  pub counts : (w : View) (x : Counted) → w.seat ≡ v.seat → w.did ≡ noted v (counted x) → refs_in w ≡ refs_in v → x.version ≡ length (now x.place) → AreOrdered ids first now pool bits look (set views id w)
  counts w x same did refs is-version = does now pool bits look w (counted x) same did (λ t is. is-version ∙ ap (λ (l : List Entry). length l) (sym (is.journals x.place))) (λ t is. is) (λ h mine. tt) (same_mine w refs) tt (same_used w refs)

  -- a lookup word was loaded
  pub loads : (w : View) (i : ℕ) (word : LookupWord) → i < ids → w.seat ≡ v.seat → w.did ≡ noted v (loaded (record { id = i; word = word })) → refs_in w ≡ refs_in v → word.lookups ≡ lookups_of (look i) → word.phase ≡ phase_of i pool → word.refs ≡ refs_of (look i) → AreOrdered ids first now pool bits look (set views id w)
  loads w i word near same did refs lookups phase shown = does now pool bits look w (loaded (record { id = i; word = word })) same did (λ t is. (lookups ∙ sym (is.lookups i near), phase ∙ ap (phase_of i) (sym is.registrations), shown ∙ sym (is.references i near))) (λ t is. is) (λ h mine. tt) (same_mine w refs) tt (same_used w refs)

  -- a bit word was loaded
  pub maps : (w : View) (x : Mapped) → w.seat ≡ v.seat → w.did ≡ noted v (mapped x) → refs_in w ≡ refs_in v → x.bits ≡ bits x.map → AreOrdered ids first now pool bits look (set views id w)
  maps w x same did refs read = does now pool bits look w (mapped x) same did
      (λ t is k inside at. ap (λ (y : ℕ). bit_at y (place_bit k)) (read ∙ ap bits (sym at)) ∙ sym (is.flags k inside)) (λ t is. is) (λ h mine. tt) (same_mine w refs) tt (same_used w refs)

  -- a count with one entry more was stored
  pub makes : (now' : ℕ → List Entry) (w : View) (x : Made) → w.seat ≡ v.seat → w.did ≡ noted v (made x) → refs_in w ≡ refs_in v → x.number ≡ length (now x.place) → now' x.place ≡ now x.place ++ x.entry ∷ [] → ((j : ℕ) → j ≢ x.place → now' j ≡ now j)
      → ((t : Moment) → t.pool ≡ pool → IsTimely t (place_id x.place) x.entry) → IsMadeInUse (last_users o.line) id (place_id x.place) x.entry → AreOrdered ids first now' pool bits look (set views id w)
  makes now' w x same did refs number gains others timely used-now = does now' pool bits look w (made x) same did (λ t is. (number ∙ ap (λ (l : List Entry). length l) (sym (is.journals x.place)), timely t is.registrations))
      (λ t is. record {
        journals = λ j. dite (ℕ_discrete j x.place)
            (λ (e : j ≡ x.place). ap (λ b. cond b (t.now j ++ x.entry ∷ []) (t.now j)) (eq-eqb j x.place e) ∙ subst (λ (y : ℕ). t.now y ++ x.entry ∷ [] ≡ now' y) (sym e) (ap (λ (l : List Entry). l ++ x.entry ∷ []) (is.journals x.place) ∙ sym gains))
            (λ n. ap (λ b. cond b (t.now j ++ x.entry ∷ []) (t.now j)) (ne_eqb j x.place n) ∙ (is.journals j ∙ sym (others j n)));
        registrations = is.registrations;
        lookups = is.lookups;
        references = is.references;
        flags = is.flags;
      }) (λ h mine. tt) (same_mine w refs) used-now (same_used w refs)

  -- a lookup was made
  pub looks_up : (look' : ℕ → ℕ) (w : View) (i : ℕ) (word : LookupWord) → i < ids → w.seat ≡ v.seat → w.did ≡ noted v (looked (record { id = i; number = word.lookups; held = cond (eqb (word.phase % 3) 1) (Some word.decl) None })) → references_of v ≡ [] → references_of w ≡ i ∷ [] → v.claims.held ≡ None → w.claims.held ≡ cond (eqb (word.phase % 3) 1) (Some i) v.claims.held → word.lookups ≡ lookups_of (look i) → word.phase ≡ phase_of i pool → word.decl ≡ decl_of i pool
      → lookups_of (look' i) ≡ lookups_of (look i) + 1 → refs_of (look' i) ≡ refs_of (look i) + 1 → ((j : ℕ) → j ≢ i → look' j ≡ look j) → AreOrdered ids first now pool bits look' (set views id w)
  looks_up look' w i word near same did before now-one free now-held lookups phase decl more refs others = let held : Maybe ℕ = cond (eqb (word.phase % 3) 1) (Some word.decl) None in does now pool bits look' w (looked (record { id = i; number = word.lookups; held = held })) same did
      (λ t is. (
        lookups ∙ sym (is.lookups i near),
        ap {B = Maybe ℕ} (λ x. cond (eqb (x % 3) 1) (Some word.decl) None) phase ∙ (ap {B = Maybe ℕ} (λ x. cond (eqb (phase_of i pool % 3) 1) (Some x) None) decl ∙ ap {B = Maybe ℕ} (λ (l : List PoolEntry). cond (is_live i l) (Some (decl_of i l)) None) (sym is.registrations)),
      ))
      (λ t is. record {
        journals = is.journals;
        registrations = is.registrations;
        lookups = λ j low. dite (ℕ_discrete j i)
            (λ (e : j ≡ i). ap (λ b. cond b (t.next j + 1) (t.next j)) (eq-eqb j i e) ∙ subst (λ (y : ℕ). t.next y + 1 ≡ lookups_of (look' y)) (sym e) (ap (λ (n : ℕ). n + 1) (is.lookups i near) ∙ sym more))
            (λ n. ap (λ b. cond b (t.next j + 1) (t.next j)) (ne_eqb j i n) ∙ (is.lookups j low ∙ ap lookups_of (sym (others j n))));
        references = λ j low. dite (ℕ_discrete j i)
            (λ (e : j ≡ i). ap (λ b. cond b (t.refs j + 1) (t.refs j)) (eq-eqb j i e) ∙ subst (λ (y : ℕ). t.refs y + 1 ≡ refs_of (look' y)) (sym e) (ap (λ (n : ℕ). n + 1) (is.references i near) ∙ sym refs))
            (λ n. ap (λ b. cond b (t.refs j + 1) (t.refs j)) (ne_eqb j i n) ∙ (is.references j low ∙ ap refs_of (sym (others j n))));
        flags = is.flags;
      }) (λ h mine. omega (arith, mine i, ap (times i) before))
      (λ h mine j. dite (ℕ_discrete j i)
      (λ e. omega (arith, ap (λ b. times id (cond b (h j ++ id ∷ []) (h j))) (eq-eqb j i e), times-push_same id (h j), mine j, ap (times j) before, ap (times j) now-one, only_yes j i (sym e)))
      (λ n. omega (arith, ap (λ b. times id (cond b (h j ++ id ∷ []) (h j))) (ne_eqb j i n), mine j, ap (times j) before, ap (times j) now-one, only_no j i (λ e. n (sym e)))))
      tt (λ u mine j. users_looked u id i word.decl j (eqb (word.phase % 3) 1) v.claims.held free (mine j) ∙ ap (λ (x : Maybe ℕ). times j (ids_of x)) (sym now-held))

  -- the reference was given back
  pub puts : (look' : ℕ → ℕ) (w : View) (i : ℕ) → i < ids → w.seat ≡ v.seat → w.did ≡ noted v (put_back i) → references_of v ≡ i ∷ [] → references_of w ≡ [] → 0 < refs_of (look i) → lookups_of (look' i) ≡ lookups_of (look i) → refs_of (look' i) + 1 ≡ refs_of (look i) → ((j : ℕ) → j ≢ i → look' j ≡ look j)
      → AreOrdered ids first now pool bits look' (set views id w)
  puts look' w i near same did before now-none some-refs kept less others = does now pool bits look' w (put_back i) same did (λ t is. omega (arith, is.references i near, some-refs)) (λ t is. record {
    journals = is.journals;
    registrations = is.registrations;
    lookups = λ j low. is.lookups j low ∙ dite (ℕ_discrete j i) (λ (e : j ≡ i). subst (λ (y : ℕ). lookups_of (look y) ≡ lookups_of (look' y)) (sym e) (sym kept)) (λ n. ap lookups_of (sym (others j n)));
    references = λ j low. dite (ℕ_discrete j i)
        (λ (e : j ≡ i). ap (λ b. cond b (t.refs j - 1) (t.refs j)) (eq-eqb j i e) ∙ subst (λ (y : ℕ). t.refs y - 1 ≡ refs_of (look' y)) (sym e) (omega (arith, is.references i near, less)))
        (λ n. ap (λ b. cond b (t.refs j - 1) (t.refs j)) (ne_eqb j i n) ∙ (is.references j low ∙ ap refs_of (sym (others j n))));
    flags = is.flags;
  }) (λ h mine. omega (arith, mine i, ap (times i) before, only_yes i i refl))
      (λ h mine j. dite (ℕ_discrete j i)
      (λ e. omega (arith, ap (λ b. times id (cond b (without id (h j)) (h j))) (eq-eqb j i e), times-without_same id (h j), ap (times j) now-none))
      (λ n. omega (arith, ap (λ b. times id (cond b (without id (h j)) (h j))) (ne_eqb j i n), mine j, ap (times j) before, ap (times j) now-none, only_no j i (λ e. n (sym e)))))
      tt (λ u mine j. users_put u id i j (λ n. mine j ∙ none_held v.claims.held v.claims.probe j (ap (times j) before ∙ omega (arith, only_no j i (λ e. n (sym e)))))
      ∙ sym (none_held w.claims.held w.claims.probe j (ap (times j) now-none)))

  -- the phase of an id rose
  pub phases : (look' : ℕ → ℕ) (w : View) (i d : ℕ) (word : LookupWord) (had : List PoolEntry) → i < ids → w.seat ≡ v.seat → w.did ≡ noted v (turned (record { number = length had; entry = turn_at i d word })) → refs_in w ≡ refs_in v → had ≡ pool → word.lookups ≡ lookups_of (look i)
      → lookups_of (look' i) ≡ lookups_of (look i) → refs_of (look' i) ≡ refs_of (look i) → ((j : ℕ) → j ≢ i → look' j ≡ look j) → (word.phase % 3 ≡ 2 → (k : ℕ) → place_id k ≡ i → HasJournal (now k) []) → (word.phase % 3 ≡ 2 → last_users o.line i ≡ [])
      → AreOrdered ids first now (pool ++ turn_at i d word ∷ []) bits look' (set views id w)
  phases look' w i d word had near same did refs is-had lookups kept shown others empty none = does now (pool ++ turn_at i d word ∷ []) bits look' w (turned (record { number = length had; entry = turn_at i d word })) same did
      (λ t is. (
        ap (λ (l : List PoolEntry). length l) (is-had ∙ sym is.registrations),
        by_phase (IsDrawnAt t) i d word (λ _. lookups ∙ sym (is.lookups i near)) (λ _. lookups ∙ sym (is.lookups i near)) (λ _. tt),
        by_phase (LeavesNothing t) i d word (λ _. tt) (λ _. tt) (λ idle k at. subst (λ (l : List Entry). HasJournal l []) (sym (is.journals k)) (empty idle k at)),
      ))
      (λ t is. record {
        journals = is.journals;
        registrations = ap (λ (l : List PoolEntry). l ++ turn_at i d word ∷ []) is.registrations;
        lookups = λ j low. is.lookups j low ∙ dite (ℕ_discrete j i) (λ (e : j ≡ i). subst (λ (y : ℕ). lookups_of (look y) ≡ lookups_of (look' y)) (sym e) (sym kept)) (λ n. ap lookups_of (sym (others j n)));
        references = λ j low. is.references j low ∙ dite (ℕ_discrete j i) (λ (e : j ≡ i). subst (λ (y : ℕ). refs_of (look y) ≡ refs_of (look' y)) (sym e) (sym shown)) (λ n. ap refs_of (sym (others j n)));
        flags = is.flags;
      }) (λ h mine. tt) (same_mine w refs) (by_phase (IsOutOfUse (last_users o.line)) i d word (λ _. tt) (λ _. tt) none) (same_used w refs)

  -- a bit was set
  pub sets : (bits' : ℕ → ℕ) (w : View) (k : ℕ) → w.seat ≡ v.seat → w.did ≡ noted v (raised k) → refs_in w ≡ refs_in v → OnlyAt (places_in ids) k bits bits' → bit_at (bits' (map_of k)) (place_bit k) ≡ 1 → AreOrdered ids first now pool bits' look (set views id w)
  sets bits' w k same did refs only is-set = does now pool bits' look w (raised k) same did (λ t is. tt) (λ t is. record {
    journals = is.journals;
    registrations = is.registrations;
    lookups = is.lookups;
    references = is.references;
    flags = λ j inside. dite (ℕ_discrete j k)
        (λ (e : j ≡ k). ap (λ b. cond b 1 (t.bits j)) (eq-eqb j k e) ∙ subst (λ (y : ℕ). 1 ≡ bit_at (bits' (map_of y)) (place_bit y)) (sym e) (sym is-set))
        (λ n. ap (λ b. cond b 1 (t.bits j)) (ne_eqb j k n) ∙ (is.flags j inside ∙ sym (elsewhere ids k bits bits' only j inside n)));
  }) (λ h mine. tt) (same_mine w refs) tt (same_used w refs)

  -- a bit was cleared
  pub clears : (bits' : ℕ → ℕ) (w : View) (k : ℕ) → w.seat ≡ v.seat → w.did ≡ noted v (cleared k) → refs_in w ≡ refs_in v → OnlyAt (places_in ids) k bits bits' → bit_at (bits' (map_of k)) (place_bit k) ≡ 0 → AreOrdered ids first now pool bits' look (set views id w)
  clears bits' w k same did refs only is-clear = does now pool bits' look w (cleared k) same did (λ t is. tt) (λ t is. record {
    journals = is.journals;
    registrations = is.registrations;
    lookups = is.lookups;
    references = is.references;
    flags = λ j inside. dite (ℕ_discrete j k)
        (λ (e : j ≡ k). ap (λ b. cond b 0 (t.bits j)) (eq-eqb j k e) ∙ subst (λ (y : ℕ). 0 ≡ bit_at (bits' (map_of y)) (place_bit y)) (sym e) (sym is-clear))
        (λ n. ap (λ b. cond b 0 (t.bits j)) (ne_eqb j k n) ∙ (is.flags j inside ∙ sym (elsewhere ids k bits bits' only j inside n)));
  }) (λ h mine. tt) (same_mine w refs) tt (same_used w refs)

  -- a seat is split off, whose number is the next
  pub splits : length views ≡ 1 + v.standing.splits → AreOrdered ids first now pool bits look (set views id (with_one_split v) ++ split_off v ∷ [])
  splits number = record {
    line = o.line;
    lined = lined_split stands_at did_in views id v me present o.line o.lined (with_one_split v) (split_off v) refl refl;
    events = o.events;
    ends = o.ends;
    named = λ i x at here. ⊎_elim
        (λ (g : get_elem? (set views id (with_one_split v)) i ≡ some x). named_still (with_one_split v) refl i x g here)
        (λ (g : (i ≡ length (set views id (with_one_split v))) × (split_off v ≡ x)). ap (λ (y : View). y.seat) (sym g.1) ∙ omega (arith, g.0, length-set views id (with_one_split v), number))
        (at_push (set views id (with_one_split v)) (split_off v) x i at);
    own = o.own;
    held = λ j x at i. ⊎_elim
        (λ (g : get_elem? (set views id (with_one_split v)) j ≡ some x). refs_now (last_holders o.line) (with_one_split v) (o.held id v me) (λ k n q. refl) j x g i)
        (λ (g : (j ≡ length (set views id (with_one_split v))) × (split_off v ≡ x)). o.none_else j (omega (arith, g.0, length-set views id (with_one_split v))) i ∙ ap (λ (y : View). times i (references_of y)) g.1)
        (at_push (set views id (with_one_split v)) (split_off v) x j at);
    none_else = λ j far i. o.none_else j (omega (arith, far, length-append (set views id (with_one_split v)) (split_off v ∷ []), length-set views id (with_one_split v))) i;
    uses = o.uses;
    users = λ j x at i. ⊎_elim
        (λ (g : get_elem? (set views id (with_one_split v)) j ≡ some x). users_now (last_users o.line) (with_one_split v) (o.users id v me) (λ k n q. refl) j x g i)
        (λ (g : (j ≡ length (set views id (with_one_split v))) × (split_off v ≡ x)). o.no_user j (omega (arith, g.0, length-set views id (with_one_split v))) i ∙ ap (λ (y : View). times i (ids_of y.claims.held)) g.1)
        (at_push (set views id (with_one_split v)) (split_off v) x j at);
    no_user = λ j far i. o.no_user j (omega (arith, far, length-append (set views id (with_one_split v)) (split_off v ∷ []), length-set views id (with_one_split v))) i;
  }

  -- another seat is joined into this one
  pub joins : (other : ℕ) (u : View) → other ≢ id → get_elem? views other ≡ some u → u.standing.gone ≡ false → references_of u ≡ [] → AreOrdered ids first now pool bits look (set (set views id (with_joined v u)) other spent)
  joins other u apart them there free = record {
    line = o.line;
    lined = lined_join stands_at did_in views id v me present o.line o.lined other u (with_joined v u) spent apart them there refl refl refl;
    events = o.events;
    ends = o.ends;
    named = λ i x at here. ⊎_elim
        (λ (g : (i ≡ other) × (spent ≡ x)). absurd (gone_here x (ap (λ (y : View). y.standing.gone) (sym g.1)) here))
        (λ (g : (i ≢ other) × (get_elem? (set views id (with_joined v u)) i ≡ some x)). named_still (with_joined v u) refl i x g.1 here)
        (at_set (set views id (with_joined v u)) other i spent x at);
    own = o.own;
    held = λ j x at i. ⊎_elim
        (λ (g : (j ≡ other) × (spent ≡ x)). ap (λ (n : ℕ). times n (last_holders o.line i)) g.0 ∙ (o.held other u them i ∙ (ap (times i) free ∙ ap (λ (y : View). times i (references_of y)) g.1)))
        (λ (g : (j ≢ other) × (get_elem? (set views id (with_joined v u)) j ≡ some x)). refs_now (last_holders o.line) (with_joined v u) (o.held id v me) (λ k n q. refl) j x g.1 i)
        (at_set (set views id (with_joined v u)) other j spent x at);
    none_else = λ j far i. o.none_else j (omega (arith, far, length-set (set views id (with_joined v u)) other spent, length-set views id (with_joined v u))) i;
    uses = o.uses;
    users = λ j x at i. ⊎_elim
        (λ (g : (j ≡ other) × (spent ≡ x)). ap (λ (n : ℕ). times n (last_users o.line i)) g.0 ∙ (o.users other u them i ∙ (none_held u.claims.held u.claims.probe i (ap (times i) free) ∙ ap (λ (y : View). times i (ids_of y.claims.held)) g.1)))
        (λ (g : (j ≢ other) × (get_elem? (set views id (with_joined v u)) j ≡ some x)). users_now (last_users o.line) (with_joined v u) (o.users id v me) (λ k n q. refl) j x g.1 i)
        (at_set (set views id (with_joined v u)) other j spent x at);
    no_user = λ j far i. o.no_user j (omega (arith, far, length-set (set views id (with_joined v u)) other spent, length-set views id (with_joined v u))) i;
  }

-- the order of a new core
pub opens : (ids first : ℕ) (bits look : ℕ → ℕ) → ((m b : ℕ) → bit_at (bits m) b ≡ 0) → ((i : ℕ) → i < ids → lookups_of (look i) ≡ first) → ((i : ℕ) → i < ids → refs_of (look i) ≡ 0) → AreOrdered ids first (λ k. []) [] bits look (opener ∷ [])
opens ids first bits look unset begins free = record {
  line = [];
  lined = lined_first stands_at did_in opener refl;
  events = tt;
  ends = record { journals = λ k. refl; registrations = refl; lookups = λ i near. sym (begins i near); references = λ i near. sym (free i near); flags = λ k inside. sym (unset (map_of k) (place_bit k)) };
  named = λ i x at here. one i x at;
  own = tt;
  held = λ j x at i. none_yet i j x at;
  none_else = λ j far i. refl;
  uses = tt;
  users = λ j x at i. none_used i j x at;
  no_user = λ j far i. refl;
} where
  one : (i : ℕ) (x : View) → get_elem? (opener ∷ []) i ≡ some x → x.seat ≡ i
  one zero x e = ap (λ (y : View). y.seat) (sym (some-injective opener x e))
  one (suc i) x e = absurd (some-ne-none x (sym e))

  none_yet : (i j : ℕ) (x : View) → get_elem? (opener ∷ []) j ≡ some x → 0 ≡ times i (references_of x)
  none_yet i zero x e = ap (λ (y : View). times i (references_of y)) (some-injective opener x e)
  none_yet i (suc j) x e = absurd (some-ne-none x (sym e))

  none_used : (i j : ℕ) (x : View) → get_elem? (opener ∷ []) j ≡ some x → 0 ≡ times i (ids_of x.claims.held)
  none_used i zero x e = ap (λ (y : View). times i (ids_of y.claims.held)) (some-injective opener x e)
  none_used i (suc j) x e = absurd (some-ne-none x (sym e))
