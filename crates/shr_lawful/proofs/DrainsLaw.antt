-- SPDX-License-Identifier: GPL-2.0-only
-- In a run a list is drained while its id is dying, and an id comes to be idle with empty lists.
use Rattle.shr_lawful.proofs.Common.{◌≡◌, ℕ, zero, suc, ◌+◌, ◌%◌, ◌<◌, ◌≤◌, ⊎_elim, Bool, cond, take, List, [], ◌∷◌, ◌++◌, length, length-append, get_or, sym, refl, ap, subst, ◌∙◌, arith, eqb, eq-eqb, ne_eqb, slice_get, Some, same_Some, slice_get-get_or, dite, ℕ_discrete, dec_lt, some, some-injective, get_elem?, Entry, Drained, PoolEntry, Registered, Idle, Place, Script, HasJournal, place_number, HasJournal_none, Deed, Begins, begins_all, begins_more, place_id, Event, Made, Turn, made, turned, Moment, moment_next, IsTimely, IsSo, so_before, Report, journals_of, decls_on, IsThere, Told, entry, turn, HasAt, looked_by, IsInOneOrder, IsRun, Step, begins_push, before, before_next, moment_before, grown, state_after, at_start, moment_after, LeavesNothing, IsDrainedEntry, ComesBehind, IsWhileDying, IsWhileEmpty, take-append_seam}
use Rattle.shr_model.specs.Pool.{phase_of}
use Rattle.shr_model.specs.Pool as pool
use Rattle.shr_core.specs.Ranks.{entries, turns}
use Rattle.shr_lawful.proofs.InUseLaw.{id_there, there_at, not_idle, used}
use Rattle.shr_lawful.proofs.OneOrderLaw.{opened, rank, stands, start_rank, by_numbers, by_worker, looked_rise, counted_rise}

-- ---- what the line says
dying_at : (t : Moment) (id : ℕ) (e : Entry) → IsDrainedEntry e → IsTimely t id e → phase_of id t.pool % 3 ≡ 2
dying_at t id (Drained by objects) h m = m
dying_at t id e h m = absurd h

-- ---- what only grows begins what is left
module _ {A : Type 0} (f : Moment → List A) (more : (t : Moment) (e : Event) → Begins (f t) (f (moment_after t e))) where
  begins_end : (t : Moment) (l : List (Deed Event)) → Begins (f t) (f (state_after moment_next t l))
  begins_end t [] = begins_all (f t)
  begins_end t (d ∷ l) = begins_more (f t) (f (moment_next t d)) (f (state_after moment_next (moment_next t d) l)) (more t d.act) (begins_end (moment_next t d) l)

  begins_last : (t : Moment) (l : List (Deed Event)) (n : ℕ) → Begins (f (before moment_next t l n)) (f (state_after moment_next t l))
  begins_last t l zero = begins_end t l
  begins_last t [] (suc n) = begins_all (f t)
  begins_last t (d ∷ l) (suc n) = begins_last (moment_next t d) l n

more_pool : (t : Moment) (e : Event) → Begins t.pool (moment_after t e).pool
more_pool t (turned x) = begins_push t.pool x.entry
more_pool t e = begins_all t.pool

more_now : (k : ℕ) (t : Moment) (e : Event) → Begins (t.now k) ((moment_after t e).now k)
more_now k t (made x) = dite (ℕ_discrete k x.place)
    (λ e. subst (λ (b : Bool). Begins (t.now k) (cond b (t.now k ++ x.entry ∷ []) (t.now k))) (sym (eq-eqb k x.place e)) (begins_push (t.now k) x.entry))
    (λ n. subst (λ (b : Bool). Begins (t.now k) (cond b (t.now k ++ x.entry ∷ []) (t.now k))) (sym (ne_eqb k x.place n)) (begins_all (t.now k)))
more_now k t e = begins_all (t.now k)

-- ---- of entries of one id each, no id has two
few_phases : (es : List PoolEntry) (base id m : ℕ) → ((k : ℕ) (e : PoolEntry) → k < m → slice_get es k ≡ Some e → pool.id_of e ≡ base + k) → (phase_of id (take m es) ≤ 1) × (id < base → phase_of id (take m es) ≡ 0)
unfolding phase_of
few_phases es base id zero each = (omega arith, λ lt. refl)
few_phases [] base id (suc m) each = (omega arith, λ lt. refl)
few_phases (e ∷ es) base id (suc m) each =
    let own : pool.id_of e ≡ base + 0 = each 0 e (omega arith) refl in
    let rest = few_phases es (suc base) id m (λ k d lt at. each (suc k) d (omega (arith, lt)) at ∙ omega arith) in
    dite (ℕ_discrete (pool.id_of e) id)
    (λ same. let one = ap {B = ℕ} (λ b. cond b 1 0) (eq-eqb (pool.id_of e) id same) in let none = rest.1 (omega (arith, own, same)) in (omega (arith, one, none), λ lt. absurd (omega (arith, lt, own, same))))
    (λ n. let zero_is = ap {B = ℕ} (λ b. cond b 1 0) (ne_eqb (pool.id_of e) id n) in let few = rest.0 in (omega (arith, zero_is, few), λ lt. let none = rest.1 (omega (arith, lt)) in omega (arith, zero_is, none)))

module _ (s : Script) (r : Report) (workers : List (List Step)) (run : IsRun s r workers) where
  abbrev line : List (Deed Event)
  line = run.order.line

  abbrev rank_of : Told → ℕ
  rank_of x = rank s r workers run x

  abbrev first : ℕ
  first = opened s r workers run

  abbrev moment : ℕ → Moment
  moment c = moment_before 0 line c

  -- each event is so where it stands
  so_at : (c : ℕ) (d : Deed Event) → get_elem? line c ≡ some d → IsSo s.ids (moment c) d.act
  so_at c d at = so_before moment_next (λ u y. IsSo s.ids u y.act) (at_start 0) line c d run.order.events at

  after_at : (c : ℕ) (d : Deed Event) → get_elem? line c ≡ some d → moment (suc c) ≡ moment_after (moment c) d.act
  after_at c d at = before_next moment_next (at_start 0) line c d at

  -- ---- the journal of registrations
  pool_front : (c : ℕ) → Begins (moment c).pool r.pool.items
  pool_front c = subst (λ (es : List PoolEntry). Begins (moment c).pool es) run.order.registered (begins_last (λ (t : Moment). t.pool) more_pool (at_start 0) line c)

  pool_taken : (c : ℕ) → take (length (moment c).pool) r.pool.items ≡ (moment c).pool
  pool_taken c = let b = pool_front c in ap (take (length (moment c).pool)) b.1 ∙ take-append_seam (moment c).pool b.0

  -- where an entry of it stands that no start made
  record TurnAt (i : ℕ) : Type 0 where
    index : ℕ
    is : rank_of (turn i) ≡ first + index
    low : length (moment index).pool ≡ i
    high : length (moment (suc index)).pool ≡ i + 1
    of : Turn
    deed : Deed Event
    there : get_elem? line index ≡ some deed
    act : deed.act ≡ turned of
    entry_is : slice_get r.pool.items i ≡ Some of.entry

  turn_at : (i : ℕ) (e : PoolEntry) → slice_get r.pool.items i ≡ Some e → first ≤ i → TurnAt i
  turn_at i e at late = ⊎_elim
      (λ start. absurd (let lt = start.2 in let number = number_is start.0 start.1 in omega (arith, late, lt, number)))
      (λ t. let m = t.says in
      let so = subst (IsSo s.ids (moment t.index)) m.1 (so_at t.index t.deed t.there) in
      let low : length (moment t.index).pool ≡ i = sym so.0 ∙ m.2 in
      let next : length (moment (suc t.index)).pool ≡ length ((moment t.index).pool ++ m.0.entry ∷ []) = ap (λ (u : Moment). length u.pool) (after_at t.index t.deed t.there ∙ ap (moment_after (moment t.index)) m.1) in
      record {
        index = t.index;
        is = t.is;
        low = low;
        high = omega (arith, next, low, length-append (moment t.index).pool (m.0.entry ∷ []));
        of = m.0;
        deed = t.deed;
        there = t.there;
        act = m.1;
        entry_is = m.3;
      })
      (stands s r workers run (turn i) (e, at, tt)) where
        number_is : (n : ℕ) → turn i ≡ turn n → i ≡ n
        number_is n e = cc

  -- the entries of the start are registrations of one id each
  start_id : (k : ℕ) (e : PoolEntry) → k < first → slice_get r.pool.items k ≡ Some e → pool.id_of e ≡ k
  start_id k e lt at = let decl : ℕ = get_or (decls_on s) k 0 in
      ap pool.id_of (sym (same_Some (Registered decl k 0) e (sym (run.pool.opened k decl (slice_get-get_or (decls_on s) k 0 lt)) ∙ at)))

  entry_of : (n : ℕ) → n < length r.pool.items → (e : PoolEntry) × (slice_get r.pool.items n ≡ Some e)
  entry_of n lt = at_number r.pool.items n lt where
    at_number : (es : List PoolEntry) (n : ℕ) → n < length es → (e : PoolEntry) × (slice_get es n ≡ Some e)
    at_number [] n lt = absurd (omega (arith, lt))
    at_number (e ∷ es) zero lt = (e, refl)
    at_number (e ∷ es) (suc n) lt = at_number es n (omega (arith, lt))

  -- a list isn't drained before all that the start registered
  past_start : (id b : ℕ) → phase_of id (moment b).pool % 3 ≡ 2 → first ≤ length (moment b).pool
  past_start id b dying = dite (dec_lt (length (moment b).pool) first)
      (λ lt. let few = (few_phases r.pool.items 0 id (length (moment b).pool) (λ k e below at. start_id k e (omega (arith, lt, below)) at ∙ omega arith)).0 in
      let same = ap (phase_of id) (pool_taken b) in absurd (omega (arith, few, same, dying)))
      (λ no. omega (arith, no))

  not_both : (m : Made) (t : Turn) → made m ≡ turned t → ⊥
  not_both m t e = cc

  -- so many entries of it come before a drain
  turns_behind : (x : Told) (b : ℕ) (d : Deed Event) (m : Made) → rank_of x ≡ first + b → get_elem? line b ≡ some d → d.act ≡ made m → first ≤ length (moment b).pool → ComesBehind rank_of turn (length r.pool.items) (length (moment b).pool) x
  turns_behind x b d m is at act late = let front = pool_front b in let long = ap (length {A = PoolEntry}) front.1 ∙ length-append (moment b).pool front.0 in record {
    few = omega (arith, long);
    before = λ i lt. dite (dec_lt i first)
        (λ early. let low = start_rank s r workers run i early in omega (arith, low, early, is))
        (λ no. let e = entry_of i (omega (arith, lt, long)) in let t = turn_at i e.0 e.1 (omega (arith, no)) in
        dite (dec_lt t.index b)
        (λ less. let there = t.is in omega (arith, less, there, is))
        (λ more. let up : length (moment b).pool ≤ length (moment t.index).pool = grown 0 line turns b t.index (omega (arith, more)) in let low = t.low in absurd (omega (arith, up, low, lt))));
    others = λ i le within. let e = entry_of i within in let t = turn_at i e.0 e.1 (omega (arith, late, le)) in
        dite (dec_lt b t.index)
        (λ less. let there = t.is in omega (arith, less, there, is))
        (λ no. dite (ℕ_discrete t.index b)
        (λ same. absurd (not_both m t.of (sym act ∙ (ap (λ (y : Deed Event). y.act) (some-injective d t.deed (sym at ∙ (ap (get_elem? line) (sym same) ∙ t.there))) ∙ t.act))))
        (λ n. let up : length (moment (suc t.index)).pool ≤ length (moment b).pool = grown 0 line turns (suc t.index) b (omega (arith, no, n)) in let high = t.high in absurd (omega (arith, up, high, le))));
  }

  pub drained : (place : Place) (n : ℕ) → HasAt (journals_of r place) n IsDrainedEntry → IsWhileDying r rank_of place.id (entry place n)
  drained place n told = ⊎_elim
      (λ start. absurd (not_turn start.0 start.1))
      (λ t. let m = t.says in
      let same : m.0.entry ≡ told.0 = same_Some m.0.entry told.0 (sym m.4 ∙ told.1) in
      let id : place_id m.0.place ≡ place.id = ap place_id m.2 ∙ id_there s r workers run place (there_at s r workers run place n told.0 told.1) in
      let so = subst (IsSo s.ids (moment t.index)) m.1 (so_at t.index t.deed t.there) in
      let dying : phase_of place.id (moment t.index).pool % 3 ≡ 2 = ap (λ (i : ℕ). phase_of i (moment t.index).pool % 3) (sym id) ∙ dying_at (moment t.index) (place_id m.0.place) m.0.entry (subst IsDrainedEntry (sym same) told.2) so.1 in
      record {
        turns = length (moment t.index).pool;
        behind = turns_behind (entry place n) t.index t.deed m.0 t.is t.there m.1 (past_start place.id t.index dying);
        dying = eq-eqb (phase_of place.id (take (length (moment t.index).pool) r.pool.items) % 3) 2 (ap (λ (es : List PoolEntry). phase_of place.id es % 3) (pool_taken t.index) ∙ dying);
      })
      (stands s r workers run (entry place n) (told.0, told.1, tt)) where
        not_turn : (i : ℕ) → entry place n ≡ turn i → ⊥
        not_turn i e = cc

  -- ---- the journal of a list
  module _ (place : Place) (there : IsThere s place) where
    abbrev k : ℕ
    k = place_number place

    list_front : (c : ℕ) → Begins ((moment c).now k) (journals_of r place)
    list_front c = subst (λ (es : List Entry). Begins ((moment c).now k) es) (run.order.listed place there) (begins_last (λ (t : Moment). t.now k) (more_now k) (at_start 0) line c)

    list_taken : (c : ℕ) → take (length ((moment c).now k)) (journals_of r place) ≡ (moment c).now k
    list_taken c = let b = list_front c in ap (take (length ((moment c).now k))) b.1 ∙ take-append_seam ((moment c).now k) b.0

    -- where an entry of it stands
    record EntryAt (i : ℕ) : Type 0 where
      index : ℕ
      is : rank_of (entry place i) ≡ first + index
      low : length ((moment index).now k) ≡ i
      high : length ((moment (suc index)).now k) ≡ i + 1
      of : Made
      deed : Deed Event
      there_is : get_elem? line index ≡ some deed
      act : deed.act ≡ made of

    entry_at : (i : ℕ) (e : Entry) → slice_get (journals_of r place) i ≡ Some e → EntryAt i
    entry_at i e at = ⊎_elim
        (λ start. absurd (not_turn start.0 start.1))
        (λ t. let m = t.says in
        let so = subst (IsSo s.ids (moment t.index)) m.1 (so_at t.index t.deed t.there) in
        let low : length ((moment t.index).now k) ≡ i = ap (λ (j : ℕ). length ((moment t.index).now j)) (sym m.2) ∙ (sym so.0 ∙ m.3) in
        let next : length ((moment (suc t.index)).now k) ≡ length (cond (eqb k m.0.place) ((moment t.index).now k ++ m.0.entry ∷ []) ((moment t.index).now k)) = ap (λ (u : Moment). length (u.now k)) (after_at t.index t.deed t.there ∙ ap (moment_after (moment t.index)) m.1) in
        let one = ap (λ (b : Bool). length (cond b ((moment t.index).now k ++ m.0.entry ∷ []) ((moment t.index).now k))) (eq-eqb k m.0.place (sym m.2)) in
        record {
          index = t.index;
          is = t.is;
          low = low;
          high = omega (arith, next, one, low, length-append ((moment t.index).now k) (m.0.entry ∷ []));
          of = m.0;
          deed = t.deed;
          there_is = t.there;
          act = m.1;
        })
        (stands s r workers run (entry place i) (e, at, tt)) where
          not_turn : (n : ℕ) → entry place i ≡ turn n → ⊥
          not_turn n e = cc

    one_of : (n : ℕ) → n < length (journals_of r place) → (e : Entry) × (slice_get (journals_of r place) n ≡ Some e)
    one_of n lt = at_number (journals_of r place) n lt where
      at_number : (es : List Entry) (n : ℕ) → n < length es → (e : Entry) × (slice_get es n ≡ Some e)
      at_number [] n lt = absurd (omega (arith, lt))
      at_number (e ∷ es) zero lt = (e, refl)
      at_number (e ∷ es) (suc n) lt = at_number es n (omega (arith, lt))

    -- so many entries of it come before an end
    entries_behind : (x : Told) (b : ℕ) (d : Deed Event) (t : Turn) → rank_of x ≡ first + b → get_elem? line b ≡ some d → d.act ≡ turned t → ComesBehind rank_of (entry place) (length (journals_of r place)) (length ((moment b).now k)) x
    entries_behind x b d t is at act = let front = list_front b in let long = ap (length {A = Entry}) front.1 ∙ length-append ((moment b).now k) front.0 in record {
      few = omega (arith, long);
      before = λ i lt. let e = one_of i (omega (arith, lt, long)) in let p = entry_at i e.0 e.1 in
          dite (dec_lt p.index b)
          (λ less. let there = p.is in omega (arith, less, there, is))
          (λ more. let up : length ((moment b).now k) ≤ length ((moment p.index).now k) = grown 0 line (entries k) b p.index (omega (arith, more)) in let low = p.low in absurd (omega (arith, up, low, lt)));
      others = λ i le within. let e = one_of i within in let p = entry_at i e.0 e.1 in
          dite (dec_lt b p.index)
          (λ less. let there = p.is in omega (arith, less, there, is))
          (λ no. dite (ℕ_discrete p.index b)
          (λ same. absurd (not_both p.of t (sym p.act ∙ (ap (λ (y : Deed Event). y.act) (some-injective p.deed d (sym p.there_is ∙ (ap (get_elem? line) same ∙ at))) ∙ act))))
          (λ n. let up : length ((moment (suc p.index)).now k) ≤ length ((moment b).now k) = grown 0 line (entries k) (suc p.index) b (omega (arith, no, n)) in let high = p.high in absurd (omega (arith, up, high, le))));
    }

  -- at an Idle the journal of a list leaves nothing
  pub emptied : (place : Place) (n : ℕ) → HasAt r.pool.items n (λ (e : PoolEntry). e ≡ Idle place.id) → IsWhileEmpty r rank_of place (turn n)
  emptied place n told = dite (dec_lt 0 (length (journals_of r place)))
      (λ some_entries. let there = run.journals.there place some_entries in
      let t = turn_at n told.0 told.1 late in
      let is : t.of.entry ≡ Idle place.id = same_Some t.of.entry told.0 (sym t.entry_is ∙ told.1) ∙ told.2 in
      let so = subst (IsSo s.ids (moment t.index)) t.act (so_at t.index t.deed t.there) in
      let leaves : LeavesNothing (moment t.index) (Idle place.id) = subst (LeavesNothing (moment t.index)) is so.2 in
      record {
        entries = length ((moment t.index).now (place_number place));
        behind = entries_behind place there (turn n) t.index t.deed t.of t.is t.there t.act;
        empty = subst (λ (es : List Entry). HasJournal es []) (sym (list_taken place there t.index)) (leaves (place_number place) (id_there s r workers run place there));
      })
      (λ none. record {
        entries = 0;
        behind = record { few = omega arith; before = λ i lt. absurd (omega (arith, lt)); others = λ i le lt. absurd (omega (arith, lt, none)) };
        empty = HasJournal_none;
      }) where
        late : first ≤ n
        late = dite (dec_lt n first)
            (λ lt. let decl : ℕ = get_or (decls_on s) n 0 in
            absurd (not_idle decl n 0 place.id (same_Some (Registered decl n 0) (Idle place.id) (sym (run.pool.opened n decl (slice_get-get_or (decls_on s) n 0 lt)) ∙ (told.1 ∙ ap (λ (e : PoolEntry). Some e) told.2)))))
            (λ no. omega (arith, no))

  pub in_one_order : IsInOneOrder r
  in_one_order = record {
    rank = rank s r workers run;
    by_numbers = by_numbers s r workers run;
    by_worker = by_worker s r workers run;
    looked = λ by i j d lt less. looked_rise s r workers run by.worker by.command i j (get_or (looked_by r by) i d) (get_or (looked_by r by) j d) lt
        (slice_get-get_or (looked_by r by) i d (omega (arith, lt, less))) (slice_get-get_or (looked_by r by) j d less);
    counted = counted_rise s r workers run;
    used = used s r workers run;
    drained = drained;
    emptied = emptied;
  }
