-- SPDX-License-Identifier: GPL-2.0-only
-- The causes of answers of `unregister` that ended a registration.
use Rattle.shr_lawful.proofs.Common.{◌≡◌, ℕ, zero, suc, ◌+◌, ◌%◌, ◌<◌, ◌≤◌, ⊎_elim, inl, inr, Bool, true, false, ◌||◌, cond, eqb, List, [], ◌∷◌, length, take, drop, refl, sym, ap, subst, ◌∙◌, arith, eq-eqb, slice_get, Some, sum_by, nat_lt, list_any, cases_Bool, cases_lt, eqb-true, and_parts, same_Some, none-some, slice_get_within, dite, ℕ_discrete, Entry, Drained, PoolEntry, Registered, Unregistered, Idle, Place, Serial, HalfWhy, Reply, Script, is_serial, phase_of, from_of, phase_of_push, Made, Turn, Report, decls_on, serial_of, drained_by, IsFreed, Step, steps_of, IsCausedBy, IsDrainedByCommand, MayMakeEntry, Drains, IsTurnOf, IsRun, all_zero, some_at, drained_of, is_idle_entry, became_idle, IsUnregistered, IsUnregisteredBy, IsFreedBy, IsHalfBy, id_of, no_test}
use Rattle.shr_charge.proofs.Listing.{take_next}
use Rattle.shr_model.proofs.Weights.{is_serial_same}
use Rattle.shr_model.proofs.Lists.{there_at}
use Rattle.shr_base.specs.declared.replies.Reply.TheVariants as reply
use Rattle.shr_core.specs.Layout as layout
use Rattle.shr_core.proofs.LookupSteps.{lowest_free_is}
use Rattle.shr_lawful.proofs.Gathering.{each_among, same_step, maker}
use Rattle.shr_lawful.proofs.JournalsLaw.{turn_maker, turn_stands, one_turn_maker, pool_known}
use Rattle.shr_lawful.proofs.EntrySums.{entries_of_step}

-- how far a number is above another
apart_by : (n m : ℕ) → n < m → (g : ℕ) × (m ≡ n + 1 + g)
apart_by n zero lt = absurd (omega (arith, lt))
apart_by zero (suc m) lt = (m, omega arith)
apart_by (suc n) (suc m) lt = let t = apart_by n m (omega (arith, lt)) in (t.0, omega (arith, t.1))

any_dropped : {A : Type 0} (p : A → Bool) (xs : List A) (k n : ℕ) (x : A) → k ≤ n → slice_get xs n ≡ Some x → p x ≡ true → list_any p (drop k xs) ≡ true
any_dropped p [] k n x le e yes_it = absurd (none-some x e)
any_dropped p (y ∷ xs) zero zero x le e yes_it = ap (λ b. b || list_any p xs) (ap p (same_Some y x e) ∙ yes_it)
any_dropped p (y ∷ xs) zero (suc n) x le e yes_it = (elim (p y) as (λ (b : Bool). list_any p xs ≡ true → (b || list_any p xs) ≡ true) [ true ↦ λ h. refl | false ↦ λ h. h ]) (any_dropped p xs 0 n x (omega arith) e yes_it)
any_dropped p (y ∷ xs) (suc k) zero x le e yes_it = absurd (omega (arith, le))
any_dropped p (y ∷ xs) (suc k) (suc n) x le e yes_it = any_dropped p xs k n x (omega (arith, le)) e yes_it

dropped_any : {A : Type 0} (p : A → Bool) (xs : List A) (k : ℕ) → list_any p (drop k xs) ≡ true → (n : ℕ) × (x : A) × (slice_get xs n ≡ Some x) × (k ≤ n) × (p x ≡ true)
dropped_any p [] zero h = let t : false ≡ true = h in cc
dropped_any p [] (suc k) h = let t : false ≡ true = h in cc
dropped_any p (x ∷ xs) zero h = elim (cases_Bool (p x)) [
  | inl here ↦ (0, x, refl, omega arith, here)
  | inr away ↦ let t = dropped_any p xs 0 (sym (ap (λ b. b || list_any p xs) away) ∙ h) in (suc t.0, t.1, t.2, omega arith, t.4)
]
dropped_any p (x ∷ xs) (suc k) h = let t = dropped_any p xs k h in (suc t.0, t.1, t.2, omega (arith, t.3), t.4)

idle_entry : (id : ℕ) (e : PoolEntry) → is_idle_entry id e ≡ true → e ≡ Idle id
idle_entry id (Registered d i since) h = let t : false ≡ true = h in cc
idle_entry id (Unregistered d i until) h = let t : false ≡ true = h in cc
idle_entry id (Idle i) h = ap Idle (eqb-true i id h)

module _ (s : Script) (r : Report) (workers : List (List Step)) (run : IsRun s r workers) where
  phase_next : (id n : ℕ) (e : PoolEntry) → slice_get r.pool.items n ≡ Some e → phase_of id (take (n + 1) r.pool.items) ≡ phase_of id (take n r.pool.items) + cond (eqb (id_of e) id) 1 0
  phase_next id n e at = ap (phase_of id) (take_next r.pool.items n e at) ∙ phase_of_push id (take n r.pool.items) e

  own_next : (id n : ℕ) (e : PoolEntry) → slice_get r.pool.items n ≡ Some e → id_of e ≡ id → phase_of id (take (n + 1) r.pool.items) ≡ phase_of id (take n r.pool.items) + 1
  own_next id n e at own = phase_next id n e at ∙ ap (λ b. phase_of id (take n r.pool.items) + cond {A = ℕ} b 1 0) (eq-eqb (id_of e) id own)

  -- phases never fall
  phase_later : (id n d : ℕ) → n + d ≤ length r.pool.items → phase_of id (take n r.pool.items) ≤ phase_of id (take (n + d) r.pool.items)
  phase_later id n zero le = let same : n + 0 ≡ n = omega arith in omega (arith, ap (λ i. phase_of id (take i r.pool.items)) same)
  phase_later id n (suc d) le =
      let e = there_at r.pool.items (n + d) (omega (arith, le)) in
      let same : n + d + 1 ≡ n + suc d = omega arith in
      omega (arith, phase_later id n d (omega (arith, le)), phase_next id (n + d) e.0 e.1, ap (λ i. phase_of id (take i r.pool.items)) same)

  -- two entries of an id after which it has one phase are one
  pub same_phase : (id n m : ℕ) (d e : PoolEntry) → slice_get r.pool.items n ≡ Some d → slice_get r.pool.items m ≡ Some e → id_of d ≡ id → id_of e ≡ id
      → phase_of id (take n r.pool.items) ≡ phase_of id (take m r.pool.items) → n ≡ m
  same_phase id n m d e at_n at_m of_d of_e same = dite (ℕ_discrete n m) (λ h. h) (λ ne. absurd (⊎_elim
      (λ lt. before n m d at_n at_m of_d same lt)
      (λ le. before m n e at_m at_n of_e (sym same) (omega (arith, le, ne)))
      (cases_lt n m))) where
        before : (n m : ℕ) (d : PoolEntry) {e : PoolEntry} → slice_get r.pool.items n ≡ Some d → slice_get r.pool.items m ≡ Some e → id_of d ≡ id → phase_of id (take n r.pool.items) ≡ phase_of id (take m r.pool.items) → n < m → ⊥
        before n m d {e} at_n at_m of_d same lt =
            let within = slice_get_within r.pool.items m e at_m in
            let g = apart_by n m lt in gap g.0 g.1 within where
              gap : (g : ℕ) → m ≡ n + 1 + g → m < length r.pool.items → ⊥
              gap g is within = omega (arith, same, own_next id n d at_n of_d, phase_later id (n + 1) g (omega (arith, is, within)), ap (λ i. phase_of id (take i r.pool.items)) is)

  module _ (worker k : ℕ) (x : Step) (at : slice_get (steps_of workers worker) k ≡ Some x) where
    drained_other : (by : Serial) (m : Made) (e : Entry) (y : Step) → MayMakeEntry s y m e → (y.by ≡ by → ⊥) → drained_by by e ≡ 0
    drained_other by m (Drained b objects) y may ne = let t : IsDrainedByCommand y m b = may in
        ap (λ c. cond c objects 0) (no_test (is_serial by b) (λ same. ne (sym (is_serial_same by b same ∙ t.own))))
    drained_other by m e y may ne = refl

    drained_is : sum_by (λ (m : Made). drained_by x.by m.entry) x.work.core.made ≡ drained_of r x.by
    drained_is = sym (entries_of_step s r workers run (drained_by x.by) worker k x at (λ v j y at_y apart.
        all_zero (λ (m : Made). drained_by x.by m.entry) y.work.core.made (λ i m e. drained_other x.by m m.entry y
        (each_among (λ (z : Made). MayMakeEntry s y z z.entry) y.work.core.made m (run.steps.each v j y at_y).did.entries.each (i, some_at y.work.core.made i m e))
        (λ same. let b : serial_of v j ≡ serial_of worker k = sym (run.steps.each v j y at_y).by ∙ (same ∙ (run.steps.each worker k x at).by) in apart (ap (λ (z : Serial). z.worker) b, ap (λ (z : Serial). z.command) b)))))

    pub unregistered : (id entry from to objects : ℕ) (h : IsUnregisteredBy x id entry from to objects) → ((i : ℕ) → Drains i x.answered.reply → i ≡ id) → IsUnregistered r x.by h.decl id entry from to objects
    unregistered id entry from to objects h drains = record {
      made = turn_stands s r workers run worker k x (record { number = entry; entry = Unregistered h.decl id to }) at h.made;
      from_is = h.began ∙ ap (from_of id) (pool_known s r workers run worker k x at entry (omega (arith, h.known)));
      drained = h.drained ∙ drained_is;
      places = λ place n e stands m is_it.
          let z = maker s r workers run place n e stands in
          let is = run.steps.each z.worker z.k z.step z.at in
          let may : IsDrainedByCommand z.step z.made x.by = subst (MayMakeEntry s z.step z.made) (z.entry ∙ is_it) (each_among (λ (v : Made). MayMakeEntry s z.step v v.entry) z.step.work.core.made z.made is.did.entries.each z.among) in
          let own : serial_of z.worker z.k ≡ serial_of worker k = sym is.by ∙ (sym may.own ∙ (run.steps.each worker k x at).by) in
          let same : z.step ≡ x = same_step workers z.worker z.k worker k z.step x z.at at (ap (λ (b : Serial). b.worker) own) (ap (λ (b : Serial). b.command) own) in
          ap (λ (p : Place). p.id) (sym z.place_is) ∙ drains (layout.place_id z.made.place) (subst (λ (y : Step). Drains (layout.place_id z.made.place) y.answered.reply) same may.drains);
    }

    pub freed : (id entry from to objects : ℕ) (h : IsFreedBy x id entry from to objects) → x.answered.reply ≡ reply.Freed id entry from to objects → IsFreed r x.by h.unregistered.decl id entry from to objects
    freed id entry from to objects h answer = record {
      unregistered = unregistered id entry from to objects h.unregistered (λ i d. sym (subst (Drains i) answer d));
      idle = any_dropped (is_idle_entry id) r.pool.items (entry + 1) h.number (Idle id) (omega (arith, turn.1)) (turn_stands s r workers run worker k x (record { number = h.number; entry = Idle id }) at h.idle) (eq-eqb id id refl);
    } where
      turn : IsTurnOf x.after.core.turns.known (Idle id) h.number (reply.Freed id entry from to objects)
      turn = subst (IsTurnOf x.after.core.turns.known (Idle id) h.number) answer
          (each_among (λ (t : Turn). IsTurnOf x.after.core.turns.known t.entry t.number x.answered.reply) x.work.core.turns (record { number = h.number; entry = Idle id }) (run.steps.each worker k x at).did.pool.turns h.idle)

    -- after the Unregistered of a Half no Idle of its id comes
    pub half : (id entry from to objects : ℕ) (w : HalfWhy) (h' : IsHalfBy s x id entry from to objects w) → x.answered.reply ≡ reply.Half id entry from to objects w
        → became_idle r id entry ≡ false
    half id entry from to objects w h' answer = no_test (became_idle r id entry) (λ became. let t = dropped_any (is_idle_entry id) r.pool.items (entry + 1) became in let g = apart_by entry t.0 (omega (arith, t.3)) in
        idle_never t.0 g.0 g.1 (t.2 ∙ ap Some (idle_entry id t.1 t.4))) where
          made : slice_get r.pool.items entry ≡ Some (Unregistered h'.unregistered.decl id to)
          made = turn_stands s r workers run worker k x (record { number = entry; entry = Unregistered h'.unregistered.decl id to }) at h'.unregistered.made

          dying : phase_of id (take (entry + 1) r.pool.items) ≡ phase_of id (take entry r.pool.items) + 1
          dying = own_next id entry (Unregistered h'.unregistered.decl id to) made refl

          live : phase_of id (take entry r.pool.items) % 3 ≡ 1
          live = (run.pool.journal entry (Unregistered h'.unregistered.decl id to) (some_at r.pool.items entry (Unregistered h'.unregistered.decl id to) made)).0

          -- the one that made an Idle in the phase after the Unregistered is the command itself
          no_freed : (v j : ℕ) (y : Step) → slice_get (steps_of workers v) j ≡ Some y → (n : ℕ) → phase_of id (take n r.pool.items) ≡ phase_of id (take entry r.pool.items) + 1 → (z : Reply) → y.answered.reply ≡ z → IsTurnOf y.after.core.turns.known (Idle id) n z → ⊥
          no_freed v j y at_y n phase (reply.Freed i other since until much) replied h =
              let cause : IsFreedBy y i other since until much = subst (IsCausedBy s y) replied (run.steps.each v j y at_y).did.cause in
              let theirs = turn_stands s r workers run v j y (record { number = other; entry = Unregistered cause.unregistered.decl i until }) at_y cause.unregistered.made in
              let in_report : phase_of id (take n r.pool.items) ≡ phase_of id (take other r.pool.items) + 1 = ap (phase_of id) (sym (pool_known s r workers run v j y at_y n (omega (arith, h.2)))) ∙ (h.3 ∙ ap (λ l. phase_of id l + 1) (pool_known s r workers run v j y at_y other (omega (arith, h.1, h.2)))) in
              let same : other ≡ entry = same_phase id other entry (Unregistered cause.unregistered.decl i until) (Unregistered h'.unregistered.decl id to) theirs made h.0 refl (omega (arith, phase, in_report)) in
              let one = one_turn_maker s r workers run v j worker k y x (record { number = other; entry = Unregistered cause.unregistered.decl i until }) (record { number = entry; entry = Unregistered h'.unregistered.decl id to }) at_y at cause.unregistered.made h'.unregistered.made same in
              let step : y ≡ x = same_step workers v j worker k y x at_y at one.0 one.1 in
              let both : reply.Freed i other since until much ≡ reply.Half id entry from to objects w = sym replied ∙ (ap (λ (z : Step). z.answered.reply) step ∙ answer) in
              cc
          no_freed v j y at_y n phase z replied h = absurd h

          idle_at : (n : ℕ) → phase_of id (take n r.pool.items) ≡ phase_of id (take entry r.pool.items) + 1 → slice_get r.pool.items n ≡ Some (Idle id) → ⊥
          idle_at n phase stands = ⊎_elim opened_idle (λ past.
              let m = turn_maker s r workers run n (Idle id) past stands in
              let of = each_among (λ (t : Turn). IsTurnOf m.step.after.core.turns.known t.entry t.number m.step.answered.reply) m.step.work.core.turns m.made (run.steps.each m.worker m.k m.step m.at).did.pool.turns m.among in
              no_freed m.worker m.k m.step m.at n phase m.step.answered.reply refl (subst (λ e. IsTurnOf m.step.after.core.turns.known e n m.step.answered.reply) m.entry (subst (λ i. IsTurnOf m.step.after.core.turns.known m.made.entry i m.step.answered.reply) m.number of)))
              (cases_lt n (length (decls_on s))) where
                opened_idle : n < length (decls_on s) → ⊥
                opened_idle lt = let d = there_at (decls_on s) n lt in let both : Idle id ≡ Registered d.0 n 0 = same_Some (Idle id) (Registered d.0 n 0) (sym stands ∙ run.pool.opened n d.0 d.1) in cc

          none_own : (n : ℕ) (e : PoolEntry) → id_of e ≡ id → phase_of id (take n r.pool.items) ≡ phase_of id (take entry r.pool.items) + 1 → slice_get r.pool.items n ≡ Some e → ⊥
          none_own n (Registered d i since) own phase stands =
              let may = run.pool.journal n (Registered d i since) (some_at r.pool.items n (Registered d i since) stands) in
              let free = lowest_free_is s.ids 0 i (take n r.pool.items) may.2 in
              let zero_phase : phase_of i (take n r.pool.items) % 3 ≡ 0 = eqb-true (phase_of i (take n r.pool.items) % 3) 0 (and_parts (eqb (phase_of i (take n r.pool.items) % 3) 0) (nat_lt (phase_of i (take n r.pool.items)) 65533) free).0 in
              omega (arith, live, phase, subst (λ m. phase_of m (take n r.pool.items) % 3 ≡ 0) own zero_phase)
          none_own n (Unregistered d i until) own phase stands =
              let may = run.pool.journal n (Unregistered d i until) (some_at r.pool.items n (Unregistered d i until) stands) in
              omega (arith, live, phase, subst (λ m. phase_of m (take n r.pool.items) % 3 ≡ 1) own may.0)
          none_own n (Idle i) own phase stands = idle_at n phase (stands ∙ ap (λ m. Some (Idle m)) own)

          steady : (d : ℕ) → entry + 1 + d ≤ length r.pool.items → phase_of id (take (entry + 1 + d) r.pool.items) ≡ phase_of id (take entry r.pool.items) + 1
          steady zero le = (let z : entry + 1 + 0 ≡ entry + 1 = omega arith in ap (λ i. phase_of id (take i r.pool.items)) z) ∙ dying
          steady (suc d) le =
              let e = there_at r.pool.items (entry + 1 + d) (omega (arith, le)) in
              let z : entry + 1 + suc d ≡ entry + 1 + d + 1 = omega arith in
              ap (λ i. phase_of id (take i r.pool.items)) z ∙ elim (cases_Bool (eqb (id_of e.0) id)) [
                | inl own ↦ absurd (none_own (entry + 1 + d) e.0 (eqb-true (id_of e.0) id own) (steady d (omega (arith, le))) e.1)
                | inr other ↦ omega (arith, phase_next id (entry + 1 + d) e.0 e.1, ap (λ b. cond {A = ℕ} b 1 0) other, steady d (omega (arith, le)))
              ]

          idle_never : (n g : ℕ) → n ≡ entry + 1 + g → slice_get r.pool.items n ≡ Some (Idle id) → ⊥
          idle_never n g is stands = let within = slice_get_within r.pool.items n (Idle id) stands in idle_at n (ap (λ i. phase_of id (take i r.pool.items)) is ∙ steady g (omega (arith, is, within))) stands
