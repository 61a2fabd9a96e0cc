-- SPDX-License-Identifier: GPL-2.0-only
-- In a run each take of a deferred word took what was given since the take before.
use Rattle.shr_lawful.proofs.Common.{◌≡◌, ◌≢◌, ◌⊎◌, ℕ, suc, ◌+◌, ◌-◌, inl, inr, ⊎_elim, cond, List, [], ◌∷◌, ◌++◌, length, map, sym, refl, ap, subst, ◌∙◌, arith, eq-eqb, ne_eqb, slice_get, Option, Some, None, flat_map, range_with_len, map-append, same_Some, none-some, dite, ℕ_discrete, PlaceAmount, Place, Serial, Answered, Reply, Command, Script, WalkRecord, Deed, acts_of, part, AreSo, Move, Moves, takes_of, Report, HasCarried, serial_of, command_at, answers_of, steps_walked, steps_handed, places_offlined, IsOfflinedBy, IsCausedBy, DidMoves, told_step, IsRun, Step, steps_of, after_move, amounts_next, state_after, acts_by, Taking, DeferredAmounts, steps_by_worker, steps_by, TakesAt, TakesWhole, carry_of, IsHanded, after_step, after_all, AreWholeTakes, none_deferred, AreTakesInOrder}
use Rattle.shr_base.specs.declared.replies.Reply.TheVariants as reply
use Rattle.shr_deferred.specs.Moves as moves
use Rattle.shr_deferred.specs.Rule as rule
use Rattle.shr_lawful.proofs.FreshLaw.{step_cases}
use Rattle.shr_lawful.proofs.Gathering.{answer_is}
use Rattle.shr_lawful.proofs.OfflinedCause.{carries_are}
use Rattle.shr_lawful.proofs.WalksLaw.{walks_are}

-- ---- lists
map_flat : {A B C : Type 0} (g : B → C) (f : A → List B) (l : List A) → map g (flat_map f l) ≡ flat_map (λ (a : A). map g (f a)) l
map_flat g f [] = refl
map_flat g f (a ∷ l) = map-append g (f a) (flat_map f l) ∙ ap (λ r. map g (f a) ++ r) (map_flat g f l)

-- element by element, and number by number
flat_range : {A B : Type 0} (f : A → List B) (g : ℕ → List B) (l : List A) (base : ℕ) → ((k : ℕ) (a : A) → slice_get l k ≡ Some a → f a ≡ g (base + k)) → flat_map f l ≡ flat_map g (range_with_len base (length l))
flat_range f g [] base each = refl
flat_range f g (a ∷ l) base each = ap (λ r. r ++ flat_map f l) (each 0 a refl ∙ ap g (let zero_more : base + 0 ≡ base = omega arith in zero_more))
    ∙ ap (λ r. g base ++ r) (flat_range f g l (base + 1) (λ k b at. each (suc k) b at ∙ ap g (let next : base + suc k ≡ base + 1 + k = omega arith in next)))

none_told : (m : Moves) → map told_step m ≡ [] → m ≡ []
none_told [] e = refl
none_told (a ∷ m) e = absurd (cc)

-- ---- the line, as a report tells it
abbrev taking : Deed Move → Taking
taking d = record { worker = d.seat - 1; step = told_step d.act }

same_after : (w : DeferredAmounts) (a : Move) → after_step w (told_step a) ≡ after_move w a
same_after w (moves.took x) = refl
same_after w (moves.gave x) = refl

same_takes : (w : DeferredAmounts) (a : Move) → rule.TakesAll w a → TakesWhole w (told_step a)
same_takes w (moves.took x) h = h
same_takes w (moves.gave x) h = h

taken_told : (w : DeferredAmounts) (l : List (Deed Move)) → AreSo amounts_next (λ u d. rule.TakesAll u d.act) w l → AreWholeTakes w (map taking l)
taken_told w [] all = tt
taken_told w (d ∷ l) all = (same_takes w d.act all.0, subst (λ (v : DeferredAmounts). AreWholeTakes v (map taking l)) (sym (same_after w d.act)) (taken_told (after_move w d.act) l all.1))

after_told : (w : DeferredAmounts) (l : List (Deed Move)) → after_all w (map taking l) ≡ state_after amounts_next w l
after_told w [] = refl
after_told w (d ∷ l) = ap (λ (v : DeferredAmounts). after_all v (map taking l)) (same_after w d.act) ∙ after_told (after_move w d.act) l

no_first : (x : Deed Move) (l : List (Deed Move)) → part 0 (x ∷ l) ≡ [] → (x.seat ≢ 0) × (part 0 l ≡ [])
no_first x l e = dite (ℕ_discrete x.seat 0)
    (λ same. absurd (let filled : x ∷ part 0 l ≡ [] = sym (ap (λ b. cond b (x ∷ part 0 l) (part 0 l)) (eq-eqb x.seat 0 same)) ∙ e in cc))
    (λ ne. (ne, sym (ap (λ b. cond b (x ∷ part 0 l) (part 0 l)) (ne_eqb x.seat 0 ne)) ∙ e))

steps_told : (worker : ℕ) (l : List (Deed Move)) → part 0 l ≡ [] → steps_by_worker worker (map taking l) ≡ map told_step (acts_of (part (1 + worker) l))
steps_told worker [] e = refl
steps_told worker (d ∷ l) e =
    let apart = (no_first d l e).0 in let rest = steps_told worker l (no_first d l e).1 in
    dite (ℕ_discrete d.seat (1 + worker))
    (λ same. ap (λ b. cond b (told_step d.act ∷ steps_by_worker worker (map taking l)) (steps_by_worker worker (map taking l))) (eq-eqb (d.seat - 1) worker (omega (arith, same)))
    ∙ (ap (λ r. told_step d.act ∷ r) rest ∙ sym (ap (λ b. map told_step (acts_of (cond b (d ∷ part (1 + worker) l) (part (1 + worker) l)))) (eq-eqb d.seat (1 + worker) same))))
    (λ ne. ap (λ b. cond b (told_step d.act ∷ steps_by_worker worker (map taking l)) (steps_by_worker worker (map taking l))) (ne_eqb (d.seat - 1) worker (λ f. ne (omega (arith, apart, f))))
    ∙ (rest ∙ sym (ap (λ b. map told_step (acts_of (cond b (d ∷ part (1 + worker) l) (part (1 + worker) l)))) (ne_eqb d.seat (1 + worker) ne))))

-- ---- what was taken to hand it over
abbrev places_in : List PlaceAmount → List Place
places_in amounts = map (λ (a : PlaceAmount). a.place) amounts

takes_by : (x : Reply) (all : List Place) (handed : List PlaceAmount) → (handed ≡ []) ⊎ ((places_in handed ≡ all) × HasCarried x) → ((entry moved deferred : ℕ) → x ≡ reply.OfflineDone entry moved deferred → places_in handed ≡ all) → TakesAt x all (places_in handed)
takes_by (reply.OfflineDone entry moved deferred) all handed h whole = whole entry moved deferred refl
takes_by (reply.AlreadyDone entry) all handed h whole = ⊎_elim (λ none. inl (ap places_in none)) (λ some. inr some.0) h
takes_by x all handed h whole = ⊎_elim (λ none. ap places_in none) (λ some. absurd some.1) h

-- a command that took its group offline took at each place
took_whole : (s : Script) (x : Step) (m : DidMoves s x) (entry moved deferred : ℕ) → IsOfflinedBy s x entry moved deferred → places_in m.handed ≡ places_offlined s x.command
took_whole s x m entry moved deferred h = ⊎_elim
    (λ none. let told : map told_step x.work.moves ≡ [] = m.steps ∙ (ap (λ (ws : List WalkRecord). flat_map steps_walked ws ++ flat_map (steps_handed s) m.handed) h.unwalked ∙ ap (flat_map (steps_handed s)) none) in
    ap places_in none ∙ (ap (λ (l : Moves). places_in (takes_of l)) (sym (none_told x.work.moves told)) ∙ h.took))
    (λ some. some.0) m.places

module _ (s : Script) (r : Report) (workers : List (List Step)) (run : IsRun s r workers) where
  handed_in : (worker k : ℕ) (o : Option Step) → slice_get (steps_of workers worker) k ≡ o → List PlaceAmount
  handed_in worker k None e = []
  handed_in worker k (Some x) e = (run.steps.each worker k x e).did.moves.handed

  handed : ℕ → ℕ → List PlaceAmount
  handed worker k = handed_in worker k (slice_get (steps_of workers worker) k) refl

  hands : (worker k : ℕ) (a : Answered) → slice_get (answers_of r worker) k ≡ Some a → IsHanded s r (serial_of worker k) a.reply (handed worker k)
  unfolding handed handed_in
  hands worker k a told = by_step (slice_get (steps_of workers worker) k) refl where
    by_step : (o : Option Step) (e : slice_get (steps_of workers worker) k ≡ o) → IsHanded s r (serial_of worker k) a.reply (handed_in worker k o e)
    by_step None e = absurd (⊎_elim (λ x. none-some x.0 (sym e ∙ x.1)) (λ none. none-some a (sym none ∙ told)) (step_cases s r workers run worker k))
    by_step (Some y) e =
        let is = run.steps.each worker k y e in let m = is.did.moves in
        let same : y.answered ≡ a = same_Some y.answered a (sym (answer_is s r workers run worker k y e) ∙ told) in
        record {
          places = subst (λ (b : Answered). TakesAt b.reply (places_offlined s (command_at s (serial_of worker k))) (places_in m.handed)) same
              (subst (λ (c : Option Command). TakesAt y.answered.reply (places_offlined s c) (places_in m.handed)) (sym is.command)
              (takes_by y.answered.reply (places_offlined s y.command) m.handed m.places (λ entry moved deferred is_done. took_whole s y m entry moved deferred (subst (IsCausedBy s y) is_done is.did.cause))));
          carried = carries_are s r workers run worker k y e ∙ (m.noted ∙ ap (λ (b : Serial). flat_map (carry_of b) m.handed) is.by);
        }

  -- a command's steps are those that the report tells
  steps_are : (worker k : ℕ) (x : Step) → slice_get (steps_of workers worker) k ≡ Some x → map told_step x.work.moves ≡ steps_by s r (serial_of worker k) (handed worker k)
  unfolding handed handed_in
  steps_are worker k x at = by_step (slice_get (steps_of workers worker) k) refl where
    by_step : (o : Option Step) (e : slice_get (steps_of workers worker) k ≡ o) → map told_step x.work.moves ≡ steps_by s r (serial_of worker k) (handed_in worker k o e)
    by_step None e = absurd (none-some x (sym e ∙ at))
    by_step (Some y) e =
        let m = (run.steps.each worker k y e).did.moves in
        let same : x ≡ y = same_Some x y (sym at ∙ e) in
        ap (λ (z : Step). map told_step z.work.moves) same ∙ (m.steps ∙ ap (λ (ws : List WalkRecord). flat_map steps_walked ws ++ flat_map (steps_handed s) m.handed) (sym (walks_are s r workers run worker k y e)))

  abbrev line : List (Deed Move)
  line = run.deferred.line

  parts : (worker : ℕ) → steps_by_worker worker (map taking line) ≡ flat_map (λ k. steps_by s r (serial_of worker k) (handed worker k)) (range_with_len 0 (length (answers_of r worker)))
  parts worker = steps_told worker line run.deferred.others
      ∙ (ap (λ (l : List (Deed Move)). map told_step (acts_of l)) (run.deferred.parts worker)
      ∙ (ap (map told_step) (acts_by (1 + worker) (flat_map (λ (x : Step). x.work.moves) (steps_of workers worker)))
      ∙ (map_flat told_step (λ (x : Step). x.work.moves) (steps_of workers worker)
      ∙ (flat_range (λ (x : Step). map told_step x.work.moves) (λ k. steps_by s r (serial_of worker k) (handed worker k)) (steps_of workers worker) 0
      (λ k x at. steps_are worker k x at ∙ ap (λ j. steps_by s r (serial_of worker j) (handed worker j)) (let zero_first : k ≡ 0 + k = omega arith in zero_first))
      ∙ ap (λ n. flat_map (λ k. steps_by s r (serial_of worker k) (handed worker k)) (range_with_len 0 n)) (sym (run.steps.answers worker))))))

  pub takes_in_order : AreTakesInOrder s r
  takes_in_order = record {
    handed = handed;
    hands = hands;
    line = map taking line;
    parts = parts;
    taken = taken_told none_deferred line run.deferred.takes;
    left = λ place there. run.deferred.left place there ∙ ap (λ (w : DeferredAmounts). w place) (sym (after_told none_deferred line));
  }
