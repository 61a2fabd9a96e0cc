-- SPDX-License-Identifier: GPL-2.0-only
-- Each command has the walks of the pools that are due, and there is no other, of a run.
use Rattle.shr_lawful.proofs.UnitsCommon.{◌≡◌, ℕ, zero, suc, ◌+◌, ◌<◌, ◌≤◌, ◌≢◌, ◌⊎◌, Bool, true, false, cond, List, [], ◌∷◌, ◌++◌, length, map, flat_map, sym, refl, ap, subst, ◌∙◌, arith, slice_get, Option, Some, option_map, IsSomeAnd, ◌==◌, and_parts, eqb-true, append-nil, same_Some, none-some, ℕ_discrete, Serial, Answered, Reply, Command, Script, PlainWalk, no_state, Report, serial_of, command_at, reply_at, EachAnswer, PlainJob, plain_due, EachPlain, UnitsStep, units_steps_of, AreUnits, filter, plain_by, plain_job_of}
use Rattle.shr_model.specs.Commands.{is_serial}
use Rattle.shr_lawful.proofs.UnitStepKinds.{Kind, released, grabbed, walked, idle}
use Rattle.shr_lawful.proofs.UnitAlong.{gained, gained_is, all_gained}
use Rattle.shr_lawful.proofs.UnitRooms.{release_still, grab_still}
use Rattle.shr_lawful.proofs.UnitWalking.{walks_are}
use Rattle.shr_lawful.proofs.UnitMaking.{walks_at, kind_at, longer_walks, Stepped, stepped}
use Rattle.shr_lawful.proofs.UnitWalkRecords.{WalkOf, walk_of, none_gained}
use Rattle.shr_model.proofs.Booleans.{no_test}
pub use Rattle.shr_model.proofs.Weights.{serial_itself}

pub filter_both : {A : Type 0} (p : A → Bool) (xs ys : List A) → filter p (xs ++ ys) ≡ filter p xs ++ filter p ys
filter_both p [] ys = refl
filter_both {A} p (x ∷ xs) ys = kept (p x) (filter_both p xs ys)
  where
    kept : (b : Bool) → filter p (xs ++ ys) ≡ filter p xs ++ filter p ys → cond b (x ∷ filter p (xs ++ ys)) (filter p (xs ++ ys)) ≡ cond b (x ∷ filter p xs) (filter p xs) ++ filter p ys
    kept true e = ap (λ l. x ∷ l) e
    kept false e = e

filter_flat : {A B : Type 0} (p : B → Bool) (f : A → List B) (xs : List A) → filter p (flat_map f xs) ≡ flat_map (λ x. filter p (f x)) xs
filter_flat p f [] = refl
filter_flat p f (x ∷ xs) = filter_both p (f x) (flat_map f xs) ∙ ap (λ l. filter p (f x) ++ l) (filter_flat p f xs)

pub flat_zero : {A B : Type 0} (f : A → List B) (xs : List A) → ((j : ℕ) (x : A) → slice_get xs j ≡ Some x → f x ≡ []) → flat_map f xs ≡ []
flat_zero f [] h = refl
flat_zero f (x ∷ xs) h = ap (λ l. l ++ flat_map f xs) (h 0 x refl) ∙ flat_zero f xs (λ j y e. h (suc j) y e)

flat_only : {A B : Type 0} (f : A → List B) (xs : List A) (i : ℕ) (x : A) → slice_get xs i ≡ Some x → ((j : ℕ) (y : A) → slice_get xs j ≡ Some y → j ≢ i → f y ≡ []) → flat_map f xs ≡ f x
flat_only f [] i x e h = absurd (none-some x e)
flat_only f (y ∷ xs) zero x e h = ap (λ l. f y ++ l) (flat_zero f xs (λ j z d. h (suc j) z d (λ s. omega (arith, s)))) ∙ (append-nil (f y) ∙ ap f (same_Some y x e))
flat_only f (y ∷ xs) (suc i) x e h = ap (λ l. l ++ flat_map f xs) (h 0 y refl (λ s. omega (arith, s))) ∙ flat_only f xs i x e (λ j z d ne. h (suc j) z d (λ s. ne (omega (arith, s))))

serial_same : (a b : Serial) → is_serial a b ≡ true → a.command ≡ b.command
serial_same a b h = eqb-true a.command b.command (and_parts (a.worker == b.worker) (a.command == b.command) h).1

-- what a step added to its walks: one for each that is due
pub record Added (s : Script) (x : UnitsStep) : Type 0 where
  pub jobs : map plain_job_of (gained walks_at x) ≡ plain_due s x.command x.reply
  pub own : (w : PlainWalk) (j : ℕ) → slice_get (gained walks_at x) j ≡ Some w → w.by ≡ x.by

none_added : (s : Script) (x : UnitsStep) → plain_due s x.command x.reply ≡ [] → x.after.walks ≡ x.before.walks → Added s x
none_added s x due same = let none = none_gained x same in record {
  jobs = ap (map plain_job_of) none ∙ sym due;
  own = λ w j e. absurd (none-some w (ap (λ l. slice_get l j) (sym none) ∙ e));
}

pub added : (s : Script) (x : UnitsStep) → Kind s x.by x.command x.reply x.before x.after → Added s x
added s x (released node pool n is due did) = none_added s x due (release_still s x.by x.reply x.before x.after node pool n did).0
added s x (grabbed node pool is due did) = none_added s x due (grab_still s x.by x.reply x.before x.after node pool did).0
added s x (walked job due is did) =
    let one : gained walks_at x ≡ did.gives.walk ∷ [] = gained_is walks_at x (did.gives.walk ∷ []) (walks_are s x.by job x.before x.after did) in
    let same : plain_job_of did.gives.walk ≡ job = λ i. record { node = did.gives.node_is i; priority = did.gives.priority_is i } in
    record {
      jobs = ap (map plain_job_of) one ∙ (ap (λ (v : PlainJob). v ∷ []) same ∙ sym due);
      own = λ w j e. mine did.gives.walk did.gives.by_is w j (ap (λ l. slice_get l j) (sym one) ∙ e);
    }
  where
    mine : (v : PlainWalk) → v.by ≡ x.by → (w : PlainWalk) (j : ℕ) → slice_get (v ∷ []) j ≡ Some w → w.by ≡ x.by
    mine v is w zero e = ap (λ (z : PlainWalk). z.by) (sym (same_Some v w e)) ∙ is
    mine v is w (suc j) e = absurd (none-some w e)
added s x (idle due is same) = none_added s x due (ap walks_at same)

all_kept : (p : PlainWalk → Bool) (ws : List PlainWalk) → ((w : PlainWalk) (j : ℕ) → slice_get ws j ≡ Some w → p w ≡ true) → filter p ws ≡ ws
all_kept p [] h = refl
all_kept p (w ∷ ws) h = ap (λ b. cond b (w ∷ filter p ws) (filter p ws)) (h w 0 refl) ∙ ap (λ l. w ∷ l) (all_kept p ws (λ v j e. h v (suc j) e))

none_kept : (p : PlainWalk → Bool) (ws : List PlainWalk) → ((w : PlainWalk) (j : ℕ) → slice_get ws j ≡ Some w → p w ≡ false) → filter p ws ≡ []
none_kept p [] h = refl
none_kept p (w ∷ ws) h = ap (λ b. cond b (w ∷ filter p ws) (filter p ws)) (h w 0 refl) ∙ none_kept p ws (λ v j e. h v (suc j) e)

module _ (s : Script) (r : Report) (workers : List (List UnitsStep)) (run : AreUnits s r workers) where
  -- the walks of a command are those that its step added
  walks_by : (by : Serial) (x : UnitsStep) → slice_get (units_steps_of workers by.worker) by.command ≡ Some x → plain_by r by ≡ gained walks_at x
  walks_by by x at = ap (filter (λ (w : PlainWalk). is_serial by w.by)) (run.walks by.worker ∙ all_gained walks_at no_state (units_steps_of workers by.worker) (run.chained by.worker) (longer_walks s r workers run by.worker))
      ∙ (filter_flat (λ (w : PlainWalk). is_serial by w.by) (gained walks_at) (units_steps_of workers by.worker)
      ∙ (flat_only (λ (y : UnitsStep). filter (λ (w : PlainWalk). is_serial by w.by) (gained walks_at y)) (units_steps_of workers by.worker) by.command x at others
      ∙ all_kept (λ (w : PlainWalk). is_serial by w.by) (gained walks_at x) (λ w j e. ap (is_serial by) (own by.command x at w j e) ∙ serial_itself by)))
    where
      own : (k : ℕ) (y : UnitsStep) → slice_get (units_steps_of workers by.worker) k ≡ Some y → (w : PlainWalk) (j : ℕ) → slice_get (gained walks_at y) j ≡ Some w → w.by ≡ serial_of by.worker k
      own k y e w j d = (added s y (kind_at s r workers run by.worker k y e)).own w j d ∙ (run.each by.worker k y e).by

      others : (k : ℕ) (y : UnitsStep) → slice_get (units_steps_of workers by.worker) k ≡ Some y → k ≢ by.command → filter (λ (w : PlainWalk). is_serial by w.by) (gained walks_at y) ≡ []
      others k y e ne = none_kept (λ (w : PlainWalk). is_serial by w.by) (gained walks_at y) (λ w j d. no_test (is_serial by w.by) (λ h. ne (sym (serial_same by w.by h ∙ ap (λ (b : Serial). b.command) (own k y e w j d)))))

  pub due : EachAnswer s r (λ by c a. map plain_job_of (plain_by r by) ≡ plain_due s c a.reply)
  due by c a command answer =
      let t : Stepped s r workers run by c a.reply = stepped s r workers run by c a.reply command (ap (option_map (λ (z : Answered). z.reply)) answer) in
      ap (map plain_job_of) (walks_by by t.step t.at) ∙ ((added s t.step (kind_at s r workers run by.worker by.command t.step t.at)).jobs ∙ (ap (λ (d : Command). plain_due s d t.step.reply) t.command ∙ ap (plain_due s c) t.reply))

  pub commands : EachPlain r (λ worker n w. IsSomeAnd (command_at s w.by) (λ c. IsSomeAnd (reply_at r w.by) (λ x. 0 < length (plain_due s c x))))
  commands worker n w at =
      let of : WalkOf s r workers run worker n w = walk_of s r workers run worker n w at in
      let is = run.each worker of.k of.step of.at in
      let by : w.by ≡ serial_of worker of.k = ap (λ (v : PlainWalk). v.by) (sym of.own) ∙ (of.did.gives.by_is ∙ is.by) in
      let command : command_at s w.by ≡ Some of.step.command = ap (command_at s) by ∙ is.command in
      let reply : reply_at r w.by ≡ Some of.step.reply = ap (reply_at r) by ∙ is.reply in
      let some : 0 < length (plain_due s of.step.command of.step.reply) = subst (λ (l : List PlainJob). 0 < length l) (sym of.due) (omega arith) in
      subst (λ (o : Option Command). IsSomeAnd o (λ c. IsSomeAnd (reply_at r w.by) (λ x. 0 < length (plain_due s c x)))) (sym command)
      (subst (λ (o : Option Reply). IsSomeAnd o (λ x. 0 < length (plain_due s of.step.command x))) (sym reply) some)
