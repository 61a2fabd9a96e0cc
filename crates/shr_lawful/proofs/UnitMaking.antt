-- SPDX-License-Identifier: GPL-2.0-only
-- Who made an entry of a pool's journal, who made a walk of the pools, and what steps knew.
use Rattle.shr_lawful.proofs.UnitsCommon.{◌≡◌, ℕ, ◌+◌, ◌<◌, ◌≤◌, ◌≢◌, ◌⊎◌, ⊎_elim, cond, List, [], ◌∷◌, ◌++◌, length, get_or, sym, ap, subst, ◌∙◌, arith, append_assoc, eqb, ne_eqb, slice_get, Some, nat_lt, lt-ltb, same_Some, none-some, slice_get_within, slice_get-get_or, dite, ℕ_discrete, PlainEntry, Serial, Reply, Command, Script, PlainWalk, row_count, total, Begins, IsEntryMade, CountsPrefix, RoomMade, RoomCount, part_at, units, PlainState, no_state, Report, serial_of, commands_of, command_at, reply_at, plain_at, pool_sizes, UnitsStep, units_steps_in, units_steps_of, last_units_state, units_made_in, AreUnits, some_term}
use Rattle.shr_lawful.proofs.UnitStepKinds.{Kind, released, grabbed, walked, idle, kind_of}
use Rattle.shr_lawful.proofs.UnitLists.{IsIn, each_in, flat_in, begins_in, count_total, at_some, slice_seam}
use Rattle.shr_lawful.proofs.UnitRooms.{Gains, MayMake, same_gains, release_gains, grab_gains}
use Rattle.shr_lawful.proofs.UnitWalking.{walk_gains}
use Rattle.shr_lawful.proofs.UnitAlong.{gained, gained_is, Longer, after_begins, Source, source}

-- what a command gained in a room, by its kind
pub kind_gains : (s : Script) (i : ℕ) (by : Serial) (c : Command) (x : Reply) (t u : PlainState) → Kind s by c x t u → Gains s i by x t u
kind_gains s i by c x t u (released node pool n is due did) = release_gains s by x t u node pool n did i
kind_gains s i by c x t u (grabbed node pool is due did) = grab_gains s by x t u node pool did i
kind_gains s i by c x t u (walked job due is did) = walk_gains s by job t u did x i
kind_gains s i by c x t u (idle due is same) = same_gains s i by x t u (ap (λ (v : PlainState). part_at v.rooms i) same) (ap (λ (v : PlainState). v.walks) same)

-- what a state has made, counted and known in a room, and its walks
abbrev pub made_at : ℕ → PlainState → List (RoomMade PlainEntry)
made_at i t = (part_at t.rooms i).made

abbrev pub seen_at : ℕ → PlainState → List RoomCount
seen_at i t = (part_at t.rooms i).seen

abbrev pub known_at : ℕ → PlainState → List PlainEntry
known_at i t = (part_at t.rooms i).known

abbrev pub walks_at : PlainState → List PlainWalk
walks_at t = t.walks

-- an entry that was made stands at its number
pub stands : (journal : List PlainEntry) (m : RoomMade PlainEntry) → IsEntryMade journal m → slice_get journal m.number ≡ Some m.entry
stands journal m is = ap (slice_get journal) is.3 ∙ (ap (λ l. slice_get l (length is.0)) is.2 ∙ slice_seam is.0 is.1 m.entry)

first_of_list : {A : Type 0} (xs : List A) → 0 < length xs → A
first_of_list [] h = absurd (omega (arith, h))
first_of_list (x ∷ xs) h = x

module _ (s : Script) (r : Report) (workers : List (List UnitsStep)) (run : AreUnits s r workers) where
  module _ (worker : ℕ) where
    abbrev pub mine : List UnitsStep
    mine = units_steps_of workers worker

    abbrev pub last : PlainState
    last = last_units_state (units_steps_of workers worker)

    pub kind_at : (k : ℕ) (x : UnitsStep) → slice_get (units_steps_of workers worker) k ≡ Some x → Kind s x.by x.command x.reply x.before x.after
    kind_at k x at = kind_of s x.by x.command x.reply x.before x.after (run.each worker k x at).did

    pub gains_at : (i k : ℕ) (x : UnitsStep) → slice_get (units_steps_of workers worker) k ≡ Some x → Gains s i x.by x.reply x.before x.after
    gains_at i k x at = kind_gains s i x.by x.command x.reply x.before x.after (kind_at k x at)

    pub longer_made : (i : ℕ) → Longer (made_at i) (units_steps_of workers worker)
    longer_made i k x at = let g = gains_at i k x at in (g.more, g.made)

    pub longer_seen : (i : ℕ) → Longer (seen_at i) (units_steps_of workers worker)
    longer_seen i k x at = let g = gains_at i k x at in (g.counts, g.seen)

    pub longer_known : (i : ℕ) → Longer (known_at i) (units_steps_of workers worker)
    longer_known i k x at = (gains_at i k x at).known

    pub longer_walks : Longer walks_at (units_steps_of workers worker)
    longer_walks k x at = let g = gains_at 0 k x at in (g.walks.list, g.walks.are)

    -- what a step made, counted and knew is so of the journals
    pub made_is : (i : ℕ) → i < row_count (pool_sizes s) → (k : ℕ) (x : UnitsStep) → slice_get (units_steps_of workers worker) k ≡ Some x → (m : RoomMade PlainEntry) → IsIn m (made_at i x.after) → IsEntryMade (run.journal i) m
    made_is i low k x at m is = each_in (IsEntryMade (run.journal i)) (made_at i last) m ((run.rooms i low).seen worker).made
        (begins_in (made_at i x.after) (made_at i last) m (after_begins (made_at i) no_state (units_steps_of workers worker) (run.chained worker) (longer_made i) k x at) is)

    pub seen_is : (i : ℕ) → i < row_count (pool_sizes s) → (k : ℕ) (x : UnitsStep) → slice_get (units_steps_of workers worker) k ≡ Some x → (c : RoomCount) → IsIn c (seen_at i x.after) → CountsPrefix units (run.journal i) c
    seen_is i low k x at c is = each_in (CountsPrefix units (run.journal i)) (seen_at i last) c ((run.rooms i low).seen worker).seen
        (begins_in (seen_at i x.after) (seen_at i last) c (after_begins (seen_at i) no_state (units_steps_of workers worker) (run.chained worker) (longer_seen i) k x at) is)

    pub known_is : (i : ℕ) → i < row_count (pool_sizes s) → (k : ℕ) (x : UnitsStep) → slice_get (units_steps_of workers worker) k ≡ Some x → Begins (known_at i x.after) (run.journal i)
    known_is i low k x at = let a = after_begins (known_at i) no_state (units_steps_of workers worker) (run.chained worker) (longer_known i) k x at in let b = ((run.rooms i low).seen worker).known in
        (a.0 ++ b.0, b.1 ∙ (ap (λ (l : List PlainEntry). l ++ b.0) a.1 ∙ append_assoc (known_at i x.after) a.0 b.0))

    -- the step of a walk of the pools
    pub walk_step : (n : ℕ) (w : PlainWalk) → plain_at r worker n ≡ Some w → Source walks_at (units_steps_of workers worker) n w
    walk_step n w at = ⊎_elim (λ e. absurd (none-some w e)) (λ o. o)
        (source walks_at no_state (units_steps_of workers worker) (run.chained worker) longer_walks n w (ap (λ l. slice_get l n) (sym (run.walks worker)) ∙ at))

  -- the step that made an entry in a room
  pub record Maker (i n : ℕ) (e : PlainEntry) : Type 0 where
    pub worker : ℕ
    pub k : ℕ
    pub step : UnitsStep
    pub at : slice_get (units_steps_of workers worker) k ≡ Some step
    pub made : RoomMade PlainEntry
    pub among : IsIn made (gains_at worker i k step at).more
    pub number : made.number ≡ n
    pub entry : made.entry ≡ e

  below_one : (n l : ℕ) → n < l → ◌≡◌ {A = ℕ} (cond (nat_lt n l) 1 0) 1
  below_one n l h = ap (λ b. cond b 1 0) (lt-ltb n l h)

  -- the list of steps of a worker, by its number
  worker_of : (list : List UnitsStep) → IsIn list workers → (worker : ℕ) × (units_steps_of workers worker ≡ list)
  worker_of list h = (h.0, ap units_steps_in h.1)

  pub maker : (i : ℕ) → i < row_count (pool_sizes s) → (n : ℕ) (e : PlainEntry) → slice_get (run.journal i) n ≡ Some e → Maker i n e
  maker i low n e there =
      let weight : RoomMade PlainEntry → ℕ = λ m. cond (eqb m.number n) 1 0 in
      let one : total (λ (m : RoomMade PlainEntry). cond (eqb m.number n) 1 0) (units_made_in workers i) ≡ 1 = sym (count_total (λ (m : RoomMade PlainEntry). eqb m.number n) (units_made_in workers i)) ∙ ((run.rooms i low).once n ∙ below_one n (length (run.journal i)) (slice_get_within (run.journal i) n e there)) in
      let t = some_term (λ (m : RoomMade PlainEntry). cond (eqb m.number n) 1 0) (units_made_in workers i) (omega (arith, one)) in
      let number : t.1.number ≡ n = dite (ℕ_discrete t.1.number n) (λ q. q) (λ ne. absurd (omega (arith, t.3, ap (λ b. cond {A = ℕ} b 1 0) (ne_eqb t.1.number n ne)))) in
      let of = flat_in (λ (list : List UnitsStep). made_at i (last_units_state list)) workers t.1 (t.0, at_some (units_made_in workers i) t.0 t.1 t.2) in
      let w = worker_of of.0 of.1 in
      let own : IsIn t.1 (made_at i (last_units_state (units_steps_of workers w.0))) = subst (λ l. IsIn t.1 (made_at i (last_units_state l))) (sym w.1) of.2 in
      ⊎_elim (λ none. absurd (none-some t.1 none)) (λ o. found w.0 t.1 number own own.0 o) (source (made_at i) no_state (units_steps_of workers w.0) (run.chained w.0) (longer_made w.0 i) own.0 t.1 own.1)
    where
      found : (worker : ℕ) (m : RoomMade PlainEntry) → m.number ≡ n → IsIn m (made_at i (last_units_state (units_steps_of workers worker))) → (j : ℕ) → Source (made_at i) (units_steps_of workers worker) j m → Maker i n e
      found worker m number own j o =
          let g = gains_at worker i o.k o.step o.at in
          let among : IsIn m g.more = (o.index, ap (λ l. slice_get l o.index) (sym (gained_is (made_at i) o.step g.more g.made)) ∙ o.added) in
          let here : slice_get (run.journal i) m.number ≡ Some m.entry = stands (run.journal i) m (each_in (IsEntryMade (run.journal i)) (made_at i (last_units_state (units_steps_of workers worker))) m ((run.rooms i low).seen worker).made own) in
          record { worker = worker; k = o.k; step = o.step; at = o.at; made = m; among = among; number = number; entry = same_Some m.entry e (sym here ∙ (ap (slice_get (run.journal i)) number ∙ there)) }

  pub may_make : (i n : ℕ) (e : PlainEntry) (m : Maker i n e) → MayMake s i m.step.by m.step.reply m.step.before m.step.after m.made e
  may_make i n e m = subst (MayMake s i m.step.by m.step.reply m.step.before m.step.after m.made) m.entry ((gains_at m.worker i m.k m.step m.at).may m.made m.among)

  -- the step of an answered command
  pub record Stepped (by : Serial) (c : Command) (x : Reply) : Type 0 where
    pub step : UnitsStep
    pub at : slice_get (units_steps_of workers by.worker) by.command ≡ Some step
    pub own : step.by ≡ by
    pub command : step.command ≡ c
    pub reply : step.reply ≡ x

  -- the step of a command of the script
  pub command_step : (worker k : ℕ) (c : Command) → command_at s (serial_of worker k) ≡ Some c → (x : UnitsStep) × (slice_get (units_steps_of workers worker) k ≡ Some x)
  command_step worker k c command =
      let within : k < length (units_steps_of workers worker) = omega (arith, slice_get_within (commands_of s worker) k c command, run.commands worker) in
      let d : UnitsStep = first_of_list (units_steps_of workers worker) (omega (arith, within)) in
      (get_or (units_steps_of workers worker) k d, slice_get-get_or (units_steps_of workers worker) k d within)

  pub stepped : (by : Serial) (c : Command) (x : Reply) → command_at s by ≡ Some c → reply_at r by ≡ Some x → Stepped by c x
  stepped by c x command reply =
      let t = command_step by.worker by.command c command in
      let is = run.each by.worker by.command t.0 t.1 in
      record { step = t.0; at = t.1; own = is.by; command = same_Some t.0.command c (sym is.command ∙ command); reply = same_Some t.0.reply x (sym is.reply ∙ reply) }
