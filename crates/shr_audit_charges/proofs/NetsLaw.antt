-- SPDX-License-Identifier: GPL-2.0-only
-- What each command charged and freed, counted by its keys.
use Rattle.shr_audit_charges.proofs.Common.{◌≡◌, ◌≢◌, ℕ, zero, suc, ◌+◌, ◌<◌, ◌≤◌, ◌^◌, ◌⊎◌, inl, inr, Bool, true, false, not, ◌&&◌, cond, List, [], ◌∷◌, ◌++◌, length, map, take, Option, Some, None, refl, sym, ap, ◌∙◌, arith, ne_eqb, eq-eqb, ◌==◌, flat_map, sum_by, slice_get, option_map, option_and_then, AllByRecursion, enumerate_from, cases_eq, sum_by-cons, PlaceEnd, Entry, UseStep, Object, Place, Serial, Answered, Reply, Command, WorkerScript, is_serial, items_at, Freeing, freeings_at, is_at_or_above, born_below, IsTree, path_of, freed_by, Report, charged, freed_in_command, is_of, IsUseNumbered, answer_at, commands_in, entry_by, journals_of, reply_at, serial_of, by_keys, freed_keys, place_keys, charge_keys, answer_keys, commands_keys, workers_keys, own_key, keys_with, path_keys, start_of, lists_moved_at}
use Rattle.std.proofs.lemmas.List.Concat.{flat_map-append}
use Rattle.shr_base.specs.declared.places.Target.{Target}
use Rattle.shr_base.specs.declared.replies.Reply.TheVariants as reply
use Rattle.shr_base.specs.declared.scripts.Command.TheVariants as command
use Rattle.shr_model.specs.Items.{step, first_moved, later_moved, items_from}
use Rattle.shr_audit_case.specs.Journals.{freed_tags}
use Rattle.shr_audit_case.specs.Tags.{freed_tag}
use Rattle.shr_audit_charges.specs.Nets as nets
use Rattle.shr_audit_charges.proofs.LeftLaw.{keys_of, ways, ways_cons}
use Rattle.shr_audit_charges.proofs.OwnLaw.{own, IsOwn, own_or_not, same_serial}
use Rattle.shr_audit_charges.proofs.PathsLaw.{times, times_cons, times_both, path_times, none_if, one_if}

-- the numbers of a command have the ranges of their types
pub record InRange (by : Serial) : Type 0 where
  pub worker : by.worker < 2 ^ 16
  pub command : by.command < 2 ^ 32

-- the keys of two commands are apart
pub Apart : Serial → Serial → Type 0
Apart a b = (a.worker ≢ b.worker) ⊎ (a.command ≢ b.command)

abbrev pub key_in : ℕ → Serial → ℕ
key_in g by = own_key g by.worker by.command

apart_keys : (g k : ℕ) (a b : Serial) → InRange a → InRange b → Apart a b → key_in k a ≢ key_in g b
unfolding Apart
apart_keys g k a b ra rb (inl ne) e = let x = ra.worker in let y = ra.command in let z = rb.worker in let w = rb.command in
    let gs : k ≡ g = omega (arith, x, y, z, w, e) in ne (omega (arith, x, y, z, w, e, gs))
apart_keys g k a b ra rb (inr ne) e = let x = ra.worker in let y = ra.command in let z = rb.worker in let w = rb.command in
    let gs : k ≡ g = omega (arith, x, y, z, w, e) in let ws : a.worker ≡ b.worker = omega (arith, x, y, z, w, e, gs) in ne (omega (arith, e, gs, ws))

-- ---- paths

same_times : (g : ℕ) (by : Serial) (gs : List ℕ) → times (key_in g by) (keys_with by gs) ≡ times g gs
same_times g by [] = refl
same_times g by (k ∷ gs) = by_eq (same_times g by gs) (cases_eq k g)
  where
    by_eq : times (key_in g by) (keys_with by gs) ≡ times g gs → (k ≡ g) ⊎ (k ≢ g) → times (key_in g by) (keys_with by (k ∷ gs)) ≡ times g (k ∷ gs)
    by_eq more (inl e) = let a = times_cons (key_in g by) (key_in k by) (keys_with by gs) in let b = times_cons g k gs in let x = one_if (key_in k by) (key_in g by) (omega (arith, e)) in let y = one_if k g e in omega (arith, a, b, x, y, more)
    by_eq more (inr ne) = let a = times_cons (key_in g by) (key_in k by) (keys_with by gs) in let b = times_cons g k gs in let x = none_if (key_in k by) (key_in g by) (λ q. ne (omega (arith, q))) in let y = none_if k g ne in omega (arith, a, b, x, y, more)

other_times : (g : ℕ) (by other : Serial) (gs : List ℕ) → InRange by → InRange other → Apart other by → times (key_in g by) (keys_with other gs) ≡ 0
other_times g by other [] ra rb ap' = refl
other_times g by other (k ∷ gs) ra rb ap' = let a = times_cons (key_in g by) (key_in k other) (keys_with other gs) in let x = none_if (key_in k other) (key_in g by) (apart_keys g k other by rb ra ap') in let more = other_times g by other gs ra rb ap' in omega (arith, a, x, more)

path_count : (parents : List ℕ) (g birth : ℕ) (by : Serial) → IsTree parents → g < length parents → times (key_in g by) (path_keys parents by birth) ≡ cond (is_at_or_above parents g birth) 1 0
path_count parents g birth by tree lt = same_times g by (path_of parents (start_of parents birth)) ∙ path_times parents g birth tree lt

-- ---- operations

abbrev one_key_of : Bool → Bool → ℕ → List ℕ
one_key_of u v key = cond u (cond v (key ∷ []) []) (cond v [] (key ∷ []))

head_same : (u v : Bool) (key k : ℕ) → key ≡ k → times k (one_key_of u v key) ≡ cond u (cond v 1 0) (cond (not v) 1 0)
head_same true true key k e = let t = times_cons k key [] in let x = one_if key k e in omega (arith, t, x)
head_same true false key k e = refl
head_same false true key k e = refl
head_same false false key k e = let t = times_cons k key [] in let x = one_if key k e in omega (arith, t, x)

head_other : (u v : Bool) (key k : ℕ) → key ≢ k → times k (one_key_of u v key) ≡ 0
head_other true true key k ne = let t = times_cons k key [] in let x = none_if key k ne in omega (arith, t, x)
head_other true false key k ne = refl
head_other false true key k ne = refl
head_other false false key k ne = let t = times_cons k key [] in let x = none_if key k ne in omega (arith, t, x)

one_of : (g : ℕ) (o : UseStep) (by : Serial) → IsUseNumbered o → InRange by → key_in o.group o.by ≡ key_in g by → (o.group ≡ g) × (o.by ≡ by)
one_of g o by n r e =
    let a = n.by.worker in let b = n.by.command in let c = r.worker in let d = r.command in
    let gs : o.group ≡ g = omega (arith, a, b, c, d, e) in
    let ws : o.by.worker ≡ by.worker = omega (arith, a, b, c, d, e, gs) in
    (gs, same_serial o.by.worker o.by.command by.worker by.command ws (omega (arith, e, gs, ws)))

pub own_ways : (up : Bool) (uses : List UseStep) (g : ℕ) (by : Serial) → AllByRecursion IsUseNumbered uses → InRange by → times (key_in g by) (flat_map (keys_of up true) uses) ≡ ways up (own g by uses)
own_ways true [] g by n r = refl
own_ways false [] g by n r = refl
own_ways up (o ∷ os) g by n r = by_own (own_ways up os g by n.1 r) (own_or_not g by o os)
  where
    both : times (key_in g by) (flat_map (keys_of up true) (o ∷ os)) ≡ times (key_in g by) (keys_of up true o) + times (key_in g by) (flat_map (keys_of up true) os)
    both = times_both (key_in g by) (keys_of up true o) (flat_map (keys_of up true) os)

    by_own : times (key_in g by) (flat_map (keys_of up true) os) ≡ ways up (own g by os) → IsOwn g by o os → times (key_in g by) (flat_map (keys_of up true) (o ∷ os)) ≡ ways up (own g by (o ∷ os))
    by_own more (inl y) =
        let s = both in let h = head_same up o.up (key_in o.group o.by) (key_in g by) (ap (λ (k : ℕ). key_in k o.by) y.0 ∙ ap (λ (b : Serial). key_in g b) y.1.0) in
        let w = ways_cons up o (own g by os) in let l = ap (ways up) y.1.1 in omega (arith, s, h, w, l, more)
    by_own more (inr x) =
        let s = both in let h = head_other up o.up (key_in o.group o.by) (key_in g by) (λ e. let t = one_of g o by n.0 r e in x.1 t.0 t.1) in
        let l = ap (ways up) x.0 in omega (arith, s, h, l, more)

-- ---- what commands charged

-- an answer charged nothing, or a path
unfoldable pub Charges : List ℕ → ℕ → Serial → Command → Option Answered → Type 0
Charges parents g by c x = ((answer_keys parents by c x ≡ []) × (charged parents g (Some c) (option_map (λ (a : Answered). a.reply) x) ≡ 0)) ⊎ ((birth : ℕ) × ((answer_keys parents by c x ≡ path_keys parents by birth) × (charged parents g (Some c) (option_map (λ (a : Answered). a.reply) x) ≡ cond (is_at_or_above parents g birth) 1 0)))

put_charges : (parents : List ℕ) (g : ℕ) (by : Serial) (at : Target) (key value : List ℕ) (x : Reply) → ((charge_keys parents by (command.Put at key value) x ≡ []) × (charged parents g (Some (command.Put at key value)) (Some x) ≡ 0)) ⊎ ((birth : ℕ) × ((charge_keys parents by (command.Put at key value) x ≡ path_keys parents by birth) × (charged parents g (Some (command.Put at key value)) (Some x) ≡ cond (is_at_or_above parents g birth) 1 0)))
put_charges parents g by at key value (reply.Added a) = inr (at.group, (refl, refl))
put_charges parents g by at key value (reply.Exists a) = inl (refl, refl)
put_charges parents g by at key value (reply.Hit a b) = inl (refl, refl)
put_charges parents g by at key value (reply.Miss a) = inl (refl, refl)
put_charges parents g by at key value (reply.Dropped a) = inl (refl, refl)
put_charges parents g by at key value (reply.Pinned a) = inl (refl, refl)
put_charges parents g by at key value (reply.Done a) = inl (refl, refl)
put_charges parents g by at key value (reply.Offline a) = inl (refl, refl)
put_charges parents g by at key value (reply.Over a b d) = inl (refl, refl)
put_charges parents g by at key value (reply.NoCache a) = inl (refl, refl)
put_charges parents g by at key value (reply.Worn a) = inl (refl, refl)
put_charges parents g by at key value reply.Memory = inl (refl, refl)
put_charges parents g by at key value (reply.Walked a) = inl (refl, refl)
put_charges parents g by at key value (reply.WalkMemory a) = inl (refl, refl)
put_charges parents g by at key value (reply.OfflineDone a b d) = inl (refl, refl)
put_charges parents g by at key value (reply.AlreadyDone a) = inl (refl, refl)
put_charges parents g by at key value reply.Root = inl (refl, refl)
put_charges parents g by at key value (reply.HasChildren a b) = inl (refl, refl)
put_charges parents g by at key value (reply.Made a) = inl (refl, refl)
put_charges parents g by at key value (reply.AlreadyMade a) = inl (refl, refl)
put_charges parents g by at key value (reply.NotMade a) = inl (refl, refl)
put_charges parents g by at key value (reply.Registered a b) = inl (refl, refl)
put_charges parents g by at key value (reply.AlreadyRegistered a) = inl (refl, refl)
put_charges parents g by at key value (reply.NoId a) = inl (refl, refl)
put_charges parents g by at key value (reply.Freed a b d e f) = inl (refl, refl)
put_charges parents g by at key value (reply.Half a b d e f h) = inl (refl, refl)
put_charges parents g by at key value (reply.Isolated a b d) = inl (refl, refl)
put_charges parents g by at key value (reply.Released a b d) = inl (refl, refl)
put_charges parents g by at key value (reply.Full a b d e) = inl (refl, refl)
put_charges parents g by at key value (reply.Grabbed a b d) = inl (refl, refl)
put_charges parents g by at key value (reply.Bare a b d) = inl (refl, refl)
put_charges parents g by at key value (reply.Swept a b) = inl (refl, refl)

pub charges : (parents : List ℕ) (g : ℕ) (by : Serial) (c : Command) (x : Option Answered) → Charges parents g by c x
unfolding Charges
charges parents g by (command.Put at key value) None = inl (refl, refl)
charges parents g by (command.Put at key value) (Some x) = put_charges parents g by at key value x.reply
charges parents g by (command.On at key act) None = inl (refl, refl)
charges parents g by (command.On at key act) (Some x) = inl (refl, refl)
charges parents g by (command.Shrink a b d e) None = inl (refl, refl)
charges parents g by (command.Shrink a b d e) (Some x) = inl (refl, refl)
charges parents g by (command.Balance a b d) None = inl (refl, refl)
charges parents g by (command.Balance a b d) (Some x) = inl (refl, refl)
charges parents g by (command.Offline a) None = inl (refl, refl)
charges parents g by (command.Offline a) (Some x) = inl (refl, refl)
charges parents g by (command.MkGroup a) None = inl (refl, refl)
charges parents g by (command.MkGroup a) (Some x) = inl (refl, refl)
charges parents g by (command.Register a) None = inl (refl, refl)
charges parents g by (command.Register a) (Some x) = inl (refl, refl)
charges parents g by (command.Unregister a) None = inl (refl, refl)
charges parents g by (command.Unregister a) (Some x) = inl (refl, refl)
charges parents g by (command.Isolate at budget) None = inl (refl, refl)
charges parents g by (command.Isolate at budget) (Some x) = inl (refl, refl)
charges parents g by (command.Release a b d) None = inl (refl, refl)
charges parents g by (command.Release a b d) (Some x) = inl (refl, refl)
charges parents g by (command.Grab a b) None = inl (refl, refl)
charges parents g by (command.Grab a b) (Some x) = inl (refl, refl)

answer_count : (parents : List ℕ) (g : ℕ) (by : Serial) (c : Command) (x : Option Answered) → IsTree parents → g < length parents → times (key_in g by) (answer_keys parents by c x) ≡ charged parents g (Some c) (option_map (λ (a : Answered). a.reply) x)
unfolding Charges
answer_count parents g by c x tree lt = elim (charges parents g by c x) as (λ _. times (key_in g by) (answer_keys parents by c x) ≡ charged parents g (Some c) (option_map (λ (a : Answered). a.reply) x)) [
  | inl n ↦ ap (times (key_in g by)) n.0 ∙ sym n.1
  | inr y ↦ ap (times (key_in g by)) y.1.0 ∙ path_count parents g y.0 by tree lt ∙ sym y.1.1
]

answer_none : (parents : List ℕ) (g : ℕ) (by other : Serial) (c : Command) (x : Option Answered) → InRange by → InRange other → Apart other by → times (key_in g by) (answer_keys parents other c x) ≡ 0
unfolding Charges
answer_none parents g by other c x ra rb away = elim (charges parents g other c x) as (λ _. times (key_in g by) (answer_keys parents other c x) ≡ 0) [
  | inl n ↦ ap (times (key_in g by)) n.0
  | inr y ↦ ap (times (key_in g by)) y.1.0 ∙ other_times g by other (path_of parents (start_of parents y.0)) ra rb away
]

commands_none : (parents : List ℕ) (r : Report) (g : ℕ) (by : Serial) (w k : ℕ) (cs : List Command) → InRange by → w < 2 ^ 16 → k + length cs ≤ 2 ^ 32 → (w ≢ by.worker) ⊎ (by.command < k) → times (key_in g by) (commands_keys parents r w k cs) ≡ 0
commands_none parents r g by w k [] ra lw few away = refl
commands_none parents r g by w k (c ∷ cs) ra lw few away =
    let here = answer_none parents g by (serial_of w k) c (answer_at r (serial_of w k)) ra (record { worker = lw; command = omega (arith, few) }) (apart away) in
    let both = times_both (key_in g by) (answer_keys parents (serial_of w k) c (answer_at r (serial_of w k))) (commands_keys parents r w (k + 1) cs) in
    let more = commands_none parents r g by w (k + 1) cs ra lw (omega (arith, few)) (later away) in omega (arith, here, both, more)
  where
    apart : (w ≢ by.worker) ⊎ (by.command < k) → Apart (serial_of w k) by
    apart (inl ne) = unfold Apart in inl ne
    apart (inr lt) = unfold Apart in inr (λ e. absurd (omega (arith, lt, e)))

    later : (w ≢ by.worker) ⊎ (by.command < k) → (w ≢ by.worker) ⊎ (by.command < k + 1)
    later (inl ne) = inl ne
    later (inr lt) = inr (omega (arith, lt))

commands_count : (parents : List ℕ) (r : Report) (g : ℕ) (by : Serial) (k m : ℕ) (cs : List Command) → IsTree parents → g < length parents → InRange by → k + length cs ≤ 2 ^ 32 → by.command ≡ k + m → times (key_in g by) (commands_keys parents r by.worker k cs) ≡ charged parents g (slice_get cs m) (reply_at r by)
commands_count parents r g by k m [] tree lt ra few e = refl
commands_count parents r g by k zero (c ∷ cs) tree lt ra few e =
    let same : k ≡ by.command = omega (arith, e) in
    let both = times_both (key_in g by) (answer_keys parents (serial_of by.worker k) c (answer_at r (serial_of by.worker k))) (commands_keys parents r by.worker (k + 1) cs) in
    let here : times (key_in g by) (answer_keys parents (serial_of by.worker k) c (answer_at r (serial_of by.worker k))) ≡ charged parents g (Some c) (reply_at r by) = ap (λ (j : ℕ). times (key_in g by) (answer_keys parents (serial_of by.worker j) c (answer_at r (serial_of by.worker j)))) same ∙ answer_count parents g by c (answer_at r by) tree lt in
    let more = commands_none parents r g by by.worker (k + 1) cs ra ra.worker (omega (arith, few)) (inr (omega (arith, e))) in omega (arith, both, here, more)
commands_count parents r g by k (suc m) (c ∷ cs) tree lt ra few e =
    let both = times_both (key_in g by) (answer_keys parents (serial_of by.worker k) c (answer_at r (serial_of by.worker k))) (commands_keys parents r by.worker (k + 1) cs) in
    let here = answer_none parents g by (serial_of by.worker k) c (answer_at r (serial_of by.worker k)) ra (record { worker = ra.worker; command = omega (arith, few) }) (unfold Apart in inr (λ q. absurd (omega (arith, e, q)))) in
    let more = commands_count parents r g by (k + 1) m cs tree lt ra (omega (arith, few)) (omega (arith, e)) in omega (arith, both, here, more)

abbrev pub Short : WorkerScript → Type 0
Short w = length w.commands.items ≤ 2 ^ 32

workers_none : (parents : List ℕ) (r : Report) (g : ℕ) (by : Serial) (k : ℕ) (ws : List WorkerScript) → InRange by → k + length ws ≤ 2 ^ 16 → AllByRecursion Short ws → by.worker < k → times (key_in g by) (workers_keys parents r k ws) ≡ 0
workers_none parents r g by k [] ra few short low = refl
workers_none parents r g by k (w ∷ ws) ra few short low =
    let both = times_both (key_in g by) (commands_keys parents r k 0 w.commands.items) (workers_keys parents r (k + 1) ws) in
    let s = short.0 in
    let here = commands_none parents r g by k 0 w.commands.items ra (omega (arith, few)) (omega (arith, s)) (inl (λ e. absurd (omega (arith, low, e)))) in
    let more = workers_none parents r g by (k + 1) ws ra (omega (arith, few)) short.1 (omega (arith, low)) in omega (arith, both, here, more)

pub workers_count : (parents : List ℕ) (r : Report) (g : ℕ) (by : Serial) (k j : ℕ) (ws : List WorkerScript) → IsTree parents → g < length parents → InRange by → k + length ws ≤ 2 ^ 16 → AllByRecursion Short ws → by.worker ≡ k + j → times (key_in g by) (workers_keys parents r k ws) ≡ charged parents g (slice_get (commands_in (slice_get ws j)) by.command) (reply_at r by)
workers_count parents r g by k j [] tree lt ra few short e = refl
workers_count parents r g by k zero (w ∷ ws) tree lt ra few short e =
    let same : k ≡ by.worker = omega (arith, e) in
    let s = short.0 in
    let both = times_both (key_in g by) (commands_keys parents r k 0 w.commands.items) (workers_keys parents r (k + 1) ws) in
    let here : times (key_in g by) (commands_keys parents r k 0 w.commands.items) ≡ charged parents g (slice_get w.commands.items by.command) (reply_at r by) = ap (λ (q : ℕ). times (key_in g by) (commands_keys parents r q 0 w.commands.items)) same ∙ commands_count parents r g by 0 by.command w.commands.items tree lt ra (omega (arith, s)) (omega arith) in
    let more = workers_none parents r g by (k + 1) ws ra (omega (arith, few)) short.1 (omega (arith, e)) in omega (arith, both, here, more)
workers_count parents r g by k (suc j) (w ∷ ws) tree lt ra few short e =
    let s = short.0 in
    let both = times_both (key_in g by) (commands_keys parents r k 0 w.commands.items) (workers_keys parents r (k + 1) ws) in
    let here = commands_none parents r g by k 0 w.commands.items ra (omega (arith, few)) (omega (arith, s)) (inl (λ q. absurd (omega (arith, e, q)))) in
    let more = workers_count parents r g by (k + 1) j ws tree lt ra (omega (arith, few)) short.1 (omega (arith, e)) in omega (arith, both, here, more)

-- ---- what entries freed

-- the command, if there is one, has numbers of its types
abbrev pub InRangeIf : Option Serial → Type 0
InRangeIf x = (by : Serial) → x ≡ Some by → InRange by

by_count : (parents : List ℕ) (g birth : ℕ) (by : Serial) (x : Option Serial) → IsTree parents → g < length parents → InRange by → InRangeIf x → times (key_in g by) (by_keys parents x birth) ≡ cond (is_of by x) (cond (is_at_or_above parents g birth) 1 0) 0
by_count parents g birth by None tree lt ra rx = refl
by_count parents g birth by (Some other) tree lt ra rx = by_command (cases_eq by.worker other.worker) (cases_eq by.command other.command)
  where
    by_command : (by.worker ≡ other.worker) ⊎ (by.worker ≢ other.worker) → (by.command ≡ other.command) ⊎ (by.command ≢ other.command) → times (key_in g by) (path_keys parents other birth) ≡ cond (is_serial by other) (cond (is_at_or_above parents g birth) 1 0) 0
    by_command (inl w) (inl n) =
        let same = same_serial other.worker other.command by.worker by.command (sym w) (sym n) in
        let t : is_serial by other ≡ true = ap (λ (b : Bool). b && (by.command == other.command)) (eq-eqb by.worker other.worker w) ∙ eq-eqb by.command other.command n in
        ap (λ (s : Serial). times (key_in g by) (path_keys parents s birth)) same ∙ path_count parents g birth by tree lt ∙ sym (ap (λ (b : Bool). cond b (cond (is_at_or_above parents g birth) 1 0) 0) t)
    by_command (inr w) n =
        let f : is_serial by other ≡ false = ap (λ (b : Bool). b && (by.command == other.command)) (ne_eqb by.worker other.worker w) in
        other_times g by other (path_of parents (start_of parents birth)) ra (rx other refl) (unfold Apart in inl (λ e. w (sym e))) ∙ sym (ap {B = ℕ} (λ (b : Bool). cond b (cond (is_at_or_above parents g birth) 1 0) 0) f)
    by_command (inl w) (inr n) =
        let f : is_serial by other ≡ false = ap (λ (b : Bool). b && (by.command == other.command)) (eq-eqb by.worker other.worker w) ∙ ne_eqb by.command other.command n in
        other_times g by other (path_of parents (start_of parents birth)) ra (rx other refl) (unfold Apart in inr (λ e. n (sym e))) ∙ sym (ap {B = ℕ} (λ (b : Bool). cond b (cond (is_at_or_above parents g birth) 1 0) 0) f)

cond_plus : (b : Bool) (x y : ℕ) → cond b x 0 + cond b y 0 ≡ cond b (x + y) 0
cond_plus true x y = refl
cond_plus false x y = refl

cond_none : (b : Bool) → ◌≡◌ {A = ℕ} 0 (cond b 0 0)
cond_none true = refl
cond_none false = refl

objects_count : (parents : List ℕ) (r : Report) (entries : List Entry) (g n : ℕ) (by : Serial) (x : Option Serial) (os : List Object) → IsTree parents → g < length parents → InRange by → InRangeIf x → nets.freeing_command r entries n ≡ x
    → times (key_in g by) (flat_map (freed_keys parents r entries) (map (freed_tag n) os)) ≡ cond (is_of by x) (born_below parents g os) 0
objects_count parents r entries g n by x [] tree lt ra rx is = cond_none (is_of by x)
objects_count parents r entries g n by x (o ∷ os) tree lt ra rx is =
    let here = ap (λ (y : Option Serial). times (key_in g by) (by_keys parents y o.birth)) is ∙ by_count parents g o.birth by x tree lt ra rx in
    let both = times_both (key_in g by) (freed_keys parents r entries (freed_tag n o)) (flat_map (freed_keys parents r entries) (map (freed_tag n) os)) in
    let more = objects_count parents r entries g n by x os tree lt ra rx is in
    let sum = sum_by-cons (λ (v : Object). cond (is_at_or_above parents g v.birth) 1 0) o os in
    let plus = cond_plus (is_of by x) (cond (is_at_or_above parents g o.birth) 1 0) (born_below parents g os) in
    let whole : cond (is_of by x) (born_below parents g (o ∷ os)) 0 ≡ cond (is_of by x) (cond (is_at_or_above parents g o.birth) 1 0 + born_below parents g os) 0 = ap (λ (v : ℕ). cond (is_of by x) v 0) sum in
    omega (arith, here, both, more, plus, whole)

tags_count : (parents : List ℕ) (r : Report) (entries : List Entry) (g : ℕ) (by : Serial) (I : ℕ → List Object) (n : ℕ) (moved : List (List Object)) (items : List Object) (rest : List Entry) → IsTree parents → g < length parents → InRange by
    → ((k : ℕ) (e : Entry) → slice_get entries k ≡ Some e → InRangeIf (entry_by r e)) → ((k : ℕ) (e : Entry) → slice_get rest k ≡ Some e → slice_get entries (n + k) ≡ Some e) → ((k : ℕ) → I (n + k) ≡ items_from moved items (take k rest))
    → times (key_in g by) (flat_map (freed_keys parents r entries) (freed_tags n moved items rest)) ≡ sum_by (freed_in_command r parents by g) (map (λ (e : ℕ × Entry). let f : Freeing = record { entry = e.1; objects = freed_by (I e.0) e.1 } in f) (enumerate_from n rest))
unfolding freed_tags items_from
tags_count parents r entries g by I n moved items [] tree lt ra numbered stands H = refl
tags_count parents r entries g by I n moved items (e ∷ es) tree lt ra numbered stands H =
    let at : slice_get entries n ≡ Some e = ap (slice_get entries) (let z : n ≡ n + 0 = omega arith in z) ∙ stands 0 e refl in
    let items_is : I n ≡ items = ap I (let z : n ≡ n + 0 = omega arith in z) ∙ H 0 in
    let head = freed_tags_head in
    let here = objects_count parents r entries g n by (entry_by r e) (freed_by items e) tree lt ra (numbered n e at) (ap (option_and_then (entry_by r)) at) in
    let more = tags_count parents r entries g by I (n + 1) (later_moved e moved) (step (first_moved moved) items e) es tree lt ra numbered
    (λ k d there. ap (slice_get entries) (let z : n + 1 + k ≡ n + suc k = omega arith in z) ∙ stands (suc k) d there) (λ k. ap I (let z : n + 1 + k ≡ n + suc k = omega arith in z) ∙ H (suc k)) in
    let F : Freeing = record { entry = e; objects = freed_by (I n) e } in
    let sum = sum_by-cons (freed_in_command r parents by g) F (map (λ (d : ℕ × Entry). let f : Freeing = record { entry = d.1; objects = freed_by (I d.0) d.1 } in f) (enumerate_from (n + 1) es)) in
    let own : freed_in_command r parents by g F ≡ cond (is_of by (entry_by r e)) (born_below parents g (freed_by items e)) 0 = ap (λ (l : List Object). cond (is_of by (entry_by r e)) (born_below parents g (freed_by l e)) 0) items_is in
    omega (arith, head, here, more, sum, own)
  where
    freed_tags_head : times (key_in g by) (flat_map (freed_keys parents r entries) (map (freed_tag n) (freed_by items e) ++ freed_tags (n + 1) (later_moved e moved) (step (first_moved moved) items e) es))
        ≡ times (key_in g by) (flat_map (freed_keys parents r entries) (map (freed_tag n) (freed_by items e))) + times (key_in g by) (flat_map (freed_keys parents r entries) (freed_tags (n + 1) (later_moved e moved) (step (first_moved moved) items e) es))
    freed_tags_head = ap (times (key_in g by)) (flat_map-append (freed_keys parents r entries) (map (freed_tag n) (freed_by items e)) (freed_tags (n + 1) (later_moved e moved) (step (first_moved moved) items e) es))
        ∙ times_both (key_in g by) (flat_map (freed_keys parents r entries) (map (freed_tag n) (freed_by items e))) (flat_map (freed_keys parents r entries) (freed_tags (n + 1) (later_moved e moved) (step (first_moved moved) items e) es))

pub place_count : (parents : List ℕ) (r : Report) (place : Place) (g : ℕ) (by : Serial) → IsTree parents → g < length parents → InRange by → ((k : ℕ) (e : Entry) → slice_get (journals_of r place) k ≡ Some e → InRangeIf (entry_by r e))
    → times (key_in g by) (place_keys parents r place) ≡ sum_by (freed_in_command r parents by g) (freeings_at parents (journals_of r) place)
place_count parents r place g by tree lt ra numbered = tags_count parents r (journals_of r place) g by (items_at parents (journals_of r) place) 0 (lists_moved_at parents (journals_of r) place) [] (journals_of r place) tree lt ra numbered
    (λ k e at. ap (slice_get (journals_of r place)) (let z : 0 + k ≡ k = omega arith in z) ∙ at) (λ k. ap (items_at parents (journals_of r) place) (let z : 0 + k ≡ k = omega arith in z))

pub ends_count : (parents : List ℕ) (r : Report) (g : ℕ) (by : Serial) (ends : List PlaceEnd) → IsTree parents → g < length parents → InRange by → ((place : Place) (k : ℕ) (e : Entry) → slice_get (journals_of r place) k ≡ Some e → InRangeIf (entry_by r e))
    → times (key_in g by) (flat_map (λ (end : PlaceEnd). place_keys parents r end.place) ends) ≡ sum_by (λ place. sum_by (freed_in_command r parents by g) (freeings_at parents (journals_of r) place)) (map (λ (end : PlaceEnd). end.place) ends)
ends_count parents r g by [] tree lt ra numbered = refl
ends_count parents r g by (end ∷ ends) tree lt ra numbered =
    let here = place_count parents r end.place g by tree lt ra (numbered end.place) in
    let both = times_both (key_in g by) (place_keys parents r end.place) (flat_map (λ (x : PlaceEnd). place_keys parents r x.place) ends) in
    let more = ends_count parents r g by ends tree lt ra numbered in
    let sum = sum_by-cons (λ place. sum_by (freed_in_command r parents by g) (freeings_at parents (journals_of r) place)) end.place (map (λ (x : PlaceEnd). x.place) ends) in omega (arith, here, both, more, sum)
