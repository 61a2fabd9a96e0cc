-- SPDX-License-Identifier: GPL-2.0-only
-- The law on what each command's operations come to, against the keys that go up and down.
use Rattle.shr_audit_charges.proofs.Common.{◌≡◌, ℕ, suc, ◌+◌, ◌-◌, ◌/◌, ◌%◌, ◌<◌, ◌≤◌, ◌^◌, ◌⊎◌, inl, inr, Bool, true, false, cond, List, [], ◌∷◌, ◌++◌, length, map, Option, Some, None, refl, sym, ap, subst, ◌∙◌, arith, pos, find, flat_map, sum_by, slice_get, nat_lt, option_map, option_and_then, Decides, AllByRecursion, enumerate_from, cases_lt, nat_tests, Decides-like, ints, sum_by-cons, slice_get_past, slice_get_within, PlaceEnd, Entry, UseStep, Place, Serial, Answered, Reply, Command, Script, WorkerScript, ups, downs, is_serial, Freeing, freeings_at, born_below, items_at, IsTree, freed_by, FreedTag, Report, charged, freed_in_command, is_of, IsUseNumbered, answer_at, commands_in, entry_by, journals_of, parents_of, reply_at, serial_of, AreBalanced, AreWorkersFew, AreNets, by_keys, freed_keys, place_keys, answer_keys, commands_keys, workers_keys, up_keys, down_keys, ◌-ℤ◌, usage_after, HasNumbers, IsEntryNumbered, IsIsolationNumbered, IsListNumbered, IsPartNumbered, IsWalkNumbered, command_at, isolations_in, journal_of, walks_in, all_both, some_injective}
use Rattle.shr_base.specs.declared.ends.WorkerPart.{WorkerPart}
use Rattle.shr_base.specs.declared.journals.Entry.TheVariants as entry
use Rattle.shr_base.specs.declared.walks.Isolation.{Isolation}
use Rattle.shr_base.specs.Walks.{WalkRecord}
use Rattle.shr_model.specs.Places.{is_place}
use Rattle.shr_audit_formed.proofs.Eachs.{each_in}
use Rattle.shr_audit_charges.proofs.BalanceLaw.{none_of}
use Rattle.shr_audit_charges.proofs.LeftLaw.{keys_of}
use Rattle.shr_audit_charges.proofs.NetsLaw.{InRange, InRangeIf, Short, Charges, charges, key_in, own_ways, workers_count, ends_count}
use Rattle.shr_audit_charges.proofs.OwnLaw.{own, IsOwn, own_or_not}
use Rattle.shr_audit_charges.proofs.PathsLaw.{times, times_both, path_there, keyed_group, IsOfGroup}
use Rattle.shr_audit_charges.proofs.Pushed.{none_some}

-- ---- the numbers of the commands of entries

found_numbered : (ends : List PlaceEnd) (place : Place) → AllByRecursion IsListNumbered ends → AllByRecursion IsEntryNumbered (journal_of (find (λ (end : PlaceEnd). is_place end.place place) ends))
found_numbered [] place h = tt
found_numbered (end ∷ ends) place h = by_bool (is_place end.place place) (found_numbered ends place h.1)
  where
    by_bool : (b : Bool) → AllByRecursion IsEntryNumbered (journal_of (find (λ (x : PlaceEnd). is_place x.place place) ends)) → AllByRecursion IsEntryNumbered (journal_of (cond b (Some end) (find (λ (x : PlaceEnd). is_place x.place place) ends)))
    by_bool true more = h.0.entries
    by_bool false more = more

walk_range : (parts : List WorkerPart) (worker n : ℕ) (by : Serial) → AllByRecursion IsPartNumbered parts → option_map (λ (w : WalkRecord). w.by) (slice_get (walks_in (slice_get parts worker)) n) ≡ Some by → InRange by
walk_range parts worker n by h e = by_part (slice_get parts worker) refl e
  where
    by_walk : (walks : List WalkRecord) → AllByRecursion IsWalkNumbered walks → (x : Option WalkRecord) → slice_get walks n ≡ x → option_map (λ (w : WalkRecord). w.by) x ≡ Some by → InRange by
    by_walk walks all None at e = absurd (none_some by e)
    by_walk walks all (Some w) at e = let k = (each_in IsWalkNumbered walks all n w at).by in subst InRange (some_injective w.by by e) (record { worker = k.worker; command = k.command })

    by_part : (x : Option WorkerPart) → slice_get parts worker ≡ x → option_map (λ (w : WalkRecord). w.by) (slice_get (walks_in x) n) ≡ Some by → InRange by
    by_part None at e = absurd (none_some by e)
    by_part (Some part) at e = by_walk part.walks.items (each_in IsPartNumbered parts h worker part at).walks (slice_get part.walks.items n) refl e

isolation_range : (parts : List WorkerPart) (worker n : ℕ) (by : Serial) → AllByRecursion IsPartNumbered parts → option_map (λ (i : Isolation). i.by) (slice_get (isolations_in (slice_get parts worker)) n) ≡ Some by → InRange by
isolation_range parts worker n by h e = by_part (slice_get parts worker) refl e
  where
    by_walk : (walks : List Isolation) → AllByRecursion IsIsolationNumbered walks → (x : Option Isolation) → slice_get walks n ≡ x → option_map (λ (i : Isolation). i.by) x ≡ Some by → InRange by
    by_walk walks all None at e = absurd (none_some by e)
    by_walk walks all (Some w) at e = let k = (each_in IsIsolationNumbered walks all n w at).by in subst InRange (some_injective w.by by e) (record { worker = k.worker; command = k.command })

    by_part : (x : Option WorkerPart) → slice_get parts worker ≡ x → option_map (λ (i : Isolation). i.by) (slice_get (isolations_in x) n) ≡ Some by → InRange by
    by_part None at e = absurd (none_some by e)
    by_part (Some part) at e = by_walk part.isolations.items (each_in IsPartNumbered parts h worker part at).isolations (slice_get part.isolations.items n) refl e

entry_range : (r : Report) (e : Entry) → HasNumbers r → IsEntryNumbered e → InRangeIf (entry_by r e)
entry_range r (entry.Add by birth added key value) numbers h = λ x e. subst InRange (some_injective by x e) (record { worker = h.0.worker; command = h.0.command })
entry_range r (entry.Look by birth key hit) numbers h = λ x e. subst InRange (some_injective by x e) (record { worker = h.0.worker; command = h.0.command })
entry_range r (entry.Drop by birth key kind) numbers h = λ x e. subst InRange (some_injective by x e) (record { worker = h.0.worker; command = h.0.command })
entry_range r (entry.Pin by birth key pinned hit) numbers h = λ x e. subst InRange (some_injective by x e) (record { worker = h.0.worker; command = h.0.command })
entry_range r (entry.Scan worker walk asked policy visits freed stopped) numbers h = λ x e. by_bool x (nat_lt walk (2 ^ 63)) e
  where
    by_bool : (x : Serial) (b : Bool) → cond b (option_map (λ (w : WalkRecord). w.by) (slice_get (walks_in (slice_get r.workers.items worker)) walk)) (option_map (λ (i : Isolation). i.by) (slice_get (isolations_in (slice_get r.workers.items worker)) (walk - 2 ^ 63))) ≡ Some x → InRange x
    by_bool x true e = walk_range r.workers.items worker walk x numbers.workers e
    by_bool x false e = isolation_range r.workers.items worker (walk - 2 ^ 63) x numbers.workers e
entry_range r (entry.MovedIn child objects) numbers h = λ x e. absurd (none_some x e)
entry_range r entry.Closed numbers h = λ x e. absurd (none_some x e)
entry_range r (entry.Drained by objects) numbers h = λ x e. subst InRange (some_injective by x e) (record { worker = h.0.worker; command = h.0.command })

numbered : (r : Report) → HasNumbers r → (place : Place) (k : ℕ) (e : Entry) → slice_get (journals_of r place) k ≡ Some e → InRangeIf (entry_by r e)
numbered r numbers place k e at = entry_range r e numbers (each_in IsEntryNumbered (journals_of r place) (found_numbered r.places.items place numbers.places) k e at)

-- ---- commands whose numbers no type has

range_or_not : (by : Serial) → InRange by ⊎ (InRange by → ⊥)
range_or_not by = by_both (cases_lt by.worker (2 ^ 16)) (cases_lt by.command (2 ^ 32))
  where
    by_both : (by.worker < 2 ^ 16) ⊎ (2 ^ 16 ≤ by.worker) → (by.command < 2 ^ 32) ⊎ (2 ^ 32 ≤ by.command) → InRange by ⊎ (InRange by → ⊥)
    by_both (inl w) (inl n) = inl (record { worker = w; command = n })
    by_both (inl w) (inr n) = inr (λ h. let low = h.command in absurd (omega (arith, low, n)))
    by_both (inr w) n = inr (λ h. let low = h.worker in absurd (omega (arith, low, w)))

ops_none : (uses : List UseStep) (g : ℕ) (by : Serial) → AllByRecursion IsUseNumbered uses → (InRange by → ⊥) → own g by uses ≡ []
ops_none [] g by n out = refl
ops_none (o ∷ os) g by n out = by_own (ops_none os g by n.1 out) (own_or_not g by o os)
  where
    by_own : own g by os ≡ [] → IsOwn g by o os → own g by (o ∷ os) ≡ []
    by_own more (inl y) = absurd (out (subst InRange y.1.0 (record { worker = n.0.by.worker; command = n.0.by.command })))
    by_own more (inr x) = x.0 ∙ more

not_of : (by : Serial) (x : Option Serial) → (InRange by → ⊥) → InRangeIf x → is_of by x ≡ false
not_of by None out rx = refl
not_of by (Some other) out rx = by_bool (is_serial by other) refl
  where
    by_bool : (b : Bool) → is_serial by other ≡ b → is_serial by other ≡ false
    by_bool true t =
        let w : by.worker ≡ other.worker = grind (arith, nat_tests) in let n : by.command ≡ other.command = grind (arith, nat_tests) in
        let k = rx other refl in let a = k.worker in let b = k.command in absurd (out (record { worker = omega (arith, w, a); command = omega (arith, n, b) }))
    by_bool false f = f

abbrev freeing_at : (ℕ → List (Rattle.shr_base.specs.declared.objects.Object.Object)) → ℕ × Entry → Freeing
freeing_at I e = record { entry = e.1; objects = freed_by (I e.0) e.1 }

entries_none : (parents : List ℕ) (r : Report) (g : ℕ) (by : Serial) (I : ℕ → List (Rattle.shr_base.specs.declared.objects.Object.Object)) (n : ℕ) (rest : List Entry) → (InRange by → ⊥) → ((k : ℕ) (e : Entry) → slice_get rest k ≡ Some e → InRangeIf (entry_by r e)) → sum_by (freed_in_command r parents by g) (map (freeing_at I) (enumerate_from n rest)) ≡ 0
entries_none parents r g by I n [] out h = refl
entries_none parents r g by I n (e ∷ es) out h =
    let f = ap {B = ℕ} (λ (b : Bool). cond b (born_below parents g (freed_by (I n) e)) 0) (not_of by (entry_by r e) out (h 0 e refl)) in
    let sum = sum_by-cons (freed_in_command r parents by g) (freeing_at I (n, e)) (map (freeing_at I) (enumerate_from (n + 1) es)) in
    let more = entries_none parents r g by I (n + 1) es out (λ k d at. h (suc k) d at) in omega (arith, f, sum, more)

places_none : (parents : List ℕ) (r : Report) (g : ℕ) (by : Serial) (places : List Place) → HasNumbers r → (InRange by → ⊥) → sum_by (λ place. sum_by (freed_in_command r parents by g) (freeings_at parents (journals_of r) place)) places ≡ 0
places_none parents r g by [] numbers out = refl
places_none parents r g by (p ∷ ps) numbers out =
    let here = entries_none parents r g by (items_at parents (journals_of r) p) 0 (journals_of r p) out (numbered r numbers p) in
    let sum = sum_by-cons (λ place. sum_by (freed_in_command r parents by g) (freeings_at parents (journals_of r) place)) p ps in
    let more = places_none parents r g by ps numbers out in omega (arith, here, sum, more)

charged_none : (parents : List ℕ) (g : ℕ) (workers : List WorkerScript) (by : Serial) (x : Option Reply) → AreWorkersFew workers → (InRange by → ⊥) → charged parents g (slice_get (commands_in (slice_get workers by.worker)) by.command) x ≡ 0
charged_none parents g workers by x few out = by_worker (slice_get workers by.worker) refl
  where
    by_worker : (o : Option WorkerScript) → slice_get workers by.worker ≡ o → charged parents g (slice_get (commands_in o) by.command) x ≡ 0
    by_worker None at = refl
    by_worker (Some w) at =
        let low = slice_get_within workers by.worker w at in let total = few.few in let short = few.short by.worker w at in
        by_command (cases_lt by.command (2 ^ 32)) low total short
      where
        by_command : (by.command < 2 ^ 32) ⊎ (2 ^ 32 ≤ by.command) → by.worker < length workers → length workers ≤ 2 ^ 16 → length w.commands.items ≤ 2 ^ 32 → charged parents g (slice_get w.commands.items by.command) x ≡ 0
        by_command (inl lt) low total short = absurd (out (record { worker = omega (arith, low, total); command = lt }))
        by_command (inr ge) low total short = ap (λ (c : Option Command). charged parents g c x) (slice_get_past w.commands.items by.command (omega (arith, ge, short)))

-- ---- each key is of a group that is there

uses_there : (up : Bool) (groups : ℕ) (uses : List UseStep) → AllByRecursion IsUseNumbered uses → AllByRecursion (λ (o : UseStep). o.group < groups) uses → AllByRecursion (IsOfGroup groups) (flat_map (keys_of up true) uses)
uses_there up groups [] n h = tt
uses_there up groups (o ∷ os) n h = all_both (IsOfGroup groups) (keys_of up true o) (flat_map (keys_of up true) os) (one up o.up) (uses_there up groups os n.1 h.1)
  where
    key : IsOfGroup groups (key_in o.group o.by)
    key = let k = keyed_group o.group o.by.worker o.by.command n.0.by.worker n.0.by.command in let low = h.0 in omega (arith, k, low)

    one : (u v : Bool) → AllByRecursion (IsOfGroup groups) (cond u (cond v (key_in o.group o.by ∷ []) []) (cond v [] (key_in o.group o.by ∷ [])))
    one true true = (key, tt)
    one true false = tt
    one false true = tt
    one false false = (key, tt)

by_there : (parents : List ℕ) (x : Option Serial) (birth : ℕ) → IsTree parents → InRangeIf x → AllByRecursion (IsOfGroup (length parents)) (by_keys parents x birth)
by_there parents None birth tree h = tt
by_there parents (Some by) birth tree h = let k = h by refl in path_there parents by birth tree k.worker k.command

tags_there : (parents : List ℕ) (r : Report) (entries : List Entry) (tags : List FreedTag) → IsTree parents → ((k : ℕ) (e : Entry) → slice_get entries k ≡ Some e → InRangeIf (entry_by r e)) → AllByRecursion (IsOfGroup (length parents)) (flat_map (freed_keys parents r entries) tags)
tags_there parents r entries [] tree h = tt
tags_there parents r entries (t ∷ ts) tree h = all_both (IsOfGroup (length parents)) (freed_keys parents r entries t) (flat_map (freed_keys parents r entries) ts) (by_there parents (option_and_then (entry_by r) (slice_get entries t.entry)) t.tag.birth tree (by_entry (slice_get entries t.entry) refl)) (tags_there parents r entries ts tree h)
  where
    by_entry : (o : Option Entry) → slice_get entries t.entry ≡ o → InRangeIf (option_and_then (entry_by r) o)
    by_entry None at = λ by e. absurd (none_some by e)
    by_entry (Some e) at = h t.entry e at

ends_there : (parents : List ℕ) (r : Report) (ends : List PlaceEnd) → IsTree parents → HasNumbers r → AllByRecursion (IsOfGroup (length parents)) (flat_map (λ (end : PlaceEnd). place_keys parents r end.place) ends)
ends_there parents r [] tree numbers = tt
ends_there parents r (end ∷ ends) tree numbers = all_both (IsOfGroup (length parents)) (place_keys parents r end.place) (flat_map (λ (x : PlaceEnd). place_keys parents r x.place) ends) (tags_there parents r (journals_of r end.place) _ tree (numbered r numbers end.place)) (ends_there parents r ends tree numbers)

answer_there : (parents : List ℕ) (by : Serial) (c : Command) (x : Option Answered) → IsTree parents → InRange by → AllByRecursion (IsOfGroup (length parents)) (answer_keys parents by c x)
unfolding Charges
answer_there parents by c x tree ra = elim (charges parents 0 by c x) as (λ _. AllByRecursion (IsOfGroup (length parents)) (answer_keys parents by c x)) [
  | inl n ↦ subst (AllByRecursion (IsOfGroup (length parents))) (sym n.0) tt
  | inr y ↦ subst (AllByRecursion (IsOfGroup (length parents))) (sym y.1.0) (path_there parents by y.0 tree ra.worker ra.command)
]

commands_there : (parents : List ℕ) (r : Report) (w k : ℕ) (cs : List Command) → IsTree parents → w < 2 ^ 16 → k + length cs ≤ 2 ^ 32 → AllByRecursion (IsOfGroup (length parents)) (commands_keys parents r w k cs)
commands_there parents r w k [] tree lw few = tt
commands_there parents r w k (c ∷ cs) tree lw few = all_both (IsOfGroup (length parents)) (answer_keys parents (serial_of w k) c (answer_at r (serial_of w k))) (commands_keys parents r w (k + 1) cs)
    (answer_there parents (serial_of w k) c (answer_at r (serial_of w k)) tree (record { worker = lw; command = omega (arith, few) })) (commands_there parents r w (k + 1) cs tree lw (omega (arith, few)))

workers_there : (parents : List ℕ) (r : Report) (k : ℕ) (ws : List WorkerScript) → IsTree parents → k + length ws ≤ 2 ^ 16 → AllByRecursion Short ws → AllByRecursion (IsOfGroup (length parents)) (workers_keys parents r k ws)
workers_there parents r k [] tree few short = tt
workers_there parents r k (w ∷ ws) tree few short = all_both (IsOfGroup (length parents)) (commands_keys parents r k 0 w.commands.items) (workers_keys parents r (k + 1) ws)
    (commands_there parents r k 0 w.commands.items tree (omega (arith, few)) (let s = short.0 in omega (arith, s))) (workers_there parents r (k + 1) ws tree (omega (arith, few)) short.1)

-- ---- the law

all_short : (ws : List WorkerScript) → ((worker : ℕ) (w : WorkerScript) → slice_get ws worker ≡ Some w → length w.commands.items ≤ 2 ^ 32) → AllByRecursion Short ws
all_short [] h = tt
all_short (w ∷ ws) h = (h 0 w refl, all_short ws (λ k x at. h (suc k) x at))

pub nets_decided : (s : Script) (r : Report) (parents : List ℕ) (uses : List UseStep) (ends : List PlaceEnd) (workers : List WorkerScript) (first us second ds : List ℕ) (b : Bool) → parents ≡ parents_of s → IsTree parents → AreWorkersFew s.workers.items → HasNumbers r → AllByRecursion (λ (o : UseStep). o.group < length parents) r.uses.items
    → uses ≡ r.uses.items → ends ≡ r.places.items → workers ≡ s.workers.items → first ≡ [] ++ flat_map (up_keys true) uses → us ≡ first ++ flat_map (λ (end : PlaceEnd). place_keys parents r end.place) ends
    → second ≡ [] ++ flat_map (down_keys true) uses → ds ≡ second ++ workers_keys parents r 0 workers → Decides b (AreBalanced us ds) → Decides b (AreNets s r)
nets_decided s r parents uses ends workers first us second ds b parents_are tree few numbers there uses_are ends_are workers_are first_is us_are second_is ds_are decided = subst (λ (ps : List ℕ). Decides b (law ps)) parents_are (Decides-like b to from decided)
  where
    law : List ℕ → Type 0
    law ps = (by : Serial) (g : ℕ) → g < length ps → usage_after (own g by r.uses.items) ≡ pos (charged ps g (command_at s by) (reply_at r by)) -ℤ pos (sum_by (λ place. sum_by (freed_in_command r ps by g) (freeings_at ps (journals_of r) place)) (map (λ (end : PlaceEnd). end.place) r.places.items))

    short : AllByRecursion Short s.workers.items
    short = all_short s.workers.items few.short

    freed : ℕ → Serial → ℕ
    freed g by = sum_by (λ place. sum_by (freed_in_command r parents by g) (freeings_at parents (journals_of r) place)) (map (λ (end : PlaceEnd). end.place) r.places.items)

    ups_are : us ≡ flat_map (up_keys true) r.uses.items ++ flat_map (λ (end : PlaceEnd). place_keys parents r end.place) r.places.items
    ups_are = us_are ∙ ap (λ (l : List ℕ). l ++ flat_map (λ (end : PlaceEnd). place_keys parents r end.place) ends) (first_is ∙ ap (flat_map (up_keys true)) uses_are) ∙ ap (λ (l : List PlaceEnd). flat_map (up_keys true) r.uses.items ++ flat_map (λ (end : PlaceEnd). place_keys parents r end.place) l) ends_are

    downs_are : ds ≡ flat_map (down_keys true) r.uses.items ++ workers_keys parents r 0 s.workers.items
    downs_are = ds_are ∙ ap (λ (l : List ℕ). l ++ workers_keys parents r 0 workers) (second_is ∙ ap (flat_map (down_keys true)) uses_are) ∙ ap (λ (l : List WorkerScript). flat_map (down_keys true) r.uses.items ++ workers_keys parents r 0 l) workers_are

    up_times : (g : ℕ) (by : Serial) → g < length parents → InRange by → times (key_in g by) us ≡ ups (own g by r.uses.items) + freed g by
    up_times g by lt ra =
        ap (times (key_in g by)) ups_are ∙ times_both (key_in g by) (flat_map (up_keys true) r.uses.items) (flat_map (λ (end : PlaceEnd). place_keys parents r end.place) r.places.items)
        ∙ ap (λ (n : ℕ). n + times (key_in g by) (flat_map (λ (end : PlaceEnd). place_keys parents r end.place) r.places.items)) (own_ways true r.uses.items g by numbers.uses ra) ∙ ap (λ (n : ℕ). ups (own g by r.uses.items) + n) (ends_count parents r g by r.places.items tree lt ra (numbered r numbers))

    down_times : (g : ℕ) (by : Serial) → g < length parents → InRange by → times (key_in g by) ds ≡ downs (own g by r.uses.items) + charged parents g (command_at s by) (reply_at r by)
    down_times g by lt ra =
        ap (times (key_in g by)) downs_are ∙ times_both (key_in g by) (flat_map (down_keys true) r.uses.items) (workers_keys parents r 0 s.workers.items)
        ∙ ap (λ (n : ℕ). n + times (key_in g by) (workers_keys parents r 0 s.workers.items)) (own_ways false r.uses.items g by numbers.uses ra)
        ∙ ap (λ (n : ℕ). downs (own g by r.uses.items) + n) (workers_count parents r g by 0 by.worker s.workers.items tree lt ra (let f = few.few in omega (arith, f)) short (omega arith))

    to : AreBalanced us ds → law parents
    to h by g lt = by_range (range_or_not by)
      where
        by_range : InRange by ⊎ (InRange by → ⊥) → usage_after (own g by r.uses.items) ≡ pos (charged parents g (command_at s by) (reply_at r by)) -ℤ pos (freed g by)
        by_range (inl ra) =
            let u = up_times g by lt ra in let d = down_times g by lt ra in let e = h (key_in g by) in
            let same : ups (own g by r.uses.items) + freed g by ≡ downs (own g by r.uses.items) + charged parents g (command_at s by) (reply_at r by) = omega (arith, u, d, e) in omega (arith, ints, same)
        by_range (inr out) =
            let none = ap usage_after (ops_none r.uses.items g by numbers.uses out) in
            let c = charged_none parents g s.workers.items by (reply_at r by) few out in
            let f = places_none parents r g by (map (λ (end : PlaceEnd). end.place) r.places.items) numbers out in
            none ∙ sym (ap (λ (n : ℕ). pos n -ℤ pos (freed g by)) c ∙ ap (λ (n : ℕ). pos 0 -ℤ pos n) f)

    from : law parents → AreBalanced us ds
    from h key = by_group (cases_lt (key / 281474976710656) (length parents))
      where
        by_group : (key / 281474976710656 < length parents) ⊎ (length parents ≤ key / 281474976710656) → times key us ≡ times key ds
        by_group (inl lt) =
            let g = key / 281474976710656 in
            let by : Serial = record { worker = key / 4294967296 % 65536; command = key % 4294967296 } in
            let ra : InRange by = record { worker = omega arith; command = omega arith } in
            let same : key_in g by ≡ key = omega arith in
            let u = up_times g by lt ra in let d = down_times g by lt ra in let n = h by g lt in
            let balance : ups (own g by r.uses.items) + freed g by ≡ downs (own g by r.uses.items) + charged parents g (command_at s by) (reply_at r by) = omega (arith, ints, n) in
            subst (λ (k : ℕ). times k us ≡ times k ds) same (u ∙ balance ∙ sym d)
        by_group (inr ge) =
            let not : IsOfGroup (length parents) key → ⊥ = λ lt. absurd (omega (arith, lt, ge)) in
            ap (times key) ups_are ∙ none_of (IsOfGroup (length parents)) key (flat_map (up_keys true) r.uses.items ++ flat_map (λ (end : PlaceEnd). place_keys parents r end.place) r.places.items) not
            (all_both (IsOfGroup (length parents)) (flat_map (up_keys true) r.uses.items) (flat_map (λ (end : PlaceEnd). place_keys parents r end.place) r.places.items) (uses_there true (length parents) r.uses.items numbers.uses there) (ends_there parents r r.places.items tree numbers))
            ∙ sym (ap (times key) downs_are ∙ none_of (IsOfGroup (length parents)) key (flat_map (down_keys true) r.uses.items ++ workers_keys parents r 0 s.workers.items) not
            (all_both (IsOfGroup (length parents)) (flat_map (down_keys true) r.uses.items) (workers_keys parents r 0 s.workers.items) (uses_there false (length parents) r.uses.items numbers.uses there) (workers_there parents r 0 s.workers.items tree (let f = few.few in omega (arith, f)) short)))
