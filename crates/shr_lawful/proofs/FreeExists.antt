-- SPDX-License-Identifier: GPL-2.0-only
-- A put whose group and key no other put names isn't answered that its object exists: each object so named is its own.
use Rattle.shr_lawful.proofs.Common.{◌≡◌, ℕ, zero, suc, ◌<◌, ◌≤◌, inl, inr, Bool, true, false, not, ◌==◌, cond, List, [], ◌∷◌, ◌++◌, length, take, sym, refl, ap, subst, ◌∙◌, arith, slice_get, Some, bytes_eq, AllByRecursion, and_parts, eqb-true, Contains-permutation, IsPermutation-sym, same_Some, none-some, slice_get_within, Object, At, Place, Serial, Entry, Add, Command, Put, On, Get, Del, SetPin, Script, added_by, added_by_all, added_in, listed_in, is_serial, items_at, lists_moved_at, step, IsOutcome, first_moved, later_moved, by_of, is_named, holds, marked_object, unmarked_object, pinned_object, Has, Has_from_Contains, Contains_from_Has, each_has, flat_map_has, weight, mass, weight_append, place_at, Made, Report, parents_of, commands_of, serial_of, journals_of, places_of, cited_at, id_found, at, IsOnlyPut, MayMakeEntry, IsRun, Step, by_slices, serial_itself, freed_in}
use Rattle.shr_model.proofs.Weights.{is_serial_same}
use Rattle.std.specs.Cmp.Lexicographic.{bytes_decides}
use Rattle.shr_model.specs.Items.{items_from, AreOutcomes}
use Rattle.shr_model.specs.MovedItems.{moved_from}
use Rattle.shr_lawful.proofs.BagLaw.{whole, bag}
use Rattle.shr_lawful.proofs.FamilyObjects.{AddIs, items_at_kept}
use Rattle.shr_lawful.proofs.Gathering.{each_among, maker, made_stands}
use Rattle.shr_lawful.proofs.Listed.{contains_slice, any_has}
use Rattle.shr_lawful.proofs.RepliesLaw.{told_of, cited}
use Rattle.shr_lawful.proofs.ReplyEntries.{IsEntryFor, entry_asked}
use Rattle.shr_lawful.proofs.WornWeights.{one_list, freed_total}

-- ---- lists

-- the outcome of one entry
pub outcome_at : (moved : List (List Object)) (items : List Object) (es : List Entry) (n : ℕ) (e : Entry) → AreOutcomes moved items es → slice_get es n ≡ Some e → IsOutcome (first_moved (moved_from moved (take n es))) (items_from moved items (take n es)) e
unfolding AreOutcomes moved_from items_from
outcome_at moved items [] n e h at = absurd (none-some e at)
outcome_at moved items (x ∷ es) zero e h at = subst (IsOutcome (first_moved moved) items) (same_Some x e at) h.0
outcome_at moved items (x ∷ es) (suc n) e h at = outcome_at (later_moved x moved) (step (first_moved moved) items x) es n e h.1 at

not_true : (b : Bool) → false ≡ not b → b ≡ true
not_true true e = refl
not_true false e = cc

-- an object weighs in the list
mass_has : (w : Serial → ℕ) (items : List Object) (o : Object) → Has items o → w o.serial ≤ mass w items
mass_has w [] o has = absurd has
mass_has w (x ∷ items) o (inl same) = let e = ap (λ (y : Object). w y.serial) same in omega (arith, e)
mass_has w (x ∷ items) o (inr has) = omega (arith, mass_has w items o has)

-- serials that weigh something have one that does
weight_has : (w : Serial → ℕ) (xs : List Serial) → 0 < weight w xs → (x : Serial) × Has xs x × (0 < w x)
weight_has w [] h = absurd (omega (arith, h))
weight_has w (x ∷ xs) h = by (w x) refl (weight_has w xs) where
  by : (n : ℕ) → w x ≡ n → (0 < weight w xs → (y : Serial) × Has xs y × (0 < w y)) → (y : Serial) × Has (x ∷ xs) y × (0 < w y)
  by zero e more = let t = more (omega (arith, e, h)) in (t.0, inr t.1, t.2)
  by (suc n) e more = (x, inl refl, omega (arith, e))

abbrev one_by : Serial → Serial → ℕ
one_by by x = cond (is_serial by x) 1 0

-- an entry that added the object of a serial
add_of : (e : Entry) (by : Serial) → Has (added_by e) by → (birth : ℕ) × (key : List ℕ) × (value : List ℕ) × (e ≡ Add by birth true key value)
add_of (Add x birth true key value) by (inl same) = (birth, key, value, ap (λ y. Add y birth true key value) same)
add_of (Add x birth true key value) by (inr has) = absurd has
add_of e by has = absurd has

-- ---- the put of an Add

record IsPutOf (own by : Serial) (c : Command) (birth : ℕ) (key : List ℕ) : Type 0 where
  node : ℕ
  decl : ℕ
  value : List ℕ
  command : c ≡ Put (record { group = birth; node = node; decl = decl }) key value
  serial : by ≡ own

put_of : (own : Serial) (c : Command) (by : Serial) (birth : ℕ) (key value : List ℕ) (added : Bool) → IsEntryFor own c (Add by birth added key value) → IsPutOf own by c birth key
put_of own (Put to k v) by birth key value added (a, is) =
    let group : birth ≡ to.group = cc in let word : key ≡ k = cc in record {
      node = to.node;
      decl = to.decl;
      value = v;
      command = λ i. Put (record { group = sym group i; node = to.node; decl = to.decl }) (sym word i) v;
      serial = cc;
    }
put_of own (On to k Get) by birth key value added (hit, is) = absurd (cc)
put_of own (On to k Del) by birth key value added (kind, is) = absurd (cc)
put_of own (On to k (SetPin pinned)) by birth key value added (hit, is) = absurd (cc)
put_of own c by birth key value added is = absurd is

module _ (s : Script) (r : Report) (workers : List (List Step)) (run : IsRun s r workers) where
  -- each Add is of the put that its serial names
  pub add_put : (place : Place) (n : ℕ) (by : Serial) (birth : ℕ) (key value : List ℕ) (added : Bool) → slice_get (journals_of r place) n ≡ Some (Add by birth added key value)
      → (node : ℕ) × (decl : ℕ) × (put : List ℕ) × (slice_get (commands_of s by.worker) by.command ≡ Some (Put (record { group = birth; node = node; decl = decl }) key put))
  add_put place n by birth key value added stands =
      let e : Entry = Add by birth added key value in
      let m = maker s r workers run place n e stands in
      let is = run.steps.each m.worker m.k m.step m.at in
      let told = told_of s m.step m.made m.made.entry by (ap (λ z. by_of z) m.entry) (each_among (λ (z : Made). MayMakeEntry s m.step z z.entry) m.step.work.core.made m.made is.did.entries.each m.among) in
      let own = is.did.entries.reply (journals_of r) (λ j z q. (made_stands s r workers run m.worker m.k m.step m.at j z q).1) in
      let here : slice_get (journals_of r (place_at m.made.place)) m.made.number ≡ Some e = ap (λ p. slice_get (journals_of r p) m.made.number) m.place_is ∙ (ap (slice_get (journals_of r place)) m.number ∙ stands) in
      let entry = entry_asked (parents_of s) (journals_of r) m.step.by m.step.answered.reply m.step.command (id_found m.step.answered) (at (place_at m.made.place) m.made.number) e own told.cited here in
      let t = put_of m.step.by entry.0 by birth key value added entry.2 in
      let serial : by ≡ serial_of m.worker m.k = t.serial ∙ is.by in
      (t.node, t.decl, t.value, ap (λ (b : Serial). slice_get (commands_of s b.worker) b.command) serial ∙ (is.command ∙ (entry.1 ∙ ap Some t.command)))

  -- an object that some list had was added by an entry of its put
  pub added_there : (place : Place) (n : ℕ) (o : Object) → place.group < length (parents_of s) → Has (items_at (parents_of s) (journals_of r) place n) o
      → (p : Place) × (m : ℕ) × (birth : ℕ) × (key : List ℕ) × (value : List ℕ) × (slice_get (journals_of r p) m ≡ Some (Add o.serial birth true key value))
  added_there place n o within has =
      let by : Serial = o.serial in
      let w : Serial → ℕ = one_by by in
      let heavy : w by ≡ 1 = ap (λ b. cond {A = ℕ} b 1 0) (serial_itself by) in
      let in_list = mass_has w (items_at (parents_of s) (journals_of r) place n) o has in
      let in_all = one_list w (parents_of s) run.journals.parents (journals_of r) run.journals.legal run.journals.paired (places_of r) (whole s r workers run) place within n in
      let parts = freed_total w (parents_of s) run.journals.parents (journals_of r) run.journals.legal run.journals.paired (places_of r) (whole s r workers run) (places_of r) in
      let both = weight_append w (freed_in (places_of r) (parents_of s) (journals_of r)) (listed_in (places_of r) (parents_of s) (journals_of r)) in
      let one = weight_has w (freed_in (places_of r) (parents_of s) (journals_of r) ++ listed_in (places_of r) (parents_of s) (journals_of r)) (omega (arith, heavy, in_list, in_all, parts, both)) in
      let same : by ≡ one.0 = is_serial_same by one.0 (weighs (is_serial by one.0) one.2) in
      let added = Has_from_Contains (added_in (places_of r) (journals_of r)) one.0 (Contains-permutation (freed_in (places_of r) (parents_of s) (journals_of r) ++ listed_in (places_of r) (parents_of s) (journals_of r)) (added_in (places_of r) (journals_of r)) one.0
      (IsPermutation-sym (added_in (places_of r) (journals_of r)) (freed_in (places_of r) (parents_of s) (journals_of r) ++ listed_in (places_of r) (parents_of s) (journals_of r)) (bag s r workers run).parts)
      (Contains_from_Has (freed_in (places_of r) (parents_of s) (journals_of r) ++ listed_in (places_of r) (parents_of s) (journals_of r)) one.0 one.1)) in
      let at_place = flat_map_has (λ p. added_by_all (journals_of r p)) (places_of r) one.0 added in
      let at_entry = flat_map_has added_by (journals_of r at_place.0) one.0 at_place.2 in
      let there = contains_slice (journals_of r at_place.0) at_entry.0 (Contains_from_Has (journals_of r at_place.0) at_entry.0 at_entry.1) in
      let adds = add_of at_entry.0 one.0 at_entry.2 in
      (at_place.0, there.0, adds.0, adds.1, adds.2, there.1 ∙ ap Some (adds.3 ∙ ap (λ y. Add y adds.0 true adds.1 adds.2) (sym same))) where
        weighs : (b : Bool) → 0 < cond {A = ℕ} b 1 0 → b ≡ true
        weighs true h = refl
        weighs false h = absurd (omega (arith, h))

  module _ (worker k group : ℕ) (key : List ℕ) (only : IsOnlyPut s worker k group key) where
    -- an object that is named so is of this put
    abbrev IsOwn : Object → Type 0
    IsOwn o = is_named group key o ≡ true → o.serial ≡ serial_of worker k

    marks : (o : Object) → IsOwn o → IsOwn (marked_object o)
    marks o h = h

    unmarks : (o : Object) → IsOwn o → IsOwn (unmarked_object o)
    unmarks o h = h

    pins : (pinned : Bool) (o : Object) → IsOwn o → IsOwn (pinned_object pinned o)
    pins pinned o h = h

    own_add : (place : Place) (n : ℕ) (e : Entry) → slice_get (journals_of r place) n ≡ Some e → AddIs IsOwn marks unmarks pins e
    own_add place n (Add by birth added name value) stands = λ named.
        let parts = and_parts (birth == group) (bytes_eq name key) named in
        let born = eqb-true birth group parts.0 in let word = (bytes_decides name key).0 parts.1 in
        let t = add_put place n by birth name value added stands in
        let put : slice_get (commands_of s by.worker) by.command ≡ Some (Put (record { group = group; node = t.0; decl = t.1 }) key t.2) = t.3 ∙ (λ i. Some (Put (record { group = born i; node = t.0; decl = t.1 }) (word i) t.2)) in
        let first = only.worker_is by.worker by.command t.0 t.1 t.2 put in let second = only.command_is by.worker by.command t.0 t.1 t.2 put in
        λ i. record { worker = first i; command = second i }
    own_add place n e stands = tt

    all_own : (place : Place) (n : ℕ) → AllByRecursion IsOwn (items_at (parents_of s) (journals_of r) place n)
    all_own place n = items_at_kept IsOwn marks unmarks pins (parents_of s) (journals_of r) (λ p. by_slices (AddIs IsOwn marks unmarks pins) (journals_of r p) (own_add p)) place n

    -- the Add that its reply cites added the object
    pub no_exists : (c : At) (value : List ℕ) → cited_at r (serial_of worker k) ≡ Some c → slice_get (journals_of r c.place) c.entry ≡ Some (Add (serial_of worker k) group false key value) → ⊥
    no_exists c value cites stands =
        let by : Serial = serial_of worker k in
        let within : c.place.group < length (parents_of s) = (run.journals.there c.place (omega (arith, slice_get_within (journals_of r c.place) c.entry (Add by group false key value) stands))).group in
        let outcome : false ≡ not (holds group key (items_at (parents_of s) (journals_of r) c.place c.entry)) = outcome_at (lists_moved_at (parents_of s) (journals_of r) c.place) [] (journals_of r c.place) c.entry (Add by group false key value) (run.journals.legal c.place).outcomes stands in
        let held = any_has (is_named group key) (items_at (parents_of s) (journals_of r) c.place c.entry) (not_true (holds group key (items_at (parents_of s) (journals_of r) c.place c.entry)) outcome) in
        let own : held.0.serial ≡ by = each_has IsOwn (items_at (parents_of s) (journals_of r) c.place c.entry) held.0 (all_own c.place c.entry) held.1 held.2 in
        let a = added_there c.place c.entry held.0 within held.1 in
        let at_own : cited_at r by ≡ Some (at a.0 a.1) = ap (cited_at r) (sym own) ∙ cited s r workers run a.0 a.1 (Add held.0.serial a.2 true a.3 a.4) a.5 held.0.serial refl in
        let same : at a.0 a.1 ≡ c = same_Some (at a.0 a.1) c (sym at_own ∙ cites) in
        let there : slice_get (journals_of r c.place) c.entry ≡ Some (Add held.0.serial a.2 true a.3 a.4) = ap (λ (z : At). slice_get (journals_of r z.place) z.entry) (sym same) ∙ a.5 in
        let two = same_Some (Add by group false key value) (Add held.0.serial a.2 true a.3 a.4) (sym stands ∙ there) in
        let no : false ≡ true = cc in cc
