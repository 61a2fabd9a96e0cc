-- SPDX-License-Identifier: GPL-2.0-only
-- The objects that were added are each of another put that was answered so, and where each put was, there are as many.
use Rattle.shr_lawful.proofs.Common.{◌≡◌, ℕ, zero, suc, ◌+◌, ◌≤◌, ◌⊎◌, inl, inr, ⊎_elim, Bool, true, false, cond, List, [], ◌∷◌, length, length-append, take, sym, refl, ap, subst, ◌∙◌, arith, slice_get, Option, Some, None, filter, sum_by, enumerate_from, same_Some, none-some, sum_by-cons, Entry, Add, At, Target, Place, Reply, Command, Put, Script, WorkerScript, added_by, added_by_all, added_in, is_put, is_at_or_above, path_of, Has_from_Contains, Each, total, place_at, Made, Report, charged, parents_of, puts_of, commands_in, commands_of, answers_of, serial_of, id_found, journals_of, places_of, DoPutsAddUp, IsReply, added_below, Step, steps_in, steps_of, IsPut, IsRun, all_made, sum_total, MayStand, IsAtOrAbove-root, IsEachAdded, count_total}
use Rattle.std.proofs.lemmas.List.Concat.{length-flat_map}
use Rattle.std.proofs.lemmas.List.Sums.{length-filter}
use Rattle.shr_lawful.proofs.Listed.{has_number, most_one}
use Rattle.shr_base.specs.declared.replies.Reply.TheVariants as reply
use Rattle.shr_lawful.proofs.Gathering.{total_gathered, total_same_on, mine_at}
use Rattle.shr_lawful.proofs.RepliesLaw.{replies_lawful}
use Rattle.shr_lawful.proofs.Recounting.{all_stand, journals_are}

-- ---- what a command charged to the root
-- it charged nothing, or it is a put answered Added and charged one
abbrev IsChargeOf : List ℕ → Option Command → Reply → Type 0
IsChargeOf ps c x = (charged ps 0 c (Some x) ≡ 0) ⊎ (IsPut c × ((a : At) × (x ≡ reply.Added a)) × (charged ps 0 c (Some x) ≤ 1))

charge_of : (ps : List ℕ) (c : Option Command) (x : Reply) → IsChargeOf ps c x
charge_of ps (Some (Put to key value)) (reply.Added a) = inr (refl, (a, refl), most_one (is_at_or_above ps 0 to.group))
charge_of ps c x = inl refl

-- ---- sums
each_most : {A : Type 0} (f g : A → ℕ) (xs : List A) → Each (λ x. f x ≤ g x) xs → total f xs ≤ total g xs
each_most f g [] h = omega arith
each_most f g (x ∷ xs) h = omega (arith, h 0 x refl, each_most f g xs (λ j y e. h (suc j) y e))

slices_most : {A : Type 0} (f g : A → ℕ) (xs : List A) → ((k : ℕ) (x : A) → slice_get xs k ≡ Some x → f x ≤ g x) → total f xs ≤ total g xs
slices_most f g [] h = omega arith
slices_most f g (x ∷ xs) h = omega (arith, h 0 x refl, slices_most f g xs (λ j y e. h (suc j) y e))

-- less where one term is less
slices_less : {A : Type 0} (f g : A → ℕ) (xs : List A) → ((k : ℕ) (x : A) → slice_get xs k ≡ Some x → f x ≤ g x) → (k : ℕ) (x : A) → slice_get xs k ≡ Some x → f x + 1 ≤ g x → total f xs + 1 ≤ total g xs
slices_less f g [] h k x at less = absurd (none-some x at)
slices_less f g (y ∷ ys) h zero x at less = let same = same_Some y x at in let fs = ap f same in let gs = ap g same in omega (arith, fs, gs, less, slices_most f g ys (λ j z e. h (suc j) z e))
slices_less f g (y ∷ ys) h (suc k) x at less = omega (arith, h 0 y refl, slices_less f g ys (λ j z e. h (suc j) z e) k x at less)

-- ---- puts
abbrev puts_in : List Command → ℕ
puts_in cs = total (λ (c : Command). cond {A = ℕ} (is_put c) 1 0) cs

-- how many puts a step was asked for
abbrev asks : Option Command → ℕ
asks None = 0
asks (Some c) = cond {A = ℕ} (is_put c) 1 0

abbrev asked : Step → ℕ
asked y = asks y.command

asks_one : (o : Option Command) → IsPut o → asks o ≡ 1
asks_one None h = absurd h
asks_one (Some c) h = ap (λ (b : Bool). cond {A = ℕ} b 1 0) h

row_puts : (mine : List Step) (cs : List Command) → length cs ≤ length mine → ((k : ℕ) (y : Step) → slice_get mine k ≡ Some y → slice_get cs k ≡ y.command) → total asked mine ≡ puts_in cs
row_puts [] [] long each = refl
row_puts [] (c ∷ cs) long each = absurd (omega (arith, long))
row_puts (y ∷ mine) [] long each = let none = ap asks (each 0 y refl) in omega (arith, none, row_puts mine [] (omega arith) (λ k z e. each (suc k) z e))
row_puts (y ∷ mine) (c ∷ cs) long each = let same = ap asks (each 0 y refl) in
    omega (arith, same, row_puts mine cs (omega (arith, long)) (λ k z e. each (suc k) z e))

rows_puts : (teams : List (List Step)) (ws : List WorkerScript) → ((i : ℕ) → total asked (steps_in (slice_get teams i)) ≡ puts_in (commands_in (slice_get ws i))) → total (λ mine. total asked mine) teams ≡ total (λ (w : WorkerScript). puts_in w.commands.items) ws
rows_puts [] [] each = refl
rows_puts [] (w ∷ ws) each = let first = each 0 in let rest = rows_puts [] ws (λ i. each (suc i)) in omega (arith, first, rest)
rows_puts (mine ∷ teams) [] each = let first = each 0 in let rest = rows_puts teams [] (λ i. each (suc i)) in omega (arith, first, rest)
rows_puts (mine ∷ teams) (w ∷ ws) each = let first = each 0 in let rest = rows_puts teams ws (λ i. each (suc i)) in omega (arith, first, rest)

puts_are : (ws : List WorkerScript) → sum_by (λ (w : WorkerScript). length (filter is_put w.commands.items)) ws ≡ total (λ (w : WorkerScript). puts_in w.commands.items) ws
puts_are [] = refl
puts_are (w ∷ ws) = omega (arith, sum_by-cons (λ (v : WorkerScript). length (filter is_put v.commands.items)) w ws, length-filter is_put w.commands.items ∙ count_total is_put w.commands.items, puts_are ws)

module _ (s : Script) (r : Report) (workers : List (List Step)) (run : IsRun s r workers) where
  -- the objects that an entry added
  abbrev one_added : Made → ℕ
  one_added m = length (added_by m.entry)

  abbrev root_added : Made → ℕ
  root_added m = added_below (parents_of s) 0 m.entry

  abbrev charged_by : Step → ℕ
  charged_by y = total root_added y.work.core.made

  -- each object is born at or below the root
  below_root : (e : Entry) (p : Place) (n : ℕ) → slice_get (journals_of r p) n ≡ Some e → length (added_by e) ≤ added_below (parents_of s) 0 e
  below_root (Add by birth true key value) p n stands =
      let may : MayStand (parents_of s) p.group (take n (journals_of r p)) (Add by birth true key value) = (run.journals.legal p).stands n (Add by birth true key value) stands in
      let above = IsAtOrAbove-root (parents_of s) run.journals.parents birth may.allowed.there in
      let is : cond {A = ℕ} (is_at_or_above (parents_of s) 0 birth) 1 0 ≡ 1 = ap (λ (b : Bool). cond {A = ℕ} b 1 0) (has_number (path_of (parents_of s) birth) 0 (Has_from_Contains (path_of (parents_of s) birth) 0 above)) in
      omega (arith, is)
  below_root (Add by birth false key value) p n stands = omega arith
  below_root o p n stands = omega arith

  journal_long : (i : ℕ) (es : List Entry) → total (λ (e : ℕ × Entry). length (added_by e.1)) (enumerate_from i es) ≡ length (added_by_all es)
  journal_long i [] = refl
  journal_long i (e ∷ es) = omega (arith, length-append (added_by e) (added_by_all es), journal_long (i + 1) es)

  -- all that was added, by the steps
  added_made : length (added_in (places_of r) (journals_of r)) ≡ total one_added (all_made workers)
  added_made = length-flat_map (λ (p : Place). added_by_all (journals_of r p)) (places_of r) ∙ sum_total (λ (p : Place). length (added_by_all (journals_of r p))) (places_of r)
      ∙ (total_same_on (λ (p : Place). length (added_by_all (journals_of r p))) (λ (p : Place). total (λ (e : ℕ × Entry). length (added_by e.1)) (enumerate_from 0 (journals_of r p))) (places_of r) (λ p. sym (journal_long 0 (journals_of r p)))
      ∙ journals_are s r workers run one_added (λ p n e. length (added_by e)) (λ m p place stands items. refl))

  by_steps : length (added_in (places_of r) (journals_of r)) ≤ total (λ mine. total charged_by mine) workers
  by_steps = omega (
    arith,
    added_made,
    each_most one_added root_added (all_made workers) (λ j m e. below_root m.entry (place_at m.place) m.number (all_stand s r workers run j m e).1),
    total_gathered root_added (λ (y : Step). y.work.core.made) workers,
  )

  charged_is : (worker k : ℕ) (y : Step) → slice_get (steps_of workers worker) k ≡ Some y → charged_by y ≡ charged (parents_of s) 0 y.command (Some y.answered.reply)
  charged_is worker k y at = sym (sum_total root_added y.work.core.made) ∙ (run.steps.each worker k y at).did.charges.added 0

  -- a step adds no more than one object, and only a put does
  charged_most : (worker k : ℕ) (y : Step) → slice_get (steps_of workers worker) k ≡ Some y → charged_by y ≤ asked y
  charged_most worker k y at = let is = charged_is worker k y at in ⊎_elim (λ none. omega (arith, is, none))
      (λ h. let put : asked y ≡ 1 = asks_one y.command h.0 in let most = h.2 in omega (arith, is, put, most)) (charge_of (parents_of s) y.command y.answered.reply)

  charged_less : (worker k : ℕ) (y : Step) → slice_get (steps_of workers worker) k ≡ Some y → IsPut y.command → ((a : At) → y.answered.reply ≡ reply.Added a → ⊥) → charged_by y + 1 ≤ asked y
  charged_less worker k y at put not = let is = charged_is worker k y at in let one : asked y ≡ 1 = asks_one y.command put in
      ⊎_elim (λ none. omega (arith, is, none, one)) (λ h. absurd (not h.1.0 h.1.1)) (charge_of (parents_of s) y.command y.answered.reply)

  row_at : (worker : ℕ) (mine : List Step) → slice_get workers worker ≡ Some mine → (k : ℕ) (y : Step) → slice_get mine k ≡ Some y → slice_get (steps_of workers worker) k ≡ Some y
  row_at worker mine at k y e = ap (λ o. slice_get (steps_in o) k) at ∙ e

  row_most : (worker : ℕ) (mine : List Step) → slice_get workers worker ≡ Some mine → total charged_by mine ≤ total asked mine
  row_most worker mine at = slices_most charged_by asked mine (λ k y e. charged_most worker k y (row_at worker mine at k y e))

  all_puts : total (λ mine. total asked mine) workers ≡ puts_of s
  all_puts = rows_puts workers s.workers.items (λ i. row_puts (steps_of workers i) (commands_of s i) (let same = run.steps.commands i in omega (arith, same)) (λ k y e. (run.steps.each i k y e).command)) ∙ sym (puts_are s.workers.items)

  -- no more objects were added than the script has puts
  pub added_few : length (added_in (places_of r) (journals_of r)) ≤ puts_of s
  added_few = omega (arith, by_steps, slices_most (λ mine. total charged_by mine) (λ mine. total asked mine) workers row_most, all_puts)

  -- and less than that where a put was not answered so
  pub added_fewer : (worker k : ℕ) (y : Step) → slice_get (steps_of workers worker) k ≡ Some y → IsPut y.command → ((a : At) → y.answered.reply ≡ reply.Added a → ⊥) → length (added_in (places_of r) (journals_of r)) + 1 ≤ puts_of s
  added_fewer worker k y at put not = omega (
    arith,
    by_steps,
    slices_less (λ mine. total charged_by mine) (λ mine. total asked mine) workers row_most worker (steps_of workers worker) (mine_at workers worker k y at)
        (slices_less charged_by asked (steps_of workers worker) (λ j z e. charged_most worker j z e) k y at (charged_less worker k y at put not)),
    all_puts,
  )

  -- ---- where each put was answered so

  -- an entry adds one object at most, below the root or not
  root_most : (e : Entry) → added_below (parents_of s) 0 e ≤ length (added_by e)
  root_most (Add by birth true key value) = most_one (is_at_or_above (parents_of s) 0 birth)
  root_most e = omega arith

  module _ (all : IsEachAdded s r) where
    asked_most : (worker k : ℕ) (y : Step) → slice_get (steps_of workers worker) k ≡ Some y → asked y ≤ charged_by y
    asked_most worker k y at = let is = charged_is worker k y at in let most = by_command y.command refl in omega (arith, is, most) where
      command_is : slice_get (commands_of s worker) k ≡ y.command
      command_is = (run.steps.each worker k y at).command

      answer_is : slice_get (answers_of r worker) k ≡ Some y.answered
      answer_is = (run.steps.each worker k y at).answered

      -- the put's object stands in the list of a group of the tree
      put_charged : (to : Target) (key value : List ℕ) (c : At) → slice_get (commands_of s worker) k ≡ Some (Put to key value)
          → (found : Option ℕ) → IsReply (parents_of s) (journals_of r) (serial_of worker k) (Put to key value) found (reply.Added c)
          → 1 ≤ charged (parents_of s) 0 (Some (Put to key value)) (Some (reply.Added c))
      put_charged to key value c command None h = absurd h
      put_charged to key value c command (Some id) h = below_root (Add (serial_of worker k) to.group true key value) c.place c.entry h.stands

      by_command : (o : Option Command) → y.command ≡ o → asks o ≤ charged (parents_of s) 0 o (Some y.answered.reply)
      by_command None is = omega arith
      by_command (Some (Put to key value)) is =
          let command = command_is ∙ is in
          let t = all worker k to key value y.answered command answer_is in
          let told = (replies_lawful s r workers run).answered (serial_of worker k) (Put to key value) y.answered command answer_is in
          subst (λ x. 1 ≤ charged (parents_of s) 0 (Some (Put to key value)) (Some x)) (sym t.1)
          (put_charged to key value t.0 command (id_found y.answered) (subst (IsReply (parents_of s) (journals_of r) (serial_of worker k) (Put to key value) (id_found y.answered)) t.1 told))
      by_command (Some c) is = omega arith

    row_least : (worker : ℕ) (mine : List Step) → slice_get workers worker ≡ Some mine → total asked mine ≤ total charged_by mine
    row_least worker mine at = slices_most asked charged_by mine (λ k y e. asked_most worker k y (row_at worker mine at k y e))

    added_enough : puts_of s ≤ length (added_in (places_of r) (journals_of r))
    added_enough = omega (
      arith,
      added_made,
      each_most root_added one_added (all_made workers) (λ j m e. root_most m.entry),
      total_gathered root_added (λ (y : Step). y.work.core.made) workers,
      slices_most (λ mine. total asked mine) (λ mine. total charged_by mine) workers row_least,
      all_puts,
    )

  -- as many objects were added as the script has puts, where each was answered so
  pub puts_add_up : DoPutsAddUp s r
  puts_add_up all = let few = added_few in let enough = added_enough all in let is = run.added in omega (arith, is, few, enough)
