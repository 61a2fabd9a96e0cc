-- SPDX-License-Identifier: GPL-2.0-only
-- The cause of an `offline` that was done.
use Rattle.shr_lawful.proofs.Common.{◌≡◌, ℕ, ◌%◌, ◌^◌, ◌<◌, ◌≤◌, ◌≢◌, ⊎_elim, true, false, cond, eqb, List, length, take, refl, sym, ap, subst, ◌∙◌, arith, slice_get, Some, sum_by, filter, option_and_then, IsSomeAnd, cases_lt, eqb-true, same_Some, slice_get_within, dite, ℕ_discrete, Entry, MovedIn, Closed, Begin, Done, Place, Serial, Reply, Offline, Script, Carry, is_serial, group_named, IsAtOrAbove, is_closed, place_number, MayBegin, is_made, total, Begins, term_le, group_of, place_at, Made, Known, back, KnowsClosed, Report, parents_of, serial_of, journals_of, IsOffline, IsOfflineDone, MayHaveBegun, StandsInTree, moved_of, Step, IsAmong, steps_of, IsOfflinedBy, IsCausedBy, DidCarry, IsClosedByOffline, MayMakeEntry, IsEnded, IsEntryOf, IsRun, begun_made, begin_found, begun_before, take_in, all_zero, some_at, sum_total, closed_at, serial_itself, IsMoving, done_below, script_hierarchy, carries_by, IsAloneAt, MayHaveSpliced, objects_moved_from, no_test}
use Rattle.shr_base.specs.declared.replies.Reply.TheVariants as reply
use Rattle.shr_charge.specs.Views as charge
use Rattle.shr_lawful.proofs.Gathering.{each_among, mine_at, among_begins, total_gathered, made_stands, grows, reply_is}
use Rattle.shr_lawful.proofs.Listed.{all_among, all_slice, contains_slice, contains_among, at_closed, begins_slice}
use Rattle.shr_lawful.proofs.JournalsLaw.{entry_stands, one_entry_maker, tree_stands}
use Rattle.shr_lawful.proofs.EntrySums.{entries_made, entries_of_step}
use Rattle.shr_lawful.proofs.StandsOnce.{done_once}
use Rattle.shr_lawful.proofs.WalksLaw.{filter_part}
use Rattle.shr_lawful.proofs.LimitsLaw.{serial_same}

module _ (s : Script) (r : Report) (workers : List (List Step)) (run : IsRun s r workers) where
  pub carries_are : (worker k : ℕ) (x : Step) → slice_get (steps_of workers worker) k ≡ Some x → carries_by r (serial_of worker k) ≡ x.work.carries
  carries_are worker k x at = ap (filter (λ (c : Carry). is_serial (serial_of worker k) c.by)) (run.steps.carries worker)
      ∙ filter_part (λ (c : Carry). is_serial (serial_of worker k) c.by) (λ (y : Step). y.work.carries) (steps_of workers worker) k x at own others where
        by_of : (j i : ℕ) (y : Step) (c : Carry) → slice_get (steps_of workers worker) j ≡ Some y → slice_get y.work.carries i ≡ Some c → c.by ≡ serial_of worker j
        by_of j i y c at_y at_c = let is = run.steps.each worker j y at_y in (all_slice (DidCarry s y) y.work.carries i c is.did.moves.carries at_c).by ∙ is.by

        own : (j : ℕ) (c : Carry) → slice_get x.work.carries j ≡ Some c → is_serial (serial_of worker k) c.by ≡ true
        own j c e = ap (is_serial (serial_of worker k)) (by_of k j x c at e) ∙ serial_itself (serial_of worker k)

        others : (i j : ℕ) (y : Step) (c : Carry) → slice_get (steps_of workers worker) i ≡ Some y → i ≢ k → slice_get y.work.carries j ≡ Some c → is_serial (serial_of worker k) c.by ≡ false
        others i j y c at_y ne e = no_test (is_serial (serial_of worker k) c.by) (λ same. ne (ap (λ (z : Serial). z.command) (sym (serial_same (serial_of worker k) c.by same ∙ by_of i j y c at_y e))))

  -- nothing stands after a Closed
  pub closed_last : (place : Place) (es : List Entry) (n : ℕ) → Begins es (journals_of r place) → is_closed es ≡ true → length es ≤ n → (e : Entry) → slice_get (journals_of r place) n ≡ Some e → ⊥
  closed_last place es n begins closed le e stands =
      let c = closed_at es closed in
      let in_journal = begins_slice es (journals_of r place) c.0 Closed begins c.1 in
      let lt = slice_get_within es c.0 Closed c.1 in
      let before : is_closed (take n (journals_of r place)) ≡ true = at_closed (take n (journals_of r place)) c.0 (take_in (journals_of r place) n c.0 Closed (omega (arith, le, lt)) in_journal) in
      let both : true ≡ false = sym before ∙ ((run.journals.legal place).stands n e stands).open in
      cc

  module _ (worker k : ℕ) (x : Step) (at : slice_get (steps_of workers worker) k ≡ Some x) (entry moved deferred : ℕ) (h : IsOfflinedBy s x entry moved deferred) where
    done : StandsInTree r entry (Done h.group)
    done = entry_stands s r workers run worker k x (record { number = entry; entry = Done h.group }) at h.made

    did_entry : (length x.before.tree.known ≤ entry) × IsEntryOf s x entry (Done h.group)
    did_entry = all_among (λ (m : charge.TreeMade). (length x.before.tree.known ≤ m.number) × IsEntryOf s x m.number m.entry) x.work.tree (record { number = entry; entry = Done h.group }) (run.steps.each worker k x at).did.tree.each h.made

    in_tree : h.group < length (parents_of s)
    in_tree = let b = begun_before (script_hierarchy s) run.uses.hierarchy r.tree.items run.uses.tree h.group entry done in let may : MayBegin (script_hierarchy s) (take b.0 r.tree.items) h.group = run.uses.tree b.0 (Begin h.group) b.1 in may.there

    -- a group that is done began, and so it is made
    made : is_made (script_hierarchy s) r.tree.items h.group ≡ true
    made = let b = begun_before (script_hierarchy s) run.uses.hierarchy r.tree.items run.uses.tree h.group entry done in let f = begin_found r.tree.items h.group b.0 b.1 in begun_made (script_hierarchy s) r.tree.items h.group f.0 run.uses.tree f.1

    own_serial : x.by ≡ serial_of worker k
    own_serial = (run.steps.each worker k x at).by

    -- no other command moved in from a list of the group, where none other can have
    module _ (alone : IsAloneAt s r x.by h.group) (v j : ℕ) (y : Step) (at_y : slice_get (steps_of workers v) j ≡ Some y) (apart : (v ≡ worker) × (j ≡ k) → ⊥) where
      not_here : serial_of v j ≢ x.by
      not_here same = let b : serial_of v j ≡ serial_of worker k = same ∙ own_serial in apart (ap (λ (z : Serial). z.worker) b, ap (λ (z : Serial). z.command) b)

      is_offline : (group : ℕ) (P : Reply → Type 0) → y.command ≡ Some (Offline group) → P y.answered.reply → IsOffline s r (serial_of v j) group P
      is_offline group P command answer = record { command_is = (run.steps.each v j y at_y).command ∙ command; answer = subst (λ o. IsSomeAnd o P) (sym (reply_is s r workers run v j y at_y)) answer }

      -- one of the same group
      of_group : y.command ≡ Some (Offline h.group) → (z : Reply) → y.answered.reply ≡ z → MayHaveBegun z → ⊥
      of_group command (reply.OfflineDone other much carried) replied may =
          let cause : IsOfflinedBy s y other much carried = subst (IsCausedBy s y) replied (run.steps.each v j y at_y).did.cause in
          let group : cause.group ≡ h.group = same_Some cause.group h.group (sym cause.named ∙ ap (option_and_then group_named) command) in
          let theirs : StandsInTree r other (Done cause.group) = entry_stands s r workers run v j y (record { number = other; entry = Done cause.group }) at_y cause.made in
          apart (one_entry_maker s r workers run v j worker k y x (record { number = other; entry = Done cause.group }) (record { number = entry; entry = Done h.group }) at_y at cause.made h.made
          (done_once (script_hierarchy s) r.tree.items run.uses.tree h.group other entry (theirs ∙ ap (λ g. Some (Done g)) group) done))
      of_group command (reply.Worn spent) replied may = alone.here (serial_of v j) not_here (is_offline h.group MayHaveSpliced command (subst MayHaveSpliced (sym replied) tt))
      of_group command reply.Memory replied may = alone.here (serial_of v j) not_here (is_offline h.group MayHaveSpliced command (subst MayHaveSpliced (sym replied) tt))
      of_group command (reply.AlreadyDone other) replied may = alone.here (serial_of v j) not_here (is_offline h.group MayHaveSpliced command (subst MayHaveSpliced (sym replied) tt))
      of_group command z replied may = absurd may

      -- an earlier one of a group above by the same worker
      earlier : v ≡ worker → j < k → (group : ℕ) → group ≢ h.group → IsAtOrAbove (parents_of s) group h.group → (n : ℕ) → slice_get y.after.tree.known n ≡ Some (Begin group) → ⊥
      earlier same lt group other above n known =
          let g = grows s r workers run v j k y x lt at_y (subst (λ u. slice_get (steps_of workers u) k ≡ Some x) (sym same) at) in
          let begun : StandsInTree r n (Begin group) = tree_stands s r workers run v j y at_y n (Begin group) known in
          let d = done_below (script_hierarchy s) run.uses.hierarchy r.tree.items run.uses.tree h.group group h.group n (omega arith) in_tree above other made begun in
          let one : d.0 ≡ entry = done_once (script_hierarchy s) r.tree.items run.uses.tree h.group d.0 entry d.1 done in
          let within = slice_get_within x.before.tree.known n (Begin group) (begins_slice y.after.tree.known x.before.tree.known n (Begin group) g.tree known) in
          omega (arith, did_entry.0, within, one, d.2)

      -- a later one
      later : v ≡ worker → k < j → (m : Made) → IsAmong m y.work.core.made → m.entry ≡ Closed → group_of m.place ≡ h.group → IsClosedByOffline s y m (group_of m.place) → ⊥
      later same lt m among closed group closing =
          let g = grows s r workers run worker k j x y lt at (subst (λ u. slice_get (steps_of workers u) j ≡ Some y) same at_y) in
          let stands = made_stands s r workers run v j y at_y among.0 m among.1 in
          let ended : IsEnded s x h.group entry = did_entry.1 in
          let knows : KnowsClosed x.after.core (place_number (place_at m.place)) = ended.closed (place_at m.place) stands.0 group in
          let mine : Known = record { place = place_number (place_at m.place); entries = knows.0 } in
          let among_x : IsAmong mine x.after.core.traces.known = contains_among x.after.core.traces.known mine knows.1 in
          let among_y = among_begins x.after.core.traces.known y.before.core.traces.known mine g.known among_x in
          let begins : Begins knows.0 (journals_of r (place_at (place_number (place_at m.place)))) = (run.steps.shown worker k x at).known among_x.0 mine among_x.1 in
          closed_last (place_at m.place) knows.0 m.number (subst (λ i. Begins knows.0 (journals_of r (place_at i))) (back m.place) begins) knows.2 (closing.later among_y.0 mine among_y.1 (back m.place)) m.entry stands.1.entry

      -- an entry that moved in from the group
      moving : (m : Made) (child : ℕ) → IsMoving s y m child → child ≡ h.group → ⊥
      moving m child t from =
          let closing = t.closing in
          let above : IsAtOrAbove (parents_of s) closing.group h.group = subst (IsAtOrAbove (parents_of s) closing.group) from closing.below in
          dite (ℕ_discrete closing.group h.group)
          (λ same. of_group (closing.command ∙ ap (λ g. Some (Offline g)) same) y.answered.reply refl closing.answer)
          (λ other. dite (ℕ_discrete v worker)
          (λ same. ⊎_elim
          (λ lt. let b = contains_slice y.after.tree.known (Begin closing.group) closing.begun in earlier same lt closing.group other above b.0 b.1)
          (λ le. later same (strictly same le) t.closed t.among t.entry (group_is m child t from) (may_close t.closed t.among t.entry))
          (cases_lt j k))
          (λ elsewhere. alone.above (serial_of v j) closing.group (λ w. elsewhere (w ∙ ap (λ (z : Serial). z.worker) own_serial)) other above (is_offline closing.group MayHaveBegun closing.command closing.answer))) where
            strictly : v ≡ worker → k ≤ j → k < j
            strictly same le = dite (ℕ_discrete j k) (λ e. absurd (apart (same, e))) (λ ne. omega (arith, ne, le))

            group_is : (m : Made) (child : ℕ) (t : IsMoving s y m child) → child ≡ h.group → group_of t.closed.place ≡ h.group
            group_is m child t from = let small = run.sized.groups in omega (arith, t.place, from, in_tree, small)

            may_close : (c : Made) → IsAmong c y.work.core.made → c.entry ≡ Closed → IsClosedByOffline s y c (group_of c.place)
            may_close c among closed = subst (MayMakeEntry s y c) closed (each_among (λ (z : Made). MayMakeEntry s y z z.entry) y.work.core.made c (run.steps.each v j y at_y).did.entries.each among)

      weighs_none : (m : Made) (e : Entry) → MayMakeEntry s y m e → moved_of h.group e ≡ 0
      weighs_none m (MovedIn child objects) may = ap (λ b. cond b objects 0) (no_test (eqb child h.group) (λ same. moving m child may (eqb-true child h.group same)))
      weighs_none m e may = refl

      step_none : total (λ (m : Made). moved_of h.group m.entry) y.work.core.made ≡ 0
      step_none = all_zero (λ (m : Made). moved_of h.group m.entry) y.work.core.made (λ i m e. weighs_none m m.entry (each_among (λ (z : Made). MayMakeEntry s y z z.entry) y.work.core.made m (run.steps.each v j y at_y).did.entries.each (i, some_at y.work.core.made i m e)))

    most : moved ≤ objects_moved_from r h.group
    most = omega (
      arith,
      h.moved_is,
      sum_total (λ (m : Made). moved_of h.group m.entry) x.work.core.made,
      term_le (λ (y : Step). total (λ (m : Made). moved_of h.group m.entry) y.work.core.made) (steps_of workers worker) k x (some_at (steps_of workers worker) k x at),
      term_le (λ (mine : List Step). total (λ (y : Step). total (λ (m : Made). moved_of h.group m.entry) y.work.core.made) mine) workers worker (steps_of workers worker) (some_at workers worker (steps_of workers worker) (mine_at workers worker k x at)),
      total_gathered (λ (m : Made). moved_of h.group m.entry) (λ (y : Step). y.work.core.made) workers,
      entries_made s r workers run (moved_of h.group),
    )

    pub offlined : IsOfflineDone s r x.by h.group entry moved deferred
    offlined = record {
      made = done;
      carried = h.deferred_is ∙ ap (λ (l : List Carry). sum_by (λ (c : Carry). c.amount) l % 2 ^ 64) (sym (ap (carries_by r) own_serial ∙ carries_are worker k x at));
      most = most;
      whole = λ alone. h.moved_is ∙ sym (entries_of_step s r workers run (moved_of h.group) worker k x at (λ v j y at_y apart. step_none alone v j y at_y apart));
    }
