-- SPDX-License-Identifier: GPL-2.0-only
use Rattle.shr_list.proofs.Common.{◌≡◌, ◌∙◌, sym, subst, ap, arith, rules, true, false, length, length-append, None, Some, Option, ℕ, List, [], ◌∷◌, ◌++◌, ◌+◌, ◌≤◌, refl, Object, scan_of, unmarked_object, AreNodesKept}
use Rattle.shr_base.specs.declared.objects.LruStatus.{LruStatus}
use Rattle.shr_list.specs.Scanning.{IsLeftAlone}
use Rattle.shr_list.proofs.Slots.{kept_itself, kept_without, kept_rotated, keys_whole}
use Rattle.shr_list.proofs.Fitting.{on_err}
use Rattle.shr_list.proofs.Scans.{IsScanning, node_here, scan_past, scan_spent, scan_stopped, scan_skipped, scan_removed, scan_rotated, freed_here, is_made, ok_true, err_ok, was_not, room_made}
use Rattle.shr_list.proofs.queue.scanning.go_through.Goals as goal
use Rattle.shr_list.proofs.queue.scanning.go_through.Goals.{in-Removed, in-Skip, in-Rotate}
use Rattle.shr_model.proofs.Booleans.{no_test}

pub loop-met-init : goal.loop-met-init
loop-met-init c = record { whole = c.head-at.ensures.whole; scanning = search rules; began = c.head-at.ensures.whole; untouched = λ e. refl; room = λ e. absurd (cc); none = λ e. search rules; kept = kept_itself c.args.queue.now.nodes }

pub returns-in_default : goal.returns-in_default
returns-in_default c =
    let whole = scan_of c.args.policy c.args.asked c.args.queue.now.items in
    let is : c.loop-met.at ≡ None = search rules in
    let now : IsScanning c.args.policy c.args.asked c.loop-met.met c.loop-met.queue.nodes None c.loop-met.freed.items whole =
    subst (λ (a : Option ℕ). IsScanning c.args.policy c.args.asked c.loop-met.met c.loop-met.queue.nodes a c.loop-met.freed.items whole) is c.loop-met.invariant.scanning in
    record { kept = tt; scanned = rw c.loop-met.invariant.whole.items (scan_past c.args.policy c.args.asked c.loop-met.met c.loop-met.queue.nodes c.loop-met.freed.items whole now); keys = keys_whole c.args.queue.now c.loop-met.queue c.loop-met.invariant.began c.loop-met.invariant.whole c.loop-met.invariant.kept }

pub returns : goal.returns
returns c =
    let whole = scan_of c.args.policy c.args.asked c.args.queue.now.items in
    record { kept = tt; scanned = rw c.loop-met.invariant.whole.items (scan_spent c.args.policy c.args.asked c.loop-met.met c.loop-met.queue.nodes c.loop-met.freed.items whole c.loop-met.at (omega arith) c.loop-met.invariant.scanning); keys = keys_whole c.args.queue.now c.loop-met.queue c.loop-met.invariant.began c.loop-met.invariant.whole c.loop-met.invariant.kept }

pub returns-in-Stop : goal.returns-in-Stop
returns-in-Stop c =
    let whole = scan_of c.args.policy c.args.asked c.args.queue.now.items in
    let state = c.loop-met.invariant.scanning in
    let is : c.loop-met.at ≡ Some c.in-Some.node = search rules in
    let now : IsScanning c.args.policy c.args.asked c.loop-met.met c.loop-met.queue.nodes (Some c.in-Some.node) c.loop-met.freed.items whole =
    subst (λ (a : Option ℕ). IsScanning c.args.policy c.args.asked c.loop-met.met c.loop-met.queue.nodes a c.loop-met.freed.items whole) is state in
    record { kept = tt; scanned = rw (c.loop-met.invariant.whole.items, c.make_room.ensures.items) (scan_stopped c.args.policy c.args.asked c.loop-met.met c.loop-met.queue.nodes c.loop-met.freed.items whole c.in-Some.node now c.object.result.now c.loop-met-test.true c.object.ensures c.in-Stop.ensures); keys = keys_whole c.args.queue.now c.loop-met.queue c.loop-met.invariant.began c.loop-met.invariant.whole c.loop-met.invariant.kept }

pub push-requires : goal.push-requires
push-requires c =
    let whole = scan_of c.args.policy c.args.asked c.args.queue.now.items in
    let state = c.loop-met.invariant.scanning in
    let is : c.loop-met.at ≡ Some c.in-Some.node = search rules in
    let now : IsScanning c.args.policy c.args.asked c.loop-met.met c.loop-met.queue.nodes (Some c.in-Some.node) c.loop-met.freed.items whole =
    subst (λ (a : Option ℕ). IsScanning c.args.policy c.args.asked c.loop-met.met c.loop-met.queue.nodes a c.loop-met.freed.items whole) is state in
    let room_after : c.in_ok-roomy.roomy ≡ true → length whole.freed ≤ length c.make_room.new.freed.items + c.make_room.new.freed.spare =
    room_made c.args.policy c.args.asked c.args.queue.now c.loop-met.queue c.loop-met.roomy c.in_ok-roomy.roomy c.loop-met.freed c.make_room.new.freed (λ m. (c.make_room.ensures.same m).0) c.loop-met.invariant.untouched c.in_ok-roomy.ensures.room c.loop-met.invariant.room in
    let made = is_made c.in_ok-roomy.roomy (λ e. subst (λ (s : LruStatus). IsLeftAlone s) c.in-Removed.is (c.in_ok-roomy.ensures.left e)) in
    let more = freed_here c.args.policy c.args.asked c.loop-met.met c.loop-met.queue.nodes c.loop-met.freed.items whole c.in-Some.node now c.object.result.now c.loop-met-test.true c.object.ensures c.in-Removed.ensures in
    let room = room_after made in
    let same = ap (λ (l : List Object). length l) c.make_room.ensures.items in
    omega (arith, more, room, same)

pub returns-in_err-roomy-clause-kept : goal.returns-in_err-roomy-clause-kept
returns-in_err-roomy-clause-kept c =
    on_err c.from_residual.result _ (c.loop-met.invariant.untouched (no_test c.loop-met.roomy (λ m. err_ok _ (sym c.in_err-roomy.was ∙ (c.make_room.ensures.same m).1))))

pub returns-in_err-roomy-clause-keys : goal.returns-in_err-roomy-clause-keys
returns-in_err-roomy-clause-keys c = keys_whole c.args.queue.now c.loop-met.queue c.loop-met.invariant.began c.loop-met.invariant.whole c.loop-met.invariant.kept

pub loop-met-preserved : goal.loop-met-preserved
loop-met-preserved c =
    let whole = scan_of c.args.policy c.args.asked c.args.queue.now.items in
    let state = c.loop-met.invariant.scanning in
    let is : c.loop-met.at ≡ Some c.in-Some.node = search rules in
    let now : IsScanning c.args.policy c.args.asked c.loop-met.met c.loop-met.queue.nodes (Some c.in-Some.node) c.loop-met.freed.items whole =
    subst (λ (a : Option ℕ). IsScanning c.args.policy c.args.asked c.loop-met.met c.loop-met.queue.nodes a c.loop-met.freed.items whole) is state in
    let room_after : c.in_ok-roomy.roomy ≡ true → length whole.freed ≤ length c.make_room.new.freed.items + c.make_room.new.freed.spare =
    room_made c.args.policy c.args.asked c.args.queue.now c.loop-met.queue c.loop-met.roomy c.in_ok-roomy.roomy c.loop-met.freed c.make_room.new.freed (λ m. (c.make_room.ensures.same m).0) c.loop-met.invariant.untouched c.in_ok-roomy.ensures.room c.loop-met.invariant.room in
    let start = c.args.queue.now.nodes in
    let here = node_here c.args.policy c.args.asked c.loop-met.met c.loop-met.queue.nodes c.loop-met.freed.items whole c.in-Some.node now in
    let kept = subst (AreNodesKept start) here.3 c.loop-met.invariant.kept in
    let keeps : c.loop-met.roomy ≡ true → c.in_ok-roomy.roomy ≡ true = λ m. ok_true _ (sym c.in_ok-roomy.was ∙ (c.make_room.ensures.same m).1) in
    elim c.match-status.branch [
      | in-Removed w ↦
          let same : c.object.result.now ≡ w.free.result = c.object.ensures here.0 here.1 here.2 here.3 ∙ sym (w.free.ensures.taken here.0 here.1 here.2 here.3) in
          let made = is_made c.in_ok-roomy.roomy (λ e. subst (λ (s : LruStatus). IsLeftAlone s) w.in-Removed.is (c.in_ok-roomy.ensures.left e)) in
          let room = room_after made in
          let spare = w.push.ensures.spare in
          let longer = length-append c.make_room.new.freed.items (w.free.result ∷ []) in
          record {
            whole = rw w.queue-is w.free.ensures.whole;
            scanning =
                rw (w.queue-is, w.freed-is)
                (scan_removed c.args.policy c.args.asked c.loop-met.met c.loop-met.queue.nodes c.loop-met.freed.items whole c.in-Some.node now w.free.result c.loop-met-test.true w.free.ensures.taken c.next-next.result c.next-next.ensures w.free.new.self.nodes w.push.new.self.items
                (rw same at w.in-Removed.ensures) w.free.ensures.nodes (w.push.ensures.items ∙ ap (λ (l : List Object). l ++ w.free.result ∷ []) c.make_room.ensures.items));
            began = c.loop-met.invariant.began;
            untouched = λ e. absurd (let both : true ≡ false = sym made ∙ e in cc);
            room = λ e. rw (w.freed-is, w.push.ensures.items) (omega (arith, room, spare, longer));
            none = λ e. absurd (let both : true ≡ false = sym made ∙ e in cc);
            kept = rw (w.queue-is, w.free.ensures.nodes here.0 here.1 here.2 here.3) (kept_without start here.0 here.2 c.in-Some.node here.1 kept);
          }
      | in-Skip w ↦ record {
        whole = rw w.queue-is c.loop-met.invariant.whole;
        scanning =
            rw (w.queue-is, w.freed-is, c.make_room.ensures.items)
            (scan_skipped c.args.policy c.args.asked c.loop-met.met c.loop-met.queue.nodes c.loop-met.freed.items whole c.in-Some.node now c.object.result.now c.loop-met-test.true c.object.ensures c.next-next.result c.next-next.ensures w.in-Skip.ensures);
        began = c.loop-met.invariant.began;
        untouched = λ e. w.queue-is ∙ c.loop-met.invariant.untouched (was_not c.loop-met.roomy c.in_ok-roomy.roomy keeps e);
        room = λ e. rw w.freed-is (room_after e);
        none = λ e. rw w.freed-is (c.make_room.ensures.items ∙ c.loop-met.invariant.none (was_not c.loop-met.roomy c.in_ok-roomy.roomy keeps e));
        kept = rw w.queue-is c.loop-met.invariant.kept;
      }
      | in-Rotate w ↦
          let made = is_made c.in_ok-roomy.roomy (λ e. subst (λ (s : LruStatus). IsLeftAlone s) w.in-Rotate.is (c.in_ok-roomy.ensures.left e)) in
          record {
            whole = rw w.queue-is w.rotate.ensures.whole;
            scanning =
                rw (w.queue-is, w.freed-is, c.make_room.ensures.items)
                (scan_rotated c.args.policy c.args.asked c.loop-met.met c.loop-met.queue.nodes c.loop-met.freed.items whole c.in-Some.node now c.object.result.now c.loop-met-test.true c.object.ensures c.next-next.result c.next-next.ensures w.rotate.new.self.nodes w.in-Rotate.ensures w.rotate.ensures.nodes);
            began = c.loop-met.invariant.began;
            untouched = λ e. absurd (let both : true ≡ false = sym made ∙ e in cc);
            room = λ e. rw w.freed-is (room_after made);
            none = λ e. absurd (let both : true ≡ false = sym made ∙ e in cc);
            kept = rw (w.queue-is, w.rotate.ensures.nodes here.0 here.1 here.2 here.3) (kept_rotated start here.0 here.2 c.in-Some.node here.1 kept (unmarked_object here.1) refl);
          }
    ]
