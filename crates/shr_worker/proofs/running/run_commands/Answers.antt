-- SPDX-License-Identifier: GPL-2.0-only
use Rattle.shr_worker.proofs.Common.{◌≡◌, ℕ, ◌∷◌, [], ◌++◌, List, length, length-append, arith, refl, sym, ap, subst, ◌∙◌, Some, slice_get, Answered, UseStep, Isolation, PlainWalk, IsCommandWithin, content_of, Acting, Shared, CrewState, DeedGives, worker_commands, crew_at, command_serial, IsWorkOf}
use Rattle.std.proofs.lemmas.Option.{slice_get_read}
use Rattle.shr_plain.specs.Seat as plain
use Rattle.shr_walk.specs.State.{state_of}
use Rattle.shr_worker.proofs.Within.{command_of, command_within, commands_few}
use Rattle.shr_worker.proofs.Worked.{work_none, work_more}
use Rattle.shr_worker.proofs.running.run_commands.Goals as goal

pub loop-k-init : goal.loop-k-init
loop-k-init g c = let w = c.args.worker.now in let at = c.worker.inside in let p = c.args.plain.now in let first = crew_at w p [] in let none = c.reserve.ensures.items ∙ c.requires.none.1 in
    let same : record { seats = record (state_of at.seats) { noted = c.expect_notes.new.uses.items }; plain = plain.plain_state_of p; isolations = c.args.isolations.now.items } ≡ first =
    ap (λ (l : List UseStep). record { seats = record (state_of at.seats) { noted = l }; plain = plain.plain_state_of p; isolations = c.args.isolations.now.items }) c.expect_notes.ensures
    ∙ (ap (λ (v : Acting). crew_at v p c.args.isolations.now.items) c.worker.view_is ∙ ap (λ (l : List Isolation). crew_at w p l) c.requires.none.2) in record {
      shared = ap (λ (v : Acting). v.shared) c.worker.view_is;
      number = ap (λ (v : Acting). v.by.worker) c.worker.view_is;
      pools = refl;
      few = let walks = ap (λ (l : List PlainWalk). length l) c.requires.none.0 in omega (arith, walks);
      count = ap (λ (l : List Answered). length l) none;
      work = subst (λ (t : CrewState). IsWorkOf w.shared w.by.worker c.reserve.new.self.items first t) (sym same)
          (subst (λ (l : List Answered). IsWorkOf w.shared w.by.worker l first first) (sym none) (work_none w.shared w.by.worker first));
    }

pub overflow_cast-k : goal.overflow_cast-k
overflow_cast-k g c = let few = commands_few c.worker.inside.shared.now c.worker.invariant.shared c.worker.inside.by.worker c.in-Some.mine.now c.in-Some.ensures in
    let short = rw c.as_slice-command-items.ensures at c.loop-k-test.true in omega (arith, few, short)

pub overflow_cast-k-in-loop-k : goal.overflow_cast-k-in-loop-k
overflow_cast-k-in-loop-k g c = let few = commands_few c.worker.inside.shared.now c.worker.invariant.shared c.worker.inside.by.worker c.in-Some.mine.now c.in-Some.ensures in
    let short = rw c.as_slice-command-items.ensures at c.loop-k-test.true in omega (arith, few, short)

pub run_next-requires-clause-few : goal.run_next-requires-clause-few
run_next-requires-clause-few g c = let few = commands_few c.worker.inside.shared.now c.worker.invariant.shared c.worker.inside.by.worker c.in-Some.mine.now c.in-Some.ensures in
    let short = rw c.as_slice-command-items.ensures at c.loop-k-test.true in let walks = c.loop-k.invariant.few in omega (arith, few, short, walks)

pub run_next-requires-clause-within : goal.run_next-requires-clause-within
run_next-requires-clause-within g c = let mine = c.in-Some.mine.now in let at = c.worker.inside in let inv = c.loop-k.invariant in
    let short = rw c.as_slice-command-items.ensures at c.loop-k-test.true in let is = rw c.as_slice-command-items.ensures at c.command-item.is in
    subst (λ (x : Shared). IsCommandWithin (content_of x.script) c.command-item.result) (ap (λ (v : Acting). v.shared) c.worker.view_is ∙ sym inv.shared)
    (command_within at.shared.now c.worker.invariant.shared at.by.worker mine c.in-Some.ensures c.loop-k.k c.command-item.result (slice_get_read mine.commands.items _ c.loop-k.k c.command-item.result refl short is))

pub loop-k-preserved : goal.loop-k-preserved
loop-k-preserved g c = let inv = c.loop-k.invariant in let w = c.args.worker.now in let x = w.shared in let n = w.by.worker in let k = c.loop-k.k in let mine = c.in-Some.mine.now in let before = c.loop-k.answers.items in let at = c.worker.inside in
    let answered = c.in_ok-answered.answered in let command = c.command-item.result in let first = crew_at w c.args.plain.now [] in
    let s = crew_at c.loop-k.worker c.loop-k.plain c.loop-k.isolations.items in let t = crew_at c.run_next.new.worker c.run_next.new.plain c.run_next.new.isolations.items in
    let short = rw c.as_slice-command-items.ensures at c.loop-k-test.true in let is = rw c.as_slice-command-items.ensures at c.command-item.is in
    let here : slice_get (worker_commands x.script n) k ≡ Some command = subst (λ (v : Acting). slice_get (worker_commands v.shared.script v.by.worker) k ≡ Some command) c.worker.view_is
    (command_of at.shared.now c.worker.invariant.shared at.by.worker mine c.in-Some.ensures k command (slice_get_read mine.commands.items _ k command refl short is)) in
    let pushed : c.push.new.self.items ≡ before ++ answered ∷ [] = c.push.ensures.items ∙ ap (λ (l : List Answered). l ++ answered ∷ []) c.reserve-in-loop-k.ensures.items in
    let count = inv.count in let walks = inv.few in let one = c.run_next.ensures.few in
    let gives = subst (λ (y : Shared). DeedGives y (command_serial n k) command answered s t) inv.shared (subst (λ (m : ℕ). DeedGives c.loop-k.worker.shared (command_serial m k) command answered s t) inv.number c.in_ok-answered.ensures.deed) in record {
      shared = c.run_next.ensures.shared ∙ inv.shared;
      number = c.run_next.ensures.worker ∙ inv.number;
      pools = c.run_next.ensures.pools ∙ inv.pools;
      few = omega (arith, walks, one);
      count = ap (λ (l : List Answered). length l) pushed ∙ omega (arith, length-append before (answered ∷ []), count);
      work = subst (λ (l : List Answered). IsWorkOf x n l first t) (sym pushed)
          (work_more x n before first s t command answered inv.work
          (ap (slice_get (worker_commands x.script n)) count ∙ here)
          (subst (λ (m : ℕ). DeedGives x (command_serial n m) command answered s t) (sym count) gives));
    }
