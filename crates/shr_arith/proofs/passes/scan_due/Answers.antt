-- SPDX-License-Identifier: GPL-2.0-only
use Rattle.std.proofs.Common.{◌≡◌, ℕ, ◌+◌, Bool, sym, subst, arith}
use Rattle.shr_model.specs.Pass.{due, MadeOf}
use Rattle.shr_model.proofs.PassLaws.{next_turn, last_turn}
use Rattle.shr_arith.specs.Passes.{ending_of}
use Rattle.shr_arith.proofs.passes.scan_due.Goals as goal

pub scanning-preserved : goal.scanning-preserved
scanning-preserved g c = let inv = c.scanning.invariant in let did = c.in-Some-scan.ensures in
    let t = next_turn _ _ _ _ _ c.requires.plan.0 c.requires.len.0 c.requires.plan.1 inv.calls inv.left _ c.in-Some.ensures in record {
      going = inv.going;
      left = omega (arith, t.size, t.within, inv.left);
      calls = t.due_more;
      asked = omega (arith, t.size, inv.asked);
      within = omega (arith, t.some_asked, t.within, inv.within);
      all = omega (arith, t.within, inv.all);
      freed = omega (arith, did.within, inv.freed);
      frees = g.met.S.Simple.frees_then _ _ _ _ _ inv.frees did.freed;
    }

pub returns-in_default-scan-clause-made : goal.returns-in_default-scan-clause-made
returns-in_default-scan-clause-made g c = let inv = c.scanning.invariant in
    let t = next_turn _ _ _ _ _ c.requires.plan.0 c.requires.len.0 c.requires.plan.1 inv.calls inv.left _ c.in-Some.ensures in omega (arith, t.due_more)

pub returns-in_default-scan-clause-frees : goal.returns-in_default-scan-clause-frees
returns-in_default-scan-clause-frees g c =
    let none : c.scanning.tally.freed + 0 ≡ c.scanning.tally.freed = omega arith in
    subst (λ (k : ℕ). g.S.Simple.frees c.args.shrinker.now k c.scan.new.self) none
    (g.met.S.Simple.frees_then _ _ _ _ _ c.scanning.invariant.frees c.in_default-scan.ensures.stopped)

pub returns-clause-made : goal.returns-clause-made
returns-clause-made g c = let inv = c.scanning.invariant in
    subst (λ (b : Bool). MadeOf c.scanning.tally.calls (ending_of b) (due c.args.plan.now.batch c.args.len c.args.plan.now.total)) (sym inv.going)
    (last_turn _ _ _ _ _ c.requires.plan.0 c.requires.len.0 c.requires.plan.1 inv.calls inv.left c.in_default.ensures)
