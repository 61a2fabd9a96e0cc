-- SPDX-License-Identifier: GPL-2.0-only
use Rattle.std.proofs.Common.{sym, ◌∙◌, subst, arith}
use Rattle.shr_base.specs.declared.walks.Ending.{Ending}
use Rattle.shr_model.specs.Pass.{due, MadeOf}
use Rattle.shr_model.proofs.PassLaws.{next_turn, last_turn}
use Rattle.shr_pass.proofs.SeenLaws.{same_trans, scans_freed, scans_closed}
use Rattle.shr_pass.proofs.scanning.scan_due.Goals as goal

pub scanning-preserved-in-Freed : goal.scanning-preserved-in-Freed
scanning-preserved-in-Freed g c = let inv = c.scanning.invariant in let did = c.in-Freed.ensures in let law = g.met.S.Shrinker in
    let t = next_turn _ _ _ _ _ c.requires.plan.0 c.requires.len.0 c.requires.plan.1 inv.asks inv.left _ c.in-Some.ensures in
    let kept = law.kept_trans _ _ _ _ inv.kept ((inv.same.kept _ _).1 did.kept) in record {
      through = inv.through;
      left = omega (arith, t.size, t.within, inv.left);
      asks = t.due_more;
      scanned = omega (arith, t.size, inv.scanned);
      within = omega (arith, t.some_asked, t.within, inv.within);
      freed = omega (arith, did.fits, inv.freed);
      closed = omega (arith, inv.closed);
      same = same_trans _ _ _ _ _ _ _ _ _ _ _ _ _ _ _ _ _ _ _ _ _ inv.same did.same;
      kept = kept;
      counts = did.counts ∙ inv.counts;
      scans = scans_freed _ _ (λ a h. law.told_stays _ a _ _ h ((inv.same.kept _ _).1 did.kept)) _ _ _ _ _ _ _ _ inv.scans _ _ did.scans t.size t.due_more ((inv.same.told _ _).1 did.told);
      calls = omega (arith, inv.calls, did.calls);
      closes = omega (arith, inv.closes, did.closes);
    }

pub scanning-preserved : goal.scanning-preserved
scanning-preserved g c = let inv = c.scanning.invariant in let did = c.in-Closed.ensures in let law = g.met.S.Shrinker in
    let t = next_turn _ _ _ _ _ c.requires.plan.0 c.requires.len.0 c.requires.plan.1 inv.asks inv.left _ c.in-Some.ensures in
    let kept = law.kept_trans _ _ _ _ inv.kept ((inv.same.kept _ _).1 did.kept) in record {
      through = inv.through;
      left = omega (arith, t.size, t.within, inv.left);
      asks = t.due_more;
      scanned = omega (arith, t.size, inv.scanned);
      within = omega (arith, t.some_asked, t.within, inv.within);
      freed = omega (arith, inv.freed);
      closed = omega (arith, inv.closed);
      same = same_trans _ _ _ _ _ _ _ _ _ _ _ _ _ _ _ _ _ _ _ _ _ inv.same did.same;
      kept = kept;
      counts = did.counts ∙ inv.counts;
      scans = scans_closed _ _ (λ a h. law.told_stays _ a _ _ h ((inv.same.kept _ _).1 did.kept)) _ _ _ _ _ _ _ _ inv.scans did.scans ((inv.same.told _ _).1 did.told);
      calls = omega (arith, inv.calls, did.calls);
      closes = omega (arith, inv.closes, did.closes);
    }

pub returns-in-Stop-clause-made : goal.returns-in-Stop-clause-made
returns-in-Stop-clause-made g c = let inv = c.scanning.invariant in let t = next_turn _ _ _ _ _ c.requires.plan.0 c.requires.len.0 c.requires.plan.1 inv.asks inv.left _ c.in-Some.ensures in omega (arith, t.due_more)

pub returns-in-NoRoom-clause-made : goal.returns-in-NoRoom-clause-made
returns-in-NoRoom-clause-made g c = let inv = c.scanning.invariant in let t = next_turn _ _ _ _ _ c.requires.plan.0 c.requires.len.0 c.requires.plan.1 inv.asks inv.left _ c.in-Some.ensures in omega (arith, t.due_more)

pub returns-in-Worn-clause-made : goal.returns-in-Worn-clause-made
returns-in-Worn-clause-made g c = let inv = c.scanning.invariant in let t = next_turn _ _ _ _ _ c.requires.plan.0 c.requires.len.0 c.requires.plan.1 inv.asks inv.left _ c.in-Some.ensures in omega (arith, t.due_more)

pub returns-clause-made : goal.returns-clause-made
returns-clause-made g c = let inv = c.scanning.invariant in
    subst (λ (e : Ending). MadeOf c.scanning.tally.asks e (due c.args.plan.now.batch c.args.len c.args.plan.now.total)) (sym inv.through)
    (last_turn _ _ _ _ _ c.requires.plan.0 c.requires.len.0 c.requires.plan.1 inv.asks inv.left c.in_default.ensures)
