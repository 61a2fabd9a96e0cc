-- SPDX-License-Identifier: GPL-2.0-only
use Rattle.shr_gen.proofs.Common.{◌≡◌, ◌∙◌, ◌+◌, ◌*◌, ◌∷◌, [], ℕ, map, ap, arith, drawn_after, commands_from}
use Rattle.std.proofs.lemmas.List.{map-append}
use Rattle.shr_base.specs.declared.scripts.WorkerScript.{WorkerScript}
use Rattle.shr_gen.proofs.Making.{made_more, drawn_on}
use Rattle.shr_gen.proofs.generating.workers_of.Goals as goal

pub loop-worker-preserved : goal.loop-worker-preserved
loop-worker-preserved c = let inv = c.loop-worker.invariant in let w = c.loop-worker.worker in let seed = c.args.seed in let n = c.args.commands in
    let start : c.loop-worker.draws.state ≡ drawn_after seed (w * n) = inv.drawn in record {
      made = made_more (λ k. commands_from (drawn_after seed (k * n)) k n) w _ _ _ inv.made (c.in_ok-commands_of.ensures.made ∙ ap (λ (x : ℕ). commands_from x w n) start)
          (ap (map (λ (s : WorkerScript). s.commands.items)) c.in_ok-add.ensures.added ∙ map-append (λ (s : WorkerScript). s.commands.items) c.loop-worker.made.items (_ ∷ []));
      drawn = c.in_ok-commands_of.ensures.drawn ∙ (ap (λ (x : ℕ). drawn_after x n) start ∙ drawn_on seed (w * n) n (w + 1) (omega arith));
    }
