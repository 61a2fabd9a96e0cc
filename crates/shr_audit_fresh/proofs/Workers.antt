-- SPDX-License-Identifier: GPL-2.0-only
-- Freshness of all workers, by that of each that has a part.
use Rattle.shr_audit_fresh.proofs.Common.{◌≡◌, ℕ, ◌≤◌, Bool, true, false, List, [], ◌++◌, length, sym, ap, subst, ◌∙◌, arith, ◌||◌, flat_map, filter, Decides, list_any, slice_get_past, Answered, Script, WalkRecord, is_serial, Report, AreBelow, is_begin_at, is_done_at, of_answer, pool_made, pool_seen, shown_by, tree_cited, tree_seen, walk_cited, answers_of, serial_of, walks_of, AreNotFalling, IsWorkerFresh, IsFresh, shows_offline, answers_in, walks_in}
use Rattle.shr_audit_case.proofs.Eachs.{decides_iff}
use Rattle.shr_audit_fresh.proofs.Answering.{of_past}
use Rattle.shr_audit_fresh.proofs.FloorLaws.{below_none}
use Rattle.shr_audit_fresh.proofs.MadeLaws.{past_made}
use Rattle.shr_audit_fresh.proofs.OnLaws.{past_on}

-- ---- a worker that has no part

module _ (s : Script) (r : Report) (worker : ℕ) (over : length r.workers.items ≤ worker) where
  no_answers : answers_of r worker ≡ []
  no_answers = ap answers_in (slice_get_past r.workers.items worker over)

  no_walks : walks_of r worker ≡ []
  no_walks = ap walks_in (slice_get_past r.workers.items worker over)

  few : (k : ℕ) → length (answers_of r worker) ≤ k
  few k = subst (λ (xs : List Answered). length xs ≤ k) (sym no_answers) (omega arith)

  none_falling : AreNotFalling []
  none_falling k d lt = absurd (omega arith)

  none_shown : (k : ℕ) → shown_by r (serial_of worker k) ≡ []
  none_shown k = ap (λ (ns : List ℕ). ns ++ flat_map (λ (w : WalkRecord). walk_cited w.answer) (filter (λ (w : WalkRecord). is_serial (serial_of worker k) w.by) (walks_of r worker))) (of_past r worker k (λ (a : Answered). tree_cited a.reply) (few k))
      ∙ ap (λ (ws : List WalkRecord). flat_map (λ (w : WalkRecord). walk_cited w.answer) (filter (λ (w : WalkRecord). is_serial (serial_of worker k) w.by) ws)) no_walks

  not_offline : (k g : ℕ) → shows_offline r (serial_of worker k) g ≡ true → ⊥
  not_offline k g e = let unlike : ◌≡◌ {A = Bool} false true = subst (λ (ns : List ℕ). (list_any (is_begin_at r g) ns || list_any (is_done_at r g) ns) ≡ true) (none_shown k) e in absurd cc

  pub fresh_past : IsWorkerFresh s r worker
  fresh_past = record {
    numbers = record {
      pool = subst (λ (xs : List Answered). AreNotFalling (flat_map pool_seen xs)) (sym no_answers) none_falling;
      pool_own = λ k later lt. subst (AreBelow (of_answer r (serial_of worker k) (λ (a : Answered). pool_made a.reply))) (sym (of_past r worker later pool_seen (few later))) (below_none (of_answer r (serial_of worker k) (λ (a : Answered). pool_made a.reply)));
      pool_on = λ k. past_on s r worker k (few k);
      tree = subst (λ (xs : List Answered). AreNotFalling (flat_map tree_seen xs)) (sym no_answers) none_falling;
      tree_shown = λ k later lt. subst (AreBelow (shown_by r (serial_of worker k))) (sym (of_past r worker later tree_seen (few later))) (below_none (shown_by r (serial_of worker k)));
    };
    refused = λ later k g lt sh e. absurd (not_offline k g sh);
    first = λ k g all. ap (list_any (is_begin_at r g)) (none_shown k);
    made = λ later. past_made s r worker later (few later);
  }

-- ---- all

pub fresh_of : (s : Script) (r : Report) (b : Bool) → Decides b ((worker : ℕ) → IsWorkerFresh s r worker) → Decides b (IsFresh s r)
fresh_of s r b = decides_iff b ((worker : ℕ) → IsWorkerFresh s r worker) (IsFresh s r)
    (λ all. record {
      pool = λ worker. (all worker).numbers.pool;
      pool_own = λ worker. (all worker).numbers.pool_own;
      pool_on = λ by c a. (all by.worker).numbers.pool_on by.command c a;
      tree = λ worker. (all worker).numbers.tree;
      tree_shown = λ worker. (all worker).numbers.tree_shown;
      refused = λ worker k later. (all worker).refused later k;
      first = λ worker. (all worker).first;
      made = λ worker k later. (all worker).made later k;
    })
    (λ f worker. record {
      numbers = record {
        pool = f.pool worker;
        pool_own = f.pool_own worker;
        pool_on = λ k. f.pool_on (serial_of worker k);
        tree = f.tree worker;
        tree_shown = f.tree_shown worker;
      };
      refused = λ later k. f.refused worker k later;
      first = f.first worker;
      made = λ later k. f.made worker k later;
    })
