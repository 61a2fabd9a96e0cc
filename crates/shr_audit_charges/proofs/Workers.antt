-- SPDX-License-Identifier: GPL-2.0-only
-- The keys of commands and of workers, one more.
use Rattle.shr_audit_charges.proofs.Common.{◌≡◌, ℕ, suc, ◌+◌, ◌<◌, ◌≤◌, List, [], ◌∷◌, ◌++◌, length, get_or, take, sym, ap, ◌∙◌, arith, length-take-le, take_all, take_more, Command, WorkerScript, Report, answer_at, serial_of, answer_keys, commands_keys, workers_keys}
use Rattle.std.proofs.lemmas.List.{append_assoc, append-nil}

commands_push : (parents : List ℕ) (r : Report) (w k : ℕ) (cs : List Command) (c : Command) → commands_keys parents r w k (cs ++ c ∷ []) ≡ commands_keys parents r w k cs ++ answer_keys parents (serial_of w (k + length cs)) c (answer_at r (serial_of w (k + length cs)))
commands_push parents r w k [] c = append-nil (answer_keys parents (serial_of w k) c (answer_at r (serial_of w k))) ∙ ap (λ (n : ℕ). answer_keys parents (serial_of w n) c (answer_at r (serial_of w n))) (let z : k ≡ k + 0 = omega arith in z)
commands_push parents r w k (x ∷ cs) c =
    ap (λ (l : List ℕ). answer_keys parents (serial_of w k) x (answer_at r (serial_of w k)) ++ l) (commands_push parents r w (k + 1) cs c
    ∙ ap (λ (n : ℕ). commands_keys parents r w (k + 1) cs ++ answer_keys parents (serial_of w n) c (answer_at r (serial_of w n))) (let z : (k + 1) + length cs ≡ k + suc (length cs) = omega arith in z))
    ∙ sym (append_assoc (answer_keys parents (serial_of w k) x (answer_at r (serial_of w k))) (commands_keys parents r w (k + 1) cs) (answer_keys parents (serial_of w (k + suc (length cs))) c (answer_at r (serial_of w (k + suc (length cs))))))

pub commands_more : (parents : List ℕ) (r : Report) (w : ℕ) (cs : List Command) (i : ℕ) (y : Command) (a old next : List ℕ) → i < length cs → y ≡ get_or cs i y → old ≡ a ++ commands_keys parents r w 0 (take i cs) → next ≡ old ++ answer_keys parents (serial_of w i) y (answer_at r (serial_of w i)) → next ≡ a ++ commands_keys parents r w 0 (take (i + 1) cs)
commands_more parents r w cs i y a old next lt is before added =
    let l = length-take-le i cs (omega (arith, lt)) in
    let number : 0 + length (take i cs) ≡ i = omega (arith, l) in
    added ∙ ap (λ (l : List ℕ). l ++ answer_keys parents (serial_of w i) y (answer_at r (serial_of w i))) before ∙ append_assoc a (commands_keys parents r w 0 (take i cs)) (answer_keys parents (serial_of w i) y (answer_at r (serial_of w i)))
    ∙ ap (λ (l : List ℕ). a ++ l) (sym (ap (commands_keys parents r w 0) (take_more cs i y lt) ∙ commands_push parents r w 0 (take i cs) (get_or cs i y)
    ∙ ap (λ (n : ℕ). commands_keys parents r w 0 (take i cs) ++ answer_keys parents (serial_of w n) (get_or cs i y) (answer_at r (serial_of w n))) number ∙ ap (λ (c : Command). commands_keys parents r w 0 (take i cs) ++ answer_keys parents (serial_of w i) c (answer_at r (serial_of w i))) (sym is)))

pub commands_all : (parents : List ℕ) (r : Report) (w : ℕ) (cs : List Command) (i : ℕ) (a old : List ℕ) → length cs ≤ i → old ≡ a ++ commands_keys parents r w 0 (take i cs) → old ≡ a ++ commands_keys parents r w 0 cs
commands_all parents r w cs i a old over before = before ∙ ap (λ (l : List Command). a ++ commands_keys parents r w 0 l) (take_all i cs over)

workers_push : (parents : List ℕ) (r : Report) (k : ℕ) (ws : List WorkerScript) (w : WorkerScript) → workers_keys parents r k (ws ++ w ∷ []) ≡ workers_keys parents r k ws ++ commands_keys parents r (k + length ws) 0 w.commands.items
workers_push parents r k [] w = append-nil (commands_keys parents r k 0 w.commands.items) ∙ ap (λ (n : ℕ). commands_keys parents r n 0 w.commands.items) (let z : k ≡ k + 0 = omega arith in z)
workers_push parents r k (x ∷ ws) w =
    ap (λ (l : List ℕ). commands_keys parents r k 0 x.commands.items ++ l) (workers_push parents r (k + 1) ws w ∙ ap (λ (n : ℕ). workers_keys parents r (k + 1) ws ++ commands_keys parents r n 0 w.commands.items) (let z : (k + 1) + length ws ≡ k + suc (length ws) = omega arith in z))
    ∙ sym (append_assoc (commands_keys parents r k 0 x.commands.items) (workers_keys parents r (k + 1) ws) (commands_keys parents r (k + suc (length ws)) 0 w.commands.items))

pub workers_more : (parents : List ℕ) (r : Report) (ws : List WorkerScript) (i : ℕ) (y : WorkerScript) (a old next : List ℕ) → i < length ws → y ≡ get_or ws i y → old ≡ a ++ workers_keys parents r 0 (take i ws) → next ≡ old ++ commands_keys parents r i 0 y.commands.items → next ≡ a ++ workers_keys parents r 0 (take (i + 1) ws)
workers_more parents r ws i y a old next lt is before added =
    let l = length-take-le i ws (omega (arith, lt)) in
    let number : 0 + length (take i ws) ≡ i = omega (arith, l) in
    added ∙ ap (λ (l : List ℕ). l ++ commands_keys parents r i 0 y.commands.items) before ∙ append_assoc a (workers_keys parents r 0 (take i ws)) (commands_keys parents r i 0 y.commands.items)
    ∙ ap (λ (l : List ℕ). a ++ l) (sym (ap (workers_keys parents r 0) (take_more ws i y lt) ∙ workers_push parents r 0 (take i ws) (get_or ws i y)
    ∙ ap (λ (n : ℕ). workers_keys parents r 0 (take i ws) ++ commands_keys parents r n 0 (get_or ws i y).commands.items) number ∙ ap (λ (w : WorkerScript). workers_keys parents r 0 (take i ws) ++ commands_keys parents r i 0 w.commands.items) (sym is)))

pub workers_all : (parents : List ℕ) (r : Report) (ws : List WorkerScript) (i : ℕ) (a old : List ℕ) → length ws ≤ i → old ≡ a ++ workers_keys parents r 0 (take i ws) → old ≡ a ++ workers_keys parents r 0 ws
workers_all parents r ws i a old over before = before ∙ ap (λ (l : List WorkerScript). a ++ workers_keys parents r 0 l) (take_all i ws over)
