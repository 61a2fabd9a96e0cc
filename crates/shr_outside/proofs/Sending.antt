-- SPDX-License-Identifier: GPL-2.0-only
-- What a sink has of a text, piece by piece.
use Rattle.std.proofs.Common.{◌≡◌, ℕ, ◌≤◌, ◌+◌, List, [], ◌++◌, take, length, Bool, true, false, not, Option, Some, None, sym, ◌∙◌, ap, append_assoc, append-nil, arith}
use Rattle.std.proofs.lemmas.List.{take-append-le, length-append}
use Rattle.std.proofs.Math.Seq.{take-append-add}
use Rattle.std.specs.Io.KnownBytes.{Appends}
use Rattle.shr_outside.specs.Writing.{Writes}
use Rattle.shr_outside.specs.Paper.{Task, HasAllBut, Sends}

appends_then : (a b c : Option (List ℕ)) (xs ys : List ℕ) → Appends a b xs → Appends b c ys → Appends a c (xs ++ ys)
appends_then None b c xs ys h k = tt
appends_then (Some x) None c xs ys h k = absurd h
appends_then (Some x) (Some y) None xs ys h k = absurd k
appends_then (Some x) (Some y) (Some z) xs ys h k = k ∙ ap (λ (t : List ℕ). t ++ ys) h ∙ append_assoc x xs ys

cut : (xs bytes left text : List ℕ) (n : ℕ) → n ≤ length bytes → text ≡ xs ++ (bytes ++ left) → take (length xs + n) text ≡ xs ++ take n bytes
cut xs bytes left text n within whole = ap (take (length xs + n)) whole ∙ take-append-add xs (bytes ++ left) n ∙ ap (λ (ys : List ℕ). xs ++ ys) (take-append-le n bytes left within)

pub sent : (written written_after : Option (List ℕ)) (faults faults_after : ℕ) (bytes : List ℕ) (done : Bool) → Writes written written_after faults faults_after bytes done → faults ≤ faults_after → Sends written written_after faults faults_after bytes false (not done)
sent written written_after faults faults_after bytes true w later task left h = (
  record {
    sent = h.0.sent ++ bytes;
    whole = h.0.whole ∙ sym (append_assoc h.0.sent bytes left);
    appended = appends_then _ _ _ _ _ h.0.appended w;
  },
  omega (arith, h.1, later),
)
sent written written_after faults faults_after bytes false w later task left h = (
  (
    (λ n. omega (arith, h.1, w.0 n)),
    record {
      count = length h.0.sent + w.1.count;
      within = omega (arith, w.1.within, ap length h.0.whole, length-append h.0.sent (bytes ++ left), length-append bytes left);
      appended = rw (cut h.0.sent bytes left task.text w.1.count w.1.within h.0.whole) (appends_then _ _ _ _ _ h.0.appended w.1.appended);
    },
  ),
  omega (arith, h.1, later),
)

-- where nothing is left the sink has the text, or it failed
pub ended : (task : Task) (written : Option (List ℕ)) (faults : ℕ) (failed : Bool) → HasAllBut task [] written faults failed → Writes task.written written task.faults faults task.text (not failed) × (task.faults ≤ faults)
ended task written faults false h = (rw (sym (h.0.whole ∙ append-nil h.0.sent)) at h.0.appended, h.1)
ended task written faults true h = h
