-- SPDX-License-Identifier: GPL-2.0-only
-- What the answer to a command gives.
use Rattle.shr_audit_fresh.proofs.Common.{◌≡◌, ℕ, ◌≤◌, List, [], length, Option, Some, None, sym, ap, ◌∙◌, flat_map, option_to_list, append-nil, slice_get_past, Serial, Answered, Report, of_answer, answer_at, answers_of, reply_at, serial_of, option_map}

pub of_answered : (r : Report) (by : Serial) (f : Answered → List ℕ) (a : Answered) → Some a ≡ answer_at r by → of_answer r by f ≡ f a
of_answered r by f a e = ap (λ (o : Option Answered). flat_map f (option_to_list o)) (sym e) ∙ append-nil (f a)

pub of_none : (r : Report) (by : Serial) (f : Answered → List ℕ) → None ≡ answer_at r by → of_answer r by f ≡ []
of_none r by f e = ap (λ (o : Option Answered). flat_map f (option_to_list o)) (sym e)

-- past the last answer there is nothing
pub answer_past : (r : Report) (worker k : ℕ) → length (answers_of r worker) ≤ k → answer_at r (serial_of worker k) ≡ None
answer_past r worker k over = slice_get_past (answers_of r worker) k over

pub of_past : (r : Report) (worker k : ℕ) (f : Answered → List ℕ) → length (answers_of r worker) ≤ k → of_answer r (serial_of worker k) f ≡ []
of_past r worker k f over = of_none r (serial_of worker k) f (sym (answer_past r worker k over))

pub reply_answered : (r : Report) (by : Serial) (a : Answered) → Some a ≡ answer_at r by → reply_at r by ≡ Some a.reply
reply_answered r by a e = ap (option_map (λ (x : Answered). x.reply)) (sym e)

pub reply_none : (r : Report) (by : Serial) → None ≡ answer_at r by → reply_at r by ≡ None
reply_none r by e = ap (option_map (λ (x : Answered). x.reply)) (sym e)
