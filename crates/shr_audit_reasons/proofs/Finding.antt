-- SPDX-License-Identifier: GPL-2.0-only
-- What is so of whatever was found, and of each walk of the pools.
use Rattle.shr_audit_reasons.proofs.SpentCommon.{◌≡◌, ℕ, Bool, [], Option, Some, refl, ap, ◌∙◌, arith, slice_get, Decides, WorkerPart, PlainWalk, Report, None, slice_get_within, EachPlain, plain_in}
use Rattle.shr_audit_case.specs.Each.{InParts}

-- ---- walks of the pools

of_plain : (x : Option WorkerPart) (n : ℕ) (w : PlainWalk) (Q : Type 0) → ((part : WorkerPart) → x ≡ Some part → slice_get part.plain.items n ≡ Some w → Q) → slice_get (plain_in x) n ≡ Some w → Q
of_plain None n w Q f e = let lt = slice_get_within [] n w e in absurd (omega (arith, lt))
of_plain (Some part) n w Q f e = f part refl e

pub each_plain_of : (r : Report) (P : ℕ → ℕ → PlainWalk → Type 0) (b : Bool) → Decides b (InParts (λ (part : WorkerPart). part.plain.items) r P) → Decides b (EachPlain r P)
each_plain_of r P b d = (
  λ t worker n w e. of_plain (slice_get r.workers.items worker) n w (P worker n w) (λ part is at. d.0 t worker part is n w at) e,
  λ all. d.1 (λ worker part is n w at. all worker n w (ap (λ (x : Option WorkerPart). slice_get (plain_in x) n) is ∙ at)),
)
