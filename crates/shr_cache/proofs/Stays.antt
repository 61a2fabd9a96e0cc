-- SPDX-License-Identifier: GPL-2.0-only
-- What a call on a list leaves of a view, whatever it answered.
use Rattle.shr_cache.proofs.Common.{ℕ, List, Object, View, NodeAnswer, TenantGives}
use Rattle.shr_base.specs.declared.journals.Entry.{Entry}
use Rattle.shr_base.specs.declared.replies.Spent.TheVariants as spent
use Rattle.shr_list.specs.Listed.{Listed}
use Rattle.shr_seats.specs.declared.shape.Shape.{Shape}
use Rattle.shr_core.specs.Parts.{Made}
use Rattle.shr_node.specs.declared.answers.NodeAnswer.TheVariants as answers
use Rattle.shr_node.specs.Gains.{Gains}

-- entries may have been made and bits set; nothing else changed that a seat at rest is asked for
pub record Stays (v w : View) : Type 0 where
  pub made : List Made
  pub bits : List ℕ
  pub gains : Gains v w made bits

-- a list was called
pub stays : {A : Type 0} (shape : Shape) (v w : View) (id node birth : ℕ) (tells : List Object → A) (e : Listed → Entry) (answer : NodeAnswer A) → TenantGives shape v id node birth tells e answer w → Stays v w
stays shape v w id node birth tells e (answers.Told at told) h = record { made = _; bits = _; gains = h.gains }
stays shape v w id node birth tells e (answers.Worn (spent.List place entries items)) h = record { made = _; bits = _; gains = h.full.gains }
stays shape v w id node birth tells e (answers.Worn s) h = absurd h
stays shape v w id node birth tells e answers.Memory h = record { made = _; bits = _; gains = h.free.gains }
